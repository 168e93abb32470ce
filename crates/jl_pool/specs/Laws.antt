-- Reading a pool where more bytes follow those that are read (JVMS 4.1, 4.4).
use Rattle.std.specs.Prelude.{ℕ, List, Option, None, Some}
use Rattle.jl_reading.specs.Appended.{Appends, NoPart}
use Rattle.jl_pool.specs.declared.entry.Entry.{Entry}
use Rattle.jl_pool.specs.declared.fault.PoolFault.{PoolFault}
use Rattle.jl_pool.specs.declared.fault.PoolFault.TheVariants as faults
use Rattle.jl_pool.specs.Reading.{pool_at}

-- the place of a number or a text that is cut
abbrev pub cut_at : PoolFault → Option ℕ
cut_at (faults.Short at) = Some at
cut_at (faults.Entry i) = None
cut_at faults.NoMemory = None

-- A pool that is read, and a wrong entry, stay whatever follows. Where a number or a text is cut, some longer input is read past its place.
abbrev pub ReadsLonger : Type 0
ReadsLonger = (at : ℕ) → Appends cut_at (λ (x : List Entry × ℕ). x.1) NoPart at (λ bytes. pool_at bytes at)
