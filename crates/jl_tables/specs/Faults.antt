-- What the error of a reader tells, and the faults that come from a pool or an index.
use Rattle.std.specs.Prelude.{ℕ, Option, None, Some, Result, Ok, Err}
use Rattle.jl_pool.specs.declared.fault.PoolFault.{PoolFault}
use Rattle.jl_pool.specs.declared.fault.PoolFault.TheVariants as pools
use Rattle.jl_tables.specs.declared.fault.InfoFault.{InfoFault}
use Rattle.jl_tables.specs.declared.fault.InfoFault.TheVariants as faults

-- what an error tells: the fault, or nothing for want of memory
abbrev pub told : InfoFault → Option InfoFault
told faults.BadMagic = Some faults.BadMagic
told faults.BadVersion = Some faults.BadVersion
told (faults.Short at) = Some (faults.Short at)
told (faults.BadPool i) = Some (faults.BadPool i)
told (faults.NotModule field) = Some (faults.NotModule field)
told faults.NoModuleAttribute = Some faults.NoModuleAttribute
told (faults.BadIndex at) = Some (faults.BadIndex at)
told (faults.Repeated table name) = Some (faults.Repeated table name)
told faults.BaseRule = Some faults.BaseRule
told (faults.PackageMissing name) = Some (faults.PackageMissing name)
told faults.Trailing = Some faults.Trailing
told faults.NoMemory = None

abbrev pub short : ℕ → InfoFault
short at = faults.Short at

abbrev pub of_pool : PoolFault → InfoFault
of_pool (pools.Short at) = faults.Short at
of_pool (pools.Entry i) = faults.BadPool i
of_pool pools.NoMemory = faults.NoMemory

abbrev pub pool_or : {A : Type 0} → Result A PoolFault → Result A InfoFault
pool_or (Ok x) = Ok x
pool_or (Err f) = Err (of_pool f)

-- what an index must have
abbrev pub named_or : {A : Type 0} → ℕ → Option A → Result A InfoFault
named_or at None = Err (faults.BadIndex at)
named_or at (Some x) = Ok x
