-- What the error of a reader tells, and the faults that come from a pool, a name or an attribute.
use Rattle.std.specs.Prelude.{ℕ, Option, None, Some, Result, Ok, Err}
use Rattle.jl_pool.specs.declared.fault.PoolFault.{PoolFault}
use Rattle.jl_pool.specs.declared.fault.PoolFault.TheVariants as pools
use Rattle.jl_class.specs.declared.fault.ClassFault.{ClassFault}
use Rattle.jl_class.specs.declared.source.Source.{Source}
use Rattle.jl_class.specs.declared.source.Source.TheVariants as sources
use Rattle.jl_class.specs.declared.fault.ClassFault.TheVariants as faults

-- what an error tells: the fault, or nothing for want of memory
abbrev pub told : ClassFault → Option ClassFault
told faults.Magic = Some faults.Magic
told (faults.Version major minor) = Some (faults.Version major minor)
told (faults.Short at) = Some (faults.Short at)
told (faults.Pool i) = Some (faults.Pool i)
told (faults.Name at) = Some (faults.Name at)
told (faults.Flags at) = Some (faults.Flags at)
told (faults.Attribute at) = Some (faults.Attribute at)
told (faults.RepeatedMember name) = Some (faults.RepeatedMember name)
told faults.Trailing = Some faults.Trailing
told faults.NoMemory = None

abbrev pub short : ℕ → ClassFault
short at = faults.Short at

-- what is not whole inside an attribute whose name index stands at a place
abbrev pub cut_in : ℕ → ℕ → ClassFault
cut_in place at = faults.Attribute place

-- what is not whole is short in the file, and makes an attribute wrong inside its content
abbrev pub cut : Source → ℕ → ClassFault
cut sources.File at = short at
cut (sources.Content place) at = cut_in place at

abbrev pub of_pool : PoolFault → ClassFault
of_pool (pools.Short at) = faults.Short at
of_pool (pools.Entry i) = faults.Pool i
of_pool pools.NoMemory = faults.NoMemory

abbrev pub pool_or : {A : Type 0} → Result A PoolFault → Result A ClassFault
pool_or (Ok x) = Ok x
pool_or (Err f) = Err (of_pool f)

-- what the index of a name must have
abbrev pub name_or : {A : Type 0} → ℕ → Option A → Result A ClassFault
name_or at None = Err (faults.Name at)
name_or at (Some x) = Ok x
