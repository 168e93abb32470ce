-- What the error of a writer or a builder tells.
use Rattle.std.specs.Prelude.{Option, None, Some}
use Rattle.jl_classw.specs.declared.fault.WriteFault.{WriteFault}
use Rattle.jl_classw.specs.declared.fault.WriteFault.TheVariants as faults

-- the fault, or nothing for want of memory
abbrev pub told : WriteFault → Option WriteFault
told (faults.TooMany table) = Some (faults.TooMany table)
told faults.NoMemory = None
