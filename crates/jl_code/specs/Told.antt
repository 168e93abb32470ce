-- What an error tells of code (JVMS 4.7.3): the fault, or nothing for want of memory.
use Rattle.std.specs.Prelude.{Option, None, Some}
use Rattle.jl_code.specs.declared.fault.CodeFault.{CodeFault}
use Rattle.jl_code.specs.declared.fault.CodeFault.TheVariants as faults

-- each fault tells itself, and want of memory nothing
abbrev pub told : CodeFault → Option CodeFault
told faults.NoMemory = None
told f = Some f
