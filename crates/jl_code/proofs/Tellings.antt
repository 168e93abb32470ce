-- A fault that is met is what the definition tells.
use Rattle.std.proofs.Common.{◌≡◌, Result, Err, sym}
use Rattle.jl_logic.specs.Answers.{Fails}
use Rattle.jl_code.specs.declared.fault.CodeFault.{CodeFault}
use Rattle.jl_code.specs.declared.fault.CodeFault.TheVariants as faults
use Rattle.jl_code.specs.Told.{told}

pub fails_so : {A : Type 0} (e : CodeFault) (r : Result A CodeFault) → Err e ≡ r → Fails told e r
fails_so faults.NoMemory r same = tt
fails_so _ r same = sym same
