-- What trying the rules at an instruction answers.
use Rattle.std.specs.Prelude.{◌≡◌, Option, None, Some, Result, Ok, Err, ⊤}
use Rattle.jl_verify.specs.Frames.{Frame}
use Rattle.jl_verify.specs.declared.rule.CheckRule.{CheckRule}
use Rattle.jl_verify.specs.declared.fault.VerifyFault.{VerifyFault}
use Rattle.jl_verify.specs.declared.placing.Tried.{Tried}
use Rattle.jl_verify.specs.declared.placing.Tried.TheVariants.{Failed, Passed}

-- the rule that failed
abbrev pub failed_of : Result Tried VerifyFault → Result (Option CheckRule) VerifyFault
failed_of (Ok (Failed rule)) = Ok (Some rule)
failed_of (Ok (Passed next)) = Ok None
failed_of (Err fault) = Err fault

-- where none failed, the frame is this one
abbrev pub IsAfter : Frame → Result Tried VerifyFault → Type 0
IsAfter f (Ok (Passed next)) = next ≡ f
IsAfter f _ = ⊤
