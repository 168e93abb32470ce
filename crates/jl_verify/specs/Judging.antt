-- What the parts of the check answer before its first instruction: the code, the frames of its stack map, and those that are made of them.
use Rattle.std.specs.Prelude.{◌≡◌, ℕ, List, Result, Ok, Err, ⊤}
use Rattle.std.specs.Global.{Vec}
use Rattle.jl_frames.specs.declared.frame.Frame.{Frame as Stated}
use Rattle.jl_frames.specs.declared.fault.FrameFault.{FrameFault}
use Rattle.jl_code.specs.declared.code.Code.{Code}
use Rattle.jl_code.specs.declared.fault.CodeFault.{CodeFault}
use Rattle.jl_verify.specs.declared.declared_frame.DeclaredFrame.{DeclaredFrame}
use Rattle.jl_verify.specs.declared.rule.CheckRule.TheVariants as rules
use Rattle.jl_verify.specs.declared.fault.VerifyFault.{VerifyFault}
use Rattle.jl_verify.specs.declared.fault.VerifyFault.TheVariants as faults

-- the code or its fault, unless there was no memory
abbrev pub IsDecoded : Result Code VerifyFault → Result Code CodeFault → Type 0
IsDecoded (Ok code) defined = defined ≡ Ok code
IsDecoded (Err (faults.Code f)) defined = defined ≡ Err f
IsDecoded (Err faults.NoMemory) defined = ⊤
IsDecoded (Err _) defined = ⊥

-- the frames of a stack map or its fault, unless there was no memory
abbrev pub IsStated : Result (Vec Stated) VerifyFault → Result (List Stated) FrameFault → Type 0
IsStated (Ok v) defined = defined ≡ Ok v.items
IsStated (Err (faults.Frames f)) defined = defined ≡ Err f
IsStated (Err faults.NoMemory) defined = ⊤
IsStated (Err _) defined = ⊥

-- the declared frames or the place of the first that is wrong, unless there was no memory
abbrev pub IsDeclared : Result (Vec DeclaredFrame) VerifyFault → Result (List DeclaredFrame) ℕ → Type 0
IsDeclared (Ok v) defined = defined ≡ Ok v.items
IsDeclared (Err (faults.NotTyped at rules.Frame)) defined = defined ≡ Err at
IsDeclared (Err faults.NoMemory) defined = ⊤
IsDeclared (Err _) defined = ⊥
