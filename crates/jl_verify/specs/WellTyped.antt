-- What a method has that was checked and accepted: a frame for each instruction, by which no rule fails at any (JVMS 4.10.1).
use Rattle.std.specs.Prelude.{◌≡◌, ℕ, suc, List, length, slice_get, Option, None, Some, Result, Ok, ◌==◌, ⊤}
use Rattle.jl_code.specs.declared.code.Instr.{Instr}
use Rattle.jl_class.specs.Classes.{Class as ClassFile}
use Rattle.jl_class.specs.declared.member.MethodDecl.{MethodDecl}
use Rattle.jl_vtypes.specs.declared.question.Asked.{Asked}
use Rattle.jl_vtypes.specs.Asking.{Leads, ComesTo}
use Rattle.jl_verify.specs.Frames.{Frame}
use Rattle.jl_verify.specs.Checked.{Checked}
use Rattle.jl_verify.specs.Comes.{missing}
use Rattle.jl_verify.specs.Rules.{first_failing}
use Rattle.jl_verify.specs.Checks.{falling, IsTable, Judged, Typed, judged}
use Rattle.jl_verify.specs.declared.fault.VerifyFault.{VerifyFault}

-- No rule fails at an instruction: so the classes were asked in the course of the check, and so they answered.
pub record Passes {S : Type 0} (step : S → Asked → S → Type 0) (c : Checked) (frames : List Frame) (old new : S) (k : ℕ) (f : Frame) (i : Instr) : Type 0 where
  pub before : S
  pub behind : S
  pub earlier : (asked : List Asked) × Leads step old asked before
  pub passes : ComesTo step missing (first_failing c (falling c frames k) f i (suc k == length c.instrs)) before (Ok None) behind
  pub later : (asked : List Asked) × Leads step behind asked new

-- There is one frame for each instruction, and by them no rule fails at any.
pub record IsWellTyped {S : Type 0} (step : S → Asked → S → Type 0) (c : Checked) (old new : S) : Type 0 where
  pub frames : List Frame
  pub table : IsTable c frames
  pub all : (k : ℕ) (i : Instr) (f : Frame) → slice_get c.instrs k ≡ Some i → slice_get frames k ≡ Some f → Passes step c frames old new k f i

-- what is checked and accepted is well typed
abbrev pub WellTypedIfAccepted : {S : Type 0} → (S → Asked → S → Type 0) → Judged → S → Result Unit VerifyFault → S → Type 0
WellTypedIfAccepted step (Typed c) old (Ok it) new = IsWellTyped step c old new
WellTypedIfAccepted step j old result new = ⊤

-- the same of the method at a place of a class
abbrev pub IsWellTypedIfAccepted : {S : Type 0} → (S → Asked → S → Type 0) → ClassFile → Option MethodDecl → S → Result Unit VerifyFault → S → Type 0
IsWellTypedIfAccepted step c None old result new = ⊤
IsWellTypedIfAccepted step c (Some m) old result new = WellTypedIfAccepted step (judged c m) old result new
