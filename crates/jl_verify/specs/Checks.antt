-- The check of a method: a frame for each instruction, all at once, by which no rule fails (JVMS 4.10.1).
use Rattle.std.specs.Prelude.{◌≡◌, ℕ, zero, suc, List, [], length, slice_get, Option, None, Some, Result, Ok, Err, ◌==◌, if◌then◌else◌}
use Rattle.jl_frames.specs.declared.frame.Frame.{Frame as Stated}
use Rattle.jl_frames.specs.declared.fault.FrameFault.{FrameFault}
use Rattle.jl_frames.specs.Reading.{frames_of}
use Rattle.jl_code.specs.declared.code.Instr.{Instr}
use Rattle.jl_code.specs.declared.code.Code.{Code}
use Rattle.jl_code.specs.declared.code.Code.TheVariants as codes
use Rattle.jl_code.specs.declared.fault.CodeFault.{CodeFault}
use Rattle.jl_code.specs.Places.{stands}
use Rattle.jl_code.specs.Sound.{starts}
use Rattle.jl_code.specs.Decoding.{code_of}
use Rattle.jl_class.specs.Classes.{Class as ClassFile}
use Rattle.jl_class.specs.declared.member.MethodDecl.{MethodDecl}
use Rattle.jl_class.specs.declared.member.CodeBytes.{CodeBytes}
use Rattle.jl_vtypes.specs.declared.question.Asked.{Asked}
use Rattle.jl_vtypes.specs.Asking.{Asks, Done, and_then, Leads, ComesTo}
use Rattle.jl_verify.specs.Frames.{Frame}
use Rattle.jl_verify.specs.Declaring.{first_items, first_frame, made}
use Rattle.jl_verify.specs.Families.{leaves}
use Rattle.jl_verify.specs.Checked.{Checked}
use Rattle.jl_verify.specs.Comes.{missing}
use Rattle.jl_verify.specs.Rows.{after}
use Rattle.jl_verify.specs.Rules.{declared_at, frame_here, first_failing}
use Rattle.jl_verify.specs.declared.declared_frame.DeclaredFrame.{DeclaredFrame}
use Rattle.jl_verify.specs.declared.rule.CheckRule.{CheckRule}
use Rattle.jl_verify.specs.declared.rule.CheckRule.TheVariants as rules
use Rattle.jl_verify.specs.declared.fault.VerifyFault.{VerifyFault}
use Rattle.jl_verify.specs.declared.fault.VerifyFault.TheVariants as faults

-- ---- the table of frames

-- the frame after an instruction that falls through
abbrev pub falls_from : Checked → Option Instr → Option Frame → Option Frame
falls_from c (Some i) (Some f) = if leaves i.op then None else Some (after c f i)
falls_from c _ _ = None

-- the frame that falls through to the instruction with an index: to the first the descriptor's, and to each other what the one before it leaves
abbrev pub falling : Checked → List Frame → ℕ → Option Frame
falling c frames zero = Some (first_frame c.class c.method)
falling c frames (suc k) = falls_from c (slice_get c.instrs k) (slice_get frames k)

-- One frame for each instruction: the declared one at its place, and else what falls through from the instruction before.
pub record IsTable (c : Checked) (frames : List Frame) : Type 0 where
  pub each : length frames ≡ length c.instrs
  pub stands : (k : ℕ) (i : Instr) → slice_get c.instrs k ≡ Some i → slice_get frames k ≡ Some (frame_here (declared_at c i.at) (falling c frames k))

-- ---- the first failing rule

-- the first rule that fails at the instruction with an index, with its place
abbrev pub placed : ℕ → Option CheckRule → Option (ℕ × CheckRule)
placed at None = None
placed at (Some rule) = Some (at, rule)

abbrev pub failing_here : Checked → List Frame → ℕ → Option Instr → Option Frame → Asks (Option (ℕ × CheckRule))
failing_here c frames k (Some i) (Some f) = and_then (first_failing c (falling c frames k) f i (suc k == length c.instrs)) (λ failed. Done (placed i.at failed))
failing_here c frames k _ _ = Done None

abbrev pub failing_at : Checked → List Frame → ℕ → Asks (Option (ℕ × CheckRule))
failing_at c frames k = failing_here c frames k (slice_get c.instrs k) (slice_get frames k)

abbrev pub unless_failed : Option (ℕ × CheckRule) → Asks (Option (ℕ × CheckRule)) → Asks (Option (ℕ × CheckRule))
unless_failed (Some failed) later = Done (Some failed)
unless_failed None later = later

-- the first that fails at n instructions from one with an index on, in the order of their places
unfoldable pub failing_from : Checked → List Frame → ℕ → ℕ → Asks (Option (ℕ × CheckRule))
failing_from c frames zero k = Done None
failing_from c frames (suc n) k = and_then (failing_at c frames k) (λ failed. unless_failed failed (failing_from c frames n (suc k)))

-- the place and the rule of the first instruction at which one fails
abbrev pub first_failed : Checked → List Frame → Asks (Option (ℕ × CheckRule))
first_failed c frames = failing_from c frames (length c.instrs) 0

-- ---- what is checked

-- A method that has no code or is a stub is accepted. One whose code or stack map is none, or whose declared frames cannot be made, is refused. Every
-- other is checked.
pub data Judged : Type 0 where
  Accepted : Judged
  Refused : VerifyFault → Judged
  Typed : Checked → Judged

-- the frames that a code states, none where it has no stack map
abbrev pub stated_of : CodeBytes → Result (List Stated) FrameFault
stated_of code = elim code.frames [ Some bytes ↦ frames_of bytes | None ↦ Ok [] ]

abbrev pub judged_made : ClassFile → MethodDecl → CodeBytes → List Instr → Result (List DeclaredFrame) ℕ → Judged
judged_made c m code instrs (Ok declared) = Typed (record { class = c; method = m; code = code; instrs = instrs; declared = declared })
judged_made c m code instrs (Err at) = Refused (faults.NotTyped at rules.Frame)

abbrev pub judged_stated : ClassFile → MethodDecl → CodeBytes → List Instr → Result (List Stated) FrameFault → Judged
judged_stated c m code instrs (Err f) = Refused (faults.Frames f)
judged_stated c m code instrs (Ok stated) = judged_made c m code instrs (made c.pool (stands (starts instrs)) (first_items c m) stated)

abbrev pub judged_code : ClassFile → MethodDecl → CodeBytes → Result Code CodeFault → Judged
judged_code c m code (Err f) = Refused (faults.Code f)
judged_code c m code (Ok (codes.Stub op)) = Accepted
judged_code c m code (Ok (codes.Instructions instrs)) = judged_stated c m code instrs (stated_of code)

abbrev pub judged : ClassFile → MethodDecl → Judged
judged c m = elim m.code [ None ↦ Accepted | Some code ↦ judged_code c m code (code_of c.pool m.desc code.code code.handlers) ]

-- ---- what verify answers

-- no failing rule is right, and the first that fails is the fault
abbrev pub verdict : Result (Option (ℕ × CheckRule)) VerifyFault → Result Unit VerifyFault
verdict (Ok None) = Ok tt
verdict (Ok (Some failed)) = Err (faults.NotTyped failed.0 failed.1)
verdict (Err f) = Err f

-- There is one frame for each instruction, and by them the rules are asked and come to the result.
pub record IsCheckedBy {S : Type 0} (step : S → Asked → S → Type 0) (c : Checked) (old : S) (result : Result Unit VerifyFault) (new : S) : Type 0 where
  pub frames : List Frame
  pub table : IsTable c frames
  pub found : Result (Option (ℕ × CheckRule)) VerifyFault
  pub asked : ComesTo step missing (first_failed c frames) old found new
  pub answer : result ≡ verdict found

-- what is answered of a method, and what becomes of the classes that are asked
abbrev pub Answers : {S : Type 0} → (S → Asked → S → Type 0) → Judged → S → Result Unit VerifyFault → S → Type 0
Answers step Accepted old result new = (result ≡ Ok tt) × (old ≡ new)
Answers step (Refused f) old result new = (result ≡ Err f) × (old ≡ new)
Answers step (Typed c) old result new = IsCheckedBy step c old result new

-- want of memory may come at any time, behind some questions with their answers
abbrev pub AnswersOrNoMemory : {S : Type 0} → (S → Asked → S → Type 0) → Judged → S → Result Unit VerifyFault → S → Type 0
AnswersOrNoMemory step j old (Err faults.NoMemory) new = (asked : List Asked) × Leads step old asked new
AnswersOrNoMemory step j old result new = Answers step j old result new

-- what verify answers of the method at a place of a class
abbrev pub method_at : List MethodDecl → ℕ → Option MethodDecl
method_at methods k = slice_get methods k

abbrev pub Verifies : {S : Type 0} → (S → Asked → S → Type 0) → ClassFile → Option MethodDecl → S → Result Unit VerifyFault → S → Type 0
Verifies step c None old result new = ⊥
Verifies step c (Some m) old result new = AnswersOrNoMemory step (judged c m) old result new
