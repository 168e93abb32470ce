-- The table of frames that one walk makes, and how the questions at each instruction are put together.
use Rattle.std.proofs.Common.{◌≡◌, ◌∙◌, ℕ, zero, suc, ◌+◌, ◌-◌, ◌<◌, List, [], ◌∷◌, length, get_or, Option, Some, None, Result, Ok, Err, Bool, true, false, refl, sym, ap, subst, arith, add-one}
use Rattle.std.specs.Prelude.{slice_get, ◌==◌, if◌then◌else◌}
use Rattle.jl_code.specs.declared.code.Instr.{Instr}
use Rattle.jl_vtypes.specs.declared.question.Asked.{Asked}
use Rattle.jl_vtypes.specs.Asking.{Asks, Done, and_then}
use Rattle.jl_verify.specs.Frames.{Frame}
use Rattle.jl_verify.specs.Families.{leaves}
use Rattle.jl_verify.specs.Declaring.{first_frame}
use Rattle.jl_verify.specs.Checked.{Checked}
use Rattle.jl_verify.specs.Comes.{Comes}
use Rattle.jl_verify.specs.Rows.{after}
use Rattle.jl_verify.specs.Rules.{declared_at, frame_here, first_failing}
use Rattle.jl_verify.specs.Checks.{falls_from, falling, IsTable, placed, failing_at, unless_failed, failing_from, first_failed}
use Rattle.jl_verify.specs.declared.rule.CheckRule.{CheckRule}
use Rattle.jl_verify.specs.declared.fault.VerifyFault.{VerifyFault}
use Rattle.jl_verify.proofs.Comings.{done, then_ok, then_err}

-- ---- the table

-- the frame at an instruction, by what falls through to it
abbrev pub frame_at : Checked → Option Frame → Instr → Frame
frame_at c falls i = frame_here (declared_at c i.at) falls

-- the frames of instructions, by what falls through to the first
pub frames_from : Checked → Option Frame → List Instr → List Frame
frames_from c falls [] = []
frames_from c falls (i ∷ is) = frame_at c falls i ∷ frames_from c (falls_from c (Some i) (Some (frame_at c falls i))) is

-- what falls through to an instruction among some, by their frames and what falls through to the first
abbrev falls_to : Checked → Option Frame → List Instr → List Frame → ℕ → Option Frame
falls_to c falls is frames zero = falls
falls_to c falls is frames (suc k) = falls_from c (slice_get is k) (slice_get frames k)

falls_on : (c : Checked) (falls : Option Frame) (i : Instr) (is : List Instr) (frames : List Frame) (k : ℕ)
    → falls_to c (falls_from c (Some i) (Some (frame_at c falls i))) is frames k ≡ falls_from c (slice_get (i ∷ is) k) (slice_get (frame_at c falls i ∷ frames) k)
falls_on c falls i is frames zero = refl
falls_on c falls i is frames (suc k) = refl

as_many : (c : Checked) (falls : Option Frame) (is : List Instr) → length (frames_from c falls is) ≡ length is
unfolding frames_from
as_many c falls [] = refl
as_many c falls (i ∷ is) = ap suc (as_many c (falls_from c (Some i) (Some (frame_at c falls i))) is)

stands_at : (c : Checked) (falls : Option Frame) (is : List Instr) (k : ℕ) (i : Instr) → slice_get is k ≡ Some i
    → slice_get (frames_from c falls is) k ≡ Some (frame_at c (falls_to c falls is (frames_from c falls is) k) i)
unfolding frames_from
stands_at c falls [] k i e = absurd cc
stands_at c falls (j ∷ is) zero i e = let same : j ≡ i = cc in ap (λ x. Some (frame_at c falls x)) same
stands_at c falls (j ∷ is) (suc k) i e =
    let next = falls_from c (Some j) (Some (frame_at c falls j)) in
    stands_at c next is k i e ∙ ap (λ x. Some (frame_at c x i)) (falls_on c falls j is (frames_from c next is) k)

-- the table of the instructions of a method
abbrev pub table : Checked → List Frame
table c = frames_from c (Some (first_frame c.class c.method)) c.instrs

falls_same : (c : Checked) (frames : List Frame) (k : ℕ) → falls_to c (Some (first_frame c.class c.method)) c.instrs frames k ≡ falling c frames k
falls_same c frames zero = refl
falls_same c frames (suc k) = refl

pub is_table : (c : Checked) → IsTable c (table c)
is_table c = record {
  each = as_many c (Some (first_frame c.class c.method)) c.instrs;
  stands = λ k i e. stands_at c (Some (first_frame c.class c.method)) c.instrs k i e ∙ ap (λ x. Some (frame_at c x i)) (falls_same c (table c) k);
}

-- ---- from one instruction to the next

-- what falls through to the next instruction
pub falls_next : (c : Checked) (k : ℕ) (i : Instr) → slice_get c.instrs k ≡ Some i
    → falling c (table c) (suc k) ≡ (if leaves i.op then None else Some (after c (frame_at c (falling c (table c) k) i) i))
falls_next c k i e = rw (e, (is_table c).stands k i e) refl

-- the questions at an instruction
pub failing_is : (c : Checked) (k : ℕ) (i : Instr) → slice_get c.instrs k ≡ Some i
    → failing_at c (table c) k ≡ and_then (first_failing c (falling c (table c) k) (frame_at c (falling c (table c) k) i) i (suc k == length c.instrs)) (λ failed. Done (placed i.at failed))
failing_is c k i e = rw (e, (is_table c).stands k i e) refl

-- the questions at this instruction
abbrev pub here : Checked → ℕ → Instr → Asks (Option CheckRule)
here c k i = first_failing c (falling c (table c) k) (frame_at c (falling c (table c) k) i) i (suc k == length c.instrs)

abbrev placed_here : Checked → ℕ → Instr → Asks (Option (ℕ × CheckRule))
placed_here c k i = and_then (here c k i) (λ failed. Done (placed i.at failed))

abbrev later : Checked → ℕ → ℕ → Option (ℕ × CheckRule) → Asks (Option (ℕ × CheckRule))
later c n k failed = unless_failed failed (failing_from c (table c) n (suc k))

from_this : (c : Checked) (k n : ℕ) (i : Instr) → slice_get c.instrs k ≡ Some i → failing_from c (table c) (suc n) k ≡ and_then (placed_here c k i) (later c n k)
unfolding failing_from
from_this c k n i there = ap (λ (a : Asks (Option (ℕ × CheckRule))). and_then a (later c n k)) (failing_is c k i there)

pub all_passed : {S : Type 0} (step : S → Asked → S → Type 0) (c : Checked) (k : ℕ) (s : S) → Comes step (failing_from c (table c) zero k) s (Ok None) s
unfolding failing_from
all_passed step c k s = done step None s

-- the instruction at an index
pub there_is : (is : List Instr) (k : ℕ) (i : Instr) → k < length is → i ≡ get_or is k i → slice_get is k ≡ Some i
there_is [] k i h e = absurd (omega arith)
there_is (j ∷ is) zero i h e = ap Some (sym e)
there_is (j ∷ is) (suc k) i h e = there_is is k i (omega arith) e

-- ---- the walk at an instruction, by what it found so far

module _ {S : Type 0} (step : S → Asked → S → Type 0) (c : Checked) (instrs : List Instr) (same : instrs ≡ c.instrs) (k : ℕ) (below : k < length instrs) (i : Instr) (is : i ≡ get_or instrs k i)
    (fall : Option Frame) (falls : fall ≡ falling c (table c) k) (first old mid : S)
    (so_far : (result : Result (Option (ℕ × CheckRule)) VerifyFault) (new : S) → Comes step (failing_from c (table c) (length c.instrs - k) k) old result new → Comes step (first_failed c (table c)) first result new) where
  -- how many stand behind it
  abbrev behind : ℕ
  behind = length c.instrs - (k + 1)

  next_is : k + 1 ≡ suc k
  next_is = add-one k

  left : length c.instrs - k ≡ suc behind
  left = omega (arith, below, ap length same)

  there : slice_get c.instrs k ≡ Some i
  there = subst (λ (js : List Instr). slice_get js k ≡ Some i) same (there_is instrs k i below is)

  last : (k + 1 == length instrs) ≡ (suc k == length c.instrs)
  last = ap (λ (js : List Instr). k + 1 == length js) same ∙ ap (λ (x : ℕ). x == length c.instrs) next_is

  to_here : (out : Result (Option CheckRule) VerifyFault) → Comes step (first_failing c fall (frame_at c fall i) i (k + 1 == length instrs)) old out mid → Comes step (here c k i) old out mid
  to_here out p =
      subst (λ (f : Option Frame). Comes step (first_failing c f (frame_at c f i) i (suc k == length c.instrs)) old out mid) falls
      (subst (λ (b : Bool). Comes step (first_failing c fall (frame_at c fall i) i b) old out mid) last p)

  from_here : (result : Result (Option (ℕ × CheckRule)) VerifyFault) (new : S) → Comes step (and_then (placed_here c k i) (later c behind k)) old result new → Comes step (first_failed c (table c)) first result new
  from_here result new p =
      so_far result new
      (subst (λ (j : ℕ). Comes step (failing_from c (table c) j k) old result new) (sym left)
      (subst (λ (a : Asks (Option (ℕ × CheckRule))). Comes step a old result new) (sym (from_this c k behind i there)) p))

  pub then_passed : Comes step (first_failing c fall (frame_at c fall i) i (k + 1 == length instrs)) old (Ok None) mid → (result : Result (Option (ℕ × CheckRule)) VerifyFault) (new : S)
      → Comes step (failing_from c (table c) behind (k + 1)) mid result new → Comes step (first_failed c (table c)) first result new
  then_passed p result new q =
      from_here result new
      (then_ok step (placed_here c k i) (later c behind k) None old mid result new
      (then_ok step (here c k i) (λ failed. Done (placed i.at failed)) None old mid (Ok None) mid (to_here (Ok None) p) (done step None mid))
      (subst (λ (j : ℕ). Comes step (failing_from c (table c) behind j) mid result new) next_is q))

  pub then_failed : (rule : CheckRule) → Comes step (first_failing c fall (frame_at c fall i) i (k + 1 == length instrs)) old (Ok (Some rule)) mid → Comes step (first_failed c (table c)) first (Ok (Some (i.at, rule))) mid
  then_failed rule p =
      from_here (Ok (Some (i.at, rule))) mid
      (then_ok step (placed_here c k i) (later c behind k) (Some (i.at, rule)) old mid (Ok (Some (i.at, rule))) mid
      (then_ok step (here c k i) (λ failed. Done (placed i.at failed)) (Some rule) old mid (Ok (Some (i.at, rule))) mid (to_here (Ok (Some rule)) p) (done step (Some (i.at, rule)) mid))
      (done step (Some (i.at, rule)) mid))

  pub then_ended : (e : VerifyFault) → Comes step (first_failing c fall (frame_at c fall i) i (k + 1 == length instrs)) old (Err e) mid → Comes step (first_failed c (table c)) first (Err e) mid
  then_ended e p =
      from_here (Err e) mid
      (then_err step (placed_here c k i) (later c behind k) e old mid
      (then_err step (here c k i) (λ failed. Done (placed i.at failed)) e old mid (to_here (Err e) p)))

  -- what falls through to the next
  pub next_none : leaves i.op ≡ true → None ≡ falling c (table c) (k + 1)
  next_none e = sym (ap (falling c (table c)) next_is ∙ falls_next c k i there ∙ ap (λ (b : Bool). if b then None else Some (after c (frame_at c (falling c (table c) k) i) i)) e)

  pub next_some : (f : Frame) → leaves i.op ≡ false → f ≡ after c (frame_at c fall i) i → Some f ≡ falling c (table c) (k + 1)
  next_some f e it =
      sym (ap (falling c (table c)) next_is ∙ falls_next c k i there ∙ ap (λ (b : Bool). if b then None else Some (after c (frame_at c (falling c (table c) k) i) i)) e
      ∙ ap (λ (x : Option Frame). Some (after c (frame_at c x i) i)) (sym falls) ∙ ap Some (sym it))

pub at_end : {S : Type 0} (step : S → Asked → S → Type 0) (c : Checked) (k : ℕ) (over : length c.instrs - k ≡ 0) (first old : S)
    (so_far : (result : Result (Option (ℕ × CheckRule)) VerifyFault) (new : S) → Comes step (failing_from c (table c) (length c.instrs - k) k) old result new → Comes step (first_failed c (table c)) first result new)
    → Comes step (first_failed c (table c)) first (Ok None) old
at_end step c k over first old so_far =
    so_far (Ok None) old (subst (λ (j : ℕ). Comes step (failing_from c (table c) j k) old (Ok None) old) (sym over) (all_passed step c k old))
