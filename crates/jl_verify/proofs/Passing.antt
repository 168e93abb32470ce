-- Where the whole came to no failing rule, none failed at any instruction.
use Rattle.std.proofs.Common.{◌≡◌, ℕ, zero, suc, ◌+◌, ◌<◌, List, [], ◌∷◌, ◌++◌, length, Bool, Option, Some, None, Result, Ok, Err, refl, ap, subst, arith}
use Rattle.std.specs.Prelude.{slice_get, ◌==◌}
use Rattle.jl_code.specs.declared.code.Instr.{Instr}
use Rattle.jl_class.specs.Classes.{Class as ClassFile}
use Rattle.jl_class.specs.declared.member.MethodDecl.{MethodDecl}
use Rattle.jl_vtypes.specs.declared.ends.HierarchyEnd.{HierarchyEnd}
use Rattle.jl_vtypes.specs.declared.question.Question.{Question}
use Rattle.jl_vtypes.specs.declared.question.Asked.{Asked}
use Rattle.jl_vtypes.specs.Asking.{Asks, Done, Ask, and_then, Follows, Leads, ComesTo}
use Rattle.jl_verify.specs.Frames.{Frame}
use Rattle.jl_verify.specs.Checked.{Checked}
use Rattle.jl_verify.specs.Comes.{missing}
use Rattle.jl_verify.specs.Rules.{first_failing}
use Rattle.jl_verify.specs.Checks.{falling, placed, failing_here, failing_at, unless_failed, failing_from, first_failed, Judged, Accepted, Refused, Typed, judged, verdict, IsCheckedBy, AnswersOrNoMemory, Verifies}
use Rattle.jl_verify.specs.WellTyped.{Passes, IsWellTyped, WellTypedIfAccepted, IsWellTypedIfAccepted}
use Rattle.jl_verify.specs.declared.rule.CheckRule.{CheckRule}
use Rattle.jl_verify.specs.declared.fault.VerifyFault.{VerifyFault}
use Rattle.jl_verify.proofs.Comings.{leads_on, AfterAnswer, not_ok}

-- what followed both followed the first, and then the second
record Split {X Y F : Type 0} (fault : Question → HierarchyEnd → F) (next : X → Asks Y) (First : List Asked → X → Type 0) (all : List Asked) (y : Y) : Type 0 where
  one : List Asked
  two : List Asked
  is : all ≡ one ++ two
  x : X
  first : First one x
  rest : Follows fault (next x) two (Ok y)

module _ {X Y F : Type 0} (fault : Question → HierarchyEnd → F) (next : X → Asks Y) where
  split : (a : Asks X) (all : List Asked) (y : Y) → Follows fault (and_then a next) all (Ok y) → Split fault next (λ one x. Follows fault a one (Ok x)) all y
  split (Done x) all y p = record { one = []; two = all; is = refl; x = x; first = refl; rest = p }
  split (Ask q each) [] y p = absurd p
  split (Ask q each) (a ∷ later) y p =
      let r = by (λ b h. split (each b) later y h) a.answer p.1 in
      record { one = a ∷ r.one; two = r.two; is = ap (λ (l : List Asked). a ∷ l) r.is; x = r.x; first = (p.0, r.first); rest = r.rest }
    where
      by : ((b : Bool) → Follows fault (and_then (each b) next) later (Ok y) → Split fault next (λ one x. Follows fault (each b) one (Ok x)) later y) → (answer : Result Bool HierarchyEnd)
          → AfterAnswer fault q (λ b. and_then (each b) next) later (Ok y) answer → Split fault next (λ one x. AfterAnswer fault q each one (Ok x) answer) later y
      by more (Ok b) h = let r = more b h in record { one = r.one; two = r.two; is = r.is; x = r.x; first = r.first; rest = r.rest }
      by more (Err end) h = absurd (not_ok y (fault q end) h.1)

module _ {S : Type 0} (step : S → Asked → S → Type 0) where
  leads_split : (one two : List Asked) (old new : S) → Leads step old (one ++ two) new → (mid : S) × Leads step old one mid × Leads step mid two new
  leads_split [] two old new p = (old, refl, p)
  leads_split (a ∷ later) two old new p = let r = leads_split later two p.0 new p.2 in (r.0, (p.0, p.1, r.1), r.2)

  then_split : {X Y : Type 0} (a : Asks X) (next : X → Asks Y) (y : Y) (old new : S) → ComesTo step missing (and_then a next) old (Ok y) new
      → (mid : S) × (x : X) × ComesTo step missing a old (Ok x) mid × ComesTo step missing (next x) mid (Ok y) new
  then_split a next y old new p =
      let r = split missing next a p.asked y p.follows in
      let l = leads_split r.one r.two old new (subst (λ (all : List Asked). Leads step old all new) r.is p.leads) in
      (l.0, r.x, record { asked = r.one; leads = l.1; follows = r.first }, record { asked = r.two; leads = l.2; follows = r.rest })

  -- what is done came to what it is
  done_is : {X : Type 0} (x y : X) (old new : S) → ComesTo step missing (Done x) old (Ok y) new → y ≡ x
  done_is x y old new p = by p.asked p.follows
    where
      by : (asked : List Asked) → Follows missing (Done x) asked (Ok y) → y ≡ x
      by [] e = cc
      by (a ∷ later) e = absurd e

  none_placed : (at : ℕ) (failed : Option CheckRule) → None ≡ placed at failed → failed ≡ None
  none_placed at None e = refl
  none_placed at (Some rule) e = absurd cc

  abbrev Way : S → S → Type 0
  Way one other = (asked : List Asked) × Leads step one asked other

  way_on : (one mid other : S) → Way one mid → Way mid other → Way one other
  way_on one mid other p q = (p.0 ++ q.0, leads_on step p.0 q.0 one mid other p.1 q.1)

  module _ (c : Checked) (frames : List Frame) where
    -- none failed at this one
    here_passes : (k : ℕ) (i : Instr) (f : Frame) (old start mid new : S) → Way old start → slice_get c.instrs k ≡ Some i → slice_get frames k ≡ Some f
        → ComesTo step missing (failing_at c frames k) start (Ok None) mid → Way mid new → Passes step c frames old new k f i
    here_passes k i f old start mid new earlier there frame p behind =
        let asks = first_failing c (falling c frames k) f i (suc k == length c.instrs) in
        let q : ComesTo step missing (and_then asks (λ failed. Done (placed i.at failed))) start (Ok None) mid = subst (λ (o : Option Frame). ComesTo step missing (failing_here c frames k (Some i) o) start (Ok None) mid) frame
        (subst (λ (o : Option Instr). ComesTo step missing (failing_here c frames k o (slice_get frames k)) start (Ok None) mid) there p) in
        let r = then_split asks (λ failed. Done (placed i.at failed)) None start mid q in
        let none : r.1 ≡ None = none_placed i.at r.1 (done_is (placed i.at r.1) None r.0 mid r.3) in
        record {
          before = start;
          behind = r.0;
          earlier = earlier;
          passes = subst (λ (o : Option CheckRule). ComesTo step missing asks start (Ok o) r.0) none r.2;
          later = way_on r.0 mid new (r.3.asked, r.3.leads) behind;
        }

    -- the first is one that failed, or the others are asked
    rest_passes : (n k : ℕ) (failed : Option (ℕ × CheckRule)) (mid new : S) → ComesTo step missing (unless_failed failed (failing_from c frames n k)) mid (Ok None) new
        → (failed ≡ None) × ComesTo step missing (failing_from c frames n k) mid (Ok None) new
    rest_passes n k None mid new p = (refl, p)
    rest_passes n k (Some one) mid new p = absurd (let e : None ≡ Some one = done_is (Some one) None mid new p in cc)

    from_passes : (n k : ℕ) (start new : S) → ComesTo step missing (failing_from c frames (suc n) k) start (Ok None) new
        → (mid : S) × ComesTo step missing (failing_at c frames k) start (Ok None) mid × ComesTo step missing (failing_from c frames n (suc k)) mid (Ok None) new
    unfolding failing_from
    from_passes n k start new p =
        let r = then_split (failing_at c frames k) (λ failed. unless_failed failed (failing_from c frames n (suc k))) None start new p in
        let q = rest_passes n (suc k) r.1 r.0 new r.3 in
        (r.0, subst (λ (o : Option (ℕ × CheckRule)). ComesTo step missing (failing_at c frames k) start (Ok o) r.0) q.0 r.2, q.1)

    each_passes : (n k d : ℕ) → d < n → (j : ℕ) → j ≡ k + d → (i : Instr) (f : Frame) (old start new : S) → Way old start → slice_get c.instrs j ≡ Some i → slice_get frames j ≡ Some f
        → ComesTo step missing (failing_from c frames n k) start (Ok None) new → Passes step c frames old new j f i
    each_passes zero k d h j is i f old start new earlier there frame p = absurd (omega arith)
    each_passes (suc n) k zero h j is i f old start new earlier there frame p =
        let q = from_passes n k start new p in
        let same : k ≡ j = omega arith in
        here_passes j i f old start q.0 new earlier there frame (subst (λ (x : ℕ). ComesTo step missing (failing_at c frames x) start (Ok None) q.0) same q.1) (q.2.asked, q.2.leads)
    each_passes (suc n) k (suc d) h j is i f old start new earlier there frame p =
        let q = from_passes n k start new p in
        each_passes n (suc k) d (omega arith) j (omega arith) i f old q.0 new (way_on old start q.0 earlier (q.1.asked, q.1.leads)) there frame q.2

  within : (is : List Instr) (k : ℕ) (i : Instr) → slice_get is k ≡ Some i → k < length is
  within [] k i e = absurd cc
  within (j ∷ is) zero i e = omega arith
  within (j ∷ is) (suc k) i e = let h : k < length is = within is k i e in omega arith

  found_none : (found : Result (Option (ℕ × CheckRule)) VerifyFault) → Ok tt ≡ verdict found → found ≡ Ok None
  found_none (Ok None) e = refl
  found_none (Ok (Some failed)) e = absurd cc
  found_none (Err f) e = absurd cc

  well_typed : (c : Checked) (old new : S) → IsCheckedBy step c old (Ok tt) new → IsWellTyped step c old new
  well_typed c old new p = record {
    frames = p.frames;
    table = p.table;
    all = λ k i f there frame. each_passes c p.frames (length c.instrs) 0 k (within c.instrs k i there) k (omega arith) i f old old new ([], refl) there frame
        (subst (λ (r : Result (Option (ℕ × CheckRule)) VerifyFault). ComesTo step missing (first_failed c p.frames) old r new) (found_none p.found p.answer) p.asked);
  }

  of_judged : (j : Judged) (old : S) (result : Result Unit VerifyFault) (new : S) → AnswersOrNoMemory step j old result new → WellTypedIfAccepted step j old result new
  of_judged Accepted old result new p = tt
  of_judged (Refused f) old result new p = tt
  of_judged (Typed c) old (Ok tt) new p = well_typed c old new p
  of_judged (Typed c) old (Err e) new p = tt

  pub accepted : (c : ClassFile) (m : Option MethodDecl) (old : S) (result : Result Unit VerifyFault) (new : S) → Verifies step c m old result new → IsWellTypedIfAccepted step c m old result new
  accepted c None old result new p = tt
  accepted c (Some m) old result new p = of_judged (judged c m) old result new p
