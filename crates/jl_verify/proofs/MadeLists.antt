-- Declared frames, one by one.
use Rattle.std.proofs.Common.{◌≡◌, ℕ, zero, suc, ◌+◌, ◌<◌, ◌≤◌, ◌∙◌, Bool, true, false, not, ◌||◌, List, [], ◌∷◌, ◌++◌, length, drop, get_or, Option, Some, None, Result, Ok, Err, refl, sym, ap, arith, append_assoc, drop-cons, add-one}
use Rattle.std.specs.Prelude.{◌==◌, is_some}
use Rattle.std.proofs.lemmas.Bool.{eqb-true, eq-eqb}
use Rattle.jl_pool.specs.declared.entry.Entry.{Entry}
use Rattle.jl_frames.specs.declared.frame.Frame.{Frame as Stated}
use Rattle.jl_code.specs.Places.{stands}
use Rattle.jl_code.specs.PlaceTables.{IsIndexOf}
use Rattle.jl_vtypes.specs.declared.item.Item.{Item}
use Rattle.jl_verify.specs.Declaring.{changed, frame_of, made, then_made}
use Rattle.jl_verify.specs.declared.declared_frame.DeclaredFrame.{DeclaredFrame}
use Rattle.jl_verify.specs.declared.declared_frame.Types.{Types}

-- frames behind others, or the same fault
abbrev pub behind : List DeclaredFrame → Result (List DeclaredFrame) ℕ → Result (List DeclaredFrame) ℕ
behind done (Ok later) = Ok (done ++ later)
behind done (Err at) = Err at

-- ---- instructions at places

pub is_start : (starts : List ℕ) (pc : ℕ) (found : ℕ) → IsIndexOf starts pc (Some found) → stands starts pc ≡ true
is_start [] pc found h = absurd cc
is_start (s ∷ ss) pc zero h = let e : s ≡ pc = cc in rw (eq-eqb s pc e) refl
is_start (s ∷ ss) pc (suc found) h = rw (is_start ss pc found h) (by (s == pc))
  where
    by : (b : Bool) → (b || true) ≡ true
    by true = refl
    by false = refl

pub no_start : (starts : List ℕ) (pc : ℕ) → IsIndexOf starts pc None → stands starts pc ≡ false
no_start [] pc none = refl
no_start (s ∷ ss) pc none = by (s == pc) refl (no_start ss pc (λ i h. none (suc i) h))
  where
    by : (b : Bool) → (s == pc) ≡ b → stands ss pc ≡ false → stands (s ∷ ss) pc ≡ false
    by true e later = absurd (none 0 (ap Some (eqb-true s pc e)))
    by false e later = rw e later

-- ---- one more frame

pub made_wrong_place : (pool : List Entry) (at : ℕ → Bool) (locals : List Item) (f : Stated) (fs : List Stated) → at f.offset ≡ false → made pool at locals (f ∷ fs) ≡ Err f.offset
unfolding made
made_wrong_place pool at locals f fs e = rw e refl

pub made_none : (pool : List Entry) (at : ℕ → Bool) (locals : List Item) (f : Stated) (fs : List Stated) → at f.offset ≡ true → changed pool locals f ≡ None → made pool at locals (f ∷ fs) ≡ Err f.offset
unfolding made
made_none pool at locals f fs e none = rw (e, none) refl

pub made_one : (pool : List Entry) (at : ℕ → Bool) (locals : List Item) (f : Stated) (fs : List Stated) (t : Types) → at f.offset ≡ true → changed pool locals f ≡ Some t
    → made pool at locals (f ∷ fs) ≡ then_made f.offset t (made pool at t.locals fs)
unfolding made
made_one pool at locals f fs t e some = rw (e, some) refl

pub made_all : (pool : List Entry) (at : ℕ → Bool) (locals : List Item) → made pool at locals [] ≡ Ok []
unfolding made
made_all pool at locals = refl

pub behind_one : (done : List DeclaredFrame) (offset : ℕ) (t : Types) (later : Result (List DeclaredFrame) ℕ)
    → behind done (then_made offset t later) ≡ behind (done ++ record { offset = offset; frame = frame_of t } ∷ []) later
behind_one done offset t (Ok later) = ap Ok (sym (append_assoc done (record { offset = offset; frame = frame_of t } ∷ []) later))
behind_one done offset t (Err at) = refl

-- ---- at an index

pub start_if : (starts : List ℕ) (pc : ℕ) (found : Option ℕ) (none : Bool) → is_some found ≡ not none → IsIndexOf starts pc found → stands starts pc ≡ not none
start_if starts pc None true e h = no_start starts pc h
start_if starts pc None false e h = absurd cc
start_if starts pc (Some i) true e h = absurd cc
start_if starts pc (Some i) false e h = is_start starts pc i h

from_index : (fs : List Stated) (k : ℕ) (f : Stated) → k < length fs → f ≡ get_or fs k f → drop k fs ≡ f ∷ drop (k + 1) fs
from_index fs k f h is = rw add-one (drop-cons fs k f h) ∙ ap (λ x. x ∷ drop (k + 1) fs) (sym is)

module _ (pool : List Entry) (at : ℕ → Bool) (whole : Result (List DeclaredFrame) ℕ) (done : List DeclaredFrame) (locals : List Item) (fs : List Stated) (k : ℕ) (f : Stated) (below : k < length fs) (is : f ≡ get_or fs k f)
    (so_far : whole ≡ behind done (made pool at locals (drop k fs))) where
  pub wrong_at : at f.offset ≡ false → whole ≡ Err f.offset
  wrong_at wrong = so_far ∙ rw (from_index fs k f below is, made_wrong_place pool at locals f (drop (k + 1) fs) wrong) refl

  pub none_at : at f.offset ≡ true → changed pool locals f ≡ None → whole ≡ Err f.offset
  none_at right none = so_far ∙ rw (from_index fs k f below is, made_none pool at locals f (drop (k + 1) fs) right none) refl

  pub one_at : (t : Types) → at f.offset ≡ true → changed pool locals f ≡ Some t
      → whole ≡ behind (done ++ record { offset = f.offset; frame = frame_of t } ∷ []) (made pool at t.locals (drop (k + 1) fs))
  one_at t right some = so_far ∙ (rw (from_index fs k f below is, made_one pool at locals f (drop (k + 1) fs) t right some) (behind_one done f.offset t (made pool at t.locals (drop (k + 1) fs))))

append_nil : (xs : List DeclaredFrame) → xs ++ [] ≡ xs
append_nil [] = refl
append_nil (x ∷ xs) = ap (λ ys. x ∷ ys) (append_nil xs)

drop_all : (fs : List Stated) (k : ℕ) → length fs ≤ k → drop k fs ≡ []
drop_all [] zero h = refl
drop_all [] (suc k) h = refl
drop_all (f ∷ fs) zero h = absurd (omega arith)
drop_all (f ∷ fs) (suc k) h = drop_all fs k (omega arith)

pub at_end : (pool : List Entry) (at : ℕ → Bool) (whole : Result (List DeclaredFrame) ℕ) (done : List DeclaredFrame) (locals : List Item) (fs : List Stated) (k : ℕ) → length fs ≤ k
    → whole ≡ behind done (made pool at locals (drop k fs)) → whole ≡ Ok done
at_end pool at whole done locals fs k over e =
    let none : drop k fs ≡ [] = drop_all fs k over in e ∙ rw (none, made_all pool at locals) (ap Ok (append_nil done))
