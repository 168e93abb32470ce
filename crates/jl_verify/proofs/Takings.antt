-- What is asked of the slots of a stack, one after the other (JVMS 4.10.1.9).
use Rattle.std.proofs.Common.{◌≡◌, ◌≤◌, ◌+◌, ℕ, zero, suc, List, [], ◌∷◌, length, drop, slice_get, Some, None, Bool, true, false, Result, Ok, Err, if◌then◌else◌, refl, sym, ◌∙◌, ap, subst}
use Rattle.std.proofs.lemmas.List.{drop_more, drop_all}
use Rattle.std.proofs.lemmas.Option.{slice_get_within, get_or_from_slice_get}
use Rattle.jl_vtypes.specs.declared.item.Item.{Item}
use Rattle.jl_vtypes.specs.declared.question.Asked.{Asked}
use Rattle.jl_vtypes.specs.Asking.{Asks, Done}
use Rattle.jl_verify.specs.declared.fault.VerifyFault.{VerifyFault}
use Rattle.jl_verify.specs.declared.want.Wanted.{Wanted}
use Rattle.jl_verify.specs.Checked.{Checked}
use Rattle.jl_verify.specs.Comes.{Comes}
use Rattle.jl_verify.specs.Moves.{both}
use Rattle.jl_verify.specs.Rows.{fits, taken}
use Rattle.jl_verify.proofs.Comings.{done, both_true, both_false, both_err}

-- ---- places

pub at_hand : {X : Type 0} (xs : List X) (d : ℕ) (x : X) → slice_get xs d ≡ Some x → drop d xs ≡ x ∷ drop (d + 1) xs
at_hand {X} xs d x e = drop_more xs d x (slice_get_within xs d x e) ∙ ap (λ (y : X). y ∷ drop (d + 1) xs) (get_or_from_slice_get xs d x x e)

pub at_end : {X : Type 0} (xs : List X) (d : ℕ) → slice_get xs d ≡ None → drop d xs ≡ []
at_end [] zero e = refl
at_end [] (suc d) e = refl
at_end (x ∷ xs) zero e = absurd cc
at_end (x ∷ xs) (suc d) e = at_end xs d e

module _ {S : Type 0} (step : S → Asked → S → Type 0) where
  -- where the first does not come to yes, neither do both
  pub both_other : (a b : Asks Bool) (old new : S) (r : Result Bool VerifyFault) → (r ≡ Ok true → ⊥) → Comes step a old r new → Comes step (both a b) old r new
  both_other a b old new (Ok true) ne h = absurd (ne refl)
  both_other a b old new (Ok false) ne h = both_false step a b old new h
  both_other a b old new (Err e) ne h = both_err step a b e old new h

  -- where a test passes
  pub if_stands : (b : Bool) (a : Asks Bool) (old new : S) (r : Result Bool VerifyFault) → b ≡ true → Comes step a old r new → Comes step (if b then a else Done false) old r new
  if_stands b a old new r e h = subst (λ (t : Bool). Comes step (if t then a else Done false) old r new) (sym e) h

  module _ (c : Checked) where
    taken_as : (ws vs : List Wanted) (xs ys : List Item) (old new : S) (r : Result Bool VerifyFault) → ws ≡ vs → xs ≡ ys → Comes step (taken c vs ys) old r new → Comes step (taken c ws xs) old r new
    taken_as ws vs xs ys old new r e f h =
        subst (λ (zs : List Wanted). Comes step (taken c zs xs) old r new) (sym e) (subst (λ (zs : List Item). Comes step (taken c vs zs) old r new) (sym f) h)

    -- the slot holds what is wanted, and the next ones are looked at
    pub taken_next : (ws : List Wanted) (xs : List Item) (d : ℕ) (w : Wanted) (x : Item) (old mid new : S) (r : Result Bool VerifyFault) → slice_get ws d ≡ Some w → slice_get xs d ≡ Some x
        → Comes step (fits c w x) old (Ok true) mid → Comes step (taken c (drop (d + 1) ws) (drop (d + 1) xs)) mid r new → Comes step (taken c (drop d ws) (drop d xs)) old r new
    taken_next ws xs d w x old mid new r e f p q =
        taken_as (drop d ws) (w ∷ drop (d + 1) ws) (drop d xs) (x ∷ drop (d + 1) xs) old new r (at_hand ws d w e) (at_hand xs d x f)
        (both_true step (fits c w x) (taken c (drop (d + 1) ws) (drop (d + 1) xs)) old mid r new p q)

    -- it does not, or there is a fault
    pub taken_other : (ws : List Wanted) (xs : List Item) (d : ℕ) (w : Wanted) (x : Item) (old new : S) (r : Result Bool VerifyFault) → slice_get ws d ≡ Some w → slice_get xs d ≡ Some x
        → (r ≡ Ok true → ⊥) → Comes step (fits c w x) old r new → Comes step (taken c (drop d ws) (drop d xs)) old r new
    taken_other ws xs d w x old new r e f ne p =
        taken_as (drop d ws) (w ∷ drop (d + 1) ws) (drop d xs) (x ∷ drop (d + 1) xs) old new r (at_hand ws d w e) (at_hand xs d x f)
        (both_other (fits c w x) (taken c (drop (d + 1) ws) (drop (d + 1) xs)) old new r ne p)

    -- there is no slot
    pub taken_short : (ws : List Wanted) (xs : List Item) (d : ℕ) (w : Wanted) (s : S) → slice_get ws d ≡ Some w → slice_get xs d ≡ None → Comes step (taken c (drop d ws) (drop d xs)) s (Ok false) s
    taken_short ws xs d w s e f = taken_as (drop d ws) (w ∷ drop (d + 1) ws) (drop d xs) [] s s (Ok false) (at_hand ws d w e) (at_end xs d f) (done step false s)

    -- nothing more is wanted
    pub taken_done : (ws : List Wanted) (xs : List Item) (d : ℕ) (s : S) → length ws ≤ d → Comes step (taken c (drop d ws) (drop d xs)) s (Ok true) s
    taken_done ws xs d s le = taken_as (drop d ws) [] (drop d xs) (drop d xs) s s (Ok true) (drop_all d ws le) refl (done step true s)
