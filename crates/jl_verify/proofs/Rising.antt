-- Declared frames rise as the stated ones do, and a search among them.
use Rattle.std.proofs.Common.{◌≡◌, ◌<◌, ℕ, zero, suc, List, [], ◌∷◌, length, get_or, ⊎_elim, refl, sym, ◌∙◌, ap, subst, Option, Some, None, Result, Ok, Err, Bool, true, false, cond, Less, Equal, Greater, arith, add-one}
use Rattle.std.specs.Prelude.{◌==◌, if◌then◌else◌}
use Rattle.std.specs.List.{find, AllByRecursion}
use Rattle.std.specs.Ordering.{nat_cmp, is_lt, is_eq, ordering_reverse}
use Rattle.std.specs.Cmp.{nat_cmp_is, unsigned_ties}
use Rattle.std.specs.List.Sorted.{IsSortedBy, IsBinarySearchResult}
use Rattle.std.proofs.lemmas.Bool.{cases_lt, eqb-true}
use Rattle.std.proofs.lemmas.Cmp.{nat_cmp_total}
use Rattle.std.proofs.lemmas.List.Sorted.{searchable_from_sorted}
use Rattle.jl_pool.specs.declared.entry.Entry.{Entry}
use Rattle.jl_frames.specs.declared.frame.Frame.{Frame as Stated}
use Rattle.jl_frames.specs.Fitting.{OffsetsRise}
use Rattle.jl_vtypes.specs.declared.item.Item.{Item}
use Rattle.jl_verify.specs.Declaring.{changed, frame_of, made, made_or_not, then_made}
use Rattle.jl_verify.specs.Rising.{offset_cmp, PlacesRise}
use Rattle.jl_verify.specs.declared.declared_frame.DeclaredFrame.{DeclaredFrame}
use Rattle.jl_verify.specs.declared.declared_frame.Types.{Types}

-- ---- what is made of frames that rise

module _ (pool : List Entry) (at : ℕ → Bool) (P : List DeclaredFrame → Type 0) where
  made_nothing : (locals : List Item) (ds : List DeclaredFrame) → made pool at locals [] ≡ Ok ds → P [] → P ds
  unfolding made
  made_nothing locals ds e p = let same : [] ≡ ds = cc in subst P same p

  made_first : (locals : List Item) (f : Stated) (fs : List Stated) (ds : List DeclaredFrame) → made pool at locals (f ∷ fs) ≡ Ok ds
      → ((t : Types) (later : List DeclaredFrame) → made pool at t.locals fs ≡ Ok later → P (record { offset = f.offset; frame = frame_of t } ∷ later)) → P ds
  unfolding made
  made_first locals f fs ds e p = by (if at f.offset then changed pool locals f else None) e
    where
      behind : (t : Types) (r : Result (List DeclaredFrame) ℕ) → made pool at t.locals fs ≡ r → then_made f.offset t r ≡ Ok ds → P ds
      behind t (Err wrong) is so = absurd cc
      behind t (Ok later) is so =
          let first : DeclaredFrame = record { offset = f.offset; frame = frame_of t } in
          let same : first ∷ later ≡ ds = cc in subst P same (p t later is)

      by : (o : Option Types) → made_or_not f.offset o (λ t. made pool at t.locals fs) ≡ Ok ds → P ds
      by None so = absurd cc
      by (Some t) so = behind t (made pool at t.locals fs) refl so

made_above : (pool : List Entry) (at : ℕ → Bool) (x : DeclaredFrame) (locals : List Item) (fs : List Stated) (ds : List DeclaredFrame) → made pool at locals fs ≡ Ok ds
    → AllByRecursion (λ (f : Stated). x.offset < f.offset) fs → AllByRecursion (λ y. offset_cmp x y ≡ Less) ds
made_above pool at x locals [] ds e h = made_nothing pool at (AllByRecursion (λ y. offset_cmp x y ≡ Less)) locals ds e tt
made_above pool at x locals (f ∷ fs) ds e h =
    made_first pool at (AllByRecursion (λ y. offset_cmp x y ≡ Less)) locals f fs ds e (λ t later is. (sym (nat_cmp_is x.offset f.offset Less h.0), made_above pool at x t.locals fs later is h.1))

pub made_rises : (pool : List Entry) (at : ℕ → Bool) (locals : List Item) (fs : List Stated) (ds : List DeclaredFrame) → made pool at locals fs ≡ Ok ds → OffsetsRise fs → PlacesRise ds
made_rises pool at locals [] ds e h = made_nothing pool at PlacesRise locals ds e tt
made_rises pool at locals (f ∷ fs) ds e h =
    made_first pool at PlacesRise locals f fs ds e (λ t later is. (made_above pool at (record { offset = f.offset; frame = frame_of t }) t.locals fs later is h.0, made_rises pool at t.locals fs later is h.1))

-- ---- a search

sorted_if_rising : (ds : List DeclaredFrame) → PlacesRise ds → IsSortedBy (λ a b. is_lt (nat_cmp a.offset b.offset)) ds
sorted_if_rising [] up k d le lt = absurd (omega arith)
sorted_if_rising (w ∷ []) up k d le lt = absurd (omega arith)
sorted_if_rising (w ∷ v ∷ ds) up zero d le lt = ap is_lt (nat_cmp_total.antisymm v.offset w.offset ∙ ap ordering_reverse up.0.0)
sorted_if_rising (w ∷ v ∷ ds) up (suc k) d le lt =
    let more = sorted_if_rising (v ∷ ds) up.1 k d (omega arith) (omega arith) in
    rw (add-one (suc k)) (rw (add-one k) at more)

less_than_later : (x : DeclaredFrame) (ds : List DeclaredFrame) (i : ℕ) (d : DeclaredFrame) → AllByRecursion (λ y. offset_cmp x y ≡ Less) ds → i < length ds → offset_cmp x (get_or ds i d) ≡ Less
less_than_later x [] i d h lt = absurd (omega arith)
less_than_later x (y ∷ ds) zero d h lt = h.0
less_than_later x (y ∷ ds) (suc i) d h lt = less_than_later x ds i d h.1 (omega arith)

pub found_in : (place : ℕ) (ds : List DeclaredFrame) (i : ℕ) (d : DeclaredFrame) → PlacesRise ds → i < length ds → nat_cmp (get_or ds i d).offset place ≡ Equal
    → find (λ (x : DeclaredFrame). x.offset == place) ds ≡ Some (get_or ds i d)
found_in place [] i d up lt e = absurd (omega arith)
found_in place (x ∷ ds) zero d up lt e = ap (λ (b : Bool). cond b (Some x) (find (λ (y : DeclaredFrame). y.offset == place) ds)) (unsigned_ties x.offset place ∙ ap is_eq e)
found_in place (x ∷ ds) (suc i) d up lt e =
    let same : (get_or ds i d).offset ≡ place = eqb-true (get_or ds i d).offset place (unsigned_ties (get_or ds i d).offset place ∙ ap is_eq e) in
    let less : nat_cmp x.offset place ≡ Less = subst (λ (n : ℕ). nat_cmp x.offset n ≡ Less) same (less_than_later x ds i d up.0 (omega arith)) in
    ap (λ (b : Bool). cond b (Some x) (find (λ (y : DeclaredFrame). y.offset == place) ds)) (unsigned_ties x.offset place ∙ ap is_eq less) ∙ found_in place ds i d up.1 (omega arith) e

nowhere_in : (place : ℕ) (ds : List DeclaredFrame) → ((k : ℕ) (d : DeclaredFrame) → k < length ds → ((get_or ds k d).offset == place) ≡ false) → find (λ (x : DeclaredFrame). x.offset == place) ds ≡ None
nowhere_in place [] h = refl
nowhere_in place (x ∷ ds) h = ap (λ (b : Bool). cond b (Some x) (find (λ (y : DeclaredFrame). y.offset == place) ds)) (h 0 x (omega arith)) ∙ nowhere_in place ds (λ k d lt. h (suc k) d (omega arith))

pub missing_in : (place : ℕ) (ds : List DeclaredFrame) (i : ℕ) → PlacesRise ds → IsBinarySearchResult (λ (x : DeclaredFrame). nat_cmp x.offset place) ds (Err i) → find (λ (x : DeclaredFrame). x.offset == place) ds ≡ None
missing_in place ds i up h =
    let split = h (searchable_from_sorted nat_cmp_total (λ (x : DeclaredFrame). x.offset) ds place (sorted_if_rising ds up)) in
    nowhere_in place ds (λ k d lt. unsigned_ties (get_or ds k d).offset place ∙ ⊎_elim (λ a. ap is_eq (split.0 k d (omega arith) a)) (λ a. ap is_eq (split.1 k d a lt)) (cases_lt k i))
