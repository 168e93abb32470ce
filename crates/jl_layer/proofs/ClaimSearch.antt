-- How claims on packages are searched (`java.lang.LayerInstantiationException`).
use Rattle.std.proofs.Common.{◌≡◌, ◌<◌, ◌≤◌, ◌+◌, ℕ, zero, suc, List, [], ◌∷◌, length, get_or, drop, slice_get, ⊎_elim, refl, sym, ◌∙◌, ap, ap₂, subst, Option, Some, None, Result, Ok, Err, Bool, true, false, cond, not, ◌&&◌, ◌||◌, ◌==◌, Ordering, Less, Equal, Greater, IsSorted, arith, add-one}
use Rattle.std.specs.List.{list_any}
use Rattle.std.specs.Result.{is_ok}
use Rattle.std.specs.Ordering.{ordering_then, is_lt, is_eq, nat_cmp}
use Rattle.std.specs.List.Sorted.{IsSortedBy, IsBinarySearchResult, IsSearchInRange}
use Rattle.std.specs.Cmp.Lexicographic.{texts_ties, nat_list_cmp_total}
use Rattle.std.proofs.Math.Seq.{drop-cons}
use Rattle.std.proofs.lemmas.Bool.{cases_lt}
use Rattle.std.proofs.lemmas.List.{drop_all}
use Rattle.std.proofs.lemmas.List.Folds.{list_any_none}
use Rattle.std.proofs.lemmas.List.Sorted.{searchable_from_sorted}
use Rattle.std.proofs.lemmas.Option.{slice_get-get_or, slice_get_within, get_or_from_slice_get, same_Some, none-some}
use Rattle.jl_logic.specs.Order.{is_text, name_cmp}
use Rattle.jl_layer.specs.declared.claims.Claim.{Claim}
use Rattle.jl_layer.specs.Claims.{claim_cmp, clash_from, clash_in, is_claimed}
use Rattle.jl_layer.specs.ClaimSteps.{is_clash, next_first, package_in, AreFirstTwo}

-- ---- a search by the package

less_differs : (a b : List ℕ) → name_cmp a b ≡ Less → is_text a b ≡ false
less_differs a b e = texts_ties a b ∙ ap is_eq e

greater_differs : (a b : List ℕ) → name_cmp a b ≡ Greater → is_text a b ≡ false
greater_differs a b e = texts_ties a b ∙ ap is_eq e

equal_text : (a b : List ℕ) → name_cmp a b ≡ Equal → is_text a b ≡ true
equal_text a b e = texts_ties a b ∙ ap is_eq e

not_less : (o r : Ordering) → is_lt (ordering_then o r) ≡ false → is_lt o ≡ false
not_less Less r e = e
not_less Equal r e = refl
not_less Greater r e = refl

sorted_packages : (claims : List Claim) → IsSorted claim_cmp claims → IsSortedBy (λ (a b : Claim). is_lt (name_cmp a.«package» b.«package»)) claims
sorted_packages claims sorted k d le lt =
    let a : Claim = get_or claims (k + 1) d in
    let b : Claim = get_or claims k d in
    not_less (name_cmp a.«package» b.«package») (ordering_then (name_cmp a.name b.name) (nat_cmp a.owner b.owner)) (sorted k d le lt)

any_at : {X : Type 0} (test : X → Bool) (xs : List X) (i : ℕ) (d : X) → i < length xs → test (get_or xs i d) ≡ true → list_any test xs ≡ true
any_at test [] i d lt e = absurd (omega arith)
any_at test (x ∷ xs) zero d lt e = ap (λ (b : Bool). b || list_any test xs) e
any_at test (x ∷ xs) (suc i) d lt e = by (test x) (any_at test xs i d (omega arith) e)
  where
    by : (b : Bool) → list_any test xs ≡ true → (b || list_any test xs) ≡ true
    by true h = refl
    by false h = h

pub claimed_searched : (claims : List Claim) (p : List ℕ) (r : Result ℕ ℕ) → IsSorted claim_cmp claims → IsSearchInRange r (length claims) → IsBinarySearchResult (λ (c : Claim). name_cmp c.«package» p) claims r → is_ok r ≡ is_claimed claims p
claimed_searched [] p (Ok i) sorted range h = absurd (omega (arith, range))
claimed_searched (c ∷ cs) p (Ok i) sorted range h =
    sym (any_at (λ (x : Claim). is_text x.«package» p) (c ∷ cs) i c range (equal_text (get_or (c ∷ cs) i c).«package» p (h c)))
claimed_searched claims p (Err i) sorted range h =
    let split = h (searchable_from_sorted nat_list_cmp_total (λ (c : Claim). c.«package») claims p (sorted_packages claims sorted)) in
    sym (list_any_none (λ (x : Claim). is_text x.«package» p) claims
    (λ k d lt. ⊎_elim (λ a. less_differs (get_or claims k d).«package» p (split.0 k d (omega arith) a)) (λ a. greater_differs (get_or claims k d).«package» p (split.1 k d a lt)) (cases_lt k i)))

-- ---- the first two that clash

-- The claims from a place on, behind the first of the package at hand, clash where all do.
abbrev pub IsRest : List Claim → ℕ → ℕ → Type 0
IsRest claims first at = (f : Claim) → slice_get claims first ≡ Some f → clash_from f (drop at claims) ≡ clash_in claims

pub rest_begun : (claims : List Claim) → IsRest claims 0 1
rest_begun [] f e = absurd (none-some f e)
rest_begun (x ∷ xs) f e = ap (λ (c : Claim). clash_from c xs) (sym (same_Some x f e))

dropped : (claims : List Claim) (at : ℕ) (x : Claim) → slice_get claims at ≡ Some x → drop at claims ≡ x ∷ drop (at + 1) claims
dropped claims at x e =
    let lt : at < length claims = slice_get_within claims at x e in
    drop-cons claims at x lt ∙ ap₂ (λ (c : Claim) (n : ℕ). c ∷ drop n claims) (get_or_from_slice_get claims at x x e) (sym (add-one at))

pub rest_found : (claims : List Claim) (first at : ℕ) (f x : Claim) → slice_get claims first ≡ Some f → slice_get claims at ≡ Some x → IsRest claims first at → is_clash f x ≡ true → AreFirstTwo claims first at
rest_found claims first at f x e g rest clash = record {
  one = f;
  two = x;
  one_there = e;
  two_there = g;
  first_two = sym (rest f e) ∙ ap (clash_from f) (dropped claims at x g) ∙ by (is_text x.«package» f.«package») (x.owner == f.owner) clash;
}
  where
    by : (b c : Bool) → (b && not c) ≡ true → cond b (cond c (clash_from f (drop (at + 1) claims)) (Some (f, x))) (clash_from x (drop (at + 1) claims)) ≡ Some (f, x)
    by true true h = absurd cc
    by true false h = refl
    by false c h = absurd cc

pub rest_goes_on : (claims : List Claim) (first at : ℕ) (f x : Claim) → slice_get claims first ≡ Some f → slice_get claims at ≡ Some x → IsRest claims first at → is_clash f x ≡ false → IsRest claims (next_first claims first at) (at + 1)
rest_goes_on claims first at f x e g rest clash = by (is_text x.«package» f.«package») refl (x.owner == f.owner) clash
  where
    text_is : is_text (package_in (slice_get claims at)) (package_in (slice_get claims first)) ≡ is_text x.«package» f.«package»
    text_is = ap₂ (λ (a b : Option Claim). is_text (package_in a) (package_in b)) g e

    next_is : (b : Bool) → is_text x.«package» f.«package» ≡ b → next_first claims first at ≡ cond b first at
    next_is b h = ap (λ (t : Bool). cond t first at) (text_is ∙ h)

    whole : cond (is_text x.«package» f.«package») (cond (x.owner == f.owner) (clash_from f (drop (at + 1) claims)) (Some (f, x))) (clash_from x (drop (at + 1) claims)) ≡ clash_in claims
    whole = sym (ap (clash_from f) (dropped claims at x g)) ∙ rest f e

    by : (b : Bool) → is_text x.«package» f.«package» ≡ b → (c : Bool) → (is_text x.«package» f.«package» && not (x.owner == f.owner)) ≡ false → IsRest claims (next_first claims first at) (at + 1)
    by true h c k = subst (λ (n : ℕ). IsRest claims n (at + 1)) (sym (next_is true h))
        (λ w i. let same : f ≡ w = same_Some f w (sym e ∙ i) in ap (λ (v : Claim). clash_from v (drop (at + 1) claims)) (sym same) ∙ stays (x.owner == f.owner) (sym (ap (λ (t : Bool). t && not (x.owner == f.owner)) h) ∙ k) (sym (ap (λ (t : Bool). cond t (cond (x.owner == f.owner) (clash_from f (drop (at + 1) claims)) (Some (f, x))) (clash_from x (drop (at + 1) claims))) h) ∙ whole))
      where
        stays : (o : Bool) → not o ≡ false → cond o (clash_from f (drop (at + 1) claims)) (Some (f, x)) ≡ clash_in claims → clash_from f (drop (at + 1) claims) ≡ clash_in claims
        stays true m n = n
        stays false m n = absurd cc
    by false h c k = subst (λ (n : ℕ). IsRest claims n (at + 1)) (sym (next_is false h))
        (λ w i. let same : x ≡ w = same_Some x w (sym g ∙ i) in ap (λ (v : Claim). clash_from v (drop (at + 1) claims)) (sym same) ∙ sym (ap (λ (t : Bool). cond t (cond (x.owner == f.owner) (clash_from f (drop (at + 1) claims)) (Some (f, x))) (clash_from x (drop (at + 1) claims))) h) ∙ whole)

pub rest_done : (claims : List Claim) (first at : ℕ) → first < at → length claims ≤ at → (0 < length claims → first < length claims) → IsRest claims first at → clash_in claims ≡ None
rest_done [] first at lt le within rest = refl
rest_done (c ∷ cs) first at lt le within rest =
    let f : Claim = get_or (c ∷ cs) first c in
    sym (rest f (slice_get-get_or (c ∷ cs) first c (within (omega arith)))) ∙ ap (clash_from f) (drop_all at (c ∷ cs) le)

pub next_below : (claims : List Claim) (first at : ℕ) → first < at → next_first claims first at < at + 1
next_below claims first at lt = by (is_text (package_in (slice_get claims at)) (package_in (slice_get claims first)))
  where
    by : (b : Bool) → cond b first at < at + 1
    by true = omega arith
    by false = omega arith
