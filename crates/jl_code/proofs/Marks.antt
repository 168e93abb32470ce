-- Marking the places where instructions stand, one after the other.
use Rattle.std.proofs.Common.{◌≡◌, ℕ, zero, suc, ◌+◌, ◌≤◌, ◌<◌, inl, inr, Bool, true, false, List, [], ◌∷◌, length, replicate, Ok, Err, refl, sym, ◌∙◌, arith}
use Rattle.std.specs.Prelude.{◌||◌, slice_set}
use Rattle.std.proofs.Math.Bool.{or-true, or-false}
use Rattle.std.proofs.lemmas.Bool.{lt-ltb, le-ltb, cases_eq, eq-eqb, ne_eqb}
use Rattle.std.proofs.lemmas.List.{get_or-set_same, get_or-set_other}
use Rattle.jl_code.specs.declared.fault.CodeFault.{CodeFault}
use Rattle.jl_code.specs.Places.{next_place, places_from, places, stands, is_marked}

-- marks, and the places that are still to be marked
pub record Follows (code : List ℕ) (marks : List Bool) (at : ℕ) : Type 0 where
  pub left : ℕ
  pub enough : length code ≤ at + left
  pub same : (p : ℕ) → (is_marked marks p || stands (places_from code left at) p) ≡ stands (places code) p

none_marked : (n p : ℕ) → is_marked (replicate n false) p ≡ false
none_marked zero p = refl
none_marked (suc n) zero = refl
none_marked (suc n) (suc p) = none_marked n p

pub follows_first : (code : List ℕ) (marks : List Bool) → marks ≡ replicate (length code) false → Follows code marks 0
follows_first code marks e = record {
  left = length code;
  enough = omega arith;
  same = λ p. rw (e, none_marked (length code) p) refl;
}

marked_step : (marks : List Bool) (at p : ℕ) (rest : List ℕ) (t : Bool) → at < length marks → (is_marked marks p || stands (at ∷ rest) p) ≡ t → (is_marked (slice_set marks at true) p || stands rest p) ≡ t
marked_step marks at p rest t lt h =
    elim (cases_eq at p) [
      | inl same ↦
          let here : is_marked (slice_set marks at true) p ≡ true = rw (← same) (get_or-set_same marks at true false lt) in
          let was : t ≡ true = sym h ∙ rw (eq-eqb at p same) (or-true (is_marked marks p)) in
          rw (here, was) refl
      | inr other ↦
          let there : is_marked (slice_set marks at true) p ≡ is_marked marks p = get_or-set_other marks at p true false (λ e. other (sym e)) in
          let was = rw (ne_eqb at p other) at h in
          rw there was
    ]

pub follows_more : (code : List ℕ) (marks : List Bool) (at next : ℕ) → at < length code → at < length marks → at < next → next_place code at ≡ Ok next → Follows code marks at → Follows code (slice_set marks at true) next
unfolding places_from
follows_more code marks at next lt room on read f = more f.left f.enough f.same where
  more : (n : ℕ) → length code ≤ at + n → ((p : ℕ) → (is_marked marks p || stands (places_from code n at) p) ≡ stands (places code) p) → Follows code (slice_set marks at true) next
  more zero enough same = absurd (omega arith)
  more (suc n) enough same =
      let step : places_from code (suc n) at ≡ at ∷ places_from code n next = rw (lt-ltb at (length code) lt, read) refl in
      record {
        left = n;
        enough = omega arith;
        same = λ p. marked_step marks at p (places_from code n next) (stands (places code) p) room (rw step at (same p));
      }

pub nothing_left : (n : ℕ) (code : List ℕ) (at : ℕ) → length code ≤ at → places_from code n at ≡ []
unfolding places_from
nothing_left zero code at le = refl
nothing_left (suc n) code at le = rw (le-ltb at (length code) le) refl

nothing_more : (n : ℕ) (code : List ℕ) (at : ℕ) (f : CodeFault) → at < length code → next_place code at ≡ Err f → places_from code n at ≡ []
unfolding places_from
nothing_more zero code at f lt read = refl
nothing_more (suc n) code at f lt read = rw (lt-ltb at (length code) lt, read) refl

all_marked : (code : List ℕ) (marks : List Bool) (at : ℕ) (f : Follows code marks at) → places_from code f.left at ≡ [] → (p : ℕ) → is_marked marks p ≡ stands (places code) p
all_marked code marks at f none p = sym (or-false (is_marked marks p)) ∙ (rw none at (f.same p))

pub follows_to_end : (code : List ℕ) (marks : List Bool) (at : ℕ) → length code ≤ at → Follows code marks at → is_marked marks ≡ stands (places code)
follows_to_end code marks at le f = λ i. λ p. all_marked code marks at f (nothing_left f.left code at le) p i

pub follows_to_fault : (code : List ℕ) (marks : List Bool) (at : ℕ) (e : CodeFault) → at < length code → next_place code at ≡ Err e → Follows code marks at → is_marked marks ≡ stands (places code)
follows_to_fault code marks at e lt read f = λ i. λ p. all_marked code marks at f (nothing_more f.left code at e lt read) p i
