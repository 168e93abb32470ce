-- Statements of facts whose names grow, and what is looked up.
use Rattle.std.proofs.Common.{◌≡◌, ◌<◌, ◌≤◌, ◌+◌, ℕ, List, [], ◌∷◌, ◌++◌, length, map, slice_get, false, ◌&&◌, Some, None, refl, sym, ◌∙◌, ap, ap₂, subst, arith, length-append}
use Rattle.std.specs.List.{list_any, AllByRecursion}
use Rattle.std.proofs.lemmas.List.{map-append}
use Rattle.std.proofs.lemmas.Option.{slice_get_within}
use Rattle.jl_logic.specs.Lists.{IsFront}
use Rattle.jl_logic.proofs.Rising.{each_in_append}
use Rattle.jl_prim.specs.declared.numbers.ModuleId.{ModuleId}
use Rattle.jl_access.specs.declared.table.About.{About}
use Rattle.jl_access.specs.declared.table.About.TheVariants.{Exports, Opens, Uses}
use Rattle.jl_access.specs.declared.table.Fact.{Fact}
use Rattle.jl_access.specs.declared.table.Fact.TheVariants.{Reads, Of}
use Rattle.jl_access.specs.Facts.{says_reads}
use Rattle.jl_access.specs.Kept.{text_in, IsNumberOf, same_fact, is_same_about, about_all, to_all}
use Rattle.jl_access.specs.Whole.{said, stated, IsNamed, says, says_anywhere}
use Rattle.jl_access.proofs.Lists.{eqb_turned, and_false, front_place, any_made, any_never}

-- ---- more names

named_on : (few many : ℕ) (facts : List Fact) → few ≤ many → AllByRecursion (IsNamed few) facts → AllByRecursion (IsNamed many) facts
named_on few many [] le all = tt
named_on few many (Reads a b ∷ facts) le all = (tt, named_on few many facts le all.1)
named_on few many (Of x n ∷ facts) le all = (let lt : n < few = all.0 in omega arith, named_on few many facts le all.1)

same_stated : (old rest : List (List ℕ)) (f : Fact) → IsNamed (length old) f → stated (old ++ rest) f ≡ stated old f
same_stated old rest (Reads a b) h = refl
same_stated old rest (Of x n) h = ap (λ o. said x (text_in o)) (front_place old rest n h)

all_stated : (old rest : List (List ℕ)) (facts : List Fact) → AllByRecursion (IsNamed (length old)) facts → map (stated (old ++ rest)) facts ≡ map (stated old) facts
all_stated old rest [] all = refl
all_stated old rest (f ∷ facts) all = ap₂ (λ s ss. s ∷ ss) (same_stated old rest f all.0) (all_stated old rest facts all.1)

-- one more fact, whose name was taken in
pub one_stated : (old new : List (List ℕ)) (facts more : List Fact) (x : About) (n : ℕ) (t : List ℕ) → AllByRecursion (IsNamed (length old)) facts → IsFront old new → slice_get new n ≡ Some t → more ≡ facts ++ Of x n ∷ []
    → map (stated new) more ≡ map (stated old) facts ++ said x t ∷ []
one_stated old new facts more x n t all front at grown =
    ap (map (stated new)) grown
    ∙ map-append (stated new) facts (Of x n ∷ [])
    ∙ ap₂ (λ l s. l ++ s ∷ []) (ap (λ ts. map (stated ts) facts) front.1 ∙ all_stated old front.0 facts all) (ap (λ o. said x (text_in o)) at)

pub one_named : (old new : List (List ℕ)) (facts more : List Fact) (x : About) (n : ℕ) (t : List ℕ) → AllByRecursion (IsNamed (length old)) facts → IsFront old new → slice_get new n ≡ Some t → more ≡ facts ++ Of x n ∷ []
    → AllByRecursion (IsNamed (length new)) more
one_named old new facts more x n t all front at grown =
    let longer : length new ≡ length old + length front.0 = ap length front.1 ∙ length-append old front.0 in
    let within = slice_get_within new n t at in
    subst (AllByRecursion (IsNamed (length new))) (sym grown) (each_in_append (IsNamed (length new)) facts (Of x n ∷ []) (named_on (length old) (length new) facts (omega arith) all) (within, tt))

-- ---- look-ups

module _ (texts : List (List ℕ)) (facts : List Fact) (all : AllByRecursion (IsNamed (length texts)) facts) where
  pub reads_told : (a b : ModuleId) → list_any (same_fact (Reads a b)) facts ≡ list_any (says_reads a b) (map (stated texts) facts)
  reads_told a b = sym (any_made (IsNamed (length texts)) (says_reads a b) (same_fact (Reads a b)) (stated texts) facts all (λ f _. one f))
    where
      one : (f : Fact) → says_reads a b (stated texts f) ≡ same_fact (Reads a b) f
      one (Reads c d) = ap₂ (λ x y. x && y) (eqb_turned c.0 a.0) (eqb_turned d.0 b.0)
      one (Of (Exports m r) n) = refl
      one (Of (Opens m r) n) = refl
      one (Of (Uses m) n) = refl

  module _ (x : About) (t : List ℕ) where
    pub said_told : (n : ℕ) → IsNumberOf texts t (Some n) → list_any (same_fact (Of x n)) facts ≡ list_any (says x t) (map (stated texts) facts)
    said_told n number = sym (any_made (IsNamed (length texts)) (says x t) (same_fact (Of x n)) (stated texts) facts all one)
      where
        one : (f : Fact) → IsNamed (length texts) f → says x t (stated texts f) ≡ same_fact (Of x n) f
        one (Reads c d) h = refl
        one (Of (Exports m r) k) h = ap (λ b. is_same_about x (Exports m r) && b) (number k h)
        one (Of (Opens m r) k) h = ap (λ b. is_same_about x (Opens m r) && b) (number k h)
        one (Of (Uses m) k) h = ap (λ b. is_same_about x (Uses m) && b) (number k h)

    pub nothing_told : IsNumberOf texts t None → false ≡ list_any (says x t) (map (stated texts) facts)
    nothing_told number = sym (any_made (IsNamed (length texts)) (says x t) (λ f. false) (stated texts) facts all one ∙ any_never facts)
      where
        one : (f : Fact) → IsNamed (length texts) f → says x t (stated texts f) ≡ false
        one (Reads c d) h = refl
        one (Of (Exports m r) k) h = ap (λ b. is_same_about x (Exports m r) && b) (number k h) ∙ and_false (is_same_about x (Exports m r))
        one (Of (Opens m r) k) h = ap (λ b. is_same_about x (Opens m r) && b) (number k h) ∙ and_false (is_same_about x (Opens m r))
        one (Of (Uses m) k) h = ap (λ b. is_same_about x (Uses m) && b) (number k h) ∙ and_false (is_same_about x (Uses m))

    pub anywhere_told : (n : ℕ) → IsNumberOf texts t (Some n) → list_any (λ f. same_fact (Of x n) (to_all f)) facts ≡ list_any (says_anywhere x t) (map (stated texts) facts)
    anywhere_told n number = sym (any_made (IsNamed (length texts)) (says_anywhere x t) (λ f. same_fact (Of x n) (to_all f)) (stated texts) facts all one)
      where
        one : (f : Fact) → IsNamed (length texts) f → says_anywhere x t (stated texts f) ≡ same_fact (Of x n) (to_all f)
        one (Reads c d) h = refl
        one (Of (Exports m r) k) h = ap (λ b. is_same_about x (about_all (Exports m r)) && b) (number k h)
        one (Of (Opens m r) k) h = ap (λ b. is_same_about x (about_all (Opens m r)) && b) (number k h)
        one (Of (Uses m) k) h = ap (λ b. is_same_about x (Uses m) && b) (number k h)

    pub nowhere_told : IsNumberOf texts t None → false ≡ list_any (says_anywhere x t) (map (stated texts) facts)
    nowhere_told number = sym (any_made (IsNamed (length texts)) (says_anywhere x t) (λ f. false) (stated texts) facts all one ∙ any_never facts)
      where
        one : (f : Fact) → IsNamed (length texts) f → says_anywhere x t (stated texts f) ≡ false
        one (Reads c d) h = refl
        one (Of (Exports m r) k) h = ap (λ b. is_same_about x (about_all (Exports m r)) && b) (number k h) ∙ and_false (is_same_about x (about_all (Exports m r)))
        one (Of (Opens m r) k) h = ap (λ b. is_same_about x (about_all (Opens m r)) && b) (number k h) ∙ and_false (is_same_about x (about_all (Opens m r)))
        one (Of (Uses m) k) h = ap (λ b. is_same_about x (Uses m) && b) (number k h) ∙ and_false (is_same_about x (Uses m))
