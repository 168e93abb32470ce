-- Arrays by their elements: dimensions that both have make no difference.
use Rattle.std.proofs.Common.{◌++◌, get_or, add-one, ◌≡◌, ℕ, zero, suc, ◌+◌, ◌≤◌, Bool, true, false, ◌&&◌, List, [], ◌∷◌, length, drop, min, Option, None, Some, inl, inr, refl, sym, ◌∙◌, ap, arith}
use Rattle.std.specs.Prelude.{◌==◌}
use Rattle.std.specs.Prelude.{option_map, MatchOption, ◌≢◌}
use Rattle.std.specs.Option.{option_copied}
use Rattle.std.specs.Borrow.{Bor}
use Rattle.std.specs.Str.{IsUtf8, IsCharBoundary}
use Rattle.std.proofs.lemmas.Str.{IsCharBoundary-start, IsCharBoundary-after_ascii}
use Rattle.std.proofs.lemmas.Bool.{eqb-true, cases_lt}
use Rattle.std.specs.Cmp.Lexicographic.{bytes_decides}
use Rattle.jl_logic.specs.Order.{is_text}
use Rattle.jl_names.specs.Descriptors.{brackets}
use Rattle.jl_vtypes.specs.Asking.{Done}
use Rattle.jl_vtypes.specs.Assignability.{Spelled, Primitive, Named, ArrayOf, spelled, before_semicolon, name_in, named_or, is_array, is_above_arrays, type_goes}

-- ---- what a first byte says

spelled_array : (b : ℕ) (bs : List ℕ) → (b == 91) ≡ true → spelled (b ∷ bs) ≡ ArrayOf (spelled bs)
unfolding spelled
spelled_array b bs e = rw e refl

spelled_other : (b : ℕ) (bs : List ℕ) → (b == 91) ≡ false → spelled (b ∷ bs) ≡ named_or (name_in (b ∷ bs)) (b ∷ bs)
unfolding spelled
spelled_other b bs e = rw e refl

-- ---- common dimensions

more_brackets : (b : ℕ) (bs : List ℕ) → (b == 91) ≡ true → brackets (b ∷ bs) ≡ suc (brackets bs)
unfolding brackets
more_brackets b bs e = rw e refl

no_brackets : (b : ℕ) (bs : List ℕ) → (b == 91) ≡ false → brackets (b ∷ bs) ≡ 0
unfolding brackets
no_brackets b bs e = rw e refl

none_brackets : brackets [] ≡ 0
unfolding brackets
none_brackets = refl

begins : (k b : ℕ) (bs : List ℕ) (is : Bool) → (b == 91) ≡ is → suc k ≤ brackets (b ∷ bs) → is ≡ true
begins k b bs true e h = refl
begins k b bs false e h = absurd (omega (arith, no_brackets b bs e))

-- the types behind dimensions that both have go as those before them
pub behind_both : (k : ℕ) (from to : List ℕ) → k ≤ brackets from → k ≤ brackets to → type_goes (spelled (drop k from)) (spelled (drop k to)) ≡ type_goes (spelled from) (spelled to)
behind_both zero from to h g = refl
behind_both (suc k) [] to h g = absurd (omega (arith, none_brackets))
behind_both (suc k) (b ∷ bs) [] h g = absurd (omega (arith, none_brackets))
behind_both (suc k) (b ∷ bs) (c ∷ cs) h g =
    let e : (b == 91) ≡ true = begins k b bs (b == 91) refl h in
    let f : (c == 91) ≡ true = begins k c cs (c == 91) refl g in
    rw (spelled_array b bs e, spelled_array c cs f)
    (behind_both k bs cs (omega (arith, more_brackets b bs e)) (omega (arith, more_brackets c cs f)))

left_brackets : (k : ℕ) (s : List ℕ) → k ≤ brackets s → brackets (drop k s) + k ≡ brackets s
left_brackets zero s h = omega arith
left_brackets (suc k) [] h = absurd (omega (arith, none_brackets))
left_brackets (suc k) (b ∷ bs) h =
    let e : (b == 91) ≡ true = begins k b bs (b == 91) refl h in
    let more : brackets (b ∷ bs) ≡ suc (brackets bs) = more_brackets b bs e in
    omega (arith, left_brackets k bs (omega arith))

no_array_first : (b : ℕ) (bs : List ℕ) (is : Bool) → (b == 91) ≡ is → brackets (b ∷ bs) ≡ 0 → is ≡ false
no_array_first b bs false e h = refl
no_array_first b bs true e h = absurd (omega (arith, more_brackets b bs e))

no_array : (s : List ℕ) → brackets s ≡ 0 → is_array s ≡ false
no_array [] h = refl
no_array (b ∷ bs) h = no_array_first b bs (b == 91) refl h

neither : (a b : Bool) → a ≡ false → (a && b) ≡ false
neither a b e = rw e refl

nor : (a b : Bool) → b ≡ false → (a && b) ≡ false
nor true b e = e
nor false b e = refl

-- behind the dimensions that both have, not both are arrays
pub not_both : (k : ℕ) (from to : List ℕ) → k ≡ min (brackets from) (brackets to) → (is_array (drop k from) && is_array (drop k to)) ≡ false
not_both k from to e =
    elim (cases_lt (brackets from) (brackets to)) [
      | inl lt ↦ let l : brackets (drop k from) ≡ 0 = omega (arith, left_brackets k from (omega arith)) in neither (is_array (drop k from)) (is_array (drop k to)) (no_array (drop k from) l)
      | inr le ↦ let l : brackets (drop k to) ≡ 0 = omega (arith, left_brackets k to (omega arith)) in nor (is_array (drop k from)) (is_array (drop k to)) (no_array (drop k to) l)
    ]

-- ---- where not both are arrays

-- What a descriptor begins with: an array's, a class's, or another.
data Begins (s : List ℕ) : Type 0 where
  array : is_array s ≡ true → name_in s ≡ None → (element : Spelled) → spelled s ≡ ArrayOf element → Begins s
  class : is_array s ≡ false → (name : List ℕ) → name_in s ≡ Some name → spelled s ≡ Named name → Begins s
  other : is_array s ≡ false → name_in s ≡ None → spelled s ≡ Primitive s → Begins s

begun_array : (b : ℕ) (bs : List ℕ) → (b == 91) ≡ true → Begins (b ∷ bs)
begun_array b bs e = let is : b ≡ 91 = eqb-true b 91 e in array e (rw is refl) (spelled bs) (spelled_array b bs e)

begun_other : (b : ℕ) (bs : List ℕ) (found : Option (List ℕ)) → (b == 91) ≡ false → name_in (b ∷ bs) ≡ found → Begins (b ∷ bs)
begun_other b bs (Some name) e f = class e name f (spelled_other b bs e ∙ ap (λ o. named_or o (b ∷ bs)) f)
begun_other b bs None e f = other e f (spelled_other b bs e ∙ ap (λ o. named_or o (b ∷ bs)) f)

begun : (b : ℕ) (bs : List ℕ) (is_array : Bool) → (b == 91) ≡ is_array → Begins (b ∷ bs)
begun b bs true e = begun_array b bs e
begun b bs false e = begun_other b bs (name_in (b ∷ bs)) e refl

begins_with : (s : List ℕ) → Begins s
unfolding spelled
begins_with [] = other refl refl refl
begins_with (b ∷ bs) = begun b bs (b == 91) refl

none_or_some : (o : Option (List ℕ)) (name : List ℕ) → o ≡ None → o ≡ Some name → ⊥
none_or_some o name e f = absurd cc

same_some : (a b : List ℕ) → Some a ≡ Some b → a ≡ b
same_some a b e = cc

-- a class that is named
pub named : (s name : List ℕ) → name_in s ≡ Some name → spelled s ≡ Named name
named s name e = elim (begins_with s) [
  | array is none element spells ↦ absurd (none_or_some (name_in s) name none e)
  | class is found has spells ↦ spells ∙ ap Named (same_some found name (sym has ∙ e))
  | other is none spells ↦ absurd (none_or_some (name_in s) name none e)
]

-- a class that takes an array, or a type that is neither
pub to_named : (from name : List ℕ) → name_in from ≡ None → type_goes (spelled from) (Named name) ≡ Done (is_array from && is_above_arrays name)
to_named from name e = elim (begins_with from) [
  | array is none element spells ↦ rw (spells, is) refl
  | class is found has spells ↦ absurd (none_or_some (name_in from) found e has)
  | other is none spells ↦ rw (spells, is) refl
]

not_same : (from to : List ℕ) (is : Bool) → is_text from to ≡ is → (from ≡ to → ⊥) → is ≡ false
not_same from to true e ne = absurd (ne ((bytes_decides from to).0 e))
not_same from to false e ne = refl

other_text : (from to : List ℕ) → (from ≡ to → ⊥) → is_text from to ≡ false
other_text from to ne = not_same from to (is_text from to) refl ne

by_array : (from to : List ℕ) → is_array from ≡ true → is_array to ≡ false → from ≡ to → ⊥
by_array from to e f same = absurd cc

by_array_to : (from to : List ℕ) → is_array from ≡ false → is_array to ≡ true → from ≡ to → ⊥
by_array_to from to e f same = absurd cc

by_class : (from to name : List ℕ) → name_in from ≡ Some name → name_in to ≡ None → from ≡ to → ⊥
by_class from to name e f same = absurd cc

both_arrays : (from to : List ℕ) → is_array from ≡ true → is_array to ≡ true → (is_array from && is_array to) ≡ false → ⊥
both_arrays from to e f none = let h : true ≡ false = rw (e, f) at none in absurd cc

-- what is no class takes itself alone, where not both are arrays
pub to_itself : (from to : List ℕ) → name_in to ≡ None → (is_array from && is_array to) ≡ false → type_goes (spelled from) (spelled to) ≡ Done (is_text from to)
to_itself from to e h = elim (begins_with to) [
  | array is none element spells ↦ elim (begins_with from) [
    | array is_2 none_2 element_2 spells_2 ↦ absurd (both_arrays from to is_2 is h)
    | class is_2 name has spells_2 ↦ rw (spells, spells_2, other_text from to (by_array_to from to is_2 is)) refl
    | other is_2 none_2 spells_2 ↦ rw (spells, spells_2, other_text from to (by_array_to from to is_2 is)) refl
  ]
  | class is name has spells ↦ absurd (none_or_some (name_in to) name e has)
  | other is none spells ↦ elim (begins_with from) [
    | array is_2 none_2 element_2 spells_2 ↦ rw (spells, spells_2, other_text from to (by_array from to is_2 is)) refl
    | class is_2 name has spells_2 ↦ rw (spells, spells_2, other_text from to (by_class from to name has none)) refl
    | other is_2 none_2 spells_2 ↦ rw (spells, spells_2) refl
  ]
]

-- ---- without common dimensions

-- what is behind common dimensions goes as the whole
pub as_whole : (k : ℕ) (from to : List ℕ) → k ≡ min (brackets from) (brackets to) → type_goes (spelled (drop k from)) (spelled (drop k to)) ≡ type_goes (spelled from) (spelled to)
as_whole k from to e = behind_both k from to (omega arith) (omega arith)

-- ---- the names of classes

ends_later : (b c : ℕ) (bs name : List ℕ) → before_semicolon (c ∷ bs) ≡ Some name → before_semicolon (b ∷ c ∷ bs) ≡ Some (b ∷ name)
unfolding before_semicolon
ends_later b c bs name e = ap (option_map (λ name. b ∷ name)) e

-- a text that ends in a semicolon
semicolon_at_end : (name : List ℕ) → before_semicolon (name ++ 59 ∷ []) ≡ Some name
unfolding before_semicolon
semicolon_at_end [] = refl
semicolon_at_end (b ∷ []) = refl
semicolon_at_end (b ∷ c ∷ bs) = ends_later b c (bs ++ 59 ∷ []) (c ∷ bs) (semicolon_at_end (c ∷ bs))

-- a text that ends in none
no_semicolon : (text : List ℕ) → ((front : List ℕ) → text ≡ front ++ 59 ∷ [] → ⊥) → before_semicolon text ≡ None
unfolding before_semicolon
no_semicolon [] none = refl
no_semicolon (b ∷ []) none = by_last (b == 59) refl
  where
    by_last : (is : Bool) → (b == 59) ≡ is → before_semicolon (b ∷ []) ≡ None
    by_last true e = absurd (none [] (ap (λ x. x ∷ []) (eqb-true b 59 e)))
    by_last false e = rw e refl
no_semicolon (b ∷ c ∷ bs) none = ap (option_map (λ name. b ∷ name)) (no_semicolon (c ∷ bs) (λ front e. none (b ∷ front) (ap (λ rest. b ∷ rest) e)))

-- a class between L and a semicolon
name_between : (desc rest name : List ℕ) → desc ≡ 76 ∷ rest → rest ≡ name ++ 59 ∷ [] → Some name ≡ name_in desc
name_between desc rest name e f = rw (e, f) (sym (semicolon_at_end name))

-- what is left of a text that begins with L, where it ends in a semicolon
pub name_left : (desc rest : List ℕ) (found : Option (Bor (List ℕ))) → desc ≡ 76 ∷ rest
    → MatchOption found ((front : List ℕ) → rest ≢ front ++ 59 ∷ []) (λ name. rest ≡ name.now ++ 59 ∷ []) → option_copied found ≡ name_in desc
name_left desc rest None e none = rw e (sym (no_semicolon rest none))
name_left desc rest (Some name) e f = name_between desc rest name.now e f

pub name_without_start : (desc : List ℕ) → ((rest : List ℕ) → desc ≡ 76 ∷ rest → ⊥) → None ≡ name_in desc
name_without_start [] none = refl
name_without_start (b ∷ bs) none = by_first (b == 76) refl
  where
    by_first : (is : Bool) → (b == 76) ≡ is → None ≡ name_in (b ∷ bs)
    by_first true e = absurd (none bs (ap (λ x. x ∷ bs) (eqb-true b 76 e)))
    by_first false e = rw e refl

-- ---- where a descriptor may be cut

bracket_at : (k : ℕ) (s : List ℕ) → suc k ≤ brackets s → get_or s k 0 ≡ 91
bracket_at k [] h = absurd (omega (arith, none_brackets))
bracket_at zero (b ∷ bs) h = eqb-true b 91 (begins zero b bs (b == 91) refl h)
bracket_at (suc k) (b ∷ bs) h =
    let e : (b == 91) ≡ true = begins (suc k) b bs (b == 91) refl (omega arith) in
    bracket_at k bs (omega (arith, more_brackets b bs e))

brackets_within : (s : List ℕ) → brackets s ≤ length s
brackets_within [] = omega (arith, none_brackets)
brackets_within (b ∷ bs) = by_first (b == 91) refl (brackets_within bs)
  where
    by_first : (is : Bool) → (b == 91) ≡ is → brackets bs ≤ length bs → brackets (b ∷ bs) ≤ length (b ∷ bs)
    by_first true e h = omega (arith, more_brackets b bs e)
    by_first false e h = omega (arith, no_brackets b bs e)

-- behind brackets
pub cut_at : (k : ℕ) (s : List ℕ) → IsUtf8 s → k ≤ brackets s → IsCharBoundary s k
cut_at zero s u h = IsCharBoundary-start s u
cut_at (suc k) s u h =
    rw add-one at (IsCharBoundary-after_ascii s k u (omega (arith, brackets_within s)) (omega (arith, bracket_at k s (omega arith))))
