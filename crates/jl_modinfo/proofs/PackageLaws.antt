-- Where the package ends in the name of a class.
use Rattle.std.proofs.Common.{◌≡◌, ℕ, ◌<◌, List, [], ◌∷◌, length, take, slice_index, Bool, true, false, refl, ap, arith}
use Rattle.std.specs.Prelude.{IsCharBoundary, IsUtf8}
use Rattle.std.specs.List.{list_any}
use Rattle.std.proofs.lemmas.Bool.{eqb-true, or_parts}
use Rattle.std.proofs.lemmas.Str.{IsCharBoundary-start}
use Rattle.jl_names.specs.Names.{is_slash, package_of}

front_step : (b : ℕ) (bs : List ℕ) (any : Bool) → list_any is_slash bs ≡ any → take (length (package_of bs)) bs ≡ package_of bs → take (length (package_of (b ∷ bs))) (b ∷ bs) ≡ package_of (b ∷ bs)
unfolding package_of
front_step b bs true e h = rw e (ap (λ k. b ∷ k) h)
front_step b bs false e h = rw e refl

-- the package of a name is its front
pub package_front : (name : List ℕ) → take (length (package_of name)) name ≡ package_of name
unfolding package_of
package_front [] = refl
package_front (b ∷ bs) = front_step b bs (list_any is_slash bs) refl (package_front bs)

abbrev SlashBehind : List ℕ → Type 0
SlashBehind name = (length (package_of name) < length name) × (slice_index name (length (package_of name)) ≡ 47)

behind_step : (b : ℕ) (bs : List ℕ) (any here : Bool) → list_any is_slash bs ≡ any → is_slash b ≡ here → list_any is_slash (b ∷ bs) ≡ true → (any ≡ true → SlashBehind bs) → SlashBehind (b ∷ bs)
unfolding package_of
behind_step b bs true here f g e h = let k = h refl in rw f (omega (arith, k.0), k.1)
behind_step b bs false true f g e h = rw f (omega arith, eqb-true b 47 g)
behind_step b bs false false f g e h = absurd cc

-- where there is a slash, one stands behind the package
slash_behind : (name : List ℕ) → list_any is_slash name ≡ true → SlashBehind name
unfolding package_of
slash_behind [] e = absurd cc
slash_behind (b ∷ bs) e = behind_step b bs (list_any is_slash bs) (is_slash b) refl refl e (slash_behind bs)

-- so the text may be cut there
pub package_boundary : (name : List ℕ) → IsUtf8 name → IsCharBoundary name (length (package_of name))
unfolding package_of
package_boundary name u = by_slash (list_any is_slash name) refl
  where
    none : (n : List ℕ) → list_any is_slash n ≡ false → package_of n ≡ []
    none [] e = refl
    none (b ∷ bs) e = rw (or_parts (is_slash b) (list_any is_slash bs) e).1 refl

    by_slash : (any : Bool) → list_any is_slash name ≡ any → IsCharBoundary name (length (package_of name))
    by_slash true e = let h = slash_behind name e in (omega (arith, h.0), λ l wide. absurd (omega (arith, h.1)))
    by_slash false e = rw (none name e) (IsCharBoundary-start name u)
