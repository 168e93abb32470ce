-- The package of a name is a text.
use Rattle.std.proofs.Common.{◌≡◌, ℕ, ◌<◌, Bool, true, false, List, [], ◌∷◌, length, take, get_or, refl, ap, arith}
use Rattle.std.specs.Prelude.{cond, ◌||◌}
use Rattle.std.specs.List.{list_any}
use Rattle.std.specs.Str.{IsUtf8}
use Rattle.std.proofs.lemmas.Str.{IsUtf8-nil, IsUtf8-take, IsCharBoundary-before_ascii}
use Rattle.jl_names.specs.Names.{is_slash, package_of}

-- it is the front of the name
front : (bs : List ℕ) → package_of bs ≡ take (length (package_of bs)) bs
unfolding package_of
front [] = refl
front (b ∷ bs) = by_more (list_any is_slash bs) (front bs)
  where
    by_more : (more : Bool) → package_of bs ≡ take (length (package_of bs)) bs → cond more (b ∷ package_of bs) [] ≡ take (length (cond more (b ∷ package_of bs) [])) (b ∷ bs)
    by_more true later = ap (λ xs. b ∷ xs) later
    by_more false later = refl

-- a slash behind a front
abbrev EndsAtSlash : List ℕ → List ℕ → Type 0
EndsAtSlash whole p = (length p < length whole) × (get_or whole (length p) 0 < 128)

slash_ascii : (b : ℕ) → is_slash b ≡ true → b < 128
slash_ascii b h = grind arith

or_first : (a : Bool) → (a || false) ≡ true → a ≡ true
or_first true e = refl
or_first false e = e

-- which ends before the last slash
ends : (bs : List ℕ) → list_any is_slash bs ≡ true → EndsAtSlash bs (package_of bs)
unfolding package_of
ends [] h = cc
ends (b ∷ bs) h = by_more (list_any is_slash bs) refl h (ends bs)
  where
    by_more : (more : Bool) → list_any is_slash bs ≡ more → (is_slash b || more) ≡ true → (list_any is_slash bs ≡ true → EndsAtSlash bs (package_of bs)) → EndsAtSlash (b ∷ bs) (cond more (b ∷ package_of bs) [])
    by_more true e h later = let r = later e in (omega arith, r.1)
    by_more false e h later = (omega arith, slash_ascii b (or_first (is_slash b) h))

-- and is nothing where there is none
empty : (bs : List ℕ) → list_any is_slash bs ≡ false → package_of bs ≡ []
unfolding package_of
empty [] h = refl
empty (b ∷ bs) h = by_more (list_any is_slash bs) (none_later (is_slash b) h)
  where
    none_later : (a : Bool) → (a || list_any is_slash bs) ≡ false → list_any is_slash bs ≡ false
    none_later true e = cc
    none_later false e = e

    by_more : (more : Bool) → more ≡ false → cond more (b ∷ package_of bs) [] ≡ []
    by_more true e = cc
    by_more false e = refl

pub package_is_text : (name : List ℕ) → IsUtf8 name → IsUtf8 (package_of name)
package_is_text name text = by_any (list_any is_slash name) refl
  where
    by_any : (any : Bool) → list_any is_slash name ≡ any → IsUtf8 (package_of name)
    by_any true e = let at = ends name e in rw (front name) (IsUtf8-take name (length (package_of name)) text (IsCharBoundary-before_ascii name (length (package_of name)) at.0 at.1))
    by_any false e = rw (empty name e) IsUtf8-nil
