-- Names that are apart, and whether one of them is there.
use Rattle.std.proofs.Common.{◌≡◌, ℕ, List, [], ◌∷◌, ◌++◌, map, false, refl, ◌∙◌}
use Rattle.std.specs.Prelude.{Contains, nat_eq}
use Rattle.std.proofs.lemmas.Bool.{false_from_ne_true}
use Rattle.std.proofs.lemmas.Map.Views.{list_any-from_Contains, Contains-from_any}
use Rattle.std.specs.Cmp.Lexicographic.{bytes_decides, pointwise, nat_list_eq_equiv}
use Rattle.std.specs.List.{list_any}
use Rattle.indexmap.specs.IndexSet.{insert_key}
use Rattle.jl_logic.specs.Order.{is_text}
use Rattle.jl_prim.specs.declared.declaration.Requires.{Requires}
use Rattle.jl_tables.specs.Meaning.{is_among}

-- the test from the side of the name, as a map's keys are compared
among_from : (name : List ℕ) (names : List (List ℕ)) → list_any (pointwise nat_eq name) names ≡ is_among name names
among_from name [] = refl
among_from name (n ∷ ns) = rw (among_from name ns, nat_list_eq_equiv.symm name n) refl

pub not_among : (name : List ℕ) (names : List (List ℕ)) → is_among name names ≡ false → Contains names name → ⊥
not_among name names e c = absurd (cc (list_any-from_Contains nat_list_eq_equiv name names c, among_from name names, e))

pub among_not : (name : List ℕ) (names : List (List ℕ)) → (Contains names name → ⊥) → is_among name names ≡ false
among_not name names none = false_from_ne_true (is_among name names) (λ e. none (Contains-from_any (λ x y. (bytes_decides x y).0) name names (among_from name names ∙ e)))

-- a name that is none of them comes behind them
pub inserted : (names : List (List ℕ)) (name : List ℕ) → is_among name names ≡ false → insert_key (pointwise nat_eq) names name ≡ names ++ name ∷ []
inserted names name fresh =
    let none : list_any (pointwise nat_eq name) names ≡ false = among_from name names ∙ fresh in
    rw none refl

-- a name stands among the names of a table where it stands among its entries
pub required_among : (name : List ℕ) (required : List Requires) → list_any (λ (r : Requires). is_text r.name name) required ≡ is_among name (map (λ (r : Requires). r.name) required)
required_among name [] = refl
required_among name (r ∷ rs) = rw (required_among name rs) refl
