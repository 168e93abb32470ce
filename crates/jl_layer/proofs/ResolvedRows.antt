-- Worked rows of what may be kept: lib is in a kept configuration, and exports the package that it has; bad exports one that it has not.
use Rattle.std.proofs.Common.{◌≤◌, ℕ, Contains, List, [], ◌∷◌, false, None, codes, inl, refl, sym, subst, ◌∙◌, ap, arith}
use Rattle.std.proofs.lemmas.List.Elements.{All-from_recursion, All-contains}
use Rattle.jl_logic.specs.Order.{RisesBy}
use Rattle.jl_logic.proofs.Apart.{single}
use Rattle.jl_logic.proofs.Rising.{contains_head}
use Rattle.jl_prim.specs.declared.numbers.ConfigId.{ConfigId}
use Rattle.jl_prim.specs.declared.declaration.Grant.{Grant}
use Rattle.jl_prim.specs.declared.declaration.Observed.{Observed}
use Rattle.jl_config.specs.declared.configuration.Read.{Read}
use Rattle.jl_config.specs.Configurations.{Configuration}
use Rattle.jl_config.specs.Located.{name_of}
use Rattle.jl_config.specs.Orders.{module_cmp}
use Rattle.jl_layer.specs.Keeping.{IsKeepable, AreKept}
use Rattle.jl_layer.specs.Resolved.{HasItsGrants, AsksOfKept}
use Rattle.jl_layer.proofs.ResolvedLists.{text_differs}

abbrev grant : Grant
grant = record { «package» = codes "p"; to = None }

-- a module that exports p, with these packages
abbrev exporter : List ℕ → List (List ℕ) → Observed
exporter name packages = record {
  declaration = record { name = name; is_open = false; version = None; required = []; exports = grant ∷ []; opens = []; uses = []; provides = []; packages = packages; main = None };
  place = [];
}

abbrev lib : Observed
lib = exporter (codes "lib") (codes "p" ∷ [])

abbrev bad : Observed
bad = exporter (codes "bad") (codes "q" ∷ [])

-- the package of a grant is the module's
abbrev Has : Observed → Grant → Type 0
Has o g = Contains o.declaration.packages g.«package»

lib_has : HasItsGrants lib
lib_has = (All-from_recursion (Has lib) (grant ∷ []) (contains_head (codes "p") [], tt), All-from_recursion (Has lib) [] tt)

bad_has_not : HasItsGrants bad → ⊥
bad_has_not h =
    text_differs (codes "q") (codes "p") refl (single (codes "q") (codes "p") (All-contains (Has bad) (grant ∷ []) grant h.0 (contains_head grant [])))

abbrev number : ℕ → ConfigId
number n = record { 0 = n }

abbrev IsUpTo : ℕ → ConfigId → Type 0
IsUpTo n c = c.0 ≤ n

abbrev itself : Read
itself = record { reader = codes "lib"; config = number 1; name = codes "lib" }

abbrev first : Configuration
first = record { id = number 1; parents = number 0 ∷ []; modules = lib ∷ []; reads = itself ∷ [] }

keepable : IsKeepable [] first
keepable = record {
  few = omega arith;
  few_modules = omega arith;
  number = refl;
  parents = All-from_recursion (IsUpTo 0) (number 0 ∷ []) (omega arith, tt);
  readers = λ r c. (lib, (contains_head lib [], ap (λ (x : Read). x.reader) (single itself r c)));
  targets = λ r c. (lib, inl (sym (ap (λ (x : Read). x.config) (single itself r c)), (contains_head lib [], ap (λ (x : Read). x.name) (single itself r c))));
  exports = λ o c. (subst HasItsGrants (single lib o c) lib_has).0;
  opens = λ o c. (subst HasItsGrants (single lib o c) lib_has).1;
  same_name = λ r t c d e f. ap (λ (x : Read). x.config) (sym (single itself r c) ∙ single itself t d);
  own_name = λ r c e. sym (ap (λ (x : Read). x.config) (single itself r c));
  same_package = λ reader p r t h i e f. ap (λ (x : Read). x.name) (sym (single itself r h.0) ∙ single itself t i.0);
  own_package = λ p o r c holds h. sym (ap (λ (x : Read). x.name) (single itself r h.0)) ∙ ap name_of (single lib o c);
}

-- a question over it
asks : AsksOfKept (record { known = first ∷ []; before = []; parents = number 1 ∷ number 0 ∷ []; after = lib ∷ []; roots = codes "lib" ∷ []; binds = false })
unfolding AreKept
asks = record {
  known = (keepable, tt);
  rise = All-from_recursion (λ (g : Configuration). RisesBy module_cmp g.modules) (first ∷ []) ((tt, tt), tt);
  parents = All-from_recursion (IsUpTo 1) (number 1 ∷ number 0 ∷ []) (omega arith, (omega arith, tt));
  before = All-from_recursion HasItsGrants [] tt;
  after = All-from_recursion HasItsGrants (lib ∷ []) (lib_has, tt);
}
