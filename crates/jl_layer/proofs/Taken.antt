-- A layer that is placed is taken back, or defined (`ModuleLayer.defineModules`).
use Rattle.std.proofs.Common.{◌≡◌, ℕ, List, [], ◌∷◌, ◌++◌, length, map, take, drop, refl, sym, ◌∙◌, ap, ap₂, subst}
use Rattle.jl_loaders.specs.Loaders as delegation
use Rattle.jl_access.specs.Facts as access
use Rattle.jl_access.specs.declared.statement.Statement.{Statement}
use Rattle.jl_layer.specs.declared.layer.Layer.{Layer}
use Rattle.jl_layer.specs.declared.layer.Member.{Member}
use Rattle.jl_layer.specs.declared.placing.Added.{Added}
use Rattle.jl_layer.specs.Layers.{State}
use Rattle.jl_layer.specs.Defining.{Asked, IsAsBefore, IsDefined, new_layer, new_members, declared_module, placed}
use Rattle.jl_layer.specs.Orderly.{AreOrderly}
use Rattle.jl_layer.specs.Placing.{IsAddedBy, TakesIn, shortened}

front_of : {X : Type 0} (xs ys : List X) → take (length xs) (xs ++ ys) ≡ xs
front_of [] ys = refl
front_of (x ∷ xs) ys = ap (λ l. x ∷ l) (front_of xs ys)

rest_of : {X : Type 0} (xs ys : List X) → drop (length xs) (xs ++ ys) ≡ ys
rest_of [] ys = refl
rest_of (x ∷ xs) ys = rest_of xs ys

module _ (old s : State) (q : Asked) (n k : ℕ) (e : n ≡ length old.layers) (f : k ≡ length old.modules) (same : IsAsBefore (placed old q) s) where
  short_layers : take n s.layers ≡ old.layers
  short_layers = ap₂ (λ (i : ℕ) (ls : List Layer). take i ls) e same.layers ∙ front_of old.layers (new_layer old q ∷ [])

  short_modules : take k s.modules ≡ old.modules
  short_modules = ap₂ (λ (i : ℕ) (ms : List Member). take i ms) f same.modules ∙ front_of old.modules (new_members old q)

  pub short_orderly : AreOrderly old.layers old.modules → AreOrderly (take n s.layers) (take k s.modules)
  short_orderly h = subst (λ (ls : List Layer). AreOrderly ls (take k s.modules)) (sym short_layers) (subst (λ (ms : List Member). AreOrderly old.layers ms) (sym short_modules) h)

  pub short_before : IsAsBefore old (shortened n k s)
  short_before = record {
    configurations = same.configurations;
    layers = short_layers;
    modules = short_modules;
    loaders = same.loaders;
    base = same.base;
    constraints = same.constraints;
    facts = same.facts;
  }

-- what is taken in makes the layer a defined one
pub defined_from : (old s new : State) (q : Asked) (a : Added) → IsAsBefore (placed old q) s → IsAddedBy old q a → TakesIn a s new → IsDefined old q new
defined_from old s new q a same added takes = record {
  configurations = takes.configurations ∙ same.configurations;
  layers = takes.layers ∙ same.layers;
  modules = takes.modules ∙ same.modules;
  loaders = takes.loaders ∙ ap₂ (λ (xs ys : List delegation.Parts). xs ++ ys) same.loaders added.loaders;
  constraints = takes.constraints ∙ same.constraints;
  facts = takes.facts ∙ ap₂ (λ (xs ys : List access.Declared). xs ++ ys) same.facts.modules (added.modules ∙ ap (map declared_module) (rest_of old.modules (new_members old q)));
  statements = takes.statements ∙ ap₂ (λ (xs ys : List Statement). xs ++ ys) same.facts.statements added.statements;
}

pub same_before : (s t : State) → t ≡ s → IsAsBefore s t
same_before s t e = record {
  configurations = ap (λ (w : State). w.configurations) e;
  layers = ap (λ (w : State). w.layers) e;
  modules = ap (λ (w : State). w.modules) e;
  loaders = ap (λ (w : State). w.loaders.loaders) e;
  base = ap (λ (w : State). w.loaders.base) e;
  constraints = ap (λ (w : State). w.loaders.constraints) e;
  facts = record { modules = ap (λ (w : State). w.facts.modules) e; statements = ap (λ (w : State). w.facts.statements) e };
}
