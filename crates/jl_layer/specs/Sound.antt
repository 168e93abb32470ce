-- What holds of layers at any time, since each was defined by the rules (`ModuleLayer`).
use Rattle.std.specs.Prelude.{◌≡◌, ℕ, ◌<◌, ◌≤◌, List, [], ◌∷◌, length, map, None, Some, option_map, Contains, All, codes}
use Rattle.jl_prim.specs.declared.numbers.LayerId.{LayerId}
use Rattle.jl_prim.specs.declared.numbers.LoaderId.{LoaderId}
use Rattle.jl_prim.specs.declared.numbers.ModuleId.{ModuleId}
use Rattle.jl_prim.specs.Limits.{most_modules}
use Rattle.jl_logic.specs.Order.{RisesBy}
use Rattle.jl_config.specs.Configurations.{Configuration}
use Rattle.jl_config.specs.Orders.{module_cmp}
use Rattle.jl_loaders.specs.Loaders as delegation
use Rattle.jl_access.specs.declared.statement.Statement.{Statement}
use Rattle.jl_layer.specs.declared.layer.Layer.{Layer}
use Rattle.jl_layer.specs.declared.layer.Member.{Member}
use Rattle.jl_layer.specs.Layers.{State, layer_at, configuration_at, member_of, named_in, IsLayer, IsConfiguration}
use Rattle.jl_layer.specs.Meaning.{statements_of}
use Rattle.jl_layer.specs.Leads.{HasOwn, Sees, NoModule, boot_layer}
use Rattle.jl_layer.specs.Defining.{parts_of, declared_module}
use Rattle.jl_layer.specs.Keeping.{AreKept}

-- A layer that was defined.
pub record IsSoundLayer (s : State) (l : LayerId) : Type 0 where
  pub known : IsConfiguration s (layer_at s l).config
  -- its parents were there, and have the configurations that its own has as parents
  pub below : All (λ (p : LayerId). p.0 < l.0) (layer_at s l).parents
  pub configs : map (λ (p : LayerId). (layer_at s p).config) (layer_at s l).parents ≡ (configuration_at s l).parents
  -- its modules are those of its configuration, in order
  pub observed : map (λ (m : ModuleId). option_map (λ (x : Member). x.observed) (member_of s m)) (layer_at s l).modules ≡ map Some (configuration_at s l).modules
  pub inside : All (λ (m : ModuleId). option_map (λ (x : Member). x.layer) (member_of s m) ≡ Some l) (layer_at s l).modules
  -- each of their loaders has what they have, and what they see
  pub loaders : (m : ModuleId) (x : Member) → Contains (layer_at s l).modules m → member_of s m ≡ Some x → delegation.numbered s.loaders.loaders x.loader.0 ≡ Some (parts_of s l x.loader)

-- No two modules of a loader have one package, and of a package that none of them has no two modules are seen.
pub record IsApart (s : State) (l : LoaderId) (p : List ℕ) : Type 0 where
  pub own : (m n : ModuleId) → HasOwn s l p m → HasOwn s l p n → m ≡ n
  pub seen : (m n : ModuleId) → NoModule (HasOwn s l p) → Sees s l p m → Sees s l p n → m ≡ n

-- java.base is known from the boot layer on, which has it.
abbrev pub HasBase : State → List Layer → Type 0
HasBase s [] = s.loaders.base ≡ None
HasBase s (l ∷ ls) = (m : ModuleId) × (x : Member) × (s.loaders.base ≡ Some m) × (named_in s boot_layer (codes "java.base") ≡ Some m) × (member_of s m ≡ Some x) × (x.loader ≡ record { 0 = 1 })

-- The facts are those of the modules, and among the statements are those of each layer.
pub record FactsAreDeclared (s : State) : Type 0 where
  pub modules : s.facts.modules ≡ map declared_module s.modules
  pub statements : (l : LayerId) (x : Statement) → IsLayer s l → Contains (statements_of s l) x → Contains s.facts.statements x

-- What holds of layers at any time.
pub record AreSound (s : State) : Type 0 where
  pub kept : AreKept [] s.configurations
  -- the modules of each configuration stand in the order of their names
  pub rise : All (λ (g : Configuration). RisesBy module_cmp g.modules) s.configurations
  pub layers : (l : LayerId) → 0 < l.0 → IsLayer s l → IsSoundLayer s l
  -- each module is one of its layer's
  pub members : (m : ModuleId) (x : Member) → member_of s m ≡ Some x → (0 < x.layer.0) × IsLayer s x.layer × Contains (layer_at s x.layer).modules m
  -- a loader is of one layer, which has a module of it
  pub one_layer : (m n : ModuleId) (x y : Member) → member_of s m ≡ Some x → member_of s n ≡ Some y → x.loader ≡ y.loader → x.layer ≡ y.layer
  pub used : (l : LoaderId) → delegation.IsLoader s.loaders l → (m : ModuleId) × (x : Member) × (member_of s m ≡ Some x) × (x.loader ≡ l)
  pub apart : (l : LoaderId) (p : List ℕ) → IsApart s l p
  pub few_modules : length s.modules ≤ most_modules
  pub few_layers : length s.layers ≤ most_modules
  pub few_loaders : length s.loaders.loaders ≤ length s.modules
  pub base : HasBase s s.layers
  pub facts : FactsAreDeclared s
