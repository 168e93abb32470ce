-- What calls on layers change (`ModuleLayer`, `Module`).
use Rattle.std.specs.Prelude.{◌≡◌, [], ◌∷◌, ◌++◌, Option}
use Rattle.jl_prim.specs.declared.numbers.ModuleId.{ModuleId}
use Rattle.jl_config.specs.Configurations.{Configuration}
use Rattle.jl_loaders.specs.Loaders as delegation
use Rattle.jl_layer.specs.Layers.{State}

-- one configuration more
abbrev pub with_configuration : Configuration → State → State
with_configuration g s = record { configurations = s.configurations ++ g ∷ []; layers = s.layers; modules = s.modules; loaders = s.loaders; facts = s.facts }

-- with these loaders and constraints
abbrev pub with_loaders : delegation.State → State → State
with_loaders ls s = record { configurations = s.configurations; layers = s.layers; modules = s.modules; loaders = ls; facts = s.facts }

-- with this module of java.base
abbrev pub with_base : Option ModuleId → State → State
with_base m s = with_loaders (record { loaders = s.loaders.loaders; base = m; constraints = s.loaders.constraints; spare = s.loaders.spare }) s

-- all but the facts is the same
pub record KeepsAllButFacts (old new : State) : Type 0 where
  pub configurations : new.configurations ≡ old.configurations
  pub layers : new.layers ≡ old.layers
  pub modules : new.modules ≡ old.modules
  pub loaders : new.loaders ≡ old.loaders
