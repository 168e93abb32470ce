-- How many layers, modules and loaders there are (`java.lang.ModuleLayer`).
use Rattle.std.specs.Prelude.{◌≡◌, ℕ, length}
use Rattle.jl_layer.specs.Layers.{State}

-- so many layers, modules and loaders
pub record AreCounts (s : State) (defined placed led : ℕ) : Type 0 where
  pub layers : length s.layers ≡ defined
  pub modules : length s.modules ≡ placed
  pub facts : length s.facts.modules ≡ placed
  pub loaders : length s.loaders.loaders ≡ led
