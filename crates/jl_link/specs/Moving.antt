-- From one state to a later one, in which no reference is decided that was not (JVMS 5.3.4, 5.4.3).
use Rattle.std.specs.Prelude.{◌≡◌, ◌++◌, length, map, drop}
use Rattle.jl_logic.specs.Lists.{IsFront}
use Rattle.jl_layer.specs.Laws as over
use Rattle.jl_loads.specs.Worlds.{State, blank}

-- Layers grow, and what is decided stays, as do constraints, the classes that are there and what was read; more classes come behind them, of which nothing is decided.
pub record Moves (old new : State) : Type 0 where
  pub layers : over.Grows old.layers new.layers
  pub constraints : IsFront old.layers.loaders.constraints new.layers.loaders.constraints
  pub classes : IsFront old.classes new.classes
  pub slots : new.slots ≡ old.slots ++ map blank (drop (length old.classes) new.classes)
  pub kept : IsFront old.kept new.kept
