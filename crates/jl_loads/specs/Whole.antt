-- What a world keeps beside its state. No public clause cites these.
use Rattle.std.specs.Prelude.{◌≡◌, List, Option, Some}
use Rattle.std.specs.Map.{lookup}
use Rattle.jl_prim.specs.declared.numbers.ClassId.{ClassId}
use Rattle.jl_prim.specs.declared.numbers.ModuleId.{ModuleId}
use Rattle.jl_loads.specs.declared.class_key.ClassKey.{ClassKey}
use Rattle.jl_loads.specs.contracts.class_key.ClassKeyPartialEq.TheImpl as keys
use Rattle.jl_loads.specs.declared.rank.Rank.{Rank}
use Rattle.jl_loads.specs.Ranks.{AreRanked}
use Rattle.jl_loads.specs.Worlds.{State, defined}
use Rattle.jl_loads.specs.Laws.{AreSound}

-- the class that a table has for a key
abbrev pub kept_for : List (ClassKey × ClassId) → ClassKey → Option ClassId
kept_for entries k = lookup (keys.eq-value.it k) entries

-- A table of the classes by their keys, what is kept of each, and java.base; what is loaded is sound.
pub record IsWhole (entries : List (ClassKey × ClassId)) (ranks : List Rank) (java_base : ModuleId) (s : State) : Type 0 where
  pub names : (k : ClassKey) → kept_for entries k ≡ defined s k.loader k.name
  pub sound : AreSound s
  pub base : s.layers.loaders.base ≡ Some java_base
  pub ranked : AreRanked ranks s.classes
