-- What is kept of each class beside it. No public clause cites these.
use Rattle.std.specs.Prelude.{◌≡◌, List, [], ◌∷◌, ◌++◌, length, Some, if◌then◌else◌}
use Rattle.std.specs.List.{flat_map}
use Rattle.std.specs.Option.{option_map_or}
use Rattle.jl_layer.specs.Layers.{numbered}
use Rattle.jl_prim.specs.declared.numbers.ClassId.{ClassId}
use Rattle.jl_loads.specs.declared.rank.Rank.{Rank}
use Rattle.jl_loads.specs.Worlds.{State, Loaded, IsClass, is_among, each_once, superinterfaces, all_fields, all_methods, fields_before, methods_before}

-- what is kept of a class
abbrev pub rank_of : State → ClassId → Rank
rank_of s c = record { above = superinterfaces s c; fields = fields_before s c; methods = methods_before s c }

-- Of each class its superinterfaces are kept, and how many members there are before its own.
pub record AreRanked (ranks : List Rank) (classes : List Loaded) : Type 0 where
  pub long : length ranks ≡ length classes
  pub each : (s : State) (c : ClassId) → s.classes ≡ classes → IsClass s c → numbered ranks c.0 ≡ Some (rank_of s c)

-- one class behind others, if it is not among them
abbrev pub with_one : List ClassId → ClassId → List ClassId
with_one cs c = if is_among c cs then cs else cs ++ c ∷ []

-- classes behind others, each if it is not there yet
unfoldable pub with_more : List ClassId → List ClassId → List ClassId
with_more cs [] = cs
with_more cs (d ∷ ds) = with_more (with_one cs d) ds

-- interfaces, each behind its own superinterfaces
abbrev pub with_above : State → List ClassId → List ClassId
with_above s is = flat_map (λ (i : ClassId). superinterfaces s i ++ i ∷ []) is

-- the superinterfaces of a class that stands over these
abbrev pub above_new : State → Loaded → List ClassId
above_new s x = each_once (with_above s x.interfaces ++ option_map_or (superinterfaces s) x.super [])

-- what is to be kept of a class that stands over these
abbrev pub rank_new : State → Loaded → Rank
rank_new s x = record { above = above_new s x; fields = all_fields s; methods = all_methods s }
