-- How the parts of new loaders are gathered: a row for each loader (JVMS 5.3). No public clause cites these.
use Rattle.std.specs.Prelude.{ℕ, ◌+◌, List, [], ◌∷◌, ◌++◌, map, Option, Some, ◌==◌, if◌then◌else◌}
use Rattle.std.specs.Option.{option_map_or}
use Rattle.std.specs.List.{flat_map, range_with_len}
use Rattle.jl_prim.specs.declared.numbers.ModuleId.{ModuleId}
use Rattle.jl_prim.specs.declared.declaration.ParentLoader.{ParentLoader}
use Rattle.jl_loaders.specs.Loaders as delegation
use Rattle.jl_layer.specs.declared.loader_rows.Row.{Row}
use Rattle.jl_layer.specs.declared.layer.Member.{Member}
use Rattle.jl_layer.specs.Layers.{State, member_of}
use Rattle.jl_layer.specs.Meaning.{exported_to}
use Rattle.jl_layer.specs.Defining.{own_of, seen_of, with_module}

-- packages with their modules
abbrev pub Pairs : Type 0
Pairs = List (List ℕ × ModuleId)

-- a row with more packages of its own
abbrev pub with_own : Pairs → Row → Row
with_own pairs r = record { own = r.own ++ pairs; seen = r.seen }

-- a row with more packages that are seen
abbrev pub with_seen : Pairs → Row → Row
with_seen pairs r = record { own = r.own; seen = r.seen ++ pairs }

-- the row of one number changed, where rows have numbers from the first on
abbrev pub changed : ℕ → ℕ → (Row → Row) → List Row → List Row
changed first number change [] = []
changed first number change (r ∷ rs) = (if number == first then change r else r) ∷ changed (first + 1) number change rs

-- what modules and reads give to the loader with a number
abbrev pub row_of : State → List ModuleId → List (ModuleId × ModuleId) → ℕ → Row
row_of s ms reads n = record { own = flat_map (own_of s (record { 0 = n })) ms; seen = flat_map (seen_of s (record { 0 = n })) reads }

-- a row for each of so many loaders, from the first number on
abbrev pub rows_of : State → ℕ → ℕ → List ModuleId → List (ModuleId × ModuleId) → List Row
rows_of s first count ms reads = map (row_of s ms reads) (range_with_len first count)

-- the parts that a row makes
abbrev pub parts_by : ParentLoader → Row → delegation.Parts
parts_by parent r = record { own = r.own; seen = r.seen; parent = parent }

-- a module's packages in the row of its loader
abbrev pub owned : State → ℕ → ModuleId → List Row → List Row
owned s first m rows = option_map_or (λ (x : Member). changed first x.loader.0 (with_own (with_module m x.observed.declaration.packages)) rows) (member_of s m) rows

-- what a module exports to a module of another loader, in that one's row
abbrev pub shown : ℕ → ModuleId → Option Member → Option Member → List Row → List Row
shown first m (Some x) (Some y) rows = if x.loader.0 == y.loader.0 then rows else changed first x.loader.0 (with_seen (with_module m (exported_to y.observed.declaration x.observed.declaration.name))) rows
shown first m _ _ rows = rows
