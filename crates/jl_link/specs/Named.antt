-- The class that a loader has loaded under a name (JVMS 5.3).
use Rattle.std.specs.Prelude.{ℕ, List, Option}
use Rattle.std.specs.Option.{option_and_then}
use Rattle.jl_prim.specs.declared.numbers.ClassId.{ClassId}
use Rattle.jl_prim.specs.declared.numbers.LoaderId.{LoaderId}
use Rattle.jl_prim.specs.declared.numbers.ModuleId.{ModuleId}
use Rattle.jl_loaders.specs.Loaders.{lead}
use Rattle.jl_loads.specs.Worlds.{State, defined, loader_of_module}

-- that of the loader of the module to which the name leads
abbrev pub loaded_as : State → LoaderId → List ℕ → Option ClassId
loaded_as s l name = option_and_then (λ (m : ModuleId). defined s (loader_of_module s m) name) (lead s.layers.loaders l name)
