-- Targets whose numbers name something (JVMS 5.4.3).
use Rattle.std.specs.Prelude.{◌<◌, ⊤}
use Rattle.jl_loads.specs.declared.slot.Target.{Target}
use Rattle.jl_loads.specs.declared.slot.Target.TheVariants as targets
use Rattle.jl_loads.specs.Worlds.{State, IsClass, all_fields, all_methods}

-- what a target names is there
abbrev pub IsTargetThere : State → Target → Type 0
IsTargetThere s (targets.Class c) = IsClass s c
IsTargetThere s (targets.Array text) = ⊤
IsTargetThere s (targets.Field f) = f.0 < all_fields s
IsTargetThere s (targets.Method m) = m.0 < all_methods s
