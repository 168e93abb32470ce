use Rattle.std.proofs.Common.{◌≡◌, ◌++◌, take}
use Rattle.std.specs.List.{flat_map}
use Rattle.jl_modinfo.specs.Layout.{provides_constants}
use Rattle.jl_modinfo.proofs.named.name_services.Given as goal

abbrev pub invariant-loop-service : goal.invariant-loop-service
invariant-loop-service l = l.found.items ≡ l.initial.found.items ++ flat_map provides_constants (take l.service-index l.provides)
