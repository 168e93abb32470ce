use Rattle.std.proofs.Common.{◌≡◌, ◌++◌, take}
use Rattle.std.specs.List.{flat_map}
use Rattle.jl_modinfo.specs.Layout.{grant_constants}
use Rattle.jl_modinfo.proofs.named.name_grants.Given as goal

abbrev pub invariant-loop-grant : goal.invariant-loop-grant
invariant-loop-grant l = l.found.items ≡ l.initial.found.items ++ flat_map grant_constants (take l.grant-index l.grants)
