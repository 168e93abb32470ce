use Rattle.std.proofs.Common.{◌≡◌, ◌++◌, map, take}
use Rattle.jl_modinfo.specs.Layout.{required_constant}
use Rattle.jl_modinfo.proofs.named.name_required.Given as goal

abbrev pub invariant-loop-entry : goal.invariant-loop-entry
invariant-loop-entry l = l.found.items ≡ l.initial.found.items ++ map required_constant (take l.entry-index l.required)
