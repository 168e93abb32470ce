use Rattle.std.proofs.Common.{◌≡◌, ◌++◌, map, take}
use Rattle.jl_modinfo.specs.Layout.{class_constant}
use Rattle.jl_modinfo.proofs.named.name_classes.Given as goal

abbrev pub invariant-loop-name : goal.invariant-loop-name
invariant-loop-name l = l.found.items ≡ l.initial.found.items ++ map class_constant (take l.name-index l.names)
