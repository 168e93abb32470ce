use Rattle.std.proofs.Common.{◌≡◌, ◌++◌, map, take}
use Rattle.jl_modinfo.specs.Layout.{package_constant}
use Rattle.jl_modinfo.proofs.named.name_packages.Given as goal

abbrev pub invariant-loop-name : goal.invariant-loop-name
invariant-loop-name l = l.found.items ≡ l.initial.found.items ++ map package_constant (take l.name-index l.names)
