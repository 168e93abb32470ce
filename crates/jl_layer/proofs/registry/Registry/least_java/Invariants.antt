use Rattle.std.proofs.Common.{◌≡◌, take}
use Rattle.jl_layer.specs.Deciding.{java_packages}
use Rattle.jl_layer.proofs.registry.Registry.least_java.Given as goal

abbrev pub invariant-loop-module : goal.invariant-loop-module
invariant-loop-module l = l.found.items ≡ java_packages (take l.module-index l.module-items)
