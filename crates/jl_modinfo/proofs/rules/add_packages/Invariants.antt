use Rattle.std.proofs.Common.{length, ◌≡◌, ◌++◌, map}
use Rattle.jl_names.specs.Names.{package_of}
use Rattle.jl_modinfo.proofs.rules.add_packages.Given as goal

abbrev pub invariant-loop-rest : goal.invariant-loop-rest
invariant-loop-rest l = l.named ++ map package_of l.rest ≡ l.fn.named ++ map package_of l.classes

abbrev pub decreases-loop-rest : goal.decreases-loop-rest
decreases-loop-rest l = length l.rest
