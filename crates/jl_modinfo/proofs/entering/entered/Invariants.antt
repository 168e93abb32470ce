use Rattle.std.proofs.Common.{◌≡◌, [], take, Ok}
use Rattle.jl_pool.specs.Builder.{fitting}
use Rattle.jl_modinfo.specs.Layout.{with_all}
use Rattle.jl_modinfo.proofs.entering.entered.Given as goal

abbrev pub invariant-loop-constant : goal.invariant-loop-constant
invariant-loop-constant l = fitting (with_all [] (take l.constant-index l.constants)) ≡ Ok l.builder
