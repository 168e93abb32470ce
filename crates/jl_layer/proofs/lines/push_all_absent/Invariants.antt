use Rattle.std.proofs.Common.{◌≡◌, drop}
use Rattle.jl_layer.specs.Lines.{joined}
use Rattle.jl_layer.proofs.lines.push_all_absent.Given as goal

abbrev pub invariant-loop-layer : goal.invariant-loop-layer
invariant-loop-layer l = joined l.line.items (drop l.layer-index l.layers) ≡ joined l.initial.line.items l.layers
