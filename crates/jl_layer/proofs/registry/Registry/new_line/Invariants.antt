use Rattle.std.proofs.Common.{◌≡◌, ◌∷◌, [], drop}
use Rattle.jl_layer.specs.Defining.{next_layer}
use Rattle.jl_layer.specs.Lines.{above_in, joined}
use Rattle.jl_layer.proofs.registry.Registry.new_line.Given as goal

abbrev pub invariant-loop-parent : goal.invariant-loop-parent
invariant-loop-parent l = joined l.line.items (above_in l.self.layers (drop l.parent-index l.parents)) ≡ joined (next_layer l.self ∷ []) (above_in l.self.layers l.parents)
