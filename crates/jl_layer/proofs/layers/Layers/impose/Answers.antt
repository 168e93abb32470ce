use Rattle.jl_layer.proofs.After.{after_imposing}
use Rattle.jl_layer.proofs.layers.Layers.impose.Goals as goal

pub invariant_of-self : goal.invariant_of-self
invariant_of-self c = (after_imposing c.self.inside.registry c.impose.new.self c.args.name.now c.args.l c.args.l2 c.impose.result c.self.invariant c.impose.ensures.adds c.impose.ensures.before).0
