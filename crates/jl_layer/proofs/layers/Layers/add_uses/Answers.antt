use Rattle.jl_access.specs.declared.statement.Statement.TheVariants as statements
use Rattle.jl_layer.proofs.After.{after_adding}
use Rattle.jl_layer.proofs.layers.Layers.add_uses.Goals as goal

pub invariant_of-self : goal.invariant_of-self
invariant_of-self c = (after_adding c.self.inside.registry c.add_uses.new.self (statements.Uses c.args.m c.args.service.now) c.add_uses.result c.self.invariant c.add_uses.ensures.ok c.add_uses.ensures.err c.add_uses.ensures.others).0
