use Rattle.jl_access.specs.Facts as access
use Rattle.jl_access.specs.declared.statement.Statement.TheVariants as statements
use Rattle.jl_layer.proofs.After.{after_adding}
use Rattle.jl_layer.proofs.layers.Layers.add_opens.Goals as goal

pub invariant_of-self : goal.invariant_of-self
invariant_of-self c = (after_adding c.self.inside.registry c.add_opens.new.self (statements.Opens c.args.m c.args.name.now (access.reach_of c.args.to)) c.add_opens.result c.self.invariant c.add_opens.ensures.ok c.add_opens.ensures.err c.add_opens.ensures.others).0
