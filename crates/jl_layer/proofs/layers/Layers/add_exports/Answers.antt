use Rattle.jl_access.specs.Facts as access
use Rattle.jl_access.specs.declared.statement.Statement.TheVariants as statements
use Rattle.jl_layer.proofs.After.{after_adding}
use Rattle.jl_layer.proofs.layers.Layers.add_exports.Goals as goal

pub invariant_of-self : goal.invariant_of-self
invariant_of-self c = (after_adding c.self.inside.registry c.add_exports.new.self (statements.Exports c.args.m c.args.name.now (access.reach_of c.args.to)) c.add_exports.result c.self.invariant c.add_exports.ensures.ok c.add_exports.ensures.err c.add_exports.ensures.others).0
