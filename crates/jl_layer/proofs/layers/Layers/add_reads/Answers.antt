use Rattle.jl_access.specs.declared.statement.Statement.TheVariants as statements
use Rattle.jl_layer.proofs.After.{after_adding}
use Rattle.jl_layer.proofs.layers.Layers.add_reads.Goals as goal

pub invariant_of-self : goal.invariant_of-self
invariant_of-self c = (after_adding c.self.inside.registry c.add_reads.new.self (statements.Reads c.args.a c.args.b) c.add_reads.result c.self.invariant c.add_reads.ensures.ok c.add_reads.ensures.err c.add_reads.ensures.others).0
