use Rattle.jl_loads.proofs.Layered.{whole_report}
use Rattle.jl_loads.proofs.loads.Loads.note.Goals as goal

pub invariant_of-self : goal.invariant_of-self
invariant_of-self c =
    whole_report c.self.inside.names.entries c.self.inside.base _ c.args.key c.args.step c.note.result c.note.new.self c.note.ensures.noted c.note.ensures.err c.self.invariant
