use Rattle.jl_loads.proofs.Layered.{whole_grows}
use Rattle.jl_loads.proofs.loads.Loads.add_uses.Goals as goal

pub invariant_of-self : goal.invariant_of-self
invariant_of-self c = whole_grows c.self.inside.names.entries c.self.inside.base _ _ c.add_uses-end.ensures.grows c.are_laid.ensures c.self.invariant
