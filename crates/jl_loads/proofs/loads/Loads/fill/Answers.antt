use Rattle.jl_loads.proofs.Filling.{slot_set, whole_slot}
use Rattle.jl_loads.proofs.loads.Loads.fill.Goals as goal

pub invariant_of-self : goal.invariant_of-self
invariant_of-self c =
    whole_slot c.self.inside.names.entries c.self.inside.base _ _ c.args.c c.args.index c.args.slot c.index_mut.result.now c.set.new.self c.self.view_is c.requires.class c.index_mut.ensures.value c.set.ensures c.self.invariant

pub returns : goal.returns
returns c =
    slot_set _ _ c.args.c c.args.index c.args.slot c.index_mut.result.now c.set.new.self c.self.invariant.sound c.self.view_is c.requires.class c.index_mut.ensures.value c.set.ensures
