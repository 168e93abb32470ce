use Rattle.jl_loads.proofs.Layered.{whole_over}
use Rattle.jl_loads.proofs.loads.Loads.over.Goals as goal

pub invariant_of-result : goal.invariant_of-result
invariant_of-result c =
    whole_over _ _ _ _ _ _ _ _ c.are_laid.ensures c.base_of.ensures c.new-2.ensures.empty c.new.ensures.items c.new-3.ensures c.new-4.ensures.items c.new-5.ensures.empty c.new-6.ensures.items
