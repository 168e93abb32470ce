use Rattle.std.proofs.Common.{◌∙◌}
use Rattle.jl_base.proofs.Steps.{first_part, more_parts}
use Rattle.jl_base.proofs.image.classes.Goals as goal

pub push_classes-requires : goal.push_classes-requires
push_classes-requires c = first_part c.loop-rest.rest.now _ c.in-len1-up.len_at_least c.loop-rest.invariant.right

pub loop-rest-preserved : goal.loop-rest-preserved
loop-rest-preserved c =
    let m = more_parts c.loop-rest.classes.items c.loop-rest.rest.now _ c.in-len1-up.len_at_least c.loop-rest.invariant.right in
    rw c.in_ok-push_classes.ensures (record { made = m.made ∙ c.loop-rest.invariant.made; right = m.right })
