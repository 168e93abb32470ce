use Rattle.std.proofs.Common.{◌∙◌}
use Rattle.jl_base.proofs.Steps.{first_ready, more}
use Rattle.jl_base.proofs.image.push_classes.Goals as goal

pub class_of_row-requires : goal.class_of_row-requires
class_of_row-requires c = first_ready c.loop-rest.rest.now _ c.in-len1-up.len_at_least c.loop-rest.invariant.right

pub loop-rest-preserved : goal.loop-rest-preserved
loop-rest-preserved c =
    let m = more c.loop-rest.classes.items c.in_ok-class_of_row.field-0 c.loop-rest.rest.now _ c.in-len1-up.len_at_least c.in_ok-class_of_row.ensures c.loop-rest.invariant.right in
    rw c.in_ok-push.ensures.items (record { made = m.made ∙ c.loop-rest.invariant.made; right = m.right })
