use Rattle.std.proofs.Common.{◌∙◌}
use Rattle.jl_base.proofs.Steps.{first_may, goes_on}
use Rattle.jl_base.proofs.building.add_members.Goals as goal

pub add_member-requires : goal.add_member-requires
add_member-requires c = first_may c.loop-rest.builder c.loop-rest.rest.now _ c.in-len1-up.len_at_least c.loop-rest.invariant.right

pub loop-rest-preserved : goal.loop-rest-preserved
loop-rest-preserved c =
    let g = goes_on c.loop-rest.builder c.add_member.new.builder c.loop-rest.rest.now _ c.in-len1-up.len_at_least c.in_ok-add_member.ensures c.loop-rest.invariant.right in
    record { made = g.made ∙ c.loop-rest.invariant.made; right = g.right }
