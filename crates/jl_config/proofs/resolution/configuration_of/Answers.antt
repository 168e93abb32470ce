use Rattle.std.proofs.Common.{◌∙◌, ap}
use Rattle.jl_config.specs.MemberRows.{modules_at}
use Rattle.jl_config.proofs.Assembled.{modules_rise}
use Rattle.jl_config.proofs.resolution.configuration_of.Goals as goal

pub from_parts-requires : goal.from_parts-requires
from_parts-requires c =
    let w = c.args.scene.now in
    modules_rise w c.args.members.now.places.items c.from_vec-2.result c.requires.places
    (c.from_vec-2.ensures ∙ c.in_ok-modules.ensures ∙ ap (modules_at w) c.as_slice.ensures.value)
