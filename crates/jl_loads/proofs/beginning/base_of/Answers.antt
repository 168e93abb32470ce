use Rattle.std.proofs.Common.{◌∙◌}
use Rattle.jl_loads.proofs.Begun.{base_found, base_is_there}
use Rattle.jl_loads.proofs.beginning.base_of.Goals as goal

pub unreachable-requires : goal.unreachable-requires
unreachable-requires c =
    base_is_there c.args.layers.now c.are_sound.ensures c.requires
    (base_found c.args.layers.now c.as_bytes.result.now c.find_module.result c.are_sound.ensures c.requires c.as_bytes.ensures.value c.find_module.ensures ∙ c.in-None.is)

pub returns : goal.returns
returns c =
    base_found c.args.layers.now c.as_bytes.result.now c.find_module.result c.are_sound.ensures c.requires c.as_bytes.ensures.value c.find_module.ensures ∙ c.in-Some.is
