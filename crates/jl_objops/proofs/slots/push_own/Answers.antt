use Rattle.std.proofs.Common.{◌∙◌, ◌++◌, ap}
use Rattle.jl_objops.specs.Fields.{declared}
use Rattle.jl_loads.specs.Worlds.{fields_of}
use Rattle.jl_objops.proofs.Ending.{does_on}
use Rattle.jl_objops.proofs.Lines.{both_added}
use Rattle.jl_objops.proofs.slots.push_own.Goals as goal

pub returns : goal.returns
returns c =
    let more = declared (fields_of c.args.world.now c.args.c) in
    does_on _ _ _ c.args.kinds.now.items c.push_fields.result c.push_fields.new.kinds.items
    (ap (λ l. l ++ more) (c.in_ok-extend_from_slice.ensures.items ∙ ap (λ l. c.args.kinds.now.items ++ l) c.hidden_of.ensures.kinds) ∙ both_added c.args.kinds.now.items _ more)
    c.push_fields.ensures
