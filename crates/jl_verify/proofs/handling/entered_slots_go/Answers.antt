use Rattle.std.proofs.Common.{[], ◌∷◌, reverse}
use Rattle.jl_verify.specs.Rules.{items_go}
use Rattle.jl_verify.proofs.Comings.{both_err}
use Rattle.jl_verify.proofs.Prefixes.{both_on, both_off}
use Rattle.jl_verify.proofs.handling.entered_slots_go.Goals as goal

pub returns-in-Ok-true : goal.returns-in-Ok-true
returns-in-Ok-true g c =
    both_on g.H.Hierarchy.step (items_go c.args.f.now.locals c.args.to.now.locals) (items_go (c.args.item.now ∷ []) (reverse c.args.to.now.stack)) c.args.h.now c.locals_go.new.h c.only_item_goes.result c.only_item_goes.new.h
    c.in-Ok-true.field-0 c.in-Ok-true.field-0-test c.in-Ok-true.ensures c.only_item_goes.ensures

pub returns-in-Ok-false : goal.returns-in-Ok-false
returns-in-Ok-false g c =
    both_off g.H.Hierarchy.step (items_go c.args.f.now.locals c.args.to.now.locals) (items_go (c.args.item.now ∷ []) (reverse c.args.to.now.stack)) c.args.h.now c.locals_go.new.h
    c.in-Ok-false.field-0 c.in-Ok-false.field-0-test c.in-Ok-false.ensures

pub returns-in-Err : goal.returns-in-Err
returns-in-Err g c =
    both_err g.H.Hierarchy.step (items_go c.args.f.now.locals c.args.to.now.locals) (items_go (c.args.item.now ∷ []) (reverse c.args.to.now.stack)) c.in-Err.fault c.args.h.now c.locals_go.new.h c.in-Err.ensures
