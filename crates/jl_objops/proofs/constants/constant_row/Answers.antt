use Rattle.std.proofs.Common.{◌∙◌, sym, ap, subst}
use Rattle.std.proofs.Common.{slice_get}
use Rattle.jl_objops.specs.declared.constants.Constant.{Constant}
use Rattle.jl_objops.specs.Objects.{constant_loaded, constant_of}
use Rattle.jl_objops.specs.Outcomes.{IsRow}
use Rattle.jl_objops.proofs.Ending.{roomy}
use Rattle.jl_objops.proofs.constants.constant_row.Goals as goal

pub returns-in-Class-clause-row : goal.returns-in-Class-clause-row
returns-in-Class-clause-row g c = λ files told.
    let named = sym (sym c.in-Class.is ∙ (c.constant_at.ensures ∙ ap (λ pool. constant_of (slice_get pool c.args.index)) c.pool_of.ensures)) in
    roomy c.args.store.now _ c.args.world.now _ 1 _ _ c.in-Ok.ensures
    (subst (λ (k : Constant). IsRow (constant_loaded files c.args.at c.args.world.now c.args.store.now c.args.caller c.args.index c.args.next k) c.args.store.now c.class_row.result c.class_row.new.world c.class_row.new.store) (sym named) (c.class_row.ensures.row files told))
