use Rattle.std.proofs.Common.{◌∙◌, ◌∷◌, [], List, ap, arith}
use Rattle.jl_vtypes.specs.declared.item.Item.{Item}
use Rattle.jl_verify.specs.Rows.{stored}
use Rattle.jl_verify.proofs.StoredLists.{stored_longer}
use Rattle.jl_verify.proofs.moving.fill.Goals as goal

pub loop-locals-preserved : goal.loop-locals-preserved
loop-locals-preserved c = λ item.
    ap (λ (xs : List Item). stored xs c.args.at (item ∷ [])) c.in_ok-push.ensures.items
    ∙ stored_longer c.loop-locals.locals.items c.args.at item (omega (arith, c.len.ensures, c.loop-locals-test.true, c.loop-locals.locals.ok.0))
    ∙ c.loop-locals.invariant item
