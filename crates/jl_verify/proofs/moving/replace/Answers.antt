use Rattle.std.proofs.Common.{◌∙◌, ℕ, List, get_or, set, ap}
use Rattle.jl_vtypes.specs.declared.item.Item.{Item}
use Rattle.jl_verify.specs.Rows.{in_place_of}
use Rattle.jl_verify.proofs.StoredLists.{item_left, item_done}
use Rattle.jl_verify.proofs.moving.replace.Goals as goal

pub loop-item-preserved : goal.loop-item-preserved
loop-item-preserved c =
    let f : Item → Item = in_place_of c.args.old.now c.args.new.now in
    let xs : List Item = c.deref_mut-item-items.result.now in
    let i : ℕ = c.loop-item.item-index in
    let d : Item = c.item-item.result in
    let v : Item = c.change.new.item in
    ap (λ (ys : List Item). set ys i v) c.loop-item.invariant
    ∙ item_done f xs i d c.loop-item-test.true v (c.in_ok-change.ensures ∙ ap f (ap (λ (ys : List Item). get_or ys i d) c.loop-item.invariant ∙ item_left f xs i d c.loop-item-test.true))
