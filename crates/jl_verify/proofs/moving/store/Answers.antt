use Rattle.std.proofs.Common.{◌∙◌, ◌+◌, ◌∷◌, [], List, ap, sym}
use Rattle.jl_vtypes.specs.declared.item.Item.{Item}
use Rattle.jl_vtypes.specs.declared.item.Item.TheVariants as items
use Rattle.jl_verify.specs.Frames.{slots_of}
use Rattle.jl_verify.specs.Rows.{stored}
use Rattle.jl_verify.proofs.StoredLists.{stored_wide}
use Rattle.jl_verify.proofs.moving.store.Goals as goal

pub returns-in_ok-store_slot-2 : goal.returns-in_ok-store_slot-2
returns-in_ok-store_slot-2 c =
    c.in_ok-store_slot-2.ensures
    ∙ ap (λ (xs : List Item). stored xs (c.args.at + 1) (items.Top ∷ [])) c.in_ok-store_slot.ensures
    ∙ stored_wide c.uncut.new.locals.items c.args.at c.args.item (sym c.is_wide-wide.ensures ∙ c.if-wide.true)
    ∙ ap (λ (xs : List Item). stored xs c.args.at (slots_of c.args.item)) c.uncut.ensures
