use Rattle.std.proofs.Common.{◌∙◌, ap, sym}
use Rattle.jl_vtypes.specs.declared.item.Item.{Item}
use Rattle.jl_verify.specs.declared.family.Family.{Family}
use Rattle.jl_verify.specs.declared.family.ValueKind.TheVariants as kinds
use Rattle.jl_verify.specs.Moves.{item_at, or_top}
use Rattle.jl_verify.specs.Rows.{holds_kind, stands}
use Rattle.jl_verify.proofs.Slots.{at_slot}
use Rattle.jl_verify.proofs.applying.stands.Goals as goal

pub returns-in-Load : goal.returns-in-Load
returns-in-Load c =
    c.holds_kind.ensures
    ∙ ap (λ (x : Item). holds_kind c.in-Load.kind x) (ap or_top c.local.ensures ∙ at_slot c.args.f.now.locals c.local_named.result ∙ ap (item_at c.args.f.now.locals) c.local_named.ensures.exact)
    ∙ sym (ap (λ (k : Family). stands c.args.c.now c.args.f.now k c.args.i.now) c.in-Load.is)

pub returns-in-Count : goal.returns-in-Count
returns-in-Count c =
    c.holds_kind-in-Count.ensures
    ∙ ap (λ (x : Item). holds_kind kinds.Int x) (ap or_top c.local-in-Count.ensures ∙ at_slot c.args.f.now.locals c.local_named-in-Count.result ∙ ap (item_at c.args.f.now.locals) c.local_named-in-Count.ensures.exact)
    ∙ sym (ap (λ (k : Family). stands c.args.c.now c.args.f.now k c.args.i.now) c.in-Count.is)
