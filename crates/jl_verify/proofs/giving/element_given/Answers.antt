use Rattle.std.proofs.Common.{◌≡◌, ◌∙◌, IfOk, ap, sym, subst}
use Rattle.jl_vtypes.specs.declared.item.Item.{Item}
use Rattle.jl_verify.specs.declared.family.Elements.{Elements}
use Rattle.jl_verify.specs.Moves.{or_top, element_of, element_given}
use Rattle.jl_verify.proofs.Slots.{at_slot}
use Rattle.jl_verify.proofs.giving.element_given.Goals as goal

pub returns-in-References : goal.returns-in-References
returns-in-References c =
    subst (λ (x : Item). IfOk c.element_of.result (λ item. item ≡ x))
    (ap (λ (x : Item). element_of x) (ap or_top c.slot.ensures ∙ at_slot c.args.f.now.stack 1) ∙ sym (ap (λ (k : Elements). element_given k c.args.f.now.stack) c.in-References.is)) c.element_of.ensures
