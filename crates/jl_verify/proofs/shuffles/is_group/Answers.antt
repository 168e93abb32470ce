use Rattle.std.proofs.Common.{◌≡◌, ◌+◌, ℕ, List, Option, Some, None, drop, slice_get, ap, ap₂, sym, ◌∙◌}
use Rattle.std.specs.Option.{option_copied}
use Rattle.jl_vtypes.specs.declared.item.Item.{Item}
use Rattle.jl_verify.specs.declared.family.Group.{Group}
use Rattle.jl_verify.specs.declared.family.Group.TheVariants.{One, Two}
use Rattle.jl_verify.specs.Moves.{is_group}
use Rattle.jl_verify.proofs.GroupLists.{is_group_by, group_below}
use Rattle.jl_verify.proofs.shuffles.is_group.Goals as goal

-- the group, by the two slots that are read
read : (group g : Group) (stack : List Item) (d : ℕ) (higher lower : Option Item) → group ≡ g → higher ≡ slice_get stack d → lower ≡ slice_get stack (d + 1) → is_group_by g higher lower ≡ is_group group (drop d stack)
read group g stack d higher lower e h l = ap₂ (λ (a b : Option Item). is_group_by g a b) h l ∙ sym (ap (λ (k : Group). is_group k (drop d stack)) e ∙ group_below g stack d)

pub returns-in-One-Some-default : goal.returns-in-One-Some-default
returns-in-One-Some-default c =
    c.is_single.ensures
    ∙ read c.args.group One c.args.f.now.stack c.args.depth (Some c.in-One-Some-default.item.now) (slice_get c.args.f.now.stack (c.args.depth + 1)) c.in-One-Some-default.is-0 (sym (ap option_copied c.in-One-Some-default.is-1) ∙ c.slot.ensures)
    (λ i. slice_get c.args.f.now.stack (c.args.depth + 1))

pub returns-in-Two-Some-Some : goal.returns-in-Two-Some-Some
returns-in-Two-Some-Some c =
    let h = c.in-Two-Some-Some in
    c.are_two.ensures
    ∙ read c.args.group Two c.args.f.now.stack c.args.depth (Some h.higher.now) (Some h.lower.now) h.is-0 (sym (ap option_copied h.is-1) ∙ c.slot.ensures) (sym (ap option_copied h.is-2) ∙ c.slot-2.ensures)

pub returns-in_default : goal.returns-in_default
returns-in_default c =
    read c.args.group One c.args.f.now.stack c.args.depth None (slice_get c.args.f.now.stack (c.args.depth + 1)) c.in_default.is-0 (sym (ap option_copied c.in_default.is-1) ∙ c.slot.ensures)
    (λ i. slice_get c.args.f.now.stack (c.args.depth + 1))

pub returns-in_default-2 : goal.returns-in_default-2
returns-in_default-2 c =
    read c.args.group Two c.args.f.now.stack c.args.depth (Some c.in_default.field-0-1.now) None c.in_default.is-0 (sym (ap option_copied c.in_default.is-1) ∙ c.slot.ensures) (sym (ap option_copied c.in_default.is-2) ∙ c.slot-2.ensures)

pub returns-in_default-3 : goal.returns-in_default-3
returns-in_default-3 c =
    read c.args.group Two c.args.f.now.stack c.args.depth None (slice_get c.args.f.now.stack (c.args.depth + 1)) c.in_default.is-0 (sym (ap option_copied c.in_default.is-1) ∙ c.slot.ensures)
    (λ i. slice_get c.args.f.now.stack (c.args.depth + 1))
