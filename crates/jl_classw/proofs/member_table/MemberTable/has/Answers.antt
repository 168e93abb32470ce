use Rattle.std.proofs.Common.{◌∙◌, ℕ, Option, map, sym, ap}
use Rattle.jl_class.specs.declared.member.MemberKey.{MemberKey}
use Rattle.jl_class.specs.Meaning.{is_member_among}
use Rattle.jl_classw.specs.Hints.{stands_at, stands_noted}
use Rattle.jl_classw.proofs.HintLaws.{has_is}
use Rattle.jl_classw.proofs.member_table.MemberTable.has.Goals as goal

pub returns-in-Some : goal.returns-in-Some
returns-in-Some g c =
    let key = g.T.Member.key in
    let wanted : MemberKey = record { name = c.args.name.now; desc = c.args.desc.now } in
    let xs = c.self.inside.members.items in
    c.stands_at.ensures ∙ ap (λ l. stands_at (map key l) c.in-Some.at wanted) c.as_slice.ensures.value
    ∙ ap (λ (o : Option ℕ). stands_noted (map key xs) o wanted) c.in-Some.ensures
    ∙ sym (has_is c.self.inside.places (map key xs) c.self.invariant wanted) ∙ ap (λ l. is_member_among wanted (map key l)) c.self.view_is

pub returns-in-None : goal.returns-in-None
returns-in-None g c =
    let key = g.T.Member.key in
    let wanted : MemberKey = record { name = c.args.name.now; desc = c.args.desc.now } in
    let xs = c.self.inside.members.items in
    ap (λ (o : Option ℕ). stands_noted (map key xs) o wanted) c.in-None.ensures
    ∙ sym (has_is c.self.inside.places (map key xs) c.self.invariant wanted) ∙ ap (λ l. is_member_among wanted (map key l)) c.self.view_is
