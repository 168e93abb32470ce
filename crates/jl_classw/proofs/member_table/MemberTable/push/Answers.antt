use Rattle.std.proofs.Common.{◌≡◌, ◌∙◌, Some, false, length, map, sym, subst, rules}
use Rattle.std.specs.Prelude.{if◌then◌else◌}
use Rattle.jl_class.specs.declared.member.MemberKey.{MemberKey}
use Rattle.jl_class.specs.Meaning.{is_same_member, is_member_among}
use Rattle.jl_classw.specs.Hints.{place_of}
use Rattle.jl_classw.proofs.HintLaws.{found_push, found_kept}
use Rattle.jl_classw.proofs.member_table.MemberTable.push.Goals as goal

pub invariant_of-self-in_err-push : goal.invariant_of-self-in_err-push
invariant_of-self-in_err-push g c =
    let key = g.T.Member.key in
    let x = c.args.member in
    let xs = c.self.inside.members.items in
    let old = c.self.inside.places in
    let new = c.note_place.new.places in
    let name = c.in_ok-name.ensures ∙ c.name.ensures in
    let desc = c.in_ok-desc.ensures ∙ c.desc.ensures in
    let len : c.len.result ≡ length xs = search rules in
    let fresh = subst (λ l. is_member_among (key x) (map key l) ≡ false) (sym c.self.view_is) c.requires in
    let noted : (k : MemberKey) → place_of new k ≡ (if is_same_member (key x) k then Some (length xs) else place_of old k) =
    λ k. c.in_ok-note_place.ensures.ok k ∙ (λ i. if is_same_member (record { name = name i; desc = desc i }) k then Some (len i) else place_of old k) in
    found_kept key old new xs c.push.new.self.items x c.self.invariant fresh noted c.in_err-push.ensures.items

pub invariant_of-self-2 : goal.invariant_of-self-2
invariant_of-self-2 g c =
    let key = g.T.Member.key in
    let x = c.args.member in
    let xs = c.self.inside.members.items in
    let old = c.self.inside.places in
    let new = c.note_place.new.places in
    let name = c.in_ok-name.ensures ∙ c.name.ensures in
    let desc = c.in_ok-desc.ensures ∙ c.desc.ensures in
    let len : c.len.result ≡ length xs = search rules in
    let fresh = subst (λ l. is_member_among (key x) (map key l) ≡ false) (sym c.self.view_is) c.requires in
    let noted : (k : MemberKey) → place_of new k ≡ (if is_same_member (key x) k then Some (length xs) else place_of old k) =
    λ k. c.in_ok-note_place.ensures.ok k ∙ (λ i. if is_same_member (record { name = name i; desc = desc i }) k then Some (len i) else place_of old k) in
    found_push key old new xs c.push.new.self.items x c.self.invariant fresh noted c.in_ok-push.ensures.items
