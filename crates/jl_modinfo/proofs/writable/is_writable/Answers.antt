use Rattle.std.proofs.Common.{◌≡◌, ◌≤◌, ℕ, subst, ◌∙◌, arith}
use Rattle.std.specs.Prelude.{IsTrue, ◌↔◌}
use Rattle.std.specs.List.{list_all}
use Rattle.std.proofs.lemmas.Result.{IfOk-weaker}
use Rattle.jl_modinfo.specs.Writing.{AreShort, members}
use Rattle.jl_modinfo.specs.Layout.{capped, is_short_constant}
use Rattle.jl_modinfo.proofs.MemberLaws.{writable_is}
use Rattle.jl_modinfo.proofs.writable.is_writable.Goals as goal

pub returns-clause-fine : goal.returns-clause-fine
returns-clause-fine c =
    let d = c.args.d.now in
    let count = c.member_count.ensures in
    let within : capped (members d) ≤ 16777216 = subst (λ (n : ℕ). n ≤ 16777216) count (let few = c.if-member_count-gt-MOST_MEMBERS.false in omega (arith, few)) in
    IfOk-weaker c.are_short.result (λ fine. fine ≡ list_all is_short_constant c.deref.result.now) (λ fine. IsTrue fine ↔ (AreShort d × (members d ≤ 16777216)))
    (λ fine e. writable_is d c.deref.result.now fine (c.deref.ensures.value ∙ c.in_ok-constants.ensures.constants) e within) c.are_short.ensures.fine
