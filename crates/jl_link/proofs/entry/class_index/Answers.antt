use Rattle.std.proofs.Common.{◌≡◌, ◌∙◌, sym, ap, subst, None}
use Rattle.jl_class.specs.Classes.{Class}
use Rattle.jl_pool.specs.Pool.{member_of}
use Rattle.jl_link.proofs.Naming.{class_of_member}
use Rattle.jl_link.proofs.entry.class_index.Goals as goal

pub returns-in-Some-clause-class : goal.returns-in-Some-clause-class
returns-in-Some-clause-class c = λ from there.
    let is = rw there at c.class.ensures in
    let named = ap (λ p. member_of p c.args.index) (sym c.pool.ensures.pool) ∙ sym c.member.ensures ∙ c.in-Some.is in
    subst (λ (k : Class). member_of k.pool c.in-Some.class ≡ None) (c.deref.ensures ∙ is)
    (class_of_member c.pool.ensures.declared.0 8 c.deref.result.now.pool c.pool.ensures.declared.1.pool_end c.args.index (c.in-Some.field-0-0, c.in-Some.class, c.in-Some.field-0-2) c.pool.ensures.declared.1.pool named)
