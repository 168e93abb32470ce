use Rattle.std.proofs.Common.{◌∙◌, Bool, sym, ap, true≢false}
use Rattle.std.specs.List.{list_any}
use Rattle.jl_pool.specs.declared.constant.Constant.{Constant}
use Rattle.jl_pool.specs.Builder.{has}
use Rattle.jl_pool.proofs.BuilderLaws.{derived_is}
use Rattle.jl_pool.proofs.builder.PoolBuilder.index.Goals as goal

pub returns-in-None-clause-there : goal.returns-in-None-clause-there
returns-in-None-clause-there c = λ is_there.
    let is = ap (λ (eq : Constant → Constant → Bool). list_any (eq c.args.constant.now) c.self.inside.constants.keys) derived_is in
    let there = ap (λ cs. has cs c.args.constant.now) c.self.view_is ∙ is_there in
    absurd (true≢false (sym there ∙ (sym is ∙ sym c.in-None.ensures.found)))
