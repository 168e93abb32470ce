use Rattle.std.proofs.Common.{◌≡◌, ◌∙◌, sym, ap, subst, true}
use Rattle.jl_pool.specs.declared.constant.Constant.TheVariants as constants
use Rattle.jl_pool.specs.declared.constant.Constant.{Constant}
use Rattle.jl_pool.specs.Builder.{has, with_constant, text_in}
use Rattle.jl_pool.proofs.BuilderLaws.{has_new, has_kept}
use Rattle.jl_pool.proofs.builder.PoolBuilder.enter.Goals as goal

pub add-requires-clause-text : goal.add-requires-clause-text
add-requires-clause-text c =
    subst (λ (t : Constant). has (with_constant c.args.self.now t) (constants.Text (text_in t)) ≡ true) (sym c.in_ok-text.ensures.text) (has_new c.args.self.now (constants.Text (text_in c.args.constant)))

pub add-requires-2-clause-text : goal.add-requires-2-clause-text
add-requires-2-clause-text c =
    let t = constants.Text (text_in c.args.constant) in
    let is = c.in_ok-add.ensures.ok ∙ ap (with_constant c.args.self.now) c.in_ok-text.ensures.text in
    subst (λ cs. has (with_constant cs c.args.constant) t ≡ true) (sym is) (has_kept (with_constant c.args.self.now t) c.args.constant t (has_new c.args.self.now t))
