use Rattle.std.proofs.Common.{◌≡◌, ℕ, ◌+◌, ◌<◌, ◌∙◌, Bool, sym, ap, subst, true, length}
use Rattle.std.specs.List.{position_or_len}
use Rattle.jl_pool.specs.declared.constant.Constant.{Constant}
use Rattle.jl_pool.specs.declared.constant.Constant.TheVariants as constants
use Rattle.jl_pool.specs.Builder.{AreKept, has, with_constant, index_of, text_in}
use Rattle.jl_pool.proofs.BuilderLaws.{kept_with, index_new, inserted, derived_is}
use Rattle.jl_pool.proofs.builder.PoolBuilder.add.Goals as goal

pub invariant_of-self-2 : goal.invariant_of-self-2
invariant_of-self-2 c =
    let keys = c.self.inside.constants.keys in
    let is = c.in_ok-at.ensures.keys ∙ inserted keys c.args.constant in
    let text = subst (λ cs. has (with_constant cs c.args.constant) (constants.Text (text_in c.args.constant)) ≡ true) (sym c.self.view_is) c.requires.text in
    let room = subst (λ cs. length (with_constant cs c.args.constant) < 65535) (sym c.self.view_is) c.requires.room in
    subst AreKept (sym is) (kept_with keys c.args.constant c.self.invariant c.requires.utf8 c.requires.short text room)

pub returns-clause-index : goal.returns-clause-index
returns-clause-index c =
    let keys = c.self.inside.constants.keys in
    let is = c.in_ok-at.ensures.keys ∙ inserted keys c.args.constant in
    ap (λ (n : ℕ). n + 1) (c.in_ok-at.ensures.index ∙ ap (λ (eq : Constant → Constant → Bool). position_or_len (eq c.args.constant) keys) derived_is)
    ∙ (sym (index_new keys c.args.constant) ∙ ap (λ l. index_of l c.args.constant) (sym is))
