use Rattle.std.proofs.Common.{◌≡◌, ◌∙◌, sym, ap, List, [], length, true≢false, refl}
use Rattle.std.specs.Bool.{◌==◌}
use Rattle.jl_prim.specs.declared.numbers.ConfigId.{ConfigId}
use Rattle.jl_config.specs.Resolves.{asked}
use Rattle.jl_config.proofs.Decided.{after_parents}
use Rattle.jl_config.proofs.resolution.resolve.Goals as goal

pub returns-clause-resolves : goal.returns-clause-resolves
returns-clause-resolves c =
    let q = asked c.args.known.now c.args.before.now.modules c.args.parents.now c.args.after.now.modules c.args.roots.now c.args.bind in
    let some : c.args.parents.now ≡ [] → ⊥ = λ e. true≢false (sym (ap (λ (ps : List ConfigId). length ps == 0) e) ∙ sym c.is_empty.ensures ∙ c.if-is_empty.false) in
    c.resolve_over.ensures.resolves q c.in_ok-scene.ensures refl refl (after_parents q some)

pub returns-clause-justified : goal.returns-clause-justified
returns-clause-justified c =
    c.resolve_over.ensures.justified (asked c.args.known.now c.args.before.now.modules c.args.parents.now c.args.after.now.modules c.args.roots.now c.args.bind) c.in_ok-scene.ensures
