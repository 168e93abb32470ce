use Rattle.std.proofs.Common.{ℕ, List, ap, ◌∙◌}
use Rattle.std.specs.Prelude.{[], ◌∷◌, ◌++◌, codes}
use Rattle.jl_pool.specs.declared.constant.Constant.TheVariants as constants
use Rattle.jl_modinfo.proofs.MoreLaws.{then_more}
use Rattle.jl_modinfo.proofs.named.name_first.Goals as goal

pub returns-clause-constants : goal.returns-clause-constants
returns-clause-constants c =
    let text = constants.Text (codes "Module") ∷ [] in
    let name = constants.Module c.args.d.now.name ∷ [] in
    then_more c.name_module.result _ _ _ (constants.Class (codes "module-info") ∷ []) (text ++ name) (c.in_ok-name_class.ensures.constants ∙ ap (λ (n : List ℕ). c.args.found.now.items ++ constants.Class n ∷ []) c.in_ok-from_text.ensures)
    (then_more c.name_module.result _ _ _ text name c.in_ok-name_text.ensures.constants c.name_module.ensures.constants)
