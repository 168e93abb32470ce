use Rattle.std.specs.Prelude.{[], ◌∷◌, codes}
use Rattle.jl_pool.specs.declared.constant.Constant.TheVariants as constants
use Rattle.jl_modinfo.proofs.MoreLaws.{then_more}
use Rattle.jl_modinfo.proofs.named.name_main_class.Goals as goal

pub returns-clause-constants : goal.returns-clause-constants
returns-clause-constants c =
    then_more c.name_class.result _ _ _ (constants.Text (codes "ModuleMainClass") ∷ []) (constants.Class c.args.class.now ∷ []) c.in_ok-name_text.ensures.constants c.name_class.ensures.constants
