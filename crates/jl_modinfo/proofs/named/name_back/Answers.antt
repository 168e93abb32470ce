use Rattle.std.proofs.Common.{ℕ, List, ap, ◌∙◌}
use Rattle.std.specs.Prelude.{[], ◌∷◌, ◌++◌, map, codes}
use Rattle.jl_pool.specs.declared.constant.Constant.TheVariants as constants
use Rattle.jl_modinfo.specs.Layout.{package_constant, main_constants}
use Rattle.jl_modinfo.proofs.MoreLaws.{then_more}
use Rattle.jl_modinfo.proofs.named.name_back.Goals as goal

pub returns-clause-constants : goal.returns-clause-constants
returns-clause-constants c =
    let packages = map package_constant c.args.d.now.packages in
    let main = main_constants c.args.d.now.main in
    then_more c.name_main.result _ _ _ (constants.Text (codes "ModulePackages") ∷ []) (packages ++ main) c.in_ok-name_text.ensures.constants
    (then_more c.name_main.result _ _ _ packages main (c.in_ok-name_packages.ensures.constants ∙ ap (λ (l : List (List ℕ)). c.name_text.new.found.items ++ map package_constant l) c.as_slice.ensures) c.name_main.ensures.constants)
