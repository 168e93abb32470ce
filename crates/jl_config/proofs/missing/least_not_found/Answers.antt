use Rattle.std.proofs.Common.{◌∙◌, ap, sym, None, option_map, List, ℕ}
use Rattle.jl_config.specs.MissingNames.{lack_of, least_from, all_missing}
use Rattle.jl_config.proofs.MissingWhole.{least_missing_right, none_missing}
use Rattle.jl_config.proofs.missing.least_not_found.Goals as goal

pub returns-in-None : goal.returns-in-None
returns-in-None c =
    let e = c.in_ok-least_missing.ensures in
    none_missing c.args.scene.now c.args.members.now.places.items c.requires (ap (option_map lack_of) (sym c.in-None.is) ∙ e ∙ ap (λ (ps : List ℕ). least_from None (all_missing c.args.scene.now ps)) c.as_slice.ensures.value)

pub returns-in-Some : goal.returns-in-Some
returns-in-Some c =
    let e = c.in_ok-least_missing.ensures in
    least_missing_right c.args.scene.now c.args.members.now.places.items c.requires c.in-Some.missing.name c.in-Some.missing.by (ap (option_map lack_of) (sym c.in-Some.is) ∙ e ∙ ap (λ (ps : List ℕ). least_from None (all_missing c.args.scene.now ps)) c.as_slice.ensures.value)
