use Rattle.std.proofs.Common.{rules, ◌≡◌, false, ◌∙◌}
use Rattle.jl_logic.specs.Order.{is_text}
use Rattle.jl_modinfo.specs.Meaning.{java_base}
use Rattle.jl_tables.proofs.NameLaws.{required_among}
use Rattle.jl_modinfo.proofs.rules.is_base_right.Goals as goal

pub returns-else-eq : goal.returns-else-eq
returns-else-eq c =
    let other : is_text c.args.name.now java_base ≡ false = search rules in
    rw other (c.is_required.ensures ∙ required_among java_base c.args.required.now)
