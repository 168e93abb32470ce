use Rattle.std.proofs.Common.{◌≡◌, ◌∙◌, true, sym, subst}
use Rattle.jl_optable.specs.Attributes.{name_of}
use Rattle.jl_class.specs.Spelling.{names_form}
use Rattle.jl_classw.specs.Building.{Making}
use Rattle.jl_classw.proofs.NestsGiven.{form_read}
use Rattle.jl_classw.proofs.builder.ClassBuilder.attribute_named.Goals as goal

pub attribute_of-requires-clause-read : goal.attribute_of-requires-clause-read
attribute_of-requires-clause-read c =
    let form = c.in-Some.form in
    subst (λ (m : Making). names_form m.class.major form (name_of form) ≡ true) c.self.view_is (form_read c.self.inside.major c.args.name.now form (sym c.row.ensures ∙ c.in-Some.is))
