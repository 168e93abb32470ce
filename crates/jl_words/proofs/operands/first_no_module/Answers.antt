use Rattle.std.proofs.Common.{refl}
use Rattle.std.specs.String.{string_bytes}
use Rattle.std.specs.Prelude.{not}
use Rattle.jl_prim.specs.Names.{names_a_module}
use Rattle.jl_words.proofs.Placing.{position_from_place}
use Rattle.jl_words.proofs.operands.first_no_module.Goals as goal

pub returns-clause-exact : goal.returns-clause-exact
returns-clause-exact c = position_from_place (λ n. not (names_a_module n)) string_bytes c.args.at c.args.words.now _ _ refl c.place_of_no_module.ensures.exact
