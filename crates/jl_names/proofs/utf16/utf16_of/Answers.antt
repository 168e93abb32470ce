use Rattle.jl_names.proofs.Utf16Laws.{are_units, are_back, are_paired}
use Rattle.jl_names.proofs.utf16.utf16_of.Goals as goal

pub returns-clause-units : goal.returns-clause-units
returns-clause-units c = are_units c.args.text.now c.all_characters.result c.utf8.text c.all_characters.ensures.value

pub returns-clause-back : goal.returns-clause-back
returns-clause-back c = are_back c.args.text.now c.all_characters.result c.utf8.text c.all_characters.ensures.value

pub returns-clause-paired : goal.returns-clause-paired
returns-clause-paired c = are_paired c.args.text.now c.all_characters.result c.utf8.text c.all_characters.ensures.value
