use Rattle.jl_words.proofs.Cutting.{parted_by}
use Rattle.jl_words.proofs.texts.parted.Goals as goal

pub returns-clause-exact : goal.returns-clause-exact
returns-clause-exact c = parted_by c.args.separator c.args.text.now c.split_once.result c.split_once.ensures.cases c.requires
