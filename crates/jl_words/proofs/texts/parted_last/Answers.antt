use Rattle.jl_words.proofs.Cutting.{last_by}
use Rattle.jl_words.proofs.texts.parted_last.Goals as goal

pub returns : goal.returns
returns c = last_by c.args.separator c.args.text.now c.rsplit_once.result c.rsplit_once.ensures.cases c.requires
