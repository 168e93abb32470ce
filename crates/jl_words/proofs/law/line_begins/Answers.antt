use Rattle.jl_words.proofs.FirstLaws as laws
use Rattle.jl_words.proofs.law.line_begins.Goals as goal

pub returns : goal.returns
returns c = laws.line_begins
