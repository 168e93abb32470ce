use Rattle.jl_words.proofs.FaultLaws as laws
use Rattle.jl_words.proofs.law.no_line_begins.Goals as goal

pub returns : goal.returns
returns c = laws.no_line_begins
