use Rattle.jl_words.proofs.FirstLaws as laws
use Rattle.jl_words.proofs.law.first_fault.Goals as goal

pub returns : goal.returns
returns c = laws.first_fault
