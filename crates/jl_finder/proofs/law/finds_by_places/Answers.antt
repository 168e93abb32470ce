use Rattle.jl_finder.proofs.Laws as laws
use Rattle.jl_finder.proofs.law.finds_by_places.Goals as goal

pub returns : goal.returns
returns c = laws.finds_by_places
