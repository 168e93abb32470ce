use Rattle.std.proofs.Common.{◌<◌}
use Rattle.jl_layer.proofs.ClaimSearch.{IsRest}
use Rattle.jl_layer.proofs.claims.first_clash.Given as goal

abbrev pub invariant-loop-at : goal.invariant-loop-at
invariant-loop-at l = record {
  before : l.first < l.at;
  rest : IsRest l.claims l.first l.at;
}
