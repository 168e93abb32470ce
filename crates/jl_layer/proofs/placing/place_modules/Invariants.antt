use Rattle.std.proofs.Common.{◌≡◌, ◌+◌, ◌++◌, map, length}
use Rattle.jl_layer.specs.Placing.{outlined}
use Rattle.jl_layer.proofs.placing.place_modules.Given as goal

abbrev pub invariant-loop-outline : goal.invariant-loop-outline
invariant-loop-outline l = record {
  modules : l.facts.modules ≡ l.fn.facts.modules ++ map outlined l.yielded;
  statements : l.facts.statements ≡ l.fn.facts.statements;
  room : l.facts.spare_modules + length l.yielded ≡ l.fn.facts.spare_modules;
  other_room : l.facts.spare_statements ≡ l.fn.facts.spare_statements;
}
