use Rattle.std.proofs.Common.{◌≡◌, ◌+◌, ◌++◌, length}
use Rattle.jl_layer.proofs.placing.place_statements.Given as goal

abbrev pub invariant-loop-statement : goal.invariant-loop-statement
invariant-loop-statement l = record {
  modules : l.facts.modules ≡ l.fn.facts.modules;
  statements : l.facts.statements ≡ l.fn.facts.statements ++ l.yielded;
  room : l.facts.spare_statements + length l.yielded ≡ l.fn.facts.spare_statements;
}
