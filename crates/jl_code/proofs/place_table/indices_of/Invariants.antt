use Rattle.std.proofs.Common.{◌≡◌, ◌+◌, ◌<◌, length, drop}
use Rattle.std.specs.List.{AllByRecursion}
use Rattle.jl_code.specs.declared.code.Instr.{Instr}
use Rattle.jl_code.specs.Sound.{starts}
use Rattle.jl_code.proofs.IndexLaws.{AreFilled}
use Rattle.jl_code.proofs.place_table.indices_of.Given as goal

abbrev pub invariant-loop-rest : goal.invariant-loop-rest
invariant-loop-rest l = record {
  size : length l.indices.items ≡ l.len;
  left : l.rest ≡ drop l.index l.instructions;
  counted : l.index + length l.rest ≡ length l.instructions;
  inside : AllByRecursion (λ (i : Instr). i.at < l.len) l.rest;
  filled : AreFilled (starts l.instructions) l.index l.indices.items;
}

abbrev pub decreases-loop-rest : goal.decreases-loop-rest
decreases-loop-rest l = length l.rest
