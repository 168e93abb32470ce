use Rattle.std.proofs.Common.{◌≡◌, ◌≤◌, map, take, IsTrue}
use Rattle.std.specs.List.{concat}
use Rattle.std.specs.String.{string_bytes}
use Rattle.jl_launch.specs.Writing.{grown}
use Rattle.jl_launch.proofs.writing.write_lines.Given as goal

abbrev pub invariant-loop-line : goal.invariant-loop-line
invariant-loop-line g l = record {
  taken : g.S.Sink.taken l.out ≡ grown (g.S.Sink.taken l.fn.out) (concat (map string_bytes (take l.line-index l.lines)));
  exact : IsTrue g.S.Sink.counts_exactly → g.S.Sink.faults l.out ≡ g.S.Sink.faults l.fn.out;
  counts : g.S.Sink.faults l.fn.out ≤ g.S.Sink.faults l.out;
}
