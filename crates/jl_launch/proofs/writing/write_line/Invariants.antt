use Rattle.std.proofs.Common.{◌≡◌, length, IsTrue}
use Rattle.jl_launch.proofs.Progress.{Progress}
use Rattle.jl_launch.proofs.writing.write_line.Given as goal

abbrev pub invariant-loop-rest : goal.invariant-loop-rest
invariant-loop-rest g l = record {
  progress : Progress l.line l.rest (g.S.Sink.taken l.fn.out) (g.S.Sink.taken l.out) (g.S.Sink.faults l.fn.out) (g.S.Sink.faults l.out);
  exact : IsTrue g.S.Sink.counts_exactly → g.S.Sink.faults l.out ≡ g.S.Sink.faults l.fn.out;
}

abbrev pub decreases-loop-rest : goal.decreases-loop-rest
decreases-loop-rest g l = length l.rest
