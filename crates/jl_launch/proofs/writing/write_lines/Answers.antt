use Rattle.std.proofs.Common.{◌∙◌, ap, arith}
use Rattle.std.specs.String.{string_bytes}
use Rattle.jl_logic.specs.Counts.{raised}
use Rattle.jl_launch.proofs.Progress.{line_written, line_failed}
use Rattle.jl_launch.proofs.writing.write_lines.Goals as goal

pub returns-in-Err-clause-writes : goal.returns-in-Err-clause-writes
returns-in-Err-clause-writes g c =
    line_failed string_bytes c.args.lines.now c.loop-line.line-index c.line-item.result c.as_bytes.result.now
    (g.S.Sink.taken c.args.out.now) (g.S.Sink.taken c.loop-line.out) (g.S.Sink.taken c.write_line.new.out) c.in-Err.fault
    c.loop-line-test.true (c.as_bytes.ensures.value ∙ ap string_bytes c.line-item.is) c.loop-line.invariant.taken c.in-Err.ensures.writes

pub loop-line-preserved : goal.loop-line-preserved
loop-line-preserved g c = record {
  taken = line_written string_bytes c.args.lines.now c.loop-line.line-index c.line-item.result c.as_bytes.result.now
      (g.S.Sink.taken c.args.out.now) (g.S.Sink.taken c.loop-line.out) (g.S.Sink.taken c.write_line.new.out)
      c.loop-line-test.true (c.as_bytes.ensures.value ∙ ap string_bytes c.line-item.is) c.loop-line.invariant.taken c.in-Ok.ensures.writes;
  exact = λ x. c.in-Ok.ensures.exact x ∙ c.loop-line.invariant.exact x;
  counts = omega (arith, c.loop-line.invariant.counts, c.in-Ok.ensures.counts);
}

pub returns-in-Err-clause-exact : goal.returns-in-Err-clause-exact
returns-in-Err-clause-exact g c = λ x. c.in-Err.ensures.exact x ∙ ap raised (c.loop-line.invariant.exact x)
