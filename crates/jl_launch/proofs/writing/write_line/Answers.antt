use Rattle.std.proofs.Common.{◌∙◌, ap, drop, length-drop, arith}
use Rattle.std.proofs.lemmas.List.{take_all}
use Rattle.jl_logic.specs.Counts.{raised}
use Rattle.jl_launch.proofs.Progress.{goes_on, written_some}
use Rattle.jl_launch.proofs.writing.write_line.Goals as goal

pub loop-rest-preserved : goal.loop-rest-preserved
loop-rest-preserved g c = record {
  progress = goes_on c.args.line.now c.loop-rest.rest.now _
      (g.S.Sink.taken c.args.out.now) (g.S.Sink.taken c.loop-rest.out) (g.S.Sink.taken c.write.new.self)
      (g.S.Sink.faults c.args.out.now) (g.S.Sink.faults c.loop-rest.out) (g.S.Sink.faults c.write.new.self) c.in-Ok.count
      c.loop-rest.invariant.progress c.in-Ok.ensures.takes c.in-Ok.ensures.counts
      (take_all _ (drop c.in-Ok.count c.loop-rest.rest.now) (simp length-drop (omega arith)));
  exact = λ x. c.in-Ok.ensures.exact x ∙ written_some c.loop-rest.rest.now c.in-Ok.count _ (omega (arith, c.if-count-eq0.false)) ∙ c.loop-rest.invariant.exact x;
}

pub returns-in-Err-clause-exact : goal.returns-in-Err-clause-exact
returns-in-Err-clause-exact g c = λ x. c.in-Err.ensures.exact x ∙ ap raised (c.loop-rest.invariant.exact x)
