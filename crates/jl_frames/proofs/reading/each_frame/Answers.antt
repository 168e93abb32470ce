use Rattle.std.proofs.Common.{sym, arith}
use Rattle.std.proofs.lemmas.Result.{err_from_is_err_and}
use Rattle.jl_reading.proofs.Each.{each_more, each_ends, each_done}
use Rattle.jl_frames.specs.Reading.{told, frame_at}
use Rattle.jl_frames.proofs.FrameLoop.{base_after-push}
use Rattle.jl_frames.proofs.reading.each_frame.Goals as goal

pub returns-in_err-frame-clause-exact : goal.returns-in_err-frame-clause-exact
unfolding frame_at
returns-in_err-frame-clause-exact c =
    let p = err_from_is_err_and c.from_residual.result c.from_residual.ensures.1 in
    rw (p.1, p.2) (each_ends told c.in_err-frame.field-0.0 (frame_at c.args.bytes.now) c.loop.frames.items c.args.count c.loop.counter c.loop.next _ c.loop-test.true (rw c.loop.invariant.based at c.in_err-frame.ensures.exact) c.loop.invariant.reads)

pub loop-preserved : goal.loop-preserved
unfolding frame_at
loop-preserved c = record {
  within = c.in_ok-frame.ensures.within;
  based = rw c.in_ok-push.ensures.items (sym (base_after-push 0 c.loop.frames.items c.in_ok-frame.frame));
  room = omega (arith, c.loop.invariant.room, c.in_ok-frame.ensures.near);
  reads = rw c.in_ok-push.ensures.items (each_more (frame_at c.args.bytes.now) c.loop.frames.items c.args.count c.loop.counter c.loop.next c.in_ok-frame.frame c.in_ok-frame.after _ c.loop-test.true (rw c.loop.invariant.based at c.in_ok-frame.ensures.exact) c.loop.invariant.reads);
}

pub returns-clause-exact : goal.returns-clause-exact
returns-clause-exact c = each_done (frame_at c.args.bytes.now) c.loop.frames.items c.args.count c.loop.counter c.loop.next _ c.loop-test.false c.loop.invariant.reads
