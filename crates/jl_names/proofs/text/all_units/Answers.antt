use Rattle.std.proofs.Common.{◌-◌, sym, arith, length}
use Rattle.std.proofs.lemmas.Result.{err_from_is_err_and}
use Rattle.jl_names.specs.Text.{units_read}
use Rattle.jl_names.proofs.TextLoop.{begins, goes_on, stops, ends, is_done}
use Rattle.jl_names.proofs.text.all_units.Goals as goal
use Rattle.jl_names.proofs.text.all_units.Goals.{else-loop-test, then-loop-test+then-at-bytes}

pub loop-init : goal.loop-init
loop-init c = rw c.new-units.ensures.items (begins c.args.bytes.now)

pub returns-in_err-unit : goal.returns-in_err-unit
returns-in_err-unit c =
    let p = err_from_is_err_and c.from_residual.result c.from_residual.ensures.1 in
    rw (p.1, p.2) (stops c.in_err-unit.field-0.0 c.loop.units.items (length c.args.bytes.now) c.loop.counter c.loop.at c.args.bytes.now (units_read c.args.bytes.now) (omega (arith, c.loop-test.true)) c.if-at-bytes.false (sym c.in_err-unit.ensures) c.loop.invariant)

pub loop-preserved : goal.loop-preserved
loop-preserved c =
    rw c.in_ok-push.ensures.items (goes_on c.loop.units.items (length c.args.bytes.now) c.loop.counter c.loop.at c.args.bytes.now c.in_ok-unit.unit c.in_ok-unit.next (units_read c.args.bytes.now) c.loop-test.true c.if-at-bytes.false (sym c.in_ok-unit.ensures) c.loop.invariant)

pub returns : goal.returns
returns c = rw c.from_vec.ensures (
    elim c.loop-test.branch [
      | else-loop-test w ↦ is_done c.loop.units.items (length c.args.bytes.now) c.loop.counter c.loop.at c.args.bytes.now (units_read c.args.bytes.now) w.loop-test.false c.loop.invariant
      | then-loop-test+then-at-bytes w ↦ ends c.loop.units.items (length c.args.bytes.now - c.loop.counter) c.loop.at c.args.bytes.now (units_read c.args.bytes.now) w.if-at-bytes.true c.loop.invariant
    ])
