use Rattle.std.proofs.Common.{◌∙◌, sym, arith, length-set}
use Rattle.std.proofs.lemmas.List.{length-replicate}
use Rattle.jl_code.proofs.Marks.{follows_first, follows_more, follows_to_end, follows_to_fault}
use Rattle.jl_code.proofs.places.marks_of.Goals as goal

pub loop-at-init : goal.loop-at-init
loop-at-init c = record {
  size = rw c.in_ok-marks.ensures (length-replicate _ _);
  within = omega arith;
  follows = follows_first c.args.code.now c.in_ok-marks.marks.items c.in_ok-marks.ensures;
}

pub loop-at-preserved : goal.loop-at-preserved
loop-at-preserved c = record {
  size = length-set c.loop-at.marks.items c.loop-at.at _ ∙ c.loop-at.invariant.size;
  within = c.in-Ok.ensures.within.1;
  follows = follows_more c.args.code.now c.loop-at.marks.items c.loop-at.at c.in-Ok.next c.loop-at-test.true (omega (arith, c.loop-at-test.true, c.loop-at.invariant.size)) c.in-Ok.ensures.within.0 (sym c.in-Ok.ensures.exact) c.loop-at.invariant.follows;
}

pub returns-in_default : goal.returns-in_default
returns-in_default c = follows_to_fault c.args.code.now c.loop-at.marks.items c.loop-at.at c.in_default.field-0 c.loop-at-test.true (sym c.in_default.ensures.exact) c.loop-at.invariant.follows

pub returns : goal.returns
returns c = follows_to_end c.args.code.now c.loop-at.marks.items c.loop-at.at c.loop-at-test.false c.loop-at.invariant.follows
