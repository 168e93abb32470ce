use Rattle.std.proofs.Common.{◌≡◌, ◌++◌, ◌∷◌, [], Ok, ap, arith, length-append}
use Rattle.jl_code.specs.declared.walking.Walked.{Walked}
use Rattle.jl_code.proofs.Walks.{walk_more, walk_gives, walk_ends}
use Rattle.jl_code.proofs.walking.walk.Goals as goal

pub loop-at-preserved : goal.loop-at-preserved
loop-at-preserved c =
    let e : c.push.new.self.items ≡ c.loop-at.instructions.items ++ c.in-Ok.instr ∷ [] = c.in_ok-push-in-Ok.ensures.items in
    record {
      within = omega (arith, c.in-Ok.ensures.within);
      few = rw e (omega (arith, length-append c.loop-at.instructions.items (c.in-Ok.instr ∷ []), c.in-Ok.ensures.within, c.loop-at.invariant.few));
      walks = rw e (walk_more c.args.pool.now c.args.code.now c.loop-at.instructions.items c.loop-at.at c.in-Ok.instr c.in-Ok.next _ c.loop-at-test.true c.loop-at.invariant.few c.in-Ok.ensures.exact c.loop-at.invariant.walks);
    }

pub returns-in-Err : goal.returns-in-Err
returns-in-Err c = walk_gives c.args.pool.now c.args.code.now c.loop-at.instructions.items c.loop-at.at c.in-Err.fault c.stopped.result _ c.loop-at-test.true c.loop-at.invariant.few c.in-Err.ensures.exact c.loop-at.invariant.walks c.stopped.ensures

pub returns : goal.returns
returns c = rw c.from_vec.ensures (ap (λ (w : Walked). Ok w) (walk_ends c.args.pool.now c.args.code.now c.loop-at.instructions.items c.loop-at.at _ c.loop-at-test.false c.loop-at.invariant.walks))
