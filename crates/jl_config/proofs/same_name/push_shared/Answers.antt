use Rattle.std.proofs.Common.{◌≤◌, length, arith, subst}
use Rattle.jl_config.specs.Collected.{IsSharedAt}
use Rattle.jl_config.proofs.Collects.{below_none, below_more, below_all}
use Rattle.jl_config.proofs.same_name.push_shared.Goals as goal

pub loop-at-init : goal.loop-at-init
loop-at-init c = below_none _ (IsSharedAt c.args.scene.now c.args.reading.now) 1 (λ i x lt h. let z = h.later in omega arith)

pub loop-at-preserved : goal.loop-at-preserved
loop-at-preserved c = below_more _ _ _ (IsSharedAt c.args.scene.now c.args.reading.now) c.loop-at.at c.loop-at.invariant c.in_ok-push_shared_at.ensures

pub returns : goal.returns
returns c =
    let end : length c.args.reading.now.read ≤ c.loop-at.at = subst (λ n. n ≤ c.loop-at.at) c.len-at-end.ensures c.loop-at-test.false in
    below_all _ _ (IsSharedAt c.args.scene.now c.args.reading.now) c.loop-at.at c.loop-at.invariant (λ i x h. let z = h.within in omega arith)
