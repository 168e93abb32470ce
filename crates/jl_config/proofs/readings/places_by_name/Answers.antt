use Rattle.std.proofs.Common.{refl, ◌≤◌, length, subst}
use Rattle.jl_config.proofs.ReadOrders.{placed_none, placed_more, placed_sorted, placed_exact}
use Rattle.jl_config.proofs.readings.places_by_name.Goals as goal

pub loop-place-init : goal.loop-place-init
loop-place-init c = placed_none _ _ c.in_ok-order.ensures.items

pub loop-place-preserved : goal.loop-place-preserved
loop-place-preserved c =
    placed_more c.args.scene.now c.candidates-candidate-items.result.now c.loop-place.place c.candidate-item.result c.in_ok-copy.field-0 c.loop-place.order.items c.push.new.self.items c.candidates-candidate-items.ensures c.loop-place-test.true c.candidate-item.is
    c.in_ok-copy.ensures c.in_ok-push.ensures.items c.loop-place.invariant

pub returns : goal.returns
returns c =
    placed_sorted c.args.scene.now c.loop-place.place _ _ c.loop-place.order.items c.in_ok-sorted.sorted.items (subst (λ l. length l ≤ c.loop-place.place) c.candidates-candidate-items.ensures c.loop-place-test.false) c.loop-place.invariant
    (λ x y. refl) placed_exact c.in_ok-sorted.ensures.rise c.in_ok-sorted.ensures.only c.in_ok-sorted.ensures.all
