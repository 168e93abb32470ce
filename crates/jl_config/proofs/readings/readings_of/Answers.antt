use Rattle.std.proofs.Common.{◌<◌, ◌≤◌, ◌∙◌, ap, ap₂, refl, sym, subst, length, get_or, filter_map}
use Rattle.jl_config.specs.Places.{AreMarks}
use Rattle.jl_config.specs.ReadRows.{marked_place}
use Rattle.jl_config.proofs.ReadOrders.{one_read, more_read, all_read, place_contained}
use Rattle.jl_config.proofs.readings.readings_of.Goals as goal

pub loop-place-preserved : goal.loop-place-preserved
loop-place-preserved c =
    let w = c.args.scene.now in
    let places = c.args.members.now.places.items in
    let items = c.as_slice-place-items.result.now in
    let lt : c.loop-place.place-index < length places = subst (λ l. c.loop-place.place-index < length l) c.as_slice-place-items.ensures.value c.loop-place-test.true in
    more_read w places c.loop-place.place-index (get_or items c.loop-place.place-index 0) _ c.loop-place.readings.items c.push.new.self.items lt
    (ap (λ l. get_or l c.loop-place.place-index 0) c.as_slice-place-items.ensures.value) refl
    (one_read w c.as_slice-marks.result.now places (get_or items c.loop-place.place-index 0) c.in_ok-order.order.items c.in_ok-reached.reached.items (record { reader = get_or items c.loop-place.place-index 0; read = c.from_vec.result })
    (subst (AreMarks w) (sym c.as_slice-marks.ensures.value) c.requires.marks) c.requires.places
    (place_contained places items c.loop-place.place-index c.as_slice-place-items.ensures.value c.loop-place-test.true)
    c.in_ok-order.ensures c.in_ok-reached.ensures refl
    (c.from_vec.ensures ∙ c.in_ok-read.ensures ∙ ap₂ (λ m o. filter_map (marked_place m) o) c.as_slice-in-loop-place-2.ensures.value c.as_slice-in-loop-place.ensures.value))
    c.in_ok-push.ensures.items c.loop-place.invariant

pub returns : goal.returns
returns c =
    all_read c.args.scene.now c.args.members.now.places.items c.loop-place.place-index c.loop-place.readings.items
    (subst (λ l. length l ≤ c.loop-place.place-index) c.as_slice-place-items.ensures.value c.loop-place-test.false) c.requires.places c.loop-place.invariant
