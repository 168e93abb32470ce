use Rattle.std.proofs.Common.{◌<◌, ◌∙◌, ap, subst, length, get_or, List, ℕ}
use Rattle.jl_config.specs.MemberRows.{found_place}
use Rattle.jl_config.proofs.Lists.{filter_map_step, grown}
use Rattle.jl_config.proofs.member_rows.roots_found.Goals as goal

pub loop-name-preserved : goal.loop-name-preserved
loop-name-preserved c =
    let e = c.roots-name-items.ensures in
    filter_map_step (found_place c.args.scene.now) c.args.scene.now.roots c.loop-name.name-index c.name-item.result c.loop-name.places.items c.push_some.new.places.items
    (subst (λ (l : List (List ℕ)). c.loop-name.name-index < length l) e c.loop-name-test.true) (c.name-item.is ∙ ap (λ (l : List (List ℕ)). get_or l c.loop-name.name-index c.name-item.result) e)
    c.loop-name.invariant (grown c.loop-name.places.items c.found_place.ensures c.in_ok-push_some.ensures)
