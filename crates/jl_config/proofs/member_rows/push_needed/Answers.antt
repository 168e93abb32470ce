use Rattle.std.proofs.Common.{◌<◌, ◌∙◌, ap, subst, length, get_or, List}
use Rattle.jl_prim.specs.declared.declaration.Requires.{Requires}
use Rattle.jl_config.specs.MemberRows.{needed_place}
use Rattle.jl_config.proofs.Lists.{filter_map_behind, grown}
use Rattle.jl_config.proofs.member_rows.push_needed.Goals as goal

pub loop-entry-preserved : goal.loop-entry-preserved
loop-entry-preserved c =
    let e = c.as_slice-entry-items.ensures in
    filter_map_behind (needed_place c.args.scene.now) c.args.candidate.now.observed.declaration.required c.loop-entry.entry-index c.entry-item.result c.args.row.now.items c.loop-entry.row.items c.push_some.new.places.items
    (subst (λ (l : List Requires). c.loop-entry.entry-index < length l) e c.loop-entry-test.true) (c.entry-item.is ∙ ap (λ (l : List Requires). get_or l c.loop-entry.entry-index c.entry-item.result) e)
    c.loop-entry.invariant (grown c.loop-entry.row.items c.place_of_needed.ensures c.in_ok-push_some.ensures)
