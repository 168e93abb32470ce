use Rattle.std.proofs.Common.{◌<◌, ◌≤◌, ◌≡◌, ◌++◌, ◌∷◌, [], true, refl, sym, ◌∙◌, ap, arith, rules, slice_index_or, take}
use Rattle.jl_prim.specs.declared.numbers.ConfigId.{ConfigId}
use Rattle.jl_config.specs.Walked.{Visited, IsClosedBelow}
use Rattle.jl_config.proofs.Visits.{not_begun, passes_by, comes_to, still_closed, lower, is_next}
use Rattle.jl_config.proofs.walk.+visit.Goals as goal
use Rattle.jl_config.proofs.walk.+visit.Goals.{then-is_new+in_ok-push+in_ok-visit, else-is_new}

pub loop-parent-init : goal.loop-parent-init
loop-parent-init t c = record { room = refl; numbers = not_begun c.args.child.0 c.args.known.now c.args.visited.now.numbers }

pub visit-requires : goal.visit-requires
visit-requires t c =
    let known = c.args.known.now in
    let ps = c.args.parents.now in
    let i = c.loop-parent.parent-index in
    let child = c.args.child in
    let old = c.args.visited.now.numbers in
    let now = c.loop-parent.visited.numbers in
    let p : ConfigId = slice_index_or ps i (record { 0 = 0 }) in
    let next : is_next now child p ≡ true = sym c.is_new.ensures ∙ c.if-is_new.true in
    let pushed : c.push.new.self.numbers ≡ now ++ p ∷ [] = ap (λ (v : Visited). v.numbers) c.in_ok-push.ensures in
    let same : c.push.new.self.room ≡ c.loop-parent.visited.room = ap (λ (v : Visited). v.room) c.in_ok-push.ensures in
    let falls : p.0 < child.0 = lower known child old c.requires.closed p now next in
    let room : p.0 ≤ c.push.new.self.room = omega (arith, falls, same, c.loop-parent.invariant.room, c.requires.room) in
    let closed : IsClosedBelow known p c.push.new.self.numbers = still_closed known child old c.requires.closed (take i ps) p now c.push.new.self.numbers c.loop-parent.invariant.numbers next pushed in
    search rules

pub loop-parent-preserved : goal.loop-parent-preserved
loop-parent-preserved t c =
    let known = c.args.known.now in
    let ps = c.args.parents.now in
    let i = c.loop-parent.parent-index in
    let child = c.args.child in
    let old = c.args.visited.now.numbers in
    let now = c.loop-parent.visited.numbers in
    let d : ConfigId = record { 0 = 0 } in
    let p : ConfigId = slice_index_or ps i d in
    elim c.if-is_new.branch [
      | then-is_new+in_ok-push+in_ok-visit w ↦
          record {
            room = ap (λ (v : Visited). v.room) w.visited-is ∙ w.in_ok-visit.ensures.room ∙ ap (λ (v : Visited). v.room) w.in_ok-push.ensures ∙ c.loop-parent.invariant.room;
            numbers =
                ap (λ (v : Visited). v.numbers) w.visited-is
                ∙ comes_to known child old c.requires.closed ps i d p now w.push.new.self.numbers _ w.parents_of.result.now c.loop-parent-test.true refl c.loop-parent.invariant.numbers (sym c.is_new.ensures ∙ w.if-is_new.true)
                (ap (λ (v : Visited). v.numbers) w.in_ok-push.ensures) w.parents_of.ensures w.in_ok-visit.ensures.numbers;
          }
      | else-is_new w ↦
          record {
            room = ap (λ (v : Visited). v.room) w.visited-is ∙ c.loop-parent.invariant.room;
            numbers =
                ap (λ (v : Visited). v.numbers) w.visited-is
                ∙ passes_by known child old c.requires.closed ps i d p now c.loop-parent-test.true refl c.loop-parent.invariant.numbers (sym c.is_new.ensures ∙ w.if-is_new.false);
          }
    ]
