use Rattle.std.proofs.Common.{◌≡◌, ◌∙◌, ap, ap₂, subst, sym, map, List, ℕ}
use Rattle.jl_config.specs.declared.placed.Placed.{Placed}
use Rattle.jl_config.specs.Placed.{place_in, marked_place}
use Rattle.jl_config.specs.Places.{AreMembers}
use Rattle.jl_config.proofs.MemberPlaces.{members_right}
use Rattle.jl_config.proofs.members.members_of.Goals as goal

pub returns-clause-places : goal.returns-clause-places
returns-clause-places c =
    let w = c.args.scene.now in
    let xs : List Placed = c.in_ok-placed.placed.items in
    let finds : (q : List ℕ) → place_in q xs ≡ marked_place q 0 w.candidates c.in_ok-marks.marks.items = λ q. c.in_ok-placed.ensures.finds q ∙ ap₂ (λ s m. marked_place q 0 s m) c.candidates.ensures c.as_slice.ensures.value in
    let is : c.in_ok-places.places.items ≡ map (λ (x : Placed). x.place) xs = c.in_ok-places.ensures ∙ ap (map (λ (x : Placed). x.place)) c.as_slice-2.ensures.value in
    subst (AreMembers w) (sym is) (members_right w c.in_ok-marks.marks.items xs c.in_ok-marks.ensures c.in_ok-placed.ensures.rise finds)
