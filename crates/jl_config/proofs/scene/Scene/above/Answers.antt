use Rattle.std.proofs.Common.{◌≡◌, ◌∙◌, ap, ap₂, None, Some, Option, unwrap_or, List, [], ℕ, nat_eq}
use Rattle.std.specs.Cmp.Lexicographic.{pointwise}
use Rattle.indexmap.specs.IndexMap.{get}
use Rattle.jl_config.specs.Lineages.{is_named, is_outside}
use Rattle.jl_config.specs.Located.{Scene}
use Rattle.jl_config.specs.Places.{place_above}
use Rattle.jl_config.specs.Tables.{places_where, first_of_places}
use Rattle.jl_config.proofs.PlaceTables.{above_found}
use Rattle.jl_config.proofs.scene.Scene.above.Goals as goal

pub returns-in_err-places : goal.returns-in_err-places
returns-in_err-places c =
    let name = c.args.name.now in
    let id = c.self.inside.id in
    let candidates = c.self.inside.candidates.items in
    let none : None ≡ get (pointwise nat_eq) c.self.inside.named name = c.in_err-places.ensures.value in
    let places : [] ≡ places_where (is_named name) 0 candidates = ap (λ (o : Option (List ℕ)). unwrap_or o []) none ∙ c.self.invariant.2 name in
    c.from_residual.ensures ∙ above_found id name candidates [] places ∙ ap (λ (w : Scene). place_above w name) c.self.view_is

pub returns : goal.returns
returns c =
    let name = c.args.name.now in
    let id = c.self.inside.id in
    let candidates = c.self.inside.candidates.items in
    let some : Some c.in_ok-places.places.now ≡ get (pointwise nat_eq) c.self.inside.named name = c.in_ok-places.ensures.value in
    let places : c.in_ok-places.places.now ≡ places_where (is_named name) 0 candidates = ap (λ (o : Option (List ℕ)). unwrap_or o []) some ∙ c.self.invariant.2 name in
    c.first_outside.ensures ∙ ap₂ (first_of_places (is_outside id)) c.as_slice.ensures.value c.as_slice-2.ensures
    ∙ above_found id name candidates c.in_ok-places.places.now places ∙ ap (λ (w : Scene). place_above w name) c.self.view_is
