use Rattle.std.proofs.Common.{◌≡◌, Some, refl, slice_get}
use Rattle.std.proofs.lemmas.Option.{slice_get_read}
use Rattle.jl_heap.specs.Placing.{place_of}
use Rattle.jl_heap.specs.Statics.{with_usable}
use Rattle.jl_heap.proofs.Placing.{place_within, changed_there, places_written}
use Rattle.jl_heap.proofs.statics.Statics.set_usable.Goals as goal

pub invariant_of-self : goal.invariant_of-self
invariant_of-self c =
    let is : place_of c.self.inside.entries.items c.args.class.0 ≡ Some c.in-Some.place = cc in
    let stands : slice_get c.self.inside.entries.items c.in-Some.place ≡ Some c.index_mut.result.now = slice_get_read c.self.inside.entries.items _ _ _ refl (place_within _ c.args.class _ is) c.index_mut.ensures.value in
    places_written _ _ c.args.class _ _ (record { usable = c.args.to; values = c.index_mut.result.now.1.values }) is stands c.self.invariant

pub returns : goal.returns
returns c =
    let is : place_of c.self.inside.entries.items c.args.class.0 ≡ Some c.in-Some.place = cc in
    let stands : slice_get c.self.inside.entries.items c.in-Some.place ≡ Some c.index_mut.result.now = slice_get_read c.self.inside.entries.items _ _ _ refl (place_within _ c.args.class _ is) c.index_mut.ensures.value in
    rw (← c.self.view_is) (changed_there (with_usable c.args.to) _ c.args.class _ _ is stands)
