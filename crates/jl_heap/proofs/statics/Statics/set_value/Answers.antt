use Rattle.std.proofs.Common.{◌≡◌, Some, refl, slice_get}
use Rattle.std.proofs.lemmas.Option.{slice_get_read}
use Rattle.jl_heap.specs.Placing.{place_of}
use Rattle.jl_heap.specs.Statics.{with_static}
use Rattle.jl_heap.proofs.Placing.{place_within, changed_there, places_written, static_within}
use Rattle.jl_heap.proofs.statics.Statics.set_value.Goals as goal

pub set-requires : goal.set-requires
set-requires c =
    let is : place_of c.self.inside.entries.items c.args.c.0 ≡ Some c.in-Some.place = cc in
    let stands : slice_get c.self.inside.entries.items c.in-Some.place ≡ Some c.index_mut.result.now = slice_get_read c.self.inside.entries.items _ _ _ refl (place_within _ c.args.c _ is) c.index_mut.ensures.value in
    static_within _ c.args.c _ c.args.at _ c.requires.0 is stands (rw c.self.view_is c.requires.1)

pub invariant_of-self : goal.invariant_of-self
invariant_of-self c =
    let is : place_of c.self.inside.entries.items c.args.c.0 ≡ Some c.in-Some.place = cc in
    let stands : slice_get c.self.inside.entries.items c.in-Some.place ≡ Some c.index_mut.result.now = slice_get_read c.self.inside.entries.items _ _ _ refl (place_within _ c.args.c _ is) c.index_mut.ensures.value in
    places_written _ _ c.args.c _ _ (record { usable = c.index_mut.result.now.1.usable; values = c.set.new.self }) is stands c.self.invariant

pub returns : goal.returns
returns c =
    let is : place_of c.self.inside.entries.items c.args.c.0 ≡ Some c.in-Some.place = cc in
    let stands : slice_get c.self.inside.entries.items c.in-Some.place ≡ Some c.index_mut.result.now = slice_get_read c.self.inside.entries.items _ _ _ refl (place_within _ c.args.c _ is) c.index_mut.ensures.value in
    rw (← c.self.view_is, c.set.ensures) (changed_there (with_static c.args.at c.args.v) _ c.args.c _ _ is stands)
