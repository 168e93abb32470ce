use Rattle.std.proofs.Common.{◌≡◌, Some, refl, slice_get}
use Rattle.std.proofs.lemmas.Option.{slice_get_read}
use Rattle.jl_heap.specs.Placing.{place_of}
use Rattle.std.proofs.Common.{sym}
use Rattle.jl_heap.proofs.Placing.{place_within, entry_there}
use Rattle.jl_heap.proofs.statics.Statics.entry.Goals as goal

pub returns-in-Some : goal.returns-in-Some
returns-in-Some c =
    let is : place_of c.self.inside.entries.items c.args.c.0 ≡ Some c.in-Some.place = cc in
    let stands : slice_get c.self.inside.entries.items c.in-Some.place ≡ Some c.index.result.now = slice_get_read c.self.inside.entries.items _ _ _ refl (place_within _ c.args.c _ is) c.index.ensures in
    rw (← c.self.view_is) (sym (entry_there _ c.args.c _ _ is stands))
