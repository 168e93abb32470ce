use Rattle.std.proofs.Common.{◌≡◌, drop, length}
use Rattle.jl_closure.specs.Work.{with_places}
use Rattle.jl_closure.proofs.reach.mark_all.Given as goal

abbrev pub invariant-loop-place : goal.invariant-loop-place
invariant-loop-place l = record {
  same : length l.marks.items ≡ length l.fn.marks.items;
  rest : with_places (l.marks.items, l.work.items) (drop l.place-index l.places) ≡ with_places (l.fn.marks.items, l.fn.work.items) l.places;
}
