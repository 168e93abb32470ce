use Rattle.std.proofs.Common.{◌<◌, length, sym, subst}
use Rattle.jl_heap.specs.Heap.{HeapState, kinds_in}
use Rattle.jl_heap.proofs.Fitting.{kind_read}
use Rattle.jl_heap.proofs.heap.Heap.slot.Goals as goal

pub returns-clause-kind : goal.returns-clause-kind
returns-clause-kind c =
    let h : HeapState = record { objects = c.self.inside.objects.items; used = c.self.inside.used } in
    let within : c.args.at < length (kinds_in h c.args.o) = subst (λ (g : HeapState). c.args.at < length (kinds_in g c.args.o)) (sym c.self.view_is) c.requires in
    rw (← c.self.view_is) (kind_read h c.args.o c.args.at c.index.result.now c.values.result.now _ within c.index.ensures c.values.ensures)
