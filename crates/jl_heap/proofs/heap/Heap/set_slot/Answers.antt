use Rattle.std.proofs.Common.{◌-◌, ◌∙◌, ℕ, List, All, slice_get, slice_set, ap, sym, subst}
use Rattle.jl_heap.specs.declared.shape.Object.{Object}
use Rattle.jl_heap.specs.Values.{kind_of}
use Rattle.jl_heap.specs.Objects.{FitsShape}
use Rattle.jl_heap.specs.Heap.{HeapState, kinds_in, with_slot}
use Rattle.jl_heap.proofs.Changing.{set_is_change}
use Rattle.jl_heap.proofs.Fitting.{Found, found, all_with_slot, kinds_stay}
use Rattle.jl_heap.proofs.heap.Heap.set_slot.Goals as goal

abbrev heap_of : List Object → ℕ → HeapState
heap_of objects used = record { objects = objects; used = used }

pub invariant_of-self : goal.invariant_of-self
invariant_of-self c =
    let h : HeapState = heap_of c.self.inside.objects.items c.self.inside.used in
    let one : Found h c.args.o c.args.at (kind_of c.args.v) c.index_mut.result.now =
    found h c.args.o c.args.at _ _ c.index_mut.ensures.value (ap (λ (g : HeapState). slice_get (kinds_in g c.args.o) c.args.at) c.self.view_is ∙ c.requires) in (
      c.self.invariant.0,
      c.self.invariant.1,
      subst (λ (y : Object). All FitsShape (slice_set h.objects (c.args.o.0 - 1) y)) (sym c.set_slot.ensures)
          (all_with_slot h.objects (c.args.o.0 - 1) c.args.at c.args.v c.index_mut.result.now one.stands one.kind c.self.invariant.2),
    )

pub returns-clause-set : goal.returns-clause-set
returns-clause-set c =
    let h : HeapState = heap_of c.self.inside.objects.items c.self.inside.used in
    let one : Found h c.args.o c.args.at (kind_of c.args.v) c.index_mut.result.now =
    found h c.args.o c.args.at _ _ c.index_mut.ensures.value (ap (λ (g : HeapState). slice_get (kinds_in g c.args.o) c.args.at) c.self.view_is ∙ c.requires) in
    rw (← c.self.view_is, c.set_slot.ensures) (ap (λ objects. heap_of objects h.used) (set_is_change (with_slot c.args.at c.args.v) h.objects (c.args.o.0 - 1) c.index_mut.result.now one.stands))

pub returns-clause-kinds : goal.returns-clause-kinds
returns-clause-kinds c = λ p. ap (λ (h : HeapState). kinds_in h p) (returns-clause-set c) ∙ kinds_stay c.args.at c.args.v c.args.self.now c.args.o p c.requires
