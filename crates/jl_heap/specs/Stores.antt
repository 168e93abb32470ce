-- What is there before a program begins (JVMS 5.2).
use Rattle.std.specs.Prelude.{[], ⊤}
use Rattle.jl_heap.specs.declared.shape.Shape.{Shape}
use Rattle.jl_heap.specs.declared.shape.Shape.TheVariants as shapes
use Rattle.jl_heap.specs.declared.store.Store.{Store}
use Rattle.jl_heap.specs.Heap.{with_object}

-- the shape of an instance
abbrev pub IsObject : Shape → Type 0
IsObject (shapes.Object class fields) = ⊤
IsObject _ = ⊥

-- two objects, no frame of task 1, no statics, and nothing kept
abbrev pub started : Shape → Shape → Store
started no_heap out = record {
  heap = with_object out (with_object no_heap (record { objects = []; used = 0 }));
  frames = record { task = 1; frames = [] };
  statics = [];
  kept = record { pairs = []; no_heap = record { 0 = 1 }; out = record { 0 = 2 } };
}
