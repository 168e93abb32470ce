-- References that name objects of the heap (JVMS 2.4), and that rows keep them so.
use Rattle.std.specs.Prelude.{◌≡◌, Some, Ok, IsSome, ⊤}
use Rattle.std.specs.List.{AllByRecursion}
use Rattle.jl_prim.specs.declared.numbers.ClassId.{ClassId}
use Rattle.jl_prim.specs.declared.numbers.ObjRef.{ObjRef}
use Rattle.jl_code.specs.declared.code.Instr.{Instr}
use Rattle.jl_heap.specs.declared.value.Value.{Value}
use Rattle.jl_heap.specs.declared.value.Value.TheVariants as values
use Rattle.jl_heap.specs.declared.shape.Mirror.{Mirror}
use Rattle.jl_heap.specs.declared.shape.Mirror.TheVariants as mirrors
use Rattle.jl_heap.specs.declared.shape.Shape.{Shape}
use Rattle.jl_heap.specs.declared.shape.Shape.TheVariants as shapes
use Rattle.jl_heap.specs.declared.shape.Object.{Object}
use Rattle.jl_heap.specs.declared.statics.StaticEntry.{StaticEntry}
use Rattle.jl_heap.specs.declared.kept.KeptKey.{KeptKey}
use Rattle.jl_heap.specs.declared.store.Store.{Store}
use Rattle.jl_heap.specs.Frames.{FrameState}
use Rattle.jl_heap.specs.Heap.{HeapState, object_at}
use Rattle.jl_heap.specs.Objects.{slots_of}
use Rattle.jl_ops.specs.Rows.{row}

-- a reference names an object of the heap, or is null
abbrev pub Names : HeapState → Value → Type 0
Names h (values.Ref (Some o)) = IsSome (object_at h o)
Names h v = ⊤

-- the references in a frame do
pub record FrameNames (h : HeapState) (f : FrameState) : Type 0 where
  pub locals : AllByRecursion (Names h) f.locals
  pub stack : AllByRecursion (Names h) f.stack

-- the object that an iterator goes over is there
abbrev pub MirrorNames : HeapState → Mirror → Type 0
MirrorNames h (mirrors.Iter o given) = IsSome (object_at h o)
MirrorNames h what = ⊤

abbrev pub ShapeNames : HeapState → Shape → Type 0
ShapeNames h (shapes.Mirror class what) = MirrorNames h what
ShapeNames h shape = ⊤

-- the references in an object do
pub record ObjectNames (h : HeapState) (o : Object) : Type 0 where
  pub shape : ShapeNames h o.shape
  pub slots : AllByRecursion (Names h) (slots_of o)

-- the references in the statics of a class do
abbrev pub StaticsName : HeapState → ClassId × StaticEntry → Type 0
StaticsName h p = AllByRecursion (Names h) p.1.values

-- an object that is kept is there
abbrev pub IsKept : HeapState → KeptKey × ObjRef → Type 0
IsKept h p = IsSome (object_at h p.1)

-- Each reference of a store names an object of its heap.
pub record AllName (s : Store) : Type 0 where
  pub frames : AllByRecursion (FrameNames s.heap) s.frames.frames
  pub objects : AllByRecursion (ObjectNames s.heap) s.heap.objects
  pub statics : AllByRecursion (StaticsName s.heap) s.statics
  pub kept : AllByRecursion (IsKept s.heap) s.kept.pairs
  pub no_heap : IsSome (object_at s.heap s.kept.no_heap)
  pub out : IsSome (object_at s.heap s.kept.out)

-- An instruction that goes on keeps it so.
abbrev pub RowsKeepNames : Type 0
RowsKeepNames = (i : Instr) (s t : Store) → row i s ≡ Ok t → AllName s → AllName t
