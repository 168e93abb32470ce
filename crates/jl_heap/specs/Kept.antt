-- What is kept once: literal texts, mirrors and boxes, each with its object (JVMS 5.1).
use Rattle.std.specs.Prelude.{List, [], ◌∷◌, ◌++◌, Option, None, Some, Bool, false, ◌&&◌, ◌==◌, if◌then◌else◌}
use Rattle.std.specs.Ordering.{int_eq}
use Rattle.std.specs.Bool.{beq}
use Rattle.jl_logic.specs.Order.{is_text}
use Rattle.jl_prim.specs.declared.numbers.ObjRef.{ObjRef}
use Rattle.jl_heap.specs.declared.kept.KeptKey.{KeptKey}
use Rattle.jl_heap.specs.declared.kept.KeptKey.TheVariants as keys
use Rattle.jl_heap.specs.declared.shape.Base.{Base}
use Rattle.jl_heap.specs.declared.shape.Base.TheVariants as bases
use Rattle.jl_heap.specs.declared.shape.Element.{Element}
use Rattle.jl_heap.specs.declared.shape.Mirror.{Mirror}
use Rattle.jl_heap.specs.declared.shape.Mirror.TheVariants as mirrors

-- The keys with their objects, in the order in which they were kept, and the two objects that are there from the start.
pub record KeptState : Type 0 where
  pub pairs : List (KeptKey × ObjRef)
  pub no_heap : ObjRef
  pub out : ObjRef

-- the same primitive type, or the same class
abbrev pub is_same_base : Base → Base → Bool
is_same_base (bases.Prim a) (bases.Prim b) = a == b
is_same_base (bases.Class c) (bases.Class d) = c.0 == d.0
is_same_base _ _ = false

-- the same type of an array's elements
abbrev pub is_same_element : Element → Element → Bool
is_same_element a b = is_same_base a.base b.base && (a.dims == b.dims)

-- a mirror of the same thing, and for a member or an iterator in the same state
abbrev pub is_same_mirror : Mirror → Mirror → Bool
is_same_mirror (mirrors.Class a) (mirrors.Class b) = is_same_element a b
is_same_mirror (mirrors.Module a) (mirrors.Module b) = a.0 == b.0
is_same_mirror (mirrors.Layer a) (mirrors.Layer b) = a.0 == b.0
is_same_mirror (mirrors.Config a) (mirrors.Config b) = a.0 == b.0
is_same_mirror (mirrors.Loader a) (mirrors.Loader b) = a.0 == b.0
is_same_mirror (mirrors.Control a) (mirrors.Control b) = a.0 == b.0
is_same_mirror (mirrors.Field a is_open) (mirrors.Field b was_open) = (a.0 == b.0) && beq is_open was_open
is_same_mirror (mirrors.Method a is_open) (mirrors.Method b was_open) = (a.0 == b.0) && beq is_open was_open
is_same_mirror (mirrors.Iter a given) (mirrors.Iter b gave) = (a.0 == b.0) && (given == gave)
is_same_mirror _ _ = false

-- the same text by its units, a mirror of the same thing, or the same value in a box of the same class
abbrev pub is_same_key : KeptKey → KeptKey → Bool
is_same_key (keys.Text a) (keys.Text b) = is_text a b
is_same_key (keys.Mirror a) (keys.Mirror b) = is_same_mirror a b
is_same_key (keys.Boxed c a) (keys.Boxed d b) = (c.0 == d.0) && int_eq a b
is_same_key _ _ = false

-- the object that is kept under a key
abbrev pub kept_under : KeptKey → List (KeptKey × ObjRef) → Option ObjRef
kept_under key [] = None
kept_under key (p ∷ ps) = if is_same_key key p.0 then Some p.1 else kept_under key ps

-- an object is kept under a key, behind the others
abbrev pub with_kept : KeptKey → ObjRef → KeptState → KeptState
with_kept key o k = record k { pairs = k.pairs ++ (key, o) ∷ [] }
