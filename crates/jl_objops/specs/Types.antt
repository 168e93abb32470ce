-- Types of references and of objects: which take which, and how errors name them (JVMS 4.3.2, 6.5 checkcast, aastore).
use Rattle.std.specs.Prelude.{ℕ, ◌+◌, nat_lt, nat_le, length, List, [], ◌∷◌, ◌++◌, replicate, unwrap_or, option_map, Option, None, Some, Result, Ok, Bool, false, ◌&&◌, ◌||◌, ◌==◌, codes, encode_utf8, if◌then◌else◌}
use Rattle.std.specs.Option.{option_map_or, option_and_then}
use Rattle.jl_names.specs.Dots.{dotted}
use Rattle.jl_names.specs.Descriptors.{descriptor_read, class_in}
use Rattle.jl_names.specs.declared.types.BaseType.{BaseType}
use Rattle.jl_names.specs.declared.types.BaseType.TheVariants as types
use Rattle.jl_names.specs.declared.types.FieldType.{FieldType}
use Rattle.jl_names.specs.declared.types.Descriptor.{Descriptor}
use Rattle.jl_names.specs.declared.types.Descriptor.TheVariants as descriptors
use Rattle.jl_names.specs.declared.fault.TextFault.{TextFault}
use Rattle.jl_prim.specs.declared.numbers.ClassId.{ClassId}
use Rattle.jl_prim.specs.declared.numbers.LoaderId.{LoaderId}
use Rattle.jl_prim.specs.declared.numbers.ObjRef.{ObjRef}
use Rattle.jl_pool.specs.declared.entry.Entry.{Entry}
use Rattle.jl_class.specs.Meaning.{is_interface}
use Rattle.jl_heap.specs.declared.shape.Base.{Base}
use Rattle.jl_heap.specs.declared.shape.Base.TheVariants as bases
use Rattle.jl_heap.specs.declared.shape.Element.{Element}
use Rattle.jl_heap.specs.declared.shape.Shape.{Shape}
use Rattle.jl_heap.specs.declared.shape.Shape.TheVariants as shapes
use Rattle.jl_heap.specs.Heap.{HeapState, shape_at}
use Rattle.jl_loads.specs.declared.slot.Target.{Target}
use Rattle.jl_loads.specs.declared.slot.Target.TheVariants as targets
use Rattle.jl_loads.specs.Worlds.{State, Loaded, class_at, defined, is_same, is_subclass, is_subtype}
use Rattle.jl_link.specs.Named.{loaded_as}
use Rattle.jl_link.specs.Selection.{class_name}
use Rattle.jl_objops.specs.declared.types.Fit.{Fit}
use Rattle.jl_objops.specs.declared.types.Fit.TheVariants as fits
use Rattle.jl_objops.specs.declared.types.ObjectType.{ObjectType}

-- ---- classes

-- the class of java.base with a name; the first loader has java.base, and no class has number 0
abbrev pub base_class : State → List ℕ → ClassId
base_class w name = unwrap_or (defined w (record { 0 = 1 }) name) (record { 0 = 0 })

abbrev pub object_class : State → ClassId
object_class w = base_class w (codes "java/lang/Object")

-- what the pool of a class has
abbrev pub pool_of : State → ClassId → List Entry
pool_of w d = option_map_or (λ (x : Loaded). x.declared.pool) (class_at w d) []

-- the loader of a class; of none it is loader 0, which is none
abbrev pub loader_of : State → ClassId → LoaderId
loader_of w d = option_map_or (λ (x : Loaded). x.loader) (class_at w d) (record { 0 = 0 })

-- a class with this number is there
abbrev pub has_class : State → ClassId → Bool
has_class w c = nat_lt 0 c.0 && nat_le c.0 (length w.classes)

-- the class is an interface
abbrev pub is_interface_class : State → ClassId → Bool
is_interface_class w c = option_map_or (λ (x : Loaded). is_interface x.declared.flags) (class_at w c) false

-- ---- the type that a descriptor or a reference names, seen from a loader

-- a class that is loaded, or a primitive type
abbrev pub base_in : State → LoaderId → List ℕ → FieldType → BaseType → Option Base
base_in w l text t (types.Prim letter) = Some (bases.Prim letter)
base_in w l text t (types.Class from to) = option_map bases.Class (option_and_then (loaded_as w l) (class_in text t))

abbrev pub type_in : State → LoaderId → List ℕ → FieldType → Option Element
type_in w l text t = option_map (λ b. record { base = b; dims = t.dims }) (base_in w l text t t.base)

abbrev pub type_read : State → LoaderId → List ℕ → Result Descriptor TextFault → Option Element
type_read w l text (Ok (descriptors.Field t)) = type_in w l text t
type_read w l text _ = None

-- The type that a class reference refers to: a class has no dimension. What is no class is no type.
abbrev pub type_of_target : State → LoaderId → Target → Option Element
type_of_target w l (targets.Class c) = Some (record { base = bases.Class c; dims = 0 })
type_of_target w l (targets.Array text) = type_read w l text (descriptor_read text)
type_of_target w l _ = None

-- ---- objects

-- the class of an object, which for an array is Object
abbrev pub class_of : State → Shape → ClassId
class_of w (shapes.Object c fields) = c
class_of w (shapes.Text c units) = c
class_of w (shapes.List c items) = c
class_of w (shapes.Mirror c what) = c
class_of w (shapes.Array e n) = object_class w

abbrev pub of_class : ClassId → ObjectType
of_class c = record { base = bases.Class c; dims = 0 }

-- the type of an object: an array has a dimension more than its elements
abbrev pub type_of : Shape → ObjectType
type_of (shapes.Object c fields) = of_class c
type_of (shapes.Text c units) = of_class c
type_of (shapes.List c items) = of_class c
type_of (shapes.Mirror c what) = of_class c
type_of (shapes.Array e n) = record { base = e.base; dims = e.dims + 1 }

-- ---- which takes which

-- In a cast a class takes its subtypes. As what a native wants, an interface takes each class, and a class its subclasses.
abbrev pub class_takes : Fit → State → ClassId → ClassId → Bool
class_takes fits.Cast w c k = is_subtype w k c
class_takes fits.Native w c k = is_interface_class w c || is_subclass w k c

-- which classes take every array
abbrev pub takes_arrays : Fit → State → ClassId → Bool
takes_arrays fits.Cast w c = is_same c (object_class w) || is_same c (base_class w (codes "java/lang/Cloneable")) || is_same c (base_class w (codes "java/io/Serializable"))
takes_arrays fits.Native w c = is_interface_class w c || is_same c (object_class w)

abbrev pub base_takes : Fit → State → Base → Base → Bool
base_takes fit w (bases.Class c) (bases.Class k) = class_takes fit w c k
base_takes fit w (bases.Prim a) (bases.Prim b) = a == b
base_takes fit w _ _ = false

abbrev pub base_takes_arrays : Fit → State → Base → Bool
base_takes_arrays fit w (bases.Class c) = takes_arrays fit w c
base_takes_arrays fit w (bases.Prim a) = false

-- A type takes objects of as many dimensions where its base takes theirs, and those of more where its base takes every array.
abbrev pub takes : Fit → State → Element → ObjectType → Bool
takes fit w t x = if x.dims == t.dims then base_takes fit w t.base x.base else nat_lt t.dims x.dims && base_takes_arrays fit w t.base

-- the object with a number is one of the type
abbrev pub is_instance : Fit → State → HeapState → Element → ObjRef → Bool
is_instance fit w h t o = option_map_or (λ x. takes fit w t (type_of x)) (shape_at h o) false

-- ---- how errors name types

-- a class by its name
abbrev pub class_text : State → ClassId → List ℕ
class_text w c = dotted (class_name w c)

abbrev pub alone_text : State → Base → List ℕ
alone_text w (bases.Prim letter) = encode_utf8 letter
alone_text w (bases.Class c) = class_text w c

abbrev pub element_text : State → Base → List ℕ
element_text w (bases.Prim letter) = encode_utf8 letter
element_text w (bases.Class c) = 76 ∷ class_text w c ++ 59 ∷ []

-- an array by its descriptor, with dots
abbrev pub type_text : State → ObjectType → List ℕ
type_text w x = if x.dims == 0 then alone_text w x.base else replicate x.dims 91 ++ element_text w x.base

abbrev pub as_object : Element → ObjectType
as_object t = record { base = t.base; dims = t.dims }
