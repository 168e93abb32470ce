-- Making objects (JVMS 6.5, new), and constants that are objects (JVMS 5.1, 6.5, ldc).
use Rattle.std.specs.Prelude.{◌≡◌, ⊤, ℕ, List, [], unwrap_or, slice_get, Option, None, Some, Result, Ok, Err, Bool, true, ◌||◌, codes, if◌then◌else◌}
use Rattle.std.specs.Option.{option_map_or}
use Rattle.std.specs.Int.{cast_signed, w32}
use Rattle.jl_logic.specs.Order.{is_text}
use Rattle.jl_reading.specs.Reading.{◌>>=◌}
use Rattle.jl_prim.specs.declared.numbers.ClassId.{ClassId}
use Rattle.jl_prim.specs.declared.numbers.ObjRef.{ObjRef}
use Rattle.jl_prim.specs.declared.error_kind.ErrorKind.TheVariants as errors
use Rattle.jl_pool.specs.declared.entry.Entry.{Entry}
use Rattle.jl_pool.specs.declared.entry.Entry.TheVariants as entries
use Rattle.jl_pool.specs.Pool.{utf8_of}
use Rattle.jl_class.specs.Meaning.{is_abstract}
use Rattle.jl_tree.specs.Files.{File}
use Rattle.jl_heap.specs.declared.value.Value.TheVariants as values
use Rattle.jl_heap.specs.declared.shape.Element.{Element}
use Rattle.jl_heap.specs.declared.shape.Mirror.TheVariants as mirrors
use Rattle.jl_heap.specs.declared.shape.Shape.{Shape}
use Rattle.jl_heap.specs.declared.shape.Shape.TheVariants as shapes
use Rattle.jl_heap.specs.declared.kept.KeptKey.{KeptKey}
use Rattle.jl_heap.specs.declared.kept.KeptKey.TheVariants as keys
use Rattle.jl_heap.specs.declared.store.Store.{Store}
use Rattle.jl_heap.specs.Heap.{is_full, next_number, with_object}
use Rattle.jl_heap.specs.Kept.{kept_under, with_kept}
use Rattle.jl_heap.specs.Objects.{shape_slots}
use Rattle.jl_ops.specs.declared.stop.Stop.TheVariants as stops
use Rattle.jl_ops.specs.Operands.{in_room, put}
use Rattle.jl_ops.specs.Rows.{standing}
use Rattle.jl_loads.specs.declared.slot.Target.{Target}
use Rattle.jl_loads.specs.declared.slot.Target.TheVariants as targets
use Rattle.jl_loads.specs.Worlds.{State, Loaded, class_at}
use Rattle.jl_loads.specs.Outcomes as loads
use Rattle.jl_link.specs.Selection.{class_name}
use Rattle.jl_objops.specs.declared.caller.Caller.{Caller}
use Rattle.jl_objops.specs.declared.constants.Constant.{Constant}
use Rattle.jl_objops.specs.declared.constants.Constant.TheVariants as constants
use Rattle.jl_objops.specs.declared.halt.Halt.{Halt}
use Rattle.jl_objops.specs.declared.halt.Halt.TheVariants as halts
use Rattle.jl_objops.specs.Outcomes.{Outcome, of_thrown, no_member, no_constant, needed, refer, with_target, tested}
use Rattle.jl_objops.specs.Types.{base_class, pool_of, loader_of, type_of_target}
use Rattle.jl_objops.specs.Fields.{kinds_of}

-- ---- objects

-- a number of an object, and the store in which it is
abbrev pub Made : Type 0
Made = ObjRef × Store

-- a new object, where the heap has room for it
abbrev pub allocated : Shape → Store → Result Made Halt
allocated shape s = if is_full s.heap (shape_slots shape) then Err (halts.Stop stops.Full) else Ok (next_number s.heap, record s { heap = with_object shape s.heap })

-- the object is put on the stack
abbrev pub pushed : Made → Store
pushed (o, s) = record s { frames = put (values.Ref (Some o)) s.frames }

-- ---- new

-- the classes of java.base whose objects are texts or lists, and may be made by new
abbrev pub is_text_class : List ℕ → Bool
is_text_class name = is_text name (codes "java/lang/String") || is_text name (codes "java/lang/StringBuilder")

abbrev pub is_list_class : List ℕ → Bool
is_list_class name = is_text name (codes "java/util/ArrayList") || is_text name (codes "java/util/ServiceLoader")

-- the shape with which an object of a class begins
abbrev pub new_shape : State → ClassId → Shape
new_shape w c =
    if is_text_class (class_name w c) then shapes.Text c []
    else if is_list_class (class_name w c) then shapes.List c []
    else shapes.Object c (kinds_of w c)

-- the class is abstract, as each interface is
abbrev pub is_abstract_class : State → ClassId → Bool
is_abstract_class w c = option_map_or (λ (x : Loaded). is_abstract x.declared.flags) (class_at w c) true

abbrev pub class_target : Target → Result ClassId Halt
class_target (targets.Class c) = Ok c
class_target t = Err no_member

-- an object of the class is made, if the class may be used and is not abstract
abbrev pub instantiated : State → Store → ClassId → Result Made Halt
instantiated w s c =
    if is_abstract_class w c then Err (of_thrown (loads.of_class errors.InstantiationError (class_name w c)))
    else needed s c >>= λ _. allocated (new_shape w c) s

abbrev pub new_done : ℕ → Store → State → Target → Result Store Halt
new_done next s w t = class_target t >>= λ c. instantiated w s c >>= λ made. Ok (standing next (pushed made))

abbrev pub new_row : List File → ℕ → State → Store → Caller → ℕ → ℕ → Outcome
new_row files at w s caller i next =
    tested w (in_room {X = Unit} 1 s.frames tt) (λ _. with_target (refer files at w caller.class i) (new_done next s))

-- ---- constants

-- a new object is kept under a key
abbrev pub keeps : KeptKey → Made → Result Made Halt
keeps key (o, s) = Ok (o, record s { kept = with_kept key o s.kept })

abbrev pub kept_if : KeptKey → Shape → Store → Option ObjRef → Result Made Halt
kept_if key shape s (Some o) = Ok (o, s)
kept_if key shape s None = allocated shape s >>= keeps key

-- the object that is kept under a key, or a new one that is kept from now on
abbrev pub kept_or_new : KeptKey → Shape → Store → Result Made Halt
kept_or_new key shape s = kept_if key shape s (kept_under key s.kept.pairs)

-- the object of a literal text
abbrev pub literal : State → Store → List ℕ → Result Made Halt
literal w s units = kept_or_new (keys.Text units) (shapes.Text (base_class w (codes "java/lang/String")) units) s

-- the object that stands for a class or an array class
abbrev pub mirror : State → Store → Element → Result Made Halt
mirror w s t = kept_or_new (keys.Mirror (mirrors.Class t)) (shapes.Mirror (base_class w (codes "java/lang/Class")) (mirrors.Class t)) s

abbrev pub mirror_if : State → Store → Option Element → Result Made Halt
mirror_if w s None = Err no_member
mirror_if w s (Some t) = mirror w s t

abbrev pub class_loaded : ℕ → Store → ClassId → State → Target → Result Store Halt
class_loaded next s d w t = mirror_if w s (type_of_target w (loader_of w d) t) >>= λ made. Ok (standing next (pushed made))

-- the object of the text at an index of a class is put on the stack
abbrev pub text_loaded : ℕ → Store → ClassId → ℕ → State → Result Store Halt
text_loaded next s d text w = literal w s (unwrap_or (utf8_of (pool_of w d) text) []) >>= λ made. Ok (standing next (pushed made))

-- what an entry of the pool loads: others are no constants here
abbrev pub constant_of : Option Entry → Constant
constant_of (Some (entries.Integer bits)) = constants.Number (cast_signed w32 bits)
constant_of (Some (entries.String text)) = constants.Text text
constant_of (Some (entries.Class name)) = constants.Class
constant_of _ = constants.Other

abbrev pub constant_loaded : List File → ℕ → State → Store → Caller → ℕ → ℕ → Constant → Outcome
constant_loaded files at w s caller i next (constants.Number n) = (w, Ok (standing next (record s { frames = put (values.Int n) s.frames })))
constant_loaded files at w s caller i next (constants.Text text) = (w, text_loaded next s caller.class text w)
constant_loaded files at w s caller i next constants.Class = with_target (refer files at w caller.class i) (class_loaded next s caller.class)
constant_loaded files at w s caller i next constants.Other = (w, Err no_constant)

abbrev pub constant_row : List File → ℕ → State → Store → Caller → ℕ → ℕ → Outcome
constant_row files at w s caller i next =
    tested w (in_room {X = Unit} 1 s.frames tt) (λ _. constant_loaded files at w s caller i next (constant_of (slice_get (pool_of w caller.class) i)))

-- How the code makes an object: as is said, or it does not, as is said, and the store is as it was. Without memory nothing is said.
abbrev pub Makes : Result Made Halt → Store → Result ObjRef Halt → Store → Type 0
Makes said old (Ok o) new = said ≡ Ok (o, new)
Makes said old (Err halts.NoMemory) new = ⊤
Makes said old (Err h) new = (said ≡ Err h) × (new ≡ old)
