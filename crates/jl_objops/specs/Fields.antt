-- Reading and writing fields (JVMS 6.5, getstatic, putstatic, getfield, putfield).
use Rattle.std.specs.Prelude.{ℕ, ◌+◌, nat_lt, List, [], ◌∷◌, ◌++◌, map, length, filter, take, drop, reverse, unwrap_or, Option, None, Some, Result, Ok, Err, Bool, true, false, not, ◌&&◌, ◌||◌, codes, if◌then◌else◌}
use Rattle.std.specs.Bool.{beq}
use Rattle.std.specs.List.{flat_map, sum}
use Rattle.jl_logic.specs.Order.{is_text}
use Rattle.jl_reading.specs.Reading.{◌>>=◌}
use Rattle.jl_names.specs.Descriptors.{descriptor_read}
use Rattle.jl_names.specs.declared.types.BaseType.{BaseType}
use Rattle.jl_names.specs.declared.types.BaseType.TheVariants as types
use Rattle.jl_names.specs.declared.types.FieldType.{FieldType}
use Rattle.jl_names.specs.declared.types.Descriptor.{Descriptor}
use Rattle.jl_names.specs.declared.types.Descriptor.TheVariants as descriptors
use Rattle.jl_names.specs.declared.fault.TextFault.{TextFault}
use Rattle.jl_prim.specs.declared.numbers.ClassId.{ClassId}
use Rattle.jl_prim.specs.declared.numbers.ObjRef.{ObjRef}
use Rattle.jl_prim.specs.declared.error_kind.ErrorKind.TheVariants as errors
use Rattle.jl_code.specs.References.{member_desc}
use Rattle.jl_class.specs.declared.member.FieldDecl.{FieldDecl}
use Rattle.jl_class.specs.Meaning.{is_static, is_final}
use Rattle.jl_tree.specs.Files.{File}
use Rattle.jl_heap.specs.declared.value.Kind.{Kind}
use Rattle.jl_heap.specs.declared.value.Kind.TheVariants as kinds
use Rattle.jl_heap.specs.declared.value.Value.{Value}
use Rattle.jl_heap.specs.declared.value.Value.TheVariants as values
use Rattle.jl_heap.specs.declared.store.Store.{Store}
use Rattle.jl_heap.specs.Frames.{FramesState, room_in}
use Rattle.jl_heap.specs.Heap.{HeapState, slot_at, with_changed, with_slot}
use Rattle.jl_heap.specs.Objects.{letter_kind}
use Rattle.jl_heap.specs.Statics.{static_at, with_changed_class, with_static}
use Rattle.jl_ops.specs.declared.stop.Stop.{Stop}
use Rattle.jl_ops.specs.declared.stop.Stop.TheVariants as stops
use Rattle.jl_ops.specs.Operands.{value_under, ref_under, wanted, kind_slots, no_room, in_room, put_value, popped, without_top}
use Rattle.jl_ops.specs.Rows.{standing}
use Rattle.jl_loads.specs.declared.slot.Target.{Target}
use Rattle.jl_loads.specs.Worlds.{State, is_same, line_of, fields_of}
use Rattle.jl_link.specs.declared.member.Member.{Member}
use Rattle.jl_link.specs.Selection.{class_name}
use Rattle.jl_objops.specs.declared.caller.Caller.{Caller}
use Rattle.jl_objops.specs.declared.halt.Halt.{Halt}
use Rattle.jl_objops.specs.declared.halt.Halt.TheVariants as halts
use Rattle.jl_objops.specs.declared.row.FieldOp.{FieldOp}
use Rattle.jl_objops.specs.declared.row.FieldOp.TheVariants as ops
use Rattle.jl_objops.specs.declared.fields.FieldOperands.{FieldOperands}
use Rattle.jl_objops.specs.Outcomes.{Outcome, stopped, no_member, needed, refer, with_target, tested}
use Rattle.jl_objops.specs.Types.{pool_of}
use Rattle.jl_objops.specs.Members.{target_field, found, caller_name, field_error, final_error, is_object_of}

-- ---- kinds

abbrev pub base_kind : BaseType → Kind
base_kind (types.Prim letter) = letter_kind letter
base_kind (types.Class from to) = kinds.Ref

-- the kind of the values of a type
abbrev pub type_kind : FieldType → Kind
type_kind t = if nat_lt 0 t.dims then kinds.Ref else base_kind t.base

abbrev pub kind_read : Result Descriptor TextFault → Kind
kind_read (Ok (descriptors.Field t)) = type_kind t
kind_read _ = kinds.Top

-- the kind of the field that the entry at an index of a class names
abbrev pub kind_named : State → ClassId → ℕ → Kind
kind_named w d i = kind_read (descriptor_read (unwrap_or (member_desc (pool_of w d) i) []))

-- ---- what a row takes

abbrev pub nothing_taken : FieldOperands
nothing_taken = record { object = None; value = values.Top }

-- The value that is written lies above the object. What is read has to have room.
abbrev pub operands : FieldOp → Kind → FramesState → Result FieldOperands Stop
operands ops.GetStatic kind f = in_room (kind_slots kind) f nothing_taken
operands ops.PutStatic kind f = wanted kind (value_under f 0) >>= λ v. Ok (record { object = None; value = v })
operands ops.GetField kind f = ref_under f 0 >>= λ o. if nat_lt (room_in f + 1) (kind_slots kind) then Err no_room else Ok (record { object = o; value = values.Top })
operands ops.PutField kind f = wanted kind (value_under f 0) >>= λ v. ref_under f (kind_slots kind) >>= λ o. Ok (record { object = o; value = v })

-- ---- what is tested right after resolution

abbrev pub is_of_class : FieldOp → Bool
is_of_class ops.GetStatic = true
is_of_class ops.PutStatic = true
is_of_class _ = false

abbrev pub writes : FieldOp → Bool
writes ops.PutStatic = true
writes ops.PutField = true
writes _ = false

-- the method in which a final field is written: what initializes the class, or what makes an object
abbrev pub writer : FieldOp → List ℕ
writer ops.PutStatic = codes "<clinit>"
writer op = codes "<init>"

-- Only its own class writes a final field, and only there.
abbrev pub may_use : FieldOp → State → Caller → Member → Bool
may_use op w caller m = not (writes op && is_final m.flags) || (is_same caller.class m.owner && is_text (caller_name w caller) (writer op))

abbrev pub fits_row : FieldOp → State → Caller → Member → Result Unit Halt
fits_row op w caller m =
    if not (beq (is_static m.flags) (is_of_class op)) then Err (field_error errors.IncompatibleClassChangeError w m)
    else if may_use op w caller m then Ok tt
    else Err (final_error w m)

-- ---- where values are

-- a value that is there, of the kind that the row wants
abbrev pub there : Kind → Option Value → Result Value Halt
there kind None = Err no_member
there kind (Some v) = stopped (wanted kind v)

-- the place of a static field among those of its class
abbrev pub static_place : State → Member → ℕ
static_place w m = length (filter (λ (f : FieldDecl). is_static f.flags) (take m.at (fields_of w m.owner)))

-- the boxes of values that are ints
abbrev pub is_int_box : List ℕ → Bool
is_int_box name = is_text name (codes "java/lang/Integer") || is_text name (codes "java/lang/Short") || is_text name (codes "java/lang/Byte") || is_text name (codes "java/lang/Character") || is_text name (codes "java/lang/Boolean")

-- the fields of objects that a class of java.base has beside those that it declares: a throwable its message, cause and what it suppressed; an enum its name and ordinal; a box its value
abbrev pub hidden : List ℕ → List Kind
hidden name =
    if is_text name (codes "java/lang/Throwable") then kinds.Ref ∷ kinds.Ref ∷ kinds.Ref ∷ []
    else if is_text name (codes "java/lang/Enum") then kinds.Ref ∷ kinds.Int ∷ []
    else if is_text name (codes "java/lang/Long") then kinds.Long ∷ []
    else if is_int_box name then kinds.Int ∷ []
    else if is_text name (codes "java/util/Optional") then kinds.Ref ∷ []
    else []

-- those of some declared fields that are fields of objects
abbrev pub object_fields : List FieldDecl → List FieldDecl
object_fields fs = filter (λ (f : FieldDecl). not (is_static f.flags)) fs

-- and the kinds of their values
abbrev pub declared : List FieldDecl → List Kind
declared fs = map (λ (f : FieldDecl). kind_read (descriptor_read f.desc)) (object_fields fs)

-- the fields that objects of a class have by the class itself
abbrev pub own_kinds : State → ClassId → List Kind
own_kinds w c = hidden (class_name w c) ++ declared (fields_of w c)

-- The slots of an object: those of its superclass come first.
abbrev pub kinds_of : State → ClassId → List Kind
kinds_of w c = flat_map (own_kinds w) (reverse (line_of w c))

-- how many slots an object has by a class itself
abbrev pub own_count : State → ClassId → ℕ
own_count w c = length (hidden (class_name w c)) + length (object_fields (fields_of w c))

-- how many it has by the superclasses of a class
abbrev pub slots_above : State → ClassId → ℕ
slots_above w c = sum (map (own_count w) (drop 1 (line_of w c)))

-- the place of a field among the slots of an object
abbrev pub object_place : State → Member → ℕ
object_place w m = slots_above w m.owner + length (hidden (class_name w m.owner)) + length (object_fields (take m.at (fields_of w m.owner)))

-- the object that has the field
abbrev pub object_with : State → HeapState → Option ObjRef → Member → Result ObjRef Halt
object_with w h None m = Err (halts.Stop stops.Null)
object_with w h (Some o) m = if is_object_of w h m.owner o then Ok o else Err no_member

-- ---- what a row does with the field

abbrev pub static_read : Kind → State → Store → Member → Result Store Halt
static_read kind w s m =
    needed s m.owner >>= λ _. there kind (static_at s.statics m.owner (static_place w m)) >>= λ v.
    Ok (record s { frames = put_value v s.frames })

abbrev pub static_written : Kind → State → Store → Value → Member → Result Store Halt
static_written kind w s v m =
    needed s m.owner >>= λ _. there kind (static_at s.statics m.owner (static_place w m)) >>= λ old.
    Ok (record s { statics = with_changed_class m.owner (with_static (static_place w m) v) s.statics; frames = without_top v s.frames })

abbrev pub field_read : Kind → State → Store → Option ObjRef → Member → Result Store Halt
field_read kind w s object m =
    object_with w s.heap object m >>= λ o. there kind (slot_at s.heap o (object_place w m)) >>= λ v.
    Ok (record s { frames = put_value v (popped s.frames) })

abbrev pub field_written : Kind → State → Store → FieldOperands → Member → Result Store Halt
field_written kind w s taken m =
    object_with w s.heap taken.object m >>= λ o. there kind (slot_at s.heap o (object_place w m)) >>= λ old.
    Ok (record s { heap = with_changed o (with_slot (object_place w m) taken.value) s.heap; frames = popped (without_top taken.value s.frames) })

abbrev pub moved : FieldOp → Kind → State → Store → FieldOperands → Member → Result Store Halt
moved ops.GetStatic kind w s taken m = static_read kind w s m
moved ops.PutStatic kind w s taken m = static_written kind w s taken.value m
moved ops.GetField kind w s taken m = field_read kind w s taken.object m
moved ops.PutField kind w s taken m = field_written kind w s taken m

-- ---- the row

-- what the row does once the field is resolved
abbrev pub field_done : FieldOp → Kind → Caller → ℕ → Store → FieldOperands → State → Target → Result Store Halt
field_done op kind caller next s taken w t =
    found (target_field w t) >>= λ m. fits_row op w caller m >>= λ _. moved op kind w s taken m >>= λ u. Ok (standing next u)

-- The field that the entry at an index names is read or written. The next instruction stands at a place.
abbrev pub field_row : List File → ℕ → State → Store → Caller → FieldOp → ℕ → ℕ → Outcome
field_row files at w s caller op i next =
    tested w (operands op (kind_named w caller.class i) s.frames) (λ taken.
    with_target (refer files at w caller.class i) (field_done op (kind_named w caller.class i) caller next s taken))
