-- The items of types, the first frame of a method, and the frames that its stack map declares (JVMS 4.7.4, 4.10.1.6).
use Rattle.std.specs.Prelude.{ℕ, ◌-◌, List, [], ◌∷◌, ◌++◌, length, map, take, drop, Option, None, Some, Result, Ok, Err, Bool, true, false, ◌==◌, nat_le, option_map, if◌then◌else◌}
use Rattle.std.specs.List.{list_any}
use Rattle.jl_logic.specs.Order.{is_text}
use Rattle.jl_names.specs.declared.types.BaseType.{BaseType}
use Rattle.jl_names.specs.declared.types.BaseType.TheVariants.{Prim, Class}
use Rattle.jl_names.specs.declared.types.FieldType.{FieldType}
use Rattle.jl_names.specs.declared.types.Descriptor.{Descriptor}
use Rattle.jl_names.specs.declared.types.Descriptor.TheVariants as descriptors
use Rattle.jl_names.specs.Descriptors.{between, type_bytes}
use Rattle.jl_pool.specs.declared.entry.Entry.{Entry}
use Rattle.jl_frames.specs.declared.frame.Frame.{Frame as Stated}
use Rattle.jl_frames.specs.declared.frame.Change.{Change}
use Rattle.jl_frames.specs.declared.frame.Change.TheVariants as changes
use Rattle.jl_frames.specs.declared.frame.RawItem.{RawItem}
use Rattle.jl_frames.specs.declared.frame.RawItem.TheVariants as raws
use Rattle.jl_code.specs.References.{class_text, described, init}
use Rattle.jl_class.specs.Classes.{Class as ClassFile}
use Rattle.jl_class.specs.Meaning.{is_static}
use Rattle.jl_class.specs.declared.member.MethodDecl.{MethodDecl}
use Rattle.jl_vtypes.specs.declared.item.Item.{Item}
use Rattle.jl_vtypes.specs.declared.item.Item.TheVariants as items
use Rattle.jl_vtypes.specs.Assignability.{is_array}
use Rattle.jl_verify.specs.Frames.{Frame, slots, stacked}
use Rattle.jl_verify.specs.declared.declared_frame.DeclaredFrame.{DeclaredFrame}
use Rattle.jl_verify.specs.declared.declared_frame.Types.{Types}

-- ---- items of types (JVMS 4.3.2, 4.10.1.2)

-- what a primitive type is computed as: J is long, F float, D double, and every other an int
abbrev pub prim_item : ℕ → Item
prim_item letter = if letter == 74 then items.Long else if letter == 70 then items.Float else if letter == 68 then items.Double else items.Int

abbrev pub base_item : List ℕ → BaseType → Item
base_item text (Prim letter) = prim_item letter
base_item text (Class from to) = items.Class (between text from to)

-- the item of a type in a descriptor
abbrev pub item_of : List ℕ → FieldType → Item
item_of text t = if t.dims == 0 then base_item text t.base else items.Array (type_bytes text t)

-- the item of a class in the pool, whose text is a name, or the descriptor of an array
abbrev pub class_item : List ℕ → Item
class_item text = if is_array text then items.Array text else items.Class text

-- ---- the first frame (JVMS 4.10.1.6)

abbrev pub is_init : MethodDecl → Bool
is_init m = is_text m.name init

-- this, which is not initialized where <init> begins
abbrev pub this_items : ClassFile → MethodDecl → List Item
this_items c m = if is_static m.flags then [] else if is_init m then items.UninitThis ∷ [] else items.Class c.name ∷ []

abbrev pub params_of : Option Descriptor → List FieldType
params_of (Some (descriptors.Method params result)) = params
params_of _ = []

abbrev pub result_of : Option Descriptor → Option FieldType
result_of (Some (descriptors.Method params result)) = result
result_of _ = None

-- this and the parameters
abbrev pub first_items : ClassFile → MethodDecl → List Item
first_items c m = this_items c m ++ map (item_of m.desc) (params_of (described (Some m.desc)))

-- the frame that the descriptor makes
abbrev pub first_frame : ClassFile → MethodDecl → Frame
first_frame c m = record { locals = slots (first_items c m); stack = []; marked = is_init m }

-- ---- declared frames (JVMS 4.7.4)

-- an item of a stack map, where an Object has the index of a class
abbrev pub stated_item : List Entry → RawItem → Option Item
stated_item pool raws.Top = Some items.Top
stated_item pool raws.Int = Some items.Int
stated_item pool raws.Float = Some items.Float
stated_item pool raws.Double = Some items.Double
stated_item pool raws.Long = Some items.Long
stated_item pool raws.Null = Some items.Null
stated_item pool raws.UninitThis = Some items.UninitThis
stated_item pool (raws.Object i) = option_map class_item (class_text pool i)
stated_item pool (raws.Uninit made_at) = Some (items.Uninit made_at)

-- one more, where both are there
abbrev pub both_there : Option Item → Option (List Item) → Option (List Item)
both_there None later = None
both_there (Some item) None = None
both_there (Some item) (Some later) = Some (item ∷ later)

abbrev pub stated_items : List Entry → List RawItem → Option (List Item)
stated_items pool [] = Some []
stated_items pool (raw ∷ raws) = both_there (stated_item pool raw) (stated_items pool raws)

-- what a change with items makes of the locals before it
abbrev pub changed_by : List Item → Change → List Item → Option Types
changed_by locals changes.Same stated = Some (record { locals = locals; stack = [] })
changed_by locals changes.One stated = Some (record { locals = locals; stack = stated })
changed_by locals (changes.Chop k) stated = if nat_le k (length locals) then Some (record { locals = take (length locals - k) locals; stack = [] }) else None
changed_by locals changes.Append stated = Some (record { locals = locals ++ stated; stack = [] })
changed_by locals (changes.Full n) stated = Some (record { locals = take n stated; stack = drop n stated })

abbrev pub changed_with : List Item → Change → Option (List Item) → Option Types
changed_with locals change None = None
changed_with locals change (Some stated) = changed_by locals change stated

-- the frame that a stack map states, where it can be made
abbrev pub changed : List Entry → List Item → Stated → Option Types
changed pool locals f = changed_with locals f.change (stated_items pool f.items)

abbrev pub is_uninit_this : Item → Bool
is_uninit_this items.UninitThis = true
is_uninit_this _ = false

-- the slots of a declared frame, which is marked where a local is this before it is initialized
abbrev pub frame_of : Types → Frame
frame_of t = record { locals = slots t.locals; stack = stacked t.stack; marked = list_any is_uninit_this t.locals }

-- a declared frame behind which others are made
abbrev pub then_made : ℕ → Types → Result (List DeclaredFrame) ℕ → Result (List DeclaredFrame) ℕ
then_made offset t (Ok later) = Ok (record { offset = offset; frame = frame_of t } ∷ later)
then_made offset t (Err at) = Err at

-- a frame that is made, with those behind it, or the place where none can be
abbrev pub made_or_not : ℕ → Option Types → (Types → Result (List DeclaredFrame) ℕ) → Result (List DeclaredFrame) ℕ
made_or_not offset None later = Err offset
made_or_not offset (Some t) later = then_made offset t (later t)

-- The declared frames, each made from the locals of the one before, or the place of the first that stands at no instruction or cannot be made.
unfoldable pub made : List Entry → (ℕ → Bool) → List Item → List Stated → Result (List DeclaredFrame) ℕ
made pool is_start locals [] = Ok []
made pool is_start locals (f ∷ fs) = made_or_not f.offset (if is_start f.offset then changed pool locals f else None) (λ t. made pool is_start t.locals fs)
