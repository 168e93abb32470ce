-- What an instruction takes from a frame and gives to it (JVMS 4.10.1.9).
use Rattle.std.specs.Prelude.{◌≡◌, ℕ, zero, suc, ◌+◌, List, [], ◌∷◌, ◌++◌, map, drop, replicate, find, Option, None, Some, Bool, true, false, not, ◌&&◌, ◌||◌, ◌==◌, codes, is_some, if◌then◌else◌, pos}
use Rattle.jl_logic.specs.Order.{is_text}
use Rattle.jl_names.specs.declared.types.FieldType.{FieldType}
use Rattle.jl_names.specs.declared.types.Descriptor.{Descriptor}
use Rattle.jl_names.specs.declared.types.Descriptor.TheVariants as descriptors
use Rattle.jl_pool.specs.Pool.{tag_of}
use Rattle.jl_optable.specs.declared.ops.TheConstants as ops
use Rattle.jl_code.specs.declared.code.Arg.{Arg}
use Rattle.jl_code.specs.declared.code.Arg.TheVariants as args
use Rattle.jl_code.specs.declared.code.Instr.{Instr}
use Rattle.jl_code.specs.Locals.{local_of}
use Rattle.jl_code.specs.References.{class_text, member_class, member_name, member_desc, described, has_tag, init}
use Rattle.jl_vtypes.specs.declared.item.Item.{Item}
use Rattle.jl_vtypes.specs.declared.item.Item.TheVariants as items
use Rattle.jl_vtypes.specs.Asking.{Asks, Done, and_then}
use Rattle.jl_vtypes.specs.Assignability.{is_same, is_array, name_in}
use Rattle.jl_verify.specs.Frames.{Frame, is_wide}
use Rattle.jl_verify.specs.Declaring.{item_of, class_item, params_of, result_of}
use Rattle.jl_verify.specs.Checked.{Checked}
use Rattle.jl_verify.specs.declared.shuffles.Moved.{Moved}
use Rattle.jl_verify.specs.declared.family.Group.{Group}
use Rattle.jl_verify.specs.declared.family.Group.TheVariants as groups
use Rattle.jl_verify.specs.declared.want.Want.{Want}
use Rattle.jl_verify.specs.declared.want.Want.TheVariants as wants
use Rattle.jl_verify.specs.declared.want.Wanted.{Wanted}
use Rattle.jl_verify.specs.declared.want.Wanted.TheVariants.{Says, To, Owner, Fresh}
use Rattle.jl_verify.specs.declared.family.Family.{Family}
use Rattle.jl_verify.specs.declared.family.Family.TheVariants as families
use Rattle.jl_verify.specs.declared.family.ValueKind.{ValueKind}
use Rattle.jl_verify.specs.declared.family.ValueKind.TheVariants as kinds
use Rattle.jl_verify.specs.declared.family.Elements.{Elements}
use Rattle.jl_verify.specs.declared.family.Elements.TheVariants as elements
use Rattle.jl_verify.specs.declared.family.Compute.{Compute}
use Rattle.jl_verify.specs.declared.family.Compute.TheVariants as computes
use Rattle.jl_verify.specs.declared.family.Shuffle.{Shuffle}
use Rattle.jl_verify.specs.declared.family.Shuffle.TheVariants as shuffles

-- ---- answers in a row

-- both are so; the second is asked where the first is
abbrev pub both : Asks Bool → Asks Bool → Asks Bool
both one other = and_then one (λ is. if is then other else Done false)

-- ---- what is taken

-- an item, Top where there is none
abbrev pub or_top : Option Item → Item
or_top None = items.Top
or_top (Some item) = item

-- the item in a slot counted from 0, Top where there is none
abbrev pub item_at : List Item → ℕ → Item
item_at [] at = items.Top
item_at (item ∷ later) zero = item
item_at (item ∷ later) (suc at) = item_at later at

-- a class, an array or null
abbrev pub is_object_item : Item → Bool
is_object_item items.Null = true
is_object_item (items.Class name) = true
is_object_item (items.Array desc) = true
is_object_item _ = false

-- the same, or an object before its <init>
abbrev pub is_reference : Item → Bool
is_reference items.UninitThis = true
is_reference (items.Uninit made_at) = true
is_reference item = is_object_item item

-- the descriptor of an array's elements, nothing where it is no array
abbrev pub element_desc : List ℕ → List ℕ
element_desc desc = if is_array desc then drop 1 desc else []

-- null, or an array whose elements' descriptor has a property
abbrev pub is_array_with : (List ℕ → Bool) → Item → Bool
is_array_with test items.Null = true
is_array_with test (items.Array desc) = test (element_desc desc)
is_array_with test _ = false

-- the descriptor of an array or of a class
abbrev pub spells_reference : List ℕ → Bool
spells_reference desc = is_array desc || is_some (name_in desc)

-- a slot holds what is wanted, where no class is asked for
abbrev pub has_kind : Want → Item → Bool
has_kind wants.Slot item = true
has_kind wants.Int item = is_same item items.Int
has_kind wants.Long item = is_same item items.Long
has_kind wants.Half item = is_same item items.Top
has_kind wants.Reference item = is_reference item
has_kind wants.Object item = is_object_item item
has_kind wants.Array item = is_array_with (λ desc. true) item
has_kind wants.References item = is_array_with spells_reference item
has_kind wants.Bytes item = is_array_with (λ desc. is_text desc (codes "B")) item || is_array_with (λ desc. is_text desc (codes "Z")) item
has_kind (wants.Prims letter) item = is_array_with (λ desc. is_text desc (letter ∷ [])) item

abbrev pub throwable_name : List ℕ
throwable_name = codes "java/lang/Throwable"

abbrev pub throwable : Item
throwable = items.Class throwable_name

-- an item as it is taken, slot by slot from the top
abbrev pub taken_as : Item → List Wanted
taken_as item = if is_wide item then Says wants.Half ∷ To item ∷ [] else To item ∷ []

-- the items of parameters, as they are taken: the last first
abbrev pub arguments_of : List Item → List Wanted
arguments_of [] = []
arguments_of (item ∷ later) = arguments_of later ++ taken_as item

-- ---- what the pool names

abbrev pub text_or_none : Option (List ℕ) → List ℕ
text_or_none None = []
text_or_none (Some text) = text

-- the class of an operand
abbrev pub class_named : Checked → ℕ → List ℕ
class_named c i = text_or_none (class_text c.class.pool i)

-- the class in which a member is looked up, its name, and its descriptor
abbrev pub owner_named : Checked → ℕ → List ℕ
owner_named c i = text_or_none (member_class c.class.pool i)

abbrev pub desc_named : Checked → ℕ → List ℕ
desc_named c i = text_or_none (member_desc c.class.pool i)

abbrev pub names_init : Checked → ℕ → Bool
names_init c i = is_text (text_or_none (member_name c.class.pool i)) init

abbrev pub is_field_of : List ℕ → Option Descriptor → Item
is_field_of desc (Some (descriptors.Field t)) = item_of desc t
is_field_of desc _ = items.Top

-- the item of a field
abbrev pub field_item : Checked → ℕ → Item
field_item c i = is_field_of (desc_named c i) (described (Some (desc_named c i)))

abbrev pub result_items : List ℕ → Option FieldType → List Item
result_items desc None = []
result_items desc (Some t) = item_of desc t ∷ []

-- the parameters of a method as they are taken, and its result
abbrev pub method_arguments : Checked → ℕ → List Wanted
method_arguments c i = arguments_of (map (item_of (desc_named c i)) (params_of (described (Some (desc_named c i)))))

abbrev pub method_result : Checked → ℕ → List Item
method_result c i = result_items (desc_named c i) (result_of (described (Some (desc_named c i))))

-- the index of an operand
abbrev pub index_of : Arg → ℕ
index_of (args.Index i) = i
index_of (args.Multi i count) = i
index_of _ = 0

abbrev pub dims_of : Arg → ℕ
dims_of (args.Multi i count) = count
dims_of _ = 0

-- the instruction at a place
abbrev pub instr_at : Checked → ℕ → Option Instr
instr_at c place = find (λ (i : Instr). i.at == place) c.instrs

abbrev pub made_by : Checked → Option Instr → Option (List ℕ)
made_by c None = None
made_by c (Some i) = if i.op == ops.NEW then class_text c.class.pool (index_of i.arg) else None

-- the class that the new at a place makes
abbrev pub made_at : Checked → ℕ → Option (List ℕ)
made_at c place = made_by c (instr_at c place)

abbrev pub is_text_or_none : Option (List ℕ) → List ℕ → Bool
is_text_or_none None text = false
is_text_or_none (Some name) text = is_text name text

-- an object before the <init> of a class: made by a new of exactly this class, or this, where the class is its own or its superclass
abbrev pub is_fresh : Checked → List ℕ → Item → Bool
is_fresh c name (items.Uninit place) = is_text_or_none (made_at c place) name
is_fresh c name items.UninitThis = is_text c.class.name name || is_text_or_none c.class.super_name name
is_fresh c name _ = false

-- ---- the item of a constant, and of arrays

-- Integer, String, and else Class
abbrev pub constant_item : Option ℕ → Item
constant_item tag = if has_tag 3 tag then items.Int else if has_tag 8 tag then items.Class (codes "java/lang/String") else items.Class (codes "java/lang/Class")

-- the descriptor of an array of primitives, by the number that newarray has for it (JVMS 6.5, newarray)
abbrev pub new_desc : ℕ → List ℕ
new_desc n =
    if n == 4 then codes "[Z"
    else if n == 5 then codes "[C"
    else if n == 6 then codes "[F"
    else if n == 7 then codes "[D"
    else if n == 8 then codes "[B"
    else if n == 9 then codes "[S"
    else if n == 10 then codes "[I"
    else codes "[J"

abbrev pub new_array : Arg → Item
new_array (args.Number (pos n)) = items.Array (new_desc n)
new_array _ = items.Top

-- an array of a class, or of an array
abbrev pub array_of : List ℕ → Item
array_of text = if is_array text then items.Array (codes "[" ++ text) else items.Array (codes "[L" ++ text ++ codes ";")

abbrev pub class_or_top : Option (List ℕ) → Item
class_or_top None = items.Top
class_or_top (Some name) = items.Class name

-- what an array holds whose elements have a descriptor
abbrev pub reference_of : List ℕ → Item
reference_of desc = if is_array desc then items.Array desc else class_or_top (name_in desc)

-- what is loaded of an array of references: null has null elements
abbrev pub element_of : Item → Item
element_of (items.Array desc) = reference_of (element_desc desc)
element_of _ = items.Null

-- ---- families

abbrev pub long_taken : List Want
long_taken = wants.Half ∷ wants.Long ∷ []

abbrev pub value_taken : ValueKind → List Want
value_taken kinds.Int = wants.Int ∷ []
value_taken kinds.Long = long_taken
value_taken kinds.Reference = wants.Reference ∷ []

-- arrays of the primitive types I, J, C and S
abbrev pub array_taken : Elements → Want
array_taken elements.Ints = wants.Prims 73
array_taken elements.Longs = wants.Prims 74
array_taken elements.References = wants.References
array_taken elements.Bytes = wants.Bytes
array_taken elements.Chars = wants.Prims 67
array_taken elements.Shorts = wants.Prims 83

abbrev pub element_taken : Elements → List Want
element_taken elements.Longs = long_taken
element_taken elements.References = wants.Object ∷ []
element_taken _ = wants.Int ∷ []

-- the element of an array that lies below an index on the stack
abbrev pub element_given : Elements → List Item → Item
element_given elements.Longs stack = items.Long
element_given elements.References stack = element_of (item_at stack 1)
element_given _ stack = items.Int

abbrev pub computed_of : Compute → List Want
computed_of computes.IntsToInt = wants.Int ∷ wants.Int ∷ []
computed_of computes.LongsToLong = long_taken ++ long_taken
computed_of computes.LongAndIntToLong = wants.Int ∷ long_taken
computed_of computes.IntToInt = wants.Int ∷ []
computed_of computes.LongToLong = long_taken
computed_of computes.IntToLong = wants.Int ∷ []
computed_of computes.LongToInt = long_taken
computed_of computes.LongsToInt = long_taken ++ long_taken

abbrev pub computed : Compute → Item
computed computes.IntsToInt = items.Int
computed computes.LongsToLong = items.Long
computed computes.LongAndIntToLong = items.Long
computed computes.IntToInt = items.Int
computed computes.LongToLong = items.Long
computed computes.IntToLong = items.Long
computed computes.LongToInt = items.Int
computed computes.LongsToInt = items.Int

-- Slots of the stack are taken in groups, from the top: a group of one slot, or one of two that is a long or two single slots. Which slots are given, from
-- the top, is counted from the top before.
pub record Shuffled : Type 0 where
  pub groups : List Group
  pub gives : List ℕ

abbrev pub shuffled : Shuffle → Shuffled
shuffled shuffles.Pop = record { groups = groups.One ∷ []; gives = [] }
shuffled shuffles.Pop2 = record { groups = groups.Two ∷ []; gives = [] }
shuffled shuffles.Dup = record { groups = groups.One ∷ []; gives = 0 ∷ 0 ∷ [] }
shuffled shuffles.DupX1 = record { groups = groups.One ∷ groups.One ∷ []; gives = 0 ∷ 1 ∷ 0 ∷ [] }
shuffled shuffles.DupX2 = record { groups = groups.One ∷ groups.Two ∷ []; gives = 0 ∷ 1 ∷ 2 ∷ 0 ∷ [] }
shuffled shuffles.Dup2 = record { groups = groups.Two ∷ []; gives = 0 ∷ 1 ∷ 0 ∷ 1 ∷ [] }
shuffled shuffles.Dup2X1 = record { groups = groups.Two ∷ groups.One ∷ []; gives = 0 ∷ 1 ∷ 2 ∷ 0 ∷ 1 ∷ [] }
shuffled shuffles.Dup2X2 = record { groups = groups.Two ∷ groups.Two ∷ []; gives = 0 ∷ 1 ∷ 2 ∷ 3 ∷ 0 ∷ 1 ∷ [] }
shuffled shuffles.Swap = record { groups = groups.One ∷ groups.One ∷ []; gives = 1 ∷ 0 ∷ [] }

-- the code's own record of it
abbrev pub IsShuffled : Moved → Shuffled → Type 0
IsShuffled moved s = (moved.groups.now ≡ s.groups) × (moved.gives.now ≡ s.gives)

abbrev pub group_size : Group → ℕ
group_size groups.One = 1
group_size groups.Two = 2

abbrev pub slots_in : List Group → ℕ
slots_in [] = 0
slots_in (group ∷ later) = group_size group + slots_in later

-- A value of one slot. Of Top it is not known that it is not half of a long.
abbrev pub is_single : Item → Bool
is_single item = not (is_same item items.Top) && not (is_wide item)

-- two slots, the higher one first, that are a long or two values
abbrev pub are_two : Item → Item → Bool
are_two higher lower = (is_same higher items.Top && is_wide lower) || (is_single higher && is_single lower)

-- a group is on the top of a stack
abbrev pub is_group : Group → List Item → Bool
is_group groups.One [] = false
is_group groups.One (item ∷ below) = is_single item
is_group groups.Two [] = false
is_group groups.Two (higher ∷ []) = false
is_group groups.Two (higher ∷ lower ∷ below) = are_two higher lower

-- groups are on the top of a stack, one below the other
abbrev pub are_groups : List Group → List Item → Bool
are_groups [] stack = true
are_groups (group ∷ later) stack = is_group group stack && are_groups later (drop (group_size group) stack)

-- the number of the local that an instruction names
abbrev pub local_named : Instr → ℕ
local_named i = elim (local_of i.op i.arg) [ Some n ↦ n | None ↦ 0 ]

-- ---- what an instruction takes, from the top of the stack down

abbrev pub says : List Want → List Wanted
says all = map Says all

-- the type of the method's result, by the return that it has
abbrev pub return_kind : Item → ValueKind
return_kind items.Int = kinds.Int
return_kind items.Long = kinds.Long
return_kind _ = kinds.Reference

abbrev pub is_kind : ValueKind → ValueKind → Bool
is_kind kinds.Int kinds.Int = true
is_kind kinds.Long kinds.Long = true
is_kind kinds.Reference kinds.Reference = true
is_kind _ _ = false

abbrev pub method_gives : Checked → List Item
method_gives c = result_items c.method.desc (result_of (described (Some c.method.desc)))

-- the receiver of an invokespecial: an object before its <init>, or one of the checked class
abbrev pub special_receiver : Checked → ℕ → Wanted
special_receiver c i = if names_init c i then Fresh (owner_named c i) else To (items.Class c.class.name)

-- what opcodes say alone
abbrev pub takes_said : Family → Arg → List Wanted
takes_said (families.Store kind) arg = says (value_taken kind)
takes_said (families.LoadElement kind) arg = says (wants.Int ∷ array_taken kind ∷ [])
takes_said (families.StoreElement kind) arg = says (element_taken kind ++ wants.Int ∷ array_taken kind ∷ [])
takes_said (families.Shuffle how) arg = says (replicate (slots_in (shuffled how).groups) wants.Slot)
takes_said (families.Compute how) arg = says (computed_of how)
takes_said families.TakeInt arg = says (wants.Int ∷ [])
takes_said families.TakeInts arg = says (wants.Int ∷ wants.Int ∷ [])
takes_said families.TakeReference arg = says (wants.Reference ∷ [])
takes_said families.TakeReferences arg = says (wants.Reference ∷ wants.Reference ∷ [])
takes_said families.NewArray arg = says (wants.Int ∷ [])
takes_said families.NewReferenceArray arg = says (wants.Int ∷ [])
takes_said families.NewArrays arg = says (replicate (dims_of arg) wants.Int)
takes_said families.Length arg = says (wants.Array ∷ [])
takes_said families.Throw arg = To throwable ∷ []
takes_said families.Cast arg = says (wants.Object ∷ [])
takes_said families.InstanceOf arg = says (wants.Object ∷ [])
takes_said _ arg = []

-- what the members take that are named at an index of the pool
abbrev pub takes_member : Checked → Family → ℕ → List Wanted
takes_member c families.PutStatic i = taken_as (field_item c i)
takes_member c families.GetField i = To (class_item (owner_named c i)) ∷ []
takes_member c families.PutField i = taken_as (field_item c i) ++ Owner (owner_named c i) ∷ []
takes_member c families.InvokeOn i = method_arguments c i ++ To (class_item (owner_named c i)) ∷ []
takes_member c families.InvokeSpecial i = method_arguments c i ++ special_receiver c i ∷ []
takes_member c families.InvokeStatic i = method_arguments c i
takes_member c _ i = []

abbrev pub takes : Checked → Family → Arg → List Wanted
takes c families.PutStatic arg = takes_member c families.PutStatic (index_of arg)
takes c families.GetField arg = takes_member c families.GetField (index_of arg)
takes c families.PutField arg = takes_member c families.PutField (index_of arg)
takes c families.InvokeOn arg = takes_member c families.InvokeOn (index_of arg)
takes c families.InvokeSpecial arg = takes_member c families.InvokeSpecial (index_of arg)
takes c families.InvokeStatic arg = takes_member c families.InvokeStatic (index_of arg)
takes c (families.Return kind) arg = arguments_of (method_gives c)
takes c family arg = takes_said family arg

-- ---- what it gives, the last on top

-- what opcodes say alone
abbrev pub gives_said : Family → List Item
gives_said families.PushNull = items.Null ∷ []
gives_said families.PushInt = items.Int ∷ []
gives_said families.PushLong = items.Long ∷ []
gives_said (families.Compute how) = computed how ∷ []
gives_said families.Length = items.Int ∷ []
gives_said families.InstanceOf = items.Int ∷ []
gives_said _ = []

-- what operands say
abbrev pub gives_named : Checked → Family → Arg → List Item
gives_named c families.PushConstant arg = constant_item (tag_of c.class.pool (index_of arg)) ∷ []
gives_named c families.GetStatic arg = field_item c (index_of arg) ∷ []
gives_named c families.GetField arg = field_item c (index_of arg) ∷ []
gives_named c families.NewArray arg = new_array arg ∷ []
gives_named c families.NewReferenceArray arg = array_of (class_named c (index_of arg)) ∷ []
gives_named c families.NewArrays arg = items.Array (class_named c (index_of arg)) ∷ []
gives_named c families.Cast arg = class_item (class_named c (index_of arg)) ∷ []
gives_named c family arg = gives_said family

abbrev pub gives : Checked → Frame → Family → Instr → List Item
gives c f (families.Load kind) i = item_at f.locals (local_named i) ∷ []
gives c f (families.LoadElement kind) i = element_given kind f.stack ∷ []
gives c f families.New i = items.Uninit i.at ∷ []
gives c f families.InvokeOn i = method_result c (index_of i.arg)
gives c f families.InvokeSpecial i = method_result c (index_of i.arg)
gives c f families.InvokeStatic i = method_result c (index_of i.arg)
gives c f family i = gives_named c family i.arg
