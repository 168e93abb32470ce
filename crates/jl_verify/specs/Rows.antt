-- Whether an instruction applies to the frame before it, and the frame after it (JVMS 4.10.1.9).
use Rattle.std.specs.Prelude.{ℕ, zero, suc, ◌+◌, List, [], ◌∷◌, ◌++◌, length, map, drop, slice_set, Option, None, Some, Bool, true, false, not, ◌&&◌, ◌||◌, if◌then◌else◌}
use Rattle.std.specs.List.{list_any}
use Rattle.jl_logic.specs.Order.{is_text}
use Rattle.jl_code.specs.declared.code.Arg.{Arg}
use Rattle.jl_code.specs.declared.code.Instr.{Instr}
use Rattle.jl_code.specs.References.{member_tag, has_tag}
use Rattle.jl_vtypes.specs.declared.item.Item.{Item}
use Rattle.jl_vtypes.specs.declared.item.Item.TheVariants as items
use Rattle.jl_vtypes.specs.Asking.{Asks, Done}
use Rattle.jl_vtypes.specs.Assignability.{goes, is_same}
use Rattle.jl_verify.specs.Frames.{Frame, is_wide, slots_of, stacked}
use Rattle.jl_verify.specs.Declaring.{class_item, is_uninit_this}
use Rattle.jl_verify.specs.Families.{family_of}
use Rattle.jl_verify.specs.Checked.{Checked}
use Rattle.jl_verify.specs.Moves.{both, item_at, is_reference, has_kind, is_fresh, method_arguments, owner_named, names_init, index_of, shuffled, are_groups, local_named, return_kind, is_kind, method_gives, takes, gives}
use Rattle.jl_verify.specs.declared.want.Wanted.{Wanted}
use Rattle.jl_verify.specs.declared.want.Wanted.TheVariants.{Says, To, Owner, Fresh}
use Rattle.jl_verify.specs.declared.family.Family.{Family}
use Rattle.jl_verify.specs.declared.family.Family.TheVariants as families
use Rattle.jl_verify.specs.declared.family.ValueKind.{ValueKind}
use Rattle.jl_verify.specs.declared.family.ValueKind.TheVariants as kinds

-- ---- does it apply

-- an item has the fields of a class: the class itself also before this is initialized
abbrev pub owns : Checked → List ℕ → Item → Asks Bool
owns c name item = if is_uninit_this item && is_text c.class.name name then Done true else goes item (class_item name)

-- a slot holds what is wanted
abbrev pub fits : Checked → Wanted → Item → Asks Bool
fits c (Says want) item = Done (has_kind want item)
fits c (To other) item = goes item other
fits c (Owner name) item = owns c name item
fits c (Fresh name) item = Done (is_fresh c name item)

-- the slots of a stack hold what is wanted, from the top down
abbrev pub taken : Checked → List Wanted → List Item → Asks Bool
taken c [] stack = Done true
taken c (wanted ∷ later) [] = Done false
taken c (wanted ∷ later) (item ∷ below) = both (fits c wanted item) (taken c later below)

-- a local holds a value of a kind
abbrev pub holds_kind : ValueKind → Item → Bool
holds_kind kinds.Int item = is_same item items.Int
holds_kind kinds.Long item = is_same item items.Long
holds_kind kinds.Reference item = is_reference item

-- the return is the one of the method's result
abbrev pub is_return_of : ValueKind → List Item → Bool
is_return_of kind [] = false
is_return_of kind (result ∷ more) = is_kind kind (return_kind result)

abbrev pub is_nothing : List Item → Bool
is_nothing [] = true
is_nothing (item ∷ more) = false

-- What an instruction needs besides what it takes: the local that it loads or counts; slots of the stack in whole groups; the return of the method's result; of new,
-- that no object which it made is still on the stack.
abbrev pub stands : Checked → Frame → Family → Instr → Bool
stands c f (families.Load kind) i = holds_kind kind (item_at f.locals (local_named i))
stands c f families.Count i = holds_kind kinds.Int (item_at f.locals (local_named i))
stands c f (families.Shuffle how) i = are_groups (shuffled how).groups f.stack
stands c f (families.Return kind) i = is_return_of kind (method_gives c)
stands c f families.ReturnNothing i = is_nothing (method_gives c)
stands c f families.New i = not (list_any (is_same (items.Uninit i.at)) f.stack)
stands c f _ i = true

-- a method of an interface is one of the class itself, or of an interface that it names
abbrev pub is_near : Checked → ℕ → Bool
is_near c i = not (has_tag 11 (member_tag c.class.pool i)) || (is_text c.class.name (owner_named c i) || list_any (is_text (owner_named c i)) c.class.interfaces)

-- what an invokespecial of another method than <init> asks of the class named
abbrev pub special_goes : Checked → ℕ → Asks Bool
special_goes c i = if names_init c i then Done true else both (goes (items.Class c.class.name) (class_item (owner_named c i))) (Done (is_near c i))

abbrev pub besides : Checked → Family → Arg → Asks Bool
besides c families.InvokeSpecial arg = special_goes c (index_of arg)
besides c _ arg = Done true

abbrev pub family_applies : Checked → Frame → Option Family → Instr → Asks Bool
family_applies c f None i = Done false
family_applies c f (Some family) i = if stands c f family i then both (taken c (takes c family i.arg) f.stack) (besides c family i.arg) else Done false

-- the instruction applies to the frame
abbrev pub applies : Checked → Frame → Instr → Asks Bool
applies c f i = family_applies c f (family_of i.op) i

-- ---- the frame after it

-- slots in place of those from a local on, with Top for what was missing below it
abbrev pub stored : List Item → ℕ → List Item → List Item
stored locals zero put = put ++ drop (length put) locals
stored [] (suc n) put = items.Top ∷ stored [] n put
stored (item ∷ later) (suc n) put = item ∷ stored later n put

-- a long whose higher slot is at this local is gone
abbrev pub uncut : List Item → ℕ → List Item
uncut locals zero = locals
uncut locals (suc n) = if is_wide (item_at locals n) then slice_set locals n items.Top else locals

abbrev pub with_local : List Item → ℕ → Item → List Item
with_local locals n item = stored (uncut locals n) n (slots_of item)

-- what is stored of the top of a stack
abbrev pub stored_item : ValueKind → List Item → Item
stored_item kinds.Int stack = items.Int
stored_item kinds.Long stack = items.Long
stored_item kinds.Reference stack = item_at stack 0

-- one item in place of another
abbrev pub in_place_of : Item → Item → Item → Item
in_place_of old new item = if is_same item old then new else item

-- all copies of one item in a frame are another
abbrev pub replaced : Item → Item → Frame → Frame
replaced old new f = record f { locals = map (in_place_of old new) f.locals; stack = map (in_place_of old new) f.stack }

-- a frame without so many slots of its stack
abbrev pub without : ℕ → Frame → Frame
without n f = record f { stack = drop n f.stack }

-- what an object is when its <init> was called: of the checked class where it is this, and else of the class named
abbrev pub initialized_as : Checked → Item → ℕ → Item
initialized_as c receiver i = if is_uninit_this receiver then items.Class c.class.name else items.Class (owner_named c i)

-- the object that an invokespecial is called on, below its arguments
abbrev pub receiver : Checked → Frame → ℕ → Item
receiver c f i = item_at f.stack (length (method_arguments c i))

-- the mark goes where <init> was called on this
abbrev pub unmarked_by : Item → Frame → Frame
unmarked_by receiver f = record f { marked = f.marked && not (is_uninit_this receiver) }

-- Behind the call of an <init> all copies of its object are initialized.
abbrev pub after_init : Checked → Frame → ℕ → Frame
after_init c f i = replaced (receiver c f i) (initialized_as c (receiver c f i) i) (unmarked_by (receiver c f i) (without (length (method_arguments c i) + 1) f))

-- A frame without what an instruction takes. A store has put it into a local; new has made its old object Top.
abbrev pub without_taken : Checked → Frame → Family → Instr → Frame
without_taken c f (families.Store kind) i = record f { locals = with_local f.locals (local_named i) (stored_item kind f.stack); stack = drop (length (takes c (families.Store kind) i.arg)) f.stack }
without_taken c f families.New i = replaced (items.Uninit i.at) items.Top f
without_taken c f families.InvokeSpecial i = if names_init c (index_of i.arg) then after_init c f (index_of i.arg) else without (length (takes c families.InvokeSpecial i.arg)) f
without_taken c f family i = without (length (takes c family i.arg)) f

-- what is put on the stack, from the top
abbrev pub put : Checked → Frame → Family → Instr → List Item
put c f (families.Shuffle how) i = map (item_at f.stack) (shuffled how).gives
put c f family i = stacked (gives c f family i)

-- a frame with more on its stack
abbrev pub onto : List Item → Frame → Frame
onto more f = record f { stack = more ++ f.stack }

abbrev pub family_after : Checked → Frame → Option Family → Instr → Frame
family_after c f None i = f
family_after c f (Some family) i = onto (put c f family i) (without_taken c f family i)

-- the frame after an instruction that applies
abbrev pub after : Checked → Frame → Instr → Frame
after c f i = family_after c f (family_of i.op) i
