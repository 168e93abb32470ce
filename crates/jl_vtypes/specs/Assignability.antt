-- Which items are assignable to which (JVMS 4.10.1.2), as a definition that asks.
use Rattle.std.specs.Prelude.{ℕ, List, [], ◌∷◌, Option, None, Some, option_map, Bool, true, false, ◌||◌, ◌==◌, codes, if◌then◌else◌}
use Rattle.jl_logic.specs.Order.{is_text}
use Rattle.jl_vtypes.specs.declared.item.Item.{Item}
use Rattle.jl_vtypes.specs.declared.item.Item.TheVariants as items
use Rattle.jl_vtypes.specs.declared.question.Question.TheVariants as questions
use Rattle.jl_vtypes.specs.Asking.{Asks, Done, Ask}

-- ---- arrays by their elements

-- The type of a field (JVMS 4.3.2): a primitive type by its letter, a class by its name, or an array of a type.
pub data Spelled : Type 0 where
  Primitive : List ℕ → Spelled
  Named : List ℕ → Spelled
  ArrayOf : Spelled → Spelled

-- a text that ends in ; without it
unfoldable pub before_semicolon : List ℕ → Option (List ℕ)
before_semicolon [] = None
before_semicolon (b ∷ []) = if b == 59 then Some [] else None
before_semicolon (b ∷ c ∷ bs) = option_map (λ name. b ∷ name) (before_semicolon (c ∷ bs))

-- the name in the descriptor of a class, between L and ;
abbrev pub name_in : List ℕ → Option (List ℕ)
name_in [] = None
name_in (b ∷ bs) = if b == 76 then before_semicolon bs else None

-- a class by its name, or what spells no class
abbrev pub named_or : Option (List ℕ) → List ℕ → Spelled
named_or (Some name) text = Named name
named_or None text = Primitive text

-- the type that a descriptor spells
unfoldable pub spelled : List ℕ → Spelled
spelled [] = Primitive []
spelled (b ∷ bs) = if b == 91 then ArrayOf (spelled bs) else named_or (name_in (b ∷ bs)) (b ∷ bs)

-- the descriptor of an array
abbrev pub is_array : List ℕ → Bool
is_array [] = false
is_array (b ∷ bs) = b == 91

-- ---- items

abbrev pub is_object : List ℕ → Bool
is_object name = is_text name (codes "java/lang/Object")

-- the class and the interfaces that every array has (JLS 4.10.3)
abbrev pub is_above_arrays : List ℕ → Bool
is_above_arrays name = is_object name || (is_text name (codes "java/lang/Cloneable") || is_text name (codes "java/io/Serializable"))

-- whether the one class is the other or a subclass of it
abbrev pub subclass_asks : List ℕ → List ℕ → Asks Bool
subclass_asks from to = Ask (questions.IsSubclass from to) Done

-- an interface is as good as Object for every class, and another class takes its subclasses
abbrev pub unless_interface : List ℕ → List ℕ → Bool → Asks Bool
unless_interface from to true = Done true
unless_interface from to false = subclass_asks from to

-- the target is asked for
abbrev pub class_asks : List ℕ → List ℕ → Asks Bool
class_asks from to = Ask (questions.IsInterface to) (unless_interface from to)

-- A class goes to itself and to Object, and to another as the questions say.
abbrev pub class_goes : List ℕ → List ℕ → Asks Bool
class_goes from to = if is_text from to || is_object to then Done true else class_asks from to

-- Arrays of references are covariant in their elements, and arrays of primitives are not. Nothing but arrays and classes goes anywhere else.
abbrev pub type_goes : Spelled → Spelled → Asks Bool
type_goes (ArrayOf from) (ArrayOf to) = type_goes from to
type_goes (ArrayOf from) (Named to) = Done (is_above_arrays to)
type_goes (ArrayOf from) (Primitive to) = Done false
type_goes (Named from) (Named to) = class_goes from to
type_goes (Named from) (ArrayOf to) = Done false
type_goes (Named from) (Primitive to) = Done false
type_goes (Primitive from) (Primitive to) = Done (is_text from to)
type_goes (Primitive from) (Named to) = Done false
type_goes (Primitive from) (ArrayOf to) = Done false

-- the same item
abbrev pub is_same : Item → Item → Bool
is_same items.Top items.Top = true
is_same items.Int items.Int = true
is_same items.Float items.Float = true
is_same items.Long items.Long = true
is_same items.Double items.Double = true
is_same items.Null items.Null = true
is_same items.UninitThis items.UninitThis = true
is_same (items.Uninit made_at) (items.Uninit other) = made_at == other
is_same (items.Class name) (items.Class other) = is_text name other
is_same (items.Array desc) (items.Array other) = is_text desc other
is_same _ _ = false

-- null, a class or an array goes to a class
abbrev pub goes_to_class : Item → List ℕ → Asks Bool
goes_to_class items.Null to = Done true
goes_to_class (items.Class from) to = class_goes from to
goes_to_class (items.Array from) to = Done (is_above_arrays to)
goes_to_class _ to = Done false

-- null or an array goes to an array
abbrev pub goes_to_array : Item → List ℕ → Asks Bool
goes_to_array items.Null to = Done true
goes_to_array (items.Array from) to = type_goes (spelled from) (spelled to)
goes_to_array _ to = Done false

-- The one item is assignable to the other: all to Top, null, classes and arrays to classes and arrays, and each other item to itself alone.
abbrev pub goes : Item → Item → Asks Bool
goes from items.Top = Done true
goes from (items.Class to) = goes_to_class from to
goes from (items.Array to) = goes_to_array from to
goes from to = Done (is_same from to)
