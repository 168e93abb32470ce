-- A class made part by part, as its row says it: the class itself, its interfaces, its members in order.
use Rattle.std.specs.Prelude.{ℕ, List, [], ◌∷◌, None, Result, Ok, if◌then◌else◌}
use Rattle.jl_reading.specs.Reading.{◌>>=◌}
use Rattle.jl_class.specs.Classes.{Class}
use Rattle.jl_classw.specs.declared.fault.WriteFault.{WriteFault}
use Rattle.jl_classw.specs.Building.{Making, unless_empty, new_class, of_class, with_interface, with_field, with_method}
use Rattle.jl_base.specs.Rows.{Row, Member, is_field}

-- the class with interfaces, one after the other
abbrev pub with_interfaces : Making → List (List ℕ) → Result Making WriteFault
with_interfaces b [] = Ok b
with_interfaces b (name ∷ names) = of_class b (with_interface b.class name) >>= λ c. with_interfaces c names

-- The class with a member. No field has a constant and no method has code.
abbrev pub with_member : Making → Member → Result Making WriteFault
with_member b m = of_class b (if is_field m.kind then with_field b.class m.flags m.name m.desc None else with_method b.class m.flags m.name m.desc None)

-- the class with members, one after the other
abbrev pub with_members : Making → List Member → Result Making WriteFault
with_members b [] = Ok b
with_members b (m ∷ ms) = with_member b m >>= λ c. with_members c ms

-- the class with its name and its superclass alone
abbrev pub class_named : Row → Result Making WriteFault
class_named row = new_class 61 row.flags row.name (unless_empty row.super_name)

-- the class without its members
unfoldable pub class_begun : Row → Result Making WriteFault
class_begun row = do
  named ← class_named row
  with_interfaces named row.interfaces

-- the class with its members
unfoldable pub class_made : Row → Result Class WriteFault
class_made row = do
  begun ← class_begun row
  whole ← with_members begun row.members
  Ok whole.class
