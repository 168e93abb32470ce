-- Names of classes, packages, fields and methods in internal form, by their bytes (JVMS 4.2).
use Rattle.std.specs.Prelude.{ℕ, List, [], ◌∷◌, Bool, true, false, not, ◌&&◌, ◌||◌, ◌==◌, codes, if◌then◌else◌}
use Rattle.std.specs.List.{list_all, list_any}
use Rattle.jl_logic.specs.Order.{is_text}

-- the byte is a /
abbrev pub is_slash : ℕ → Bool
is_slash b = b == 47

-- one of . ; [
abbrev pub is_reserved : ℕ → Bool
is_reserved b = (b == 46) || ((b == 59) || (b == 91))

-- there is no byte
abbrev pub is_empty : List ℕ → Bool
is_empty [] = true
is_empty (b ∷ bs) = false

-- the first part begins with this byte too
abbrev pub with_first : ℕ → List (List ℕ) → List (List ℕ)
with_first b [] = (b ∷ []) ∷ []
with_first b (p ∷ ps) = (b ∷ p) ∷ ps

-- what stands between the slashes, one more than there are slashes
unfoldable pub parts : List ℕ → List (List ℕ)
parts [] = [] ∷ []
parts (b ∷ bs) = if is_slash b then [] ∷ parts bs else with_first b (parts bs)

-- no part goes on with the byte, where it has begun or not
abbrev pub stops : ℕ → Bool → Bool
stops b begun = is_reserved b || (is_slash b && not begun)

-- some bytes, none of which is reserved
abbrev pub is_part : List ℕ → Bool
is_part p = not (is_empty p) && list_all (λ b. not (is_reserved b)) p

-- The name of a class or of a package: nonempty parts with a slash between them, none of which has a reserved byte (JVMS 4.2.1).
abbrev pub names_a_class : List ℕ → Bool
names_a_class name = list_all is_part (parts name)

-- none of . ; [ /
abbrev pub is_plain : ℕ → Bool
is_plain b = not (is_reserved b) && not (is_slash b)

-- an unqualified name (JVMS 4.2.2)
abbrev pub is_unqualified : List ℕ → Bool
is_unqualified name = not (is_empty name) && list_all is_plain name

-- the name of a field or of a variable
abbrev pub names_a_field : List ℕ → Bool
names_a_field = is_unqualified

-- one of < and >
abbrev pub is_angle : ℕ → Bool
is_angle b = (b == 60) || (b == 62)

-- a name of its own for what makes and initializes (JVMS 2.9)
abbrev pub is_special : List ℕ → Bool
is_special name = is_text name (codes "<init>") || is_text name (codes "<clinit>")

-- the name of a method: one of its own, or an unqualified one without < and >
abbrev pub names_a_method : List ℕ → Bool
names_a_method name = is_special name || (is_unqualified name && not (list_any is_angle name))

-- what stands before the last slash; nothing where there is no slash
unfoldable pub package_of : List ℕ → List ℕ
package_of [] = []
package_of (b ∷ bs) = if list_any is_slash bs then b ∷ package_of bs else []
