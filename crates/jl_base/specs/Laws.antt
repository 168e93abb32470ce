-- What a machine asks of the classes that it begins with, and what holds of each of them (JLS 8.1.4, 8.1.5, 8.2, JVMS 4.1, 4.6).
use Rattle.std.specs.Prelude.{ℕ, ◌≤◌, List, [], ◌∷◌, map, length, Option, None, Some, Bool, true, not, ◌&&◌, ◌||◌, ◌==◌, IsTrue, if◌then◌else◌}
use Rattle.std.specs.List.{list_all, list_any, flat_map}
use Rattle.jl_logic.specs.Order.{is_text}
use Rattle.jl_logic.specs.Lists.{AreDistinct}
use Rattle.jl_names.specs.Names.{package_of}
use Rattle.jl_class.specs.declared.member.MemberKey.{MemberKey}
use Rattle.jl_class.specs.declared.member.MethodDecl.{MethodDecl}
use Rattle.jl_class.specs.Classes.{Class}
use Rattle.jl_class.specs.Meaning.{field_key, method_key, is_member_among, is_set, is_public, is_final, is_native, is_interface, is_abstract}
use Rattle.jl_base.specs.declared.row.MemberKind.{MemberKind}
use Rattle.jl_base.specs.declared.row.MemberKind.TheVariants as kinds
use Rattle.jl_base.specs.Rows.{Row, Member}

-- the name is one of these
abbrev pub is_among : List ℕ → List (List ℕ) → Bool
is_among name names = list_any (is_text name) names

-- a superclass, if there is one, before others
abbrev pub behind_super : Option (List ℕ) → List (List ℕ) → List (List ℕ)
behind_super None names = names
behind_super (Some super) names = super ∷ names

-- the superclass and the interfaces of a class
abbrev pub supers_of : Class → List (List ℕ)
supers_of c = behind_super c.super_name c.interfaces

-- Each class has its superclass and its interfaces among the names before it.
abbrev pub stand_in_order : List (List ℕ) → List Class → Bool
stand_in_order before [] = true
stand_in_order before (c ∷ cs) = list_all (λ name. is_among name before) (supers_of c) && stand_in_order (c.name ∷ before) cs

-- by what a class is told from the others
abbrev pub name_of : Class → List ℕ
name_of c = c.name

-- the class is in one of these packages
abbrev pub is_in : List (List ℕ) → Class → Bool
is_in packages c = is_among (package_of c.name) packages

-- A machine can begin with the classes, where its module has these packages: what a class extends or implements comes before it, no name comes again, no class is outside the packages, and a machine has room for all.
pub record IsBegin (packages : List (List ℕ)) (classes : List Class) : Type 0 where
  pub order : IsTrue (stand_in_order [] classes)
  pub apart : AreDistinct (map name_of classes)
  pub inside : IsTrue (list_all (is_in packages) classes)
  pub few : length classes ≤ 65536

-- no name and descriptor is there twice
abbrev pub are_apart : List MemberKey → Bool
are_apart [] = true
are_apart (key ∷ keys) = not (is_member_among key keys) && are_apart keys

-- No two fields and no two methods of the class have one name and descriptor.
abbrev pub has_members_apart : Class → Bool
has_members_apart c = are_apart (map field_key c.fields) && are_apart (map method_key c.methods)

-- either native or abstract
abbrev pub is_bodiless : MethodDecl → Bool
is_bodiless m = (is_native m.flags || is_abstract m.flags) && not (is_native m.flags && is_abstract m.flags)

-- a method that every class may call
abbrev pub is_public_method : MethodDecl → Bool
is_public_method m = is_public m.flags

-- marked as a class and not an interface (JVMS 4.1-B)
abbrev pub is_marked : ℕ → Bool
is_marked flags = is_set flags 0x20

-- An interface is abstract, neither final nor marked as a class, and has public methods and no fields. A class is marked as one.
abbrev pub is_of_its_kind : Class → Bool
is_of_its_kind c =
    if is_interface c.flags then (is_abstract c.flags && not (is_final c.flags)) && (not (is_marked c.flags) && (list_all is_public_method c.methods && length c.fields == 0))
    else is_marked c.flags

-- The class is public and has the flags of its kind, and each of its methods is native or abstract.
abbrev pub has_right_flags : Class → Bool
has_right_flags c = is_public c.flags && (is_of_its_kind c && list_all is_bodiless c.methods)

-- the row of a boxed native
abbrev pub boxed_row : MemberKind → List ℕ
boxed_row (kinds.Boxed row) = row ∷ []
boxed_row _ = []

-- the rows of all boxed natives, in the order of the members
abbrev pub boxed_rows : List Row → List ℕ
boxed_rows rows = flat_map (λ (row : Row). flat_map (λ (m : Member). boxed_row m.kind) row.members) rows
