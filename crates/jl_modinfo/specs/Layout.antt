-- The constants that a declaration names, and its parts by their indices, as they are written (JVMS 4.1, 4.7.25 to 4.7.27).
use Rattle.std.specs.Prelude.{ℕ, ◌<◌, List, [], ◌∷◌, ◌++◌, length, map, Option, None, Some, Bool, nat_lt, nat_le, codes, if◌then◌else◌}
use Rattle.std.specs.List.{flat_map, list_any}
use Rattle.jl_reading.specs.Reading.{two, four, counted}
use Rattle.jl_prim.specs.declared.declaration.Requires.{Requires}
use Rattle.jl_prim.specs.declared.declaration.Grant.{Grant}
use Rattle.jl_prim.specs.declared.declaration.Provides.{Provides}
use Rattle.jl_prim.specs.declared.declaration.Declaration.{Declaration}
use Rattle.jl_pool.specs.declared.constant.Constant.{Constant}
use Rattle.jl_pool.specs.declared.constant.Constant.TheVariants as constants
use Rattle.jl_names.specs.Text.{text_bytes}
use Rattle.jl_names.specs.Utf16.{utf16}
use Rattle.jl_pool.specs.Builder.{text_in, index_in, pool_of, with_needed}
use Rattle.jl_pool.specs.Spelling.{entry_bytes}
use Rattle.jl_modinfo.specs.Info.{Body, body_bytes, back_bytes}
use Rattle.jl_classfile.specs.Spelling.{Attribute}
use Rattle.jl_modinfo.specs.Writing.{Need, Counted}
use Rattle.jl_tables.specs.Layout.{targets, module_index, class_index, package_index, requires_row, grant_row, provides_row, counted_by, module_bytes, class_bytes, package_bytes, requires_written, grant_written, provides_written, AreTargetsFew, AreClassesFew}

-- ---- constants

abbrev pub need_of : Constant → Need
need_of (constants.Text t) = (1, t)
need_of (constants.Class t) = (7, t)
need_of (constants.Module t) = (19, t)
need_of (constants.Package t) = (20, t)

abbrev pub module_constant : List ℕ → Constant
module_constant n = constants.Module n

abbrev pub class_constant : List ℕ → Constant
class_constant n = constants.Class n

abbrev pub package_constant : List ℕ → Constant
package_constant n = constants.Package n

abbrev pub required_constant : Requires → Constant
required_constant r = constants.Module r.name

abbrev pub grant_constants : Grant → List Constant
grant_constants g = constants.Package g.package ∷ map module_constant (targets g)

abbrev pub provides_constants : Provides → List Constant
provides_constants p = constants.Class p.service ∷ map class_constant p.implementations

abbrev pub main_class_constants : List ℕ → List Constant
main_class_constants class = constants.Text (codes "ModuleMainClass") ∷ constants.Class class ∷ []

abbrev pub main_constants : Option (List ℕ) → List Constant
main_constants None = []
main_constants (Some class) = main_class_constants class

abbrev pub version_constants : Option (List ℕ) → List Constant
version_constants None = []
version_constants (Some version) = constants.Text version ∷ []

abbrev pub first_constants : Declaration → List Constant
first_constants d = constants.Class (codes "module-info") ∷ constants.Text (codes "Module") ∷ constants.Module d.name ∷ []

abbrev pub front_constants : Declaration → List Constant
front_constants d = first_constants d ++ (version_constants d.version ++ map required_constant d.required)

abbrev pub table_constants : Declaration → List Constant
table_constants d =
    flat_map grant_constants d.exports ++ (flat_map grant_constants d.opens
    ++ (map class_constant d.uses ++ flat_map provides_constants d.provides))

abbrev pub back_constants : Declaration → List Constant
back_constants d = constants.Text (codes "ModulePackages") ∷ (map package_constant d.packages ++ main_constants d.main)

-- what a declaration names, in the order of a file
abbrev pub named_constants : Declaration → List Constant
named_constants d = front_constants d ++ (table_constants d ++ back_constants d)

-- ---- parts by indices

abbrev pub version_index : List Constant → Option (List ℕ) → ℕ
version_index cs None = 0
version_index cs (Some v) = index_in cs (constants.Text v)

abbrev pub body_of : List Constant → Declaration → Body
body_of cs d = record {
  index = module_index cs d.name;
  flags = if d.is_open then 0x20 else 0;
  version = version_index cs d.version;
  required = map (requires_row cs) d.required;
  exports = map (grant_row cs) d.exports;
  opens = map (grant_row cs) d.opens;
  uses = map (class_index cs) d.uses;
  provides = map (provides_row cs) d.provides;
}

abbrev pub named_attribute : List Constant → List ℕ → List ℕ → Attribute
named_attribute cs name content = record { index = index_in cs (constants.Text name); content = content }

abbrev pub main_attributes : List Constant → Option (List ℕ) → List Attribute
main_attributes cs None = []
main_attributes cs (Some class) = named_attribute cs (codes "ModuleMainClass") (two (class_index cs class)) ∷ []

abbrev pub attributes_of : List Constant → Declaration → List Attribute
attributes_of cs d =
    named_attribute cs (codes "Module") (body_bytes (body_of cs d))
    ∷ named_attribute cs (codes "ModulePackages") (counted two (map (package_index cs) d.packages))
    ∷ main_attributes cs d.main

-- the whole file
abbrev pub file_of : List Constant → Declaration → List ℕ
file_of cs d =
    (four 0xCAFEBABE ++ (two 0 ++ two 53))
    ++ ((two (length (pool_of cs)) ++ flat_map entry_bytes (pool_of cs))
    ++ back_bytes (class_index cs (codes "module-info")) (attributes_of cs d))

-- ---- the same bytes as they are written, one entry after the other

abbrev pub head_written : List Constant → Declaration → List ℕ
head_written cs d = module_bytes cs d.name ++ (two (if d.is_open then 0x20 else 0) ++ two (version_index cs d.version))

abbrev pub tables_written : List Constant → Declaration → List ℕ
tables_written cs d =
    counted_by (requires_written cs) d.required ++ (counted_by (grant_written cs) d.exports ++ (counted_by (grant_written cs) d.opens
    ++ (counted_by (class_bytes cs) d.uses ++ counted_by (provides_written cs) d.provides)))

abbrev pub body_written : List Constant → Declaration → List ℕ
body_written cs d = head_written cs d ++ tables_written cs d

abbrev pub attribute_written : List Constant → List ℕ → List ℕ → List ℕ
attribute_written cs name content = two (index_in cs (constants.Text name)) ++ (four (length content) ++ content)

abbrev pub main_written : List Constant → Option (List ℕ) → List ℕ
main_written cs None = []
main_written cs (Some class) = attribute_written cs (codes "ModuleMainClass") (class_bytes cs class)

abbrev pub attribute_count : Option (List ℕ) → ℕ
attribute_count None = 2
attribute_count (Some class) = 3

abbrev pub attributes_written : List Constant → Declaration → List ℕ
attributes_written cs d =
    two (attribute_count d.main) ++ (attribute_written cs (codes "Module") (body_written cs d)
    ++ (attribute_written cs (codes "ModulePackages") (counted_by (package_bytes cs) d.packages) ++ main_written cs d.main))

abbrev pub class_written : List Constant → List ℕ
class_written cs = two 0x8000 ++ (two (class_index cs (codes "module-info")) ++ (two 0 ++ (two 0 ++ (two 0 ++ two 0))))

abbrev pub front_written : List ℕ
front_written = four 0xCAFEBABE ++ (two 0 ++ two 53)

abbrev pub pool_written : List Constant → List ℕ
pool_written cs = two (length (pool_of cs)) ++ flat_map entry_bytes (pool_of cs)

abbrev pub file_written : List Constant → Declaration → List ℕ
file_written cs d = front_written ++ (pool_written cs ++ (class_written cs ++ attributes_written cs d))

-- ---- entering

-- the constants after each of these is entered in turn
abbrev pub with_all : List Constant → List Constant → List Constant
with_all cs [] = cs
with_all cs (x ∷ xs) = with_all (with_needed cs x) xs

-- ---- the first table that is too long

abbrev pub is_long : Counted → Bool
is_long t = nat_lt 65535 t.1

-- its name
abbrev pub first_long : List Counted → Option (List ℕ)
first_long [] = None
first_long (t ∷ ts) = if is_long t then Some t.0 else first_long ts

abbrev pub has_long_targets : Grant → Bool
has_long_targets g = nat_lt 65535 (length (targets g))

abbrev pub has_long_classes : Provides → Bool
has_long_classes p = nat_lt 65535 (length p.implementations)

abbrev pub or_else : Option (List ℕ) → Option (List ℕ) → Option (List ℕ)
or_else (Some name) other = Some name
or_else None other = other

abbrev pub named_if : List ℕ → Bool → Option (List ℕ)
named_if name b = if b then Some name else None

abbrev pub long_of_grants : List ℕ → List Grant → Option (List ℕ)
long_of_grants name grants = or_else (named_if name (nat_lt 65535 (length grants))) (named_if (codes "targets") (list_any has_long_targets grants))

abbrev pub long_behind_grants : Declaration → Option (List ℕ)
long_behind_grants d =
    or_else (named_if (codes "uses") (nat_lt 65535 (length d.uses)))
    (or_else (named_if (codes "provides") (nat_lt 65535 (length d.provides)))
    (or_else (named_if (codes "implementations") (list_any has_long_classes d.provides)) (named_if (codes "packages") (nat_lt 65535 (length d.packages)))))

abbrev pub long_in_file : Declaration → Option (List ℕ)
long_in_file d =
    or_else (named_if (codes "requires") (nat_lt 65535 (length d.required)))
    (or_else (long_of_grants (codes "exports") d.exports) (or_else (long_of_grants (codes "opens") d.opens) (long_behind_grants d)))

-- ---- tables whose counts fit two bytes

pub record AreFew (d : Declaration) : Type 0 where
  pub required : length d.required < 65536
  pub exports : length d.exports < 65536
  pub exported : AreTargetsFew d.exports
  pub opens : length d.opens < 65536
  pub opened : AreTargetsFew d.opens
  pub uses : length d.uses < 65536
  pub provides : length d.provides < 65536
  pub provided : AreClassesFew d.provides
  pub packages : length d.packages < 65536

-- ---- what may be written

-- a number, and one more than the most members that are written where it is more
abbrev pub capped : ℕ → ℕ
capped n = if nat_lt 16777216 n then 16777217 else n

abbrev pub target_length : Grant → ℕ
target_length g = length (targets g)

abbrev pub class_length : Provides → ℕ
class_length p = length p.implementations

-- whether the bytes of its text fit the two bytes of their count
abbrev pub is_short_constant : Constant → Bool
is_short_constant c = nat_le (length (text_bytes (utf16 (text_in c)))) 65535
