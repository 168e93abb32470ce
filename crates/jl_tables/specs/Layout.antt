-- Names and tables by their indices, as they are written (JVMS 4.7.25).
use Rattle.std.specs.Prelude.{ℕ, ◌+◌, ◌<◌, List, [], ◌++◌, length, map, Option, None, Some, if◌then◌else◌}
use Rattle.std.specs.List.{flat_map, AllByRecursion}
use Rattle.jl_prim.specs.declared.declaration.Requires.{Requires}
use Rattle.jl_prim.specs.declared.declaration.Grant.{Grant}
use Rattle.jl_prim.specs.declared.declaration.Provides.{Provides}
use Rattle.jl_reading.specs.Reading.{two}
use Rattle.jl_pool.specs.declared.constant.Constant.{Constant}
use Rattle.jl_pool.specs.declared.constant.Constant.TheVariants as constants
use Rattle.jl_pool.specs.Builder.{index_in}
use Rattle.jl_tables.specs.Spelling.{RequiresRow, GrantRow, ProvidesRow}

abbrev pub targets : Grant → List (List ℕ)
targets g = some_names g.to where
  some_names : Option (List (List ℕ)) → List (List ℕ)
  some_names None = []
  some_names (Some names) = names

-- ---- parts by indices

abbrev pub module_index : List Constant → List ℕ → ℕ
module_index cs n = index_in cs (constants.Module n)

abbrev pub class_index : List Constant → List ℕ → ℕ
class_index cs n = index_in cs (constants.Class n)

abbrev pub package_index : List Constant → List ℕ → ℕ
package_index cs n = index_in cs (constants.Package n)

abbrev pub requires_flags : Requires → ℕ
requires_flags r = (if r.transitive then 0x20 else 0) + (if r.is_static then 0x40 else 0)

abbrev pub requires_row : List Constant → Requires → RequiresRow
requires_row cs r = record { index = module_index cs r.name; flags = requires_flags r; version = 0 }

abbrev pub grant_row : List Constant → Grant → GrantRow
grant_row cs g = record { index = package_index cs g.package; flags = 0; targets = map (module_index cs) (targets g) }

abbrev pub provides_row : List Constant → Provides → ProvidesRow
provides_row cs p = record { index = class_index cs p.service; classes = map (class_index cs) p.implementations }

-- ---- the same bytes as they are written, one entry after the other

abbrev pub counted_by : {A : Type 0} → (A → List ℕ) → List A → List ℕ
counted_by bytes xs = two (length xs) ++ flat_map bytes xs

abbrev pub module_bytes : List Constant → List ℕ → List ℕ
module_bytes cs n = two (module_index cs n)

abbrev pub class_bytes : List Constant → List ℕ → List ℕ
class_bytes cs n = two (class_index cs n)

abbrev pub package_bytes : List Constant → List ℕ → List ℕ
package_bytes cs n = two (package_index cs n)

abbrev pub requires_written : List Constant → Requires → List ℕ
requires_written cs r = module_bytes cs r.name ++ (two (requires_flags r) ++ two 0)

abbrev pub grant_written : List Constant → Grant → List ℕ
grant_written cs g = package_bytes cs g.package ++ (two 0 ++ counted_by (module_bytes cs) (targets g))

abbrev pub provides_written : List Constant → Provides → List ℕ
provides_written cs p = class_bytes cs p.service ++ counted_by (class_bytes cs) p.implementations

-- ---- tables whose counts fit two bytes

abbrev pub AreTargetsFew : List Grant → Type 0
AreTargetsFew grants = AllByRecursion (λ (g : Grant). length (targets g) < 65536) grants

abbrev pub AreClassesFew : List Provides → Type 0
AreClassesFew provides = AllByRecursion (λ (p : Provides). length p.implementations < 65536) provides
