-- Writing a declaration: which table has too many entries, which entries the pool needs, and which declarations keep the rules (JVMS 4.1, 4.4, 4.7.25 to 4.7.27).
use Rattle.std.specs.Prelude.{◌≡◌, ℕ, ◌+◌, ◌<◌, nat_lt, List, [], ◌∷◌, ◌++◌, length, map, find, Option, None, Some, Result, Ok, Err, Bool, true, ◌&&◌, ◌==◌, IsTrue, codes, ⊤, if◌then◌else◌}
use Rattle.std.specs.List.{flat_map, list_any, AllByRecursion}
use Rattle.std.specs.Option.{option_to_list}
use Rattle.jl_logic.specs.Order.{is_text}
use Rattle.jl_logic.specs.Lists.{AreDistinct}
use Rattle.jl_prim.specs.Names.{names_a_module}
use Rattle.jl_prim.specs.declared.declaration.Requires.{Requires}
use Rattle.jl_prim.specs.declared.declaration.Grant.{Grant}
use Rattle.jl_prim.specs.declared.declaration.Provides.{Provides}
use Rattle.jl_prim.specs.declared.declaration.Declaration.{Declaration}
use Rattle.jl_names.specs.Names.{names_a_class}
use Rattle.jl_names.specs.Text.{text_bytes}
use Rattle.jl_names.specs.Utf16.{utf16}
use Rattle.jl_tables.specs.declared.fault.InfoWriteFault.{InfoWriteFault}
use Rattle.jl_tables.specs.declared.fault.InfoWriteFault.TheVariants as faults
use Rattle.jl_modinfo.specs.Rules.{keeps_base_rule, missing_package}
use Rattle.jl_tables.specs.Layout.{targets}

-- what an error tells: the fault, or nothing for want of memory
abbrev pub write_told : InfoWriteFault → Option InfoWriteFault
write_told (faults.TooMany table) = Some (faults.TooMany table)
write_told faults.NoMemory = None

-- ---- tables

-- a table by its name, and how many entries it has
abbrev pub Counted : Type 0
Counted = List ℕ × ℕ

abbrev pub target_counts : List Grant → List Counted
target_counts grants = map (λ (g : Grant). (codes "targets", length (targets g))) grants

abbrev pub class_counts : List Provides → List Counted
class_counts provides = map (λ (p : Provides). (codes "implementations", length p.implementations)) provides

-- the tables in the order in which a file has their counts
abbrev pub tables : Declaration → List Counted
tables d =
    (codes "requires", length d.required)
    ∷ (codes "exports", length d.exports) ∷ (target_counts d.exports
    ++ ((codes "opens", length d.opens) ∷ (target_counts d.opens
    ++ ((codes "uses", length d.uses)
    ∷ (codes "provides", length d.provides) ∷ (class_counts d.provides
    ++ ((codes "packages", length d.packages) ∷ []))))))

-- ---- the pool

-- an entry of a pool: its tag, and its text or the name that it has
abbrev pub Need : Type 0
Need = ℕ × List ℕ

abbrev pub text_need : List ℕ → Need
text_need t = (1, t)

abbrev pub class_need : List ℕ → Need
class_need t = (7, t)

abbrev pub module_need : List ℕ → Need
module_need t = (19, t)

abbrev pub package_need : List ℕ → Need
package_need t = (20, t)

abbrev pub grant_needs : Grant → List Need
grant_needs g = package_need g.package ∷ map module_need (targets g)

abbrev pub provides_needs : Provides → List Need
provides_needs p = class_need p.service ∷ map class_need p.implementations

abbrev pub main_needs : Option (List ℕ) → List Need
main_needs None = []
main_needs (Some class) = text_need (codes "ModuleMainClass") ∷ class_need class ∷ []

-- what a declaration names, in the order of a file: its class, its attributes and their tables
abbrev pub named : Declaration → List Need
named d =
    class_need (codes "module-info") ∷ text_need (codes "Module") ∷ module_need d.name
    ∷ (map text_need (option_to_list d.version)
    ++ (map (λ (r : Requires). module_need r.name) d.required
    ++ (flat_map grant_needs d.exports
    ++ (flat_map grant_needs d.opens
    ++ (map class_need d.uses
    ++ (flat_map provides_needs d.provides
    ++ (text_need (codes "ModulePackages") ∷ (map package_need d.packages
    ++ main_needs d.main))))))))

-- an entry with a name needs the text of the name too
abbrev pub with_text : Need → List Need
with_text n = if n.0 == 1 then n ∷ [] else text_need n.1 ∷ n ∷ []

abbrev pub needed : Declaration → List Need
needed d = flat_map with_text (named d)

abbrev pub is_same_need : Need → Need → Bool
is_same_need a b = (a.0 == b.0) && is_text a.1 b.1

-- each of a list once
unfoldable pub each_once : List Need → List Need
each_once [] = []
each_once (n ∷ ns) = if list_any (is_same_need n) ns then each_once ns else n ∷ each_once ns

-- the count of a pool that holds each needed entry once
abbrev pub pool_count : Declaration → ℕ
pool_count d = length (each_once (needed d)) + 1

-- ---- what is refused

-- The first table that has too many entries, or else the pool.
abbrev pub too_many : Declaration → Option (List ℕ)
too_many d = by (find (λ (t : Counted). nat_lt 65535 t.1) (tables d)) where
  by : Option Counted → Option (List ℕ)
  by (Some t) = Some t.0
  by None = if nat_lt 65535 (pool_count d) then Some (codes "pool") else None

abbrev pub accepted : Option (List ℕ) → Result (Unit {0}) InfoWriteFault
accepted None = Ok tt
accepted (Some table) = Err (faults.TooMany table)

-- ---- conditions

-- Every text that a pool needs fits the two bytes of its length.
abbrev pub AreShort : Declaration → Type 0
AreShort d = AllByRecursion (λ (n : Need). length (text_bytes (utf16 n.1)) < 65536) (named d)

-- how many members the lists of a declaration have together, those inside them counted
abbrev pub sum_counts : List Counted → ℕ
sum_counts [] = 0
sum_counts (t ∷ ts) = t.1 + sum_counts ts

abbrev pub members : Declaration → ℕ
members d = sum_counts (tables d)

-- ---- the rules that a declaration file keeps

abbrev pub AreModules : List (List ℕ) → Type 0
AreModules names = AllByRecursion (λ n. IsTrue (names_a_module n)) names

abbrev pub AreClasses : List (List ℕ) → Type 0
AreClasses names = AllByRecursion (λ n. IsTrue (names_a_class n)) names

-- a package is granted to all, or to some modules, each once
pub record IsFineGrant (g : Grant) : Type 0 where
  pub granted : IsTrue (names_a_class g.package)
  pub modules : AreModules (targets g)
  pub distinct : AreDistinct (targets g)
  pub some : g.to ≡ Some [] → ⊥

pub record IsFineProvides (p : Provides) : Type 0 where
  pub service : IsTrue (names_a_class p.service)
  pub classes : AreClasses p.implementations
  pub distinct : AreDistinct p.implementations
  pub some : p.implementations ≡ [] → ⊥

abbrev pub IsFineMain : Option (List ℕ) → Type 0
IsFineMain None = ⊤
IsFineMain (Some class) = IsTrue (names_a_class class)

-- a declaration that some file declares
pub record KeepsRules (d : Declaration) : Type 0 where
  pub name : IsTrue (names_a_module d.name)
  pub required : AreModules (map (λ (r : Requires). r.name) d.required)
  pub exports : AllByRecursion IsFineGrant d.exports
  pub opens : AllByRecursion IsFineGrant d.opens
  pub uses : AreClasses d.uses
  pub provides : AllByRecursion IsFineProvides d.provides
  pub packages : AreClasses d.packages
  pub main : IsFineMain d.main
  pub distinct_required : AreDistinct (map (λ (r : Requires). r.name) d.required)
  pub distinct_exports : AreDistinct (map (λ (g : Grant). g.package) d.exports)
  pub distinct_opens : AreDistinct (map (λ (g : Grant). g.package) d.opens)
  pub distinct_uses : AreDistinct d.uses
  pub distinct_provides : AreDistinct (map (λ (p : Provides). p.service) d.provides)
  pub distinct_packages : AreDistinct d.packages
  pub closed : d.is_open ≡ true → d.opens ≡ []
  pub base : IsTrue (keeps_base_rule d.name d.required)
  pub none_missing : missing_package d ≡ None
