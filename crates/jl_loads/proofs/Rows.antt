-- Worked rows of the definitions.
use Rattle.std.proofs.Common.{◌≡◌, ℕ, List, [], ◌∷◌, Option, Some, None, Ok, Err, true, false, refl, take, map}
use Rattle.std.specs.Prelude.{codes}
use Rattle.std.specs.Fmt.{digits}
use Rattle.jl_prim.specs.declared.numbers.ClassId.{ClassId}
use Rattle.jl_prim.specs.declared.numbers.LoaderId.{LoaderId}
use Rattle.jl_prim.specs.declared.numbers.ModuleId.{ModuleId}
use Rattle.jl_prim.specs.declared.declaration.Declaration.{Declaration}
use Rattle.jl_prim.specs.declared.declaration.ParentLoader.TheVariants.{Null}
use Rattle.jl_prim.specs.declared.error_kind.ErrorKind.TheVariants as errors
use Rattle.jl_access.specs.declared.report.NoteKind.TheVariants as kinds
use Rattle.jl_access.specs.declared.statement.Reach.TheVariants.{All}
use Rattle.jl_access.specs.declared.statement.Statement.TheVariants.{Reads, Exports}
use Rattle.jl_access.specs.declared.verdict.Rule.TheVariants as rules
use Rattle.jl_access.specs.declared.verdict.Verdict.TheVariants.{Granted, Denied}
use Rattle.jl_class.specs.Classes.{Class}
use Rattle.jl_class.specs.declared.fault.ClassFault.TheVariants as faults
use Rattle.jl_class.specs.Reading.{class_of, class_pool_at, flags_at, named_at, super_at, interfaces_at, fields_at, methods_at, nests_at}
use Rattle.jl_names.specs.Names.{package_of, parts}
use Rattle.jl_names.specs.Text.{plain, has_no_lone_surrogate, units_read, units_from, unit_at}
use Rattle.jl_pool.specs.Reading.{pool_at, entry_at, content_at, text_at, bits_at}
use Rattle.jl_reading.specs.Reading.{each_at, steps_at}
use Rattle.jl_classfile.specs.Front.{front_at}
use Rattle.jl_loaders.specs.Loaders.{lead_by}
use Rattle.jl_layer.specs.declared.layer.Member.{Member}
use Rattle.jl_tree.specs.Files.{File}
use Rattle.jl_loads.specs.declared.role.Role.TheVariants.{Superclass, Superinterface}
use Rattle.jl_loads.specs.declared.slot.PoolSlot.TheVariants.{Empty, Passed}
use Rattle.jl_loads.specs.declared.slot.Target.TheVariants as targets
use Rattle.jl_loads.specs.Worlds as worlds
use Rattle.jl_loads.specs.Worlds.{State, Loaded, Absent, Declares, Broken, Lost, blank, with_kept, with_slot, slot_at, with_note, superinterfaces, is_subtype, each_once, above_by, line_by}
use Rattle.jl_loads.specs.Outcomes.{error, silent}
use Rattle.jl_loads.specs.Loading.{load_by, interfaces_behind, access, fitted, declared_by, parsed, of_name, permits, has_file}

abbrev m : ℕ → ModuleId
m n = record { 0 = n }

abbrev l : ℕ → LoaderId
l n = record { 0 = n }

abbrev c : ℕ → ClassId
c n = record { 0 = n }

-- ---- java.base, a, which reads it, and b, whose package q nobody reads, under one loader

abbrev declaration : List ℕ → List (List ℕ) → Declaration
declaration name packages = record { name = name; is_open = false; version = None; required = []; exports = []; opens = []; uses = []; provides = []; packages = packages; main = None }

abbrev member : List ℕ → List (List ℕ) → Member
member name packages = record { layer = record { 0 = 1 }; loader = l 1; observed = record { declaration = declaration name packages; place = name } }

abbrev class : ℕ → List ℕ → Option (List ℕ) → List (List ℕ) → Class
class flags name super interfaces = record {
  major = 61;
  minor = 0;
  flags = flags;
  name = name;
  super_name = super;
  interfaces = interfaces;
  fields = [];
  methods = [];
  nest_host = None;
  nest_members = [];
  permits = None;
  pool = [];
}

-- a class of the module with a number
abbrev of : ℕ → Option ClassId → List ClassId → Class → Loaded
of home super interfaces declared = record { loader = l 1; home = m home; super = super; interfaces = interfaces; declared = declared }

-- java/lang/Object, which is public
abbrev object : Loaded
object = of 1 None [] (class 0x21 (codes "java/lang/Object") None [])

-- a state with some classes behind Object
abbrev world : List Loaded → State
world classes = record {
  layers = record {
    configurations = [];
    layers = [];
    modules = member (codes "java.base") (codes "java/lang" ∷ []) ∷ member (codes "a") (codes "p" ∷ []) ∷ member (codes "b") (codes "q" ∷ []) ∷ [];
    loaders = record { loaders = record { own = (codes "java/lang", m 1) ∷ (codes "p", m 2) ∷ (codes "q", m 3) ∷ []; seen = []; parent = Null } ∷ []; base = Some (m 1); constraints = []; spare = 0 };
    facts = record {
      modules = record { is_open = false; packages = codes "java/lang" ∷ [] } ∷ record { is_open = false; packages = codes "p" ∷ [] } ∷ record { is_open = false; packages = codes "q" ∷ [] } ∷ [];
      statements = Reads (m 2) (m 1) ∷ Exports (m 1) (codes "java/lang") All ∷ [];
      spare_modules = 0;
      spare_statements = 0;
    };
  };
  classes = object ∷ classes;
  report = [];
  slots = map blank (object ∷ classes);
  kept = [];
}

-- a class file of p/A, which extends java/lang/Object
abbrev file : List ℕ
file =
    0xca ∷ 0xfe ∷ 0xba ∷ 0xbe ∷ 0 ∷ 0 ∷ 0 ∷ 0x35 ∷ 0 ∷ 5 ∷ 1 ∷ 0 ∷ 3 ∷ 0x70 ∷ 0x2f ∷ 0x41 ∷ 7 ∷ 0 ∷ 1 ∷ 1 ∷ 0 ∷ 16 ∷ 0x6a ∷ 0x61 ∷ 0x76 ∷ 0x61 ∷ 0x2f ∷ 0x6c ∷ 0x61 ∷ 0x6e ∷ 0x67 ∷ 0x2f ∷ 0x4f ∷ 0x62 ∷ 0x6a ∷ 0x65 ∷ 0x63 ∷ 0x74
    ∷ 7 ∷ 0 ∷ 3 ∷ 0 ∷ 0x21 ∷ 0 ∷ 2 ∷ 0 ∷ 4 ∷ 0 ∷ 0 ∷ 0 ∷ 0 ∷ 0 ∷ 0 ∷ 0 ∷ 0 ∷ []

-- its path
abbrev path : List ℕ
path = codes "a/p/A.class"

abbrev files : List File
files = record { path = path; bytes = file } ∷ []

-- ---- loads

-- a class that is defined is answered
row_defined : load_by 0 [] 0 [] (world []) (l 1) (codes "java/lang/Object") ≡ (world [], Ok (c 1))
unfolding load_by lead_by package_of
row_defined = refl

-- a name that is led nowhere
row_nowhere : load_by 1 [] 0 [] (world []) (l 1) (codes "z/Z") ≡ (world [], Err (error errors.NoClassDefFoundError (codes "z.Z")))
unfolding load_by lead_by package_of
row_nowhere = refl

-- a class of java.base that is not there, which has no file
row_no_base : load_by 1 [] 0 [] (world []) (l 1) (codes "java/lang/Z") ≡ (world [], Err (error errors.NoClassDefFoundError (codes "java.lang.Z")))
unfolding load_by lead_by package_of
row_no_base = refl

-- a file that is not there: that is kept
row_no_file : load_by 1 [] 0 [] (world []) (l 1) (codes "p/A") ≡ (with_kept path Absent (world []), Err (error errors.NoClassDefFoundError (codes "p.A")))
unfolding load_by lead_by package_of
row_no_file = refl

-- a class that waits for itself
row_circular : load_by 1 files 0 (record { loader = l 1; name = codes "p/A" } ∷ []) (world []) (l 1) (codes "p/A") ≡ (world [], Err (error errors.ClassCircularityError (codes "p.A")))
unfolding load_by lead_by package_of
row_circular = refl

-- no class more may wait
row_deep : load_by 0 files 0 [] (world []) (l 1) (codes "p/A") ≡ (world [], Err (silent errors.StackOverflowError))
unfolding load_by lead_by package_of
row_deep = refl

-- ---- access

-- a class of a is denied one of b, since a does not read it; the check is noted
row_denied : access 5 (world []) (of 2 None [] (class 0x21 (codes "p/A") None [])) (of 3 None [] (class 0x21 (codes "q/B") None []))
    ≡ (with_note (record { from = m 2; to = m 3; «package» = Some (codes "q"); kind = kinds.Class; verdict = Denied rules.NotRead }) 5 (world []), Err (error errors.IllegalAccessError (codes "not-read: p.A in a@1 to q.B in b@1")))
unfolding package_of digits
row_denied = refl

-- and is granted Object, since a reads java.base, which exports its package
row_granted : access 5 (world []) (of 2 None [] (class 0x21 (codes "p/A") None [])) object
    ≡ (with_note (record { from = m 2; to = m 1; «package» = Some (codes "java/lang"); kind = kinds.Class; verdict = Granted }) 5 (world []), Ok tt)
unfolding package_of
row_granted = refl

-- a check within one module is not noted
row_within : access 5 (world []) (of 2 None [] (class 0x21 (codes "p/A") None [])) (of 2 None [] (class 0x20 (codes "p/B") None [])) ≡ (world [], Ok tt)
unfolding package_of
row_within = refl

-- ---- kinds and permission

abbrev new : Loaded
new = of 2 None [] (class 0x21 (codes "p/A") None [])

-- a final superclass
row_final : fitted (world []) new Superclass (c 7) (of 2 None [] (class 0x31 (codes "p/F") None [])) ≡ (world [], Err (error errors.IncompatibleClassChangeError (codes "p.A")))
row_final = refl

-- an interface as a superclass, and a class as a superinterface
row_interface : fitted (world []) new Superclass (c 7) (of 2 None [] (class 0x601 (codes "p/I") None [])) ≡ (world [], Err (error errors.IncompatibleClassChangeError (codes "p.A")))
row_interface = refl

row_no_interface : fitted (world []) new Superinterface (c 7) object ≡ (world [], Err (error errors.IncompatibleClassChangeError (codes "p.A")))
row_no_interface = refl

abbrev sealed : ℕ → List (List ℕ) → Loaded
sealed home names = of home None [] (record { major = 61; minor = 0; flags = 0x421; name = codes "p/S"; super_name = None; interfaces = []; fields = []; methods = []; nest_host = None; nest_members = []; permits = Some names; pool = [] })

-- a sealed class permits the one that it lists, in its own module
row_permitted : permits (sealed 2 (codes "p/A" ∷ [])) new ≡ true
unfolding package_of
row_permitted = refl

row_not_listed : permits (sealed 2 (codes "p/C" ∷ [])) new ≡ false
unfolding package_of
row_not_listed = refl

row_other_module : permits (sealed 3 (codes "p/A" ∷ [])) new ≡ false
unfolding package_of
row_other_module = refl

-- ---- supertypes

-- I, J and K, which extend it, and C, which implements J and K
abbrev diamond : State
diamond = world (of 2 (Some (c 1)) [] (class 0x601 (codes "p/I") None []) ∷ of 2 (Some (c 1)) (c 2 ∷ []) (class 0x601 (codes "p/J") None []) ∷ of 2 (Some (c 1)) (c 2 ∷ []) (class 0x601 (codes "p/K") None []) ∷ of 2 (Some (c 1)) (c 3 ∷ c 4 ∷ []) (class 0x21 (codes "p/C") None []) ∷ [])

-- each once, behind its own superinterfaces
row_diamond : superinterfaces diamond (c 5) ≡ c 2 ∷ c 3 ∷ c 4 ∷ []
unfolding each_once above_by
row_diamond = refl

row_subtype : is_subtype diamond (c 5) (c 2) ≡ true
unfolding each_once above_by line_by
row_subtype = refl

row_no_subtype : is_subtype diamond (c 3) (c 4) ≡ false
unfolding each_once above_by line_by
row_no_subtype = refl

-- ---- files

row_has_file : (has_file files (world []) (l 1) (codes "p/A")).1 ≡ true
unfolding lead_by package_of class_of front_at class_pool_at flags_at named_at super_at interfaces_at fields_at methods_at nests_at steps_at each_at pool_at entry_at content_at text_at bits_at units_read units_from unit_at plain has_no_lone_surrogate lib.Utf8.encode parts
row_has_file = refl

-- a file is there however wrong it is
row_has_broken : has_file (record { path = path; bytes = 0xca ∷ [] } ∷ []) (world []) (l 1) (codes "p/A") ≡ (with_kept path (Broken (faults.Short 0)) (world []), true)
unfolding lead_by package_of class_of front_at
row_has_broken = refl

row_has_none : has_file files (world []) (l 1) (codes "p/B") ≡ (with_kept (codes "a/p/B.class") Absent (world []), false)
unfolding lead_by package_of
row_has_none = refl

row_base_has_none : has_file (record { path = codes "java.base/java/lang/Z.class"; bytes = [] } ∷ []) (world []) (l 1) (codes "java/lang/Z") ≡ (world [], false)
unfolding lead_by package_of
row_base_has_none = refl

-- what was kept of a path is answered again, though there is a file now
row_kept_absent : load_by 1 files 0 [] (with_kept path Absent (world [])) (l 1) (codes "p/A") ≡ (with_kept path Absent (world []), Err (error errors.NoClassDefFoundError (codes "p.A")))
unfolding load_by lead_by package_of
row_kept_absent = refl

row_kept_long : load_by 1 files 0 [] (with_kept path worlds.TooLong (world [])) (l 1) (codes "p/A") ≡ (with_kept path worlds.TooLong (world []), Err (error errors.ClassFormatError (codes "p.A: TooLarge")))
unfolding load_by lead_by package_of
row_kept_long = refl

row_kept_broken : load_by 1 files 0 [] (with_kept path (Broken faults.Magic) (world [])) (l 1) (codes "p/A") ≡ (with_kept path (Broken faults.Magic) (world []), Err (error errors.ClassFormatError (codes "p.A: Magic")))
unfolding load_by lead_by package_of
row_kept_broken = refl

-- a path that could not be read is not read again
row_kept_lost : has_file files (with_kept path Lost (world [])) (l 1) (codes "p/A") ≡ (with_kept path Lost (world []), false)
unfolding lead_by package_of
row_kept_lost = refl

-- a class that was read is defined without its file
row_kept_class : (load_by 1 [] 7 [] (with_kept path (Declares (class 0x21 (codes "p/A") (Some (codes "java/lang/Object")) [])) (world [])) (l 1) (codes "p/A")).1 ≡ Ok (c 2)
unfolding load_by lead_by package_of interfaces_behind
row_kept_class = refl

-- a file that is cut, one of an old version, and one of another class
row_cut : declared_by (codes "p/A") (parsed (class_of (take 10 file))) ≡ Err (error errors.ClassFormatError (codes "p.A: Short 10"))
unfolding class_of front_at class_pool_at each_at pool_at entry_at content_at text_at bits_at digits
row_cut = refl

row_version : declared_by (codes "p/A") (parsed (class_of (0xca ∷ 0xfe ∷ 0xba ∷ 0xbe ∷ 0 ∷ 0 ∷ 0 ∷ 52 ∷ []))) ≡ Err (error errors.UnsupportedClassVersionError (codes "p.A: Version 52 0"))
unfolding class_of front_at digits
row_version = refl

row_other_name : of_name (codes "p/B") (class 0x21 (codes "p/A") None []) ≡ Err (error errors.NoClassDefFoundError (codes "p.B"))
row_other_name = refl

-- a file is read, its superclass is loaded and accessed, and the class has the next number
row_load : (load_by 1 files 7 [] (world []) (l 1) (codes "p/A")).1 ≡ Ok (c 2)
unfolding load_by lead_by package_of class_of front_at class_pool_at flags_at named_at super_at interfaces_at fields_at methods_at nests_at steps_at each_at pool_at entry_at content_at text_at bits_at units_read units_from unit_at plain has_no_lone_surrogate lib.Utf8.encode parts interfaces_behind
row_load = refl

-- ---- references

-- two references of Object, of which the second is decided
abbrev slotted : State
slotted = with_slot (c 1) 1 (Passed (targets.Class (c 1))) (record (world []) { slots = (Empty ∷ Empty ∷ []) ∷ [] })

row_filled : slot_at slotted (c 1) 1 ≡ Passed (targets.Class (c 1))
row_filled = refl

row_empty : slot_at slotted (c 1) 0 ≡ Empty
row_empty = refl

row_no_slot : slot_at slotted (c 2) 1 ≡ Empty
row_no_slot = refl
