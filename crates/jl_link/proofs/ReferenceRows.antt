-- Worked rows of references.
use Rattle.std.proofs.Common.{◌≡◌, ℕ, List, [], ◌∷◌, Option, Some, None, Ok, Err, false, refl, replicate}
use Rattle.std.specs.Prelude.{codes}
use Rattle.std.specs.Fmt.{digits}
use Rattle.jl_prim.specs.declared.numbers.ClassId.{ClassId}
use Rattle.jl_prim.specs.declared.numbers.ModuleId.{ModuleId}
use Rattle.jl_prim.specs.declared.declaration.Declaration.{Declaration}
use Rattle.jl_prim.specs.declared.declaration.ParentLoader.TheVariants.{Null}
use Rattle.jl_prim.specs.declared.error_kind.ErrorKind.TheVariants as errors
use Rattle.jl_names.specs.Names.{package_of}
use Rattle.jl_names.specs.Text.{plain, has_no_lone_surrogate}
use Rattle.jl_names.specs.Descriptors.{descriptor_read, field_at, brackets, name_end, base_at, type_at}
use Rattle.jl_pool.specs.declared.entry.Entry.{Entry}
use Rattle.jl_pool.specs.declared.entry.Entry.TheVariants as entries
use Rattle.jl_class.specs.declared.member.FieldDecl.{FieldDecl}
use Rattle.jl_class.specs.declared.member.MethodDecl.{MethodDecl}
use Rattle.jl_access.specs.declared.report.NoteKind.{NoteKind}
use Rattle.jl_access.specs.declared.report.NoteKind.TheVariants as kinds
use Rattle.jl_access.specs.declared.statement.Reach.TheVariants.{All}
use Rattle.jl_access.specs.declared.statement.Statement.TheVariants.{Reads, Exports}
use Rattle.jl_access.specs.declared.verdict.Rule.TheVariants as rules
use Rattle.jl_access.specs.declared.verdict.Verdict.{Verdict}
use Rattle.jl_access.specs.declared.verdict.Verdict.TheVariants.{Granted, Denied}
use Rattle.jl_loaders.specs.Loaders.{lead_by}
use Rattle.jl_layer.specs.declared.layer.Member.{Member}
use Rattle.jl_loads.specs.declared.slot.PoolSlot.TheVariants.{Empty, Passed, Failed}
use Rattle.jl_loads.specs.declared.slot.Target.TheVariants as targets
use Rattle.jl_loads.specs.Worlds.{State, Loaded, Thrown, with_note, with_slot, line_by, above_by, each_once}
use Rattle.jl_loads.specs.Outcomes.{error}
use Rattle.jl_loads.specs.Loading.{load_by}
use Rattle.jl_link.specs.Members.{field_by}
use Rattle.jl_link.specs.References.{resolve}

abbrev m : ℕ → ModuleId
m n = record { 0 = n }

abbrev c : ℕ → ClassId
c n = record { 0 = n }

-- ---- java.base, a, which reads it and b, and d, which nobody reads, under one loader

abbrev declaration : List ℕ → List ℕ → Declaration
declaration name p = record { name = name; is_open = false; version = None; required = []; exports = []; opens = []; uses = []; provides = []; packages = p ∷ []; main = None }

abbrev member : List ℕ → List ℕ → Member
member name p = record { layer = record { 0 = 1 }; loader = record { 0 = 1 }; observed = record { declaration = declaration name p; place = name } }

-- a public class of the module with a number
abbrev class : ℕ → List ℕ → Option ClassId → List FieldDecl → List MethodDecl → List Entry → Loaded
class home name super fields methods pool = record {
  loader = record { 0 = 1 };
  home = m home;
  super = super;
  interfaces = [];
  declared = record {
    major = 61;
    minor = 0;
    flags = 0x21;
    name = name;
    super_name = None;
    interfaces = [];
    fields = fields;
    methods = methods;
    nest_host = None;
    nest_members = [];
    permits = None;
    pool = pool;
  };
}

-- the pool of p/A
abbrev pool : List Entry
pool =
    entries.Unused
    ∷ entries.Utf8 (codes "q/B") ∷ entries.Class 1
    ∷ entries.Utf8 (codes "z/Z") ∷ entries.Class 3
    ∷ entries.Utf8 (codes "r/D") ∷ entries.Class 5
    ∷ entries.Utf8 (codes "[Lq/B;") ∷ entries.Class 7
    ∷ entries.Utf8 (codes "[I") ∷ entries.Class 9
    ∷ entries.Utf8 (codes "[q") ∷ entries.Class 11
    ∷ entries.Utf8 (codes "f") ∷ entries.Utf8 (codes "I") ∷ entries.NameAndType 13 14
    ∷ entries.Field 2 15
    ∷ entries.Utf8 (codes "m") ∷ entries.Utf8 (codes "()V") ∷ entries.NameAndType 17 18
    ∷ entries.Method 2 19
    ∷ entries.InterfaceMethod 2 19
    ∷ entries.NameAndType 17 14
    ∷ entries.Field 2 22
    ∷ entries.Field 6 15
    ∷ entries.Utf8 (codes "clone") ∷ entries.NameAndType 25 18
    ∷ entries.Method 10 26
    ∷ entries.Method 2 26
    ∷ []

-- Object, p/A, q/B and r/D
abbrev world : State
world = record {
  layers = record {
    configurations = [];
    layers = [];
    modules = member (codes "java.base") (codes "java/lang") ∷ member (codes "a") (codes "p") ∷ member (codes "b") (codes "q") ∷ member (codes "d") (codes "r") ∷ [];
    loaders = record { loaders = record { own = (codes "java/lang", m 1) ∷ (codes "p", m 2) ∷ (codes "q", m 3) ∷ (codes "r", m 4) ∷ []; seen = []; parent = Null } ∷ []; base = Some (m 1); constraints = []; spare = 0 };
    facts = record {
      modules = record { is_open = false; packages = codes "java/lang" ∷ [] } ∷ record { is_open = false; packages = codes "p" ∷ [] } ∷ record { is_open = false; packages = codes "q" ∷ [] } ∷ record { is_open = false; packages = codes "r" ∷ [] } ∷ [];
      statements = Reads (m 2) (m 1) ∷ Exports (m 1) (codes "java/lang") All ∷ Reads (m 2) (m 3) ∷ Exports (m 3) (codes "q") All ∷ [];
      spare_modules = 0;
      spare_statements = 0;
    };
  };
  classes =
      class 1 (codes "java/lang/Object") None [] (record { flags = 0x4; name = codes "clone"; desc = codes "()V"; code = None } ∷ []) []
      ∷ class 2 (codes "p/A") (Some (c 1)) [] [] pool
      ∷ class 3 (codes "q/B") (Some (c 1)) (record { flags = 0x1; name = codes "f"; desc = codes "I"; constant = None } ∷ []) (record { flags = 0x1; name = codes "m"; desc = codes "()V"; code = None } ∷ []) []
      ∷ class 4 (codes "r/D") (Some (c 1)) [] [] []
      ∷ [];
  report = [];
  slots = [] ∷ replicate 29 Empty ∷ [] ∷ [] ∷ [];
  kept = [];
}

-- ---- what is added

-- a check of a class of a, at step 7
abbrev note : NoteKind → ℕ → List ℕ → Verdict → State → State
note kind to p verdict s = with_note (record { from = m 2; to = m to; «package» = Some p; kind = kind; verdict = verdict }) 7 s

abbrev failed : ℕ → Thrown → State → State
failed i e s = with_slot (c 2) i (Failed e.kind e.message) s

-- q/B, and r/D
abbrev with_b : State
with_b = with_slot (c 2) 2 (Passed (targets.Class (c 3))) (note kinds.Class 3 (codes "q") Granted world)

abbrev not_read : Thrown
not_read = error errors.IllegalAccessError (codes "not-read: p.A in a@1 to r.D in d@1")

abbrev without_d : State
without_d = failed 6 not_read (note kinds.Class 4 (codes "r") (Denied rules.NotRead) world)

-- ---- classes

row_found : resolve [] 7 world (c 2) 2 ≡ (with_b, Ok (targets.Class (c 3)))
unfolding load_by lead_by package_of plain lib.Utf8.encode
row_found = refl

abbrev nowhere : Thrown
nowhere = error errors.NoClassDefFoundError (codes "z.Z")

row_nowhere : resolve [] 7 world (c 2) 4 ≡ (failed 4 nowhere world, Err nowhere)
unfolding load_by lead_by package_of plain lib.Utf8.encode
row_nowhere = refl

row_denied : resolve [] 7 world (c 2) 6 ≡ (without_d, Err not_read)
unfolding load_by lead_by package_of plain digits lib.Utf8.encode
row_denied = refl

-- ---- arrays

-- of a class, which is accessed
row_array : resolve [] 7 world (c 2) 8 ≡ (with_slot (c 2) 8 (Passed (targets.Array (codes "[Lq/B;"))) (note kinds.Class 3 (codes "q") Granted world), Ok (targets.Array (codes "[Lq/B;")))
unfolding load_by lead_by package_of plain descriptor_read field_at brackets name_end base_at type_at lib.Utf8.encode
row_array = refl

-- of ints
abbrev with_ints : State
with_ints = with_slot (c 2) 10 (Passed (targets.Array (codes "[I"))) world

row_ints : resolve [] 7 world (c 2) 10 ≡ (with_ints, Ok (targets.Array (codes "[I")))
unfolding load_by lead_by package_of plain descriptor_read field_at brackets name_end base_at type_at lib.Utf8.encode
row_ints = refl

-- no descriptor
abbrev no_descriptor : Thrown
no_descriptor = error errors.NoClassDefFoundError (codes "[q")

row_no_descriptor : resolve [] 7 world (c 2) 12 ≡ (failed 12 no_descriptor world, Err no_descriptor)
unfolding load_by lead_by package_of plain descriptor_read field_at brackets name_end base_at type_at lib.Utf8.encode
row_no_descriptor = refl

-- ---- members

row_field : resolve [] 7 world (c 2) 16 ≡ (with_slot (c 2) 16 (Passed (targets.Field (record { 0 = 0 }))) (note kinds.Member 3 (codes "q") Granted with_b), Ok (targets.Field (record { 0 = 0 })))
unfolding load_by lead_by package_of plain has_no_lone_surrogate field_by line_by lib.Utf8.encode
row_field = refl

row_method : resolve [] 7 world (c 2) 20 ≡ (with_slot (c 2) 20 (Passed (targets.Method (record { 0 = 1 }))) (note kinds.Member 3 (codes "q") Granted with_b), Ok (targets.Method (record { 0 = 1 })))
unfolding load_by lead_by package_of plain has_no_lone_surrogate line_by above_by each_once lib.Utf8.encode
row_method = refl

-- a class, where an interface is named
abbrev other_kind : Thrown
other_kind = error errors.IncompatibleClassChangeError (codes "q.B.m")

row_other_kind : resolve [] 7 world (c 2) 21 ≡ (failed 21 other_kind with_b, Err other_kind)
unfolding load_by lead_by package_of plain has_no_lone_surrogate line_by above_by each_once lib.Utf8.encode
row_other_kind = refl

-- none such
abbrev none_such : Thrown
none_such = error errors.NoSuchFieldError (codes "q.B.m")

row_none_such : resolve [] 7 world (c 2) 23 ≡ (failed 23 none_such with_b, Err none_such)
unfolding load_by lead_by package_of plain has_no_lone_surrogate field_by lib.Utf8.encode
row_none_such = refl

-- clone, which is protected, of an array, and of an object of a class that is not related
row_clone : resolve [] 7 world (c 2) 27 ≡ (with_slot (c 2) 27 (Passed (targets.Method (record { 0 = 0 }))) (note kinds.Member 1 (codes "java/lang") Granted with_ints), Ok (targets.Method (record { 0 = 0 })))
unfolding load_by lead_by package_of plain has_no_lone_surrogate line_by above_by each_once descriptor_read field_at brackets name_end base_at type_at lib.Utf8.encode
row_clone = refl

abbrev protected : Thrown
protected = error errors.IllegalAccessError (codes "member-protected: p.A in a@1 to java.lang.Object.clone in java.base@1")

row_protected : resolve [] 7 world (c 2) 28 ≡ (failed 28 protected (note kinds.Member 1 (codes "java/lang") (Denied rules.MemberProtected) with_b), Err protected)
unfolding load_by lead_by package_of plain has_no_lone_surrogate line_by above_by each_once digits lib.Utf8.encode
row_protected = refl

-- ---- once for all

-- a denied class denies its member, and is noted once
row_denied_member : resolve [] 7 world (c 2) 24 ≡ (failed 24 not_read without_d, Err not_read)
unfolding load_by lead_by package_of plain has_no_lone_surrogate field_by digits lib.Utf8.encode
row_denied_member = refl

-- and so does one that was denied before: nothing is noted
row_denied_before : resolve [] 8 without_d (c 2) 24 ≡ (failed 24 not_read without_d, Err not_read)
unfolding load_by lead_by package_of plain has_no_lone_surrogate field_by digits lib.Utf8.encode
row_denied_before = refl

-- a slot that passed, and one that failed, at a later step
row_passed : resolve [] 8 with_b (c 2) 2 ≡ (with_b, Ok (targets.Class (c 3)))
unfolding load_by lead_by package_of plain lib.Utf8.encode
row_passed = refl

row_failed : resolve [] 8 without_d (c 2) 6 ≡ (without_d, Err not_read)
unfolding load_by lead_by package_of plain digits lib.Utf8.encode
row_failed = refl
