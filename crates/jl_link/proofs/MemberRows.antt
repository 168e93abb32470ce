-- Worked rows of looking up fields and methods, and of selecting methods.
use Rattle.std.proofs.Common.{◌≡◌, ℕ, List, [], ◌∷◌, Option, Some, None, Ok, Err, refl}
use Rattle.std.specs.Prelude.{codes}
use Rattle.jl_prim.specs.declared.numbers.ClassId.{ClassId}
use Rattle.jl_prim.specs.declared.error_kind.ErrorKind.TheVariants as errors
use Rattle.jl_class.specs.declared.member.FieldDecl.{FieldDecl}
use Rattle.jl_class.specs.declared.member.MethodDecl.{MethodDecl}
use Rattle.jl_names.specs.Names.{package_of}
use Rattle.jl_loads.specs.Worlds.{State, Loaded, line_by, above_by, each_once}
use Rattle.jl_link.specs.declared.member.Member.{Member}
use Rattle.jl_link.specs.Members.{Wanted, wanted, field_by, field_of, class_method, interface_method}
use Rattle.jl_link.specs.Selection.{overrides_by, selected}

abbrev c : ℕ → ClassId
c n = record { 0 = n }

-- ---- classes

abbrev class : List ℕ → ℕ → Option ClassId → List ClassId → List FieldDecl → List MethodDecl → Loaded
class name flags super interfaces fields methods = record {
  loader = record { 0 = 1 };
  home = record { 0 = 1 };
  super = super;
  interfaces = interfaces;
  declared = record {
    major = 61;
    minor = 0;
    flags = flags;
    name = name;
    super_name = None;
    interfaces = [];
    fields = fields;
    methods = methods;
    nest_host = None;
    nest_members = [];
    permits = None;
    pool = [];
  };
}

abbrev field : ℕ → List ℕ → FieldDecl
field flags name = record { flags = flags; name = name; desc = codes "I"; constant = None }

abbrev method : ℕ → List ℕ → MethodDecl
method flags name = record { flags = flags; name = name; desc = codes "()V"; code = None }

-- java/lang/Object, with a public method and a protected one
abbrev object : Loaded
object = class (codes "java/lang/Object") 0x21 None [] [] (method 0x1 (codes "a") ∷ method 0x4 (codes "b") ∷ method 0x1 (codes "<init>") ∷ [])

-- an interface, and a class of package p
abbrev interface : List ClassId → List FieldDecl → List MethodDecl → Loaded
interface interfaces fields methods = class (codes "p/I") 0x601 (Some (c 1)) interfaces fields methods

abbrev plain : ℕ → List ClassId → List FieldDecl → List MethodDecl → Loaded
plain super interfaces fields methods = class (codes "p/C") 0x21 (Some (c super)) interfaces fields methods

-- classes behind Object
abbrev world : List Loaded → State
world classes = record {
  layers = record {
    configurations = [];
    layers = [];
    modules = [];
    loaders = record { loaders = []; base = None; constraints = []; spare = 0 };
    facts = record { modules = []; statements = []; spare_modules = 0; spare_statements = 0 };
  };
  classes = object ∷ classes;
  report = [];
  slots = [];
  kept = [];
}

abbrev found : ℕ → ℕ → ℕ → Member
found owner at flags = record { owner = c owner; at = at; flags = flags }

-- ---- fields

abbrev f : Wanted
f = wanted (codes "f") (codes "I")

abbrev constant : List FieldDecl
constant = field 0x19 (codes "e") ∷ field 0x19 (codes "f") ∷ []

-- a diamond: 3 and 4 extend 2, and 5 implements both
row_diamond : field_of (world (interface [] constant [] ∷ interface (c 2 ∷ []) [] [] ∷ interface (c 2 ∷ []) [] [] ∷ plain 1 (c 3 ∷ c 4 ∷ []) [] [] ∷ [])) (c 5) f ≡ Some (found 2 1 0x19)
unfolding field_by
row_diamond = refl

-- a diamond in vain
row_vain : field_of (world (interface [] [] [] ∷ interface (c 2 ∷ []) [] [] ∷ interface (c 2 ∷ []) [] [] ∷ plain 1 (c 3 ∷ c 4 ∷ []) [] [] ∷ [])) (c 5) f ≡ None
unfolding field_by
row_vain = refl

-- an interface before the superclass
row_interface_first : field_of (world (interface [] constant [] ∷ plain 1 [] (field 0x1 (codes "f") ∷ []) [] ∷ plain 3 (c 2 ∷ []) [] [] ∷ [])) (c 4) f ≡ Some (found 2 1 0x19)
unfolding field_by
row_interface_first = refl

-- its own before an interface
row_own : field_of (world (interface [] constant [] ∷ plain 1 (c 2 ∷ []) (field 0x2 (codes "f") ∷ []) [] ∷ [])) (c 3) f ≡ Some (found 3 0 0x2)
unfolding field_by
row_own = refl

-- what is above the first interface before the second one
row_depth_first : field_of (world (interface [] constant [] ∷ interface (c 2 ∷ []) [] [] ∷ interface [] constant [] ∷ plain 1 (c 3 ∷ c 4 ∷ []) [] [] ∷ [])) (c 5) f ≡ Some (found 2 1 0x19)
unfolding field_by
row_depth_first = refl

-- a field of another type is another field
row_other_type : field_of (world (interface [] constant [] ∷ [])) (c 2) (wanted (codes "f") (codes "J")) ≡ None
unfolding field_by
row_other_type = refl

-- ---- methods

abbrev m : Wanted
m = wanted (codes "m") (codes "()V")

abbrev with : ℕ → List MethodDecl
with flags = method flags (codes "m") ∷ []

-- two superinterfaces have one that is not abstract: the first that hands it on
abbrev two_defaults : State
two_defaults = world (interface [] [] (with 0x1) ∷ interface [] [] (with 0x1) ∷ plain 1 (c 2 ∷ c 3 ∷ []) [] [] ∷ [])

row_two_defaults : class_method two_defaults (c 4) m ≡ Some (found 2 0 0x1)
unfolding line_by above_by each_once
row_two_defaults = refl

-- one that is maximally specific
abbrev refined : ℕ → State
refined flags = world (interface [] [] (with 0x1) ∷ interface (c 2 ∷ []) [] (with flags) ∷ plain 1 (c 2 ∷ c 3 ∷ []) [] [] ∷ [])

row_refined : class_method (refined 0x1) (c 4) m ≡ Some (found 3 0 0x1)
unfolding line_by above_by each_once
row_refined = refl

-- an abstract one is maximally specific: the first that hands it on
row_abstract : class_method (refined 0x401) (c 4) m ≡ Some (found 2 0 0x1)
unfolding line_by above_by each_once
row_abstract = refl

-- a private or a static one of an interface is not handed on
row_private : class_method (world (interface [] [] (with 0x2) ∷ plain 1 (c 2 ∷ []) [] [] ∷ [])) (c 3) m ≡ None
unfolding line_by above_by each_once
row_private = refl

row_static : class_method (world (interface [] [] (with 0x9) ∷ plain 1 (c 2 ∷ []) [] [] ∷ [])) (c 3) m ≡ None
unfolding line_by above_by each_once
row_static = refl

-- the superclass before an interface
row_superclass_first : class_method (world (interface [] [] (with 0x1) ∷ plain 1 [] [] (with 0x401) ∷ plain 3 (c 2 ∷ []) [] [] ∷ [])) (c 4) m ≡ Some (found 3 0 0x401)
unfolding line_by above_by each_once
row_superclass_first = refl

-- a public method of Object, by an interface, and one that is not public
row_object : interface_method (world (interface [] [] [] ∷ [])) (c 2) (wanted (codes "a") (codes "()V")) ≡ Some (found 1 0 0x1)
unfolding line_by above_by each_once
row_object = refl

row_not_public : interface_method (world (interface [] [] [] ∷ [])) (c 2) (wanted (codes "b") (codes "()V")) ≡ None
unfolding line_by above_by each_once
row_not_public = refl

-- Object before a superinterface
row_object_first : interface_method (world (interface [] [] (method 0x1 (codes "a") ∷ []) ∷ interface (c 2 ∷ []) [] [] ∷ [])) (c 3) (wanted (codes "a") (codes "()V")) ≡ Some (found 1 0 0x1)
unfolding line_by above_by each_once
row_object_first = refl

-- ---- selecting

-- three classes below each other, of packages p or q
abbrev below : ℕ → List ℕ → ℕ → Loaded
below super name flags = class name 0x21 (Some (c super)) [] [] (with flags)

abbrev three : ℕ → ℕ → List ℕ → ℕ → State
three first second name third = world (below 1 (codes "p/A") first ∷ below 2 (codes "p/B") second ∷ below 3 name third ∷ [])

-- a public one is overridden
row_overridden : selected (three 0x1 0x1 (codes "q/C") 0x1) (c 4) m (found 2 0 0x1) ≡ Ok (found 4 0 0x1)
unfolding line_by above_by each_once overrides_by package_of
row_overridden = refl

-- a private one is itself
row_itself : selected (three 0x2 0x1 (codes "q/C") 0x1) (c 4) m (found 2 0 0x2) ≡ Ok (found 2 0 0x2)
unfolding line_by above_by each_once overrides_by package_of
row_itself = refl

-- one of a package, overridden by way of a public one of the package
row_by_way : selected (three 0 0x1 (codes "q/C") 0x1) (c 4) m (found 2 0 0) ≡ Ok (found 4 0 0x1)
unfolding line_by above_by each_once overrides_by package_of
row_by_way = refl

-- one of a package, not overridden from another package
row_unseen : selected (three 0 0 (codes "q/C") 0x1) (c 4) m (found 2 0 0) ≡ Ok (found 3 0 0)
unfolding line_by above_by each_once overrides_by package_of
row_unseen = refl

-- an abstract one below
row_abstract_below : selected (three 0x1 0x1 (codes "q/C") 0x401) (c 4) m (found 2 0 0x1) ≡ Err errors.AbstractMethodError
unfolding line_by above_by each_once overrides_by package_of
row_abstract_below = refl

-- two of superinterfaces, one that is refined by an abstract one, and one that is more special
row_both : selected two_defaults (c 4) m (found 2 0 0x1) ≡ Err errors.IncompatibleClassChangeError
unfolding line_by above_by each_once overrides_by package_of
row_both = refl

row_none : selected (refined 0x401) (c 4) m (found 2 0 0x1) ≡ Err errors.AbstractMethodError
unfolding line_by above_by each_once overrides_by package_of
row_none = refl

row_special : selected (refined 0x1) (c 4) m (found 2 0 0x1) ≡ Ok (found 3 0 0x1)
unfolding line_by above_by each_once overrides_by package_of
row_special = refl

-- a class that does not implement the interface
row_no_subtype : selected two_defaults (c 1) m (found 2 0 0x1) ≡ Err errors.IncompatibleClassChangeError
unfolding line_by above_by each_once overrides_by package_of
row_no_subtype = refl

-- what makes an instance is not overridden
row_init : selected (world (plain 1 [] [] (method 0x1 (codes "<init>") ∷ []) ∷ [])) (c 2) (wanted (codes "<init>") (codes "()V")) (found 1 2 0x1) ≡ Ok (found 1 2 0x1)
unfolding line_by above_by each_once overrides_by package_of
row_init = refl
