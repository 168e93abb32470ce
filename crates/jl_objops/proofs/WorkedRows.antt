-- Worked rows of the definitions.
use Rattle.std.proofs.Common.{◌≡◌, ℕ, negsuc, List, [], ◌∷◌, Option, Some, None, Ok, Err, true, false, refl}
use Rattle.std.specs.Prelude.{codes}
use Rattle.jl_prim.specs.declared.numbers.ClassId.{ClassId}
use Rattle.jl_prim.specs.declared.error_kind.ErrorKind.TheVariants as errors
use Rattle.jl_pool.specs.declared.entry.Entry.TheVariants as entries
use Rattle.jl_class.specs.declared.member.FieldDecl.{FieldDecl}
use Rattle.jl_class.specs.declared.member.MethodDecl.{MethodDecl}
use Rattle.jl_code.specs.declared.code.Arg.TheVariants as args
use Rattle.jl_heap.specs.declared.value.Kind.TheVariants as kinds
use Rattle.jl_heap.specs.declared.shape.Base.TheVariants as bases
use Rattle.jl_heap.specs.declared.shape.Element.{Element}
use Rattle.jl_heap.specs.declared.shape.Shape.TheVariants as shapes
use Rattle.jl_loads.specs.Worlds.{State, Loaded, line_by, above_by, each_once}
use Rattle.jl_link.specs.declared.member.Member.{Member}
use Rattle.jl_objops.specs.declared.caller.Caller.{Caller}
use Rattle.jl_objops.specs.declared.constants.Constant.TheVariants as constants
use Rattle.jl_objops.specs.declared.row.FieldOp.TheVariants as field_ops
use Rattle.jl_objops.specs.declared.row.ObjectRow.TheVariants as rows
use Rattle.jl_objops.specs.declared.types.Fit.TheVariants as fits
use Rattle.jl_objops.specs.declared.types.ObjectType.{ObjectType}
use Rattle.jl_objops.specs.Fields.{fits_row, hidden, object_place, static_place}
use Rattle.jl_objops.specs.Members.{field_error, final_error}
use Rattle.jl_objops.specs.Objects.{constant_of, new_shape}
use Rattle.jl_objops.specs.Rows.{row_by}
use Rattle.jl_objops.specs.Types.{takes, type_of, type_text}

abbrev c : ℕ → ClassId
c n = record { 0 = n }

-- ---- a world: Object, Throwable, an interface Cloneable, p/C extends Throwable, and p/D extends p/C

abbrev class : List ℕ → ℕ → Option ClassId → List ClassId → List FieldDecl → List MethodDecl → Loaded
class name flags super interfaces fields methods = record {
  loader = record { 0 = 1 };
  home = record { 0 = 1 };
  super = super;
  interfaces = interfaces;
  declared = record {
    major = 61;
    minor = 0;
    flags = flags;
    name = name;
    super_name = None;
    interfaces = [];
    fields = fields;
    methods = methods;
    nest_host = None;
    nest_members = [];
    permits = None;
    pool = [];
  };
}

abbrev field : ℕ → List ℕ → FieldDecl
field flags desc = record { flags = flags; name = codes "f"; desc = desc; constant = None }

abbrev method : List ℕ → MethodDecl
method name = record { flags = 1; name = name; desc = codes "()V"; code = None }

-- p/C declares a static int, a long of objects, a final reference of objects, and a static long
abbrev w : State
w = record {
  layers = record {
    configurations = [];
    layers = [];
    modules = [];
    loaders = record { loaders = []; base = None; constraints = []; spare = 0 };
    facts = record { modules = []; statements = []; spare_modules = 0; spare_statements = 0 };
  };
  classes = class (codes "java/lang/Object") 0x21 None [] [] []
      ∷ class (codes "java/lang/Throwable") 0x21 (Some (c 1)) [] [] []
      ∷ class (codes "java/lang/Cloneable") 0x601 (Some (c 1)) [] [] []
      ∷ class (codes "p/C") 0x21 (Some (c 2)) [] (field 0x8 (codes "I") ∷ field 0 (codes "J") ∷ field 0x10 (codes "Ljava/lang/Object;") ∷ field 0x8 (codes "J") ∷ []) (method (codes "<init>") ∷ method (codes "m") ∷ [])
      ∷ class (codes "p/D") 0x421 (Some (c 4)) [] (field 0 (codes "I") ∷ []) (method (codes "<init>") ∷ [])
      ∷ [];
  report = [];
  slots = [];
  kept = [];
}

-- ---- where fields are

-- the second static of p/C, the second field of its objects, and the field of p/D's, behind three of a throwable
second_static : static_place w (record { owner = c 4; at = 3; flags = 0x8 }) ≡ 1
second_static = refl

behind_a_throwable : object_place w (record { owner = c 4; at = 2; flags = 0x10 }) ≡ 4
unfolding line_by
behind_a_throwable = refl

in_a_subclass : object_place w (record { owner = c 5; at = 0; flags = 0 }) ≡ 5
unfolding line_by
in_a_subclass = refl

box_of_a_long : hidden (codes "java/lang/Long") ≡ kinds.Long ∷ []
box_of_a_long = refl

-- ---- who may use a field

abbrev final_field : Member
final_field = record { owner = c 4; at = 2; flags = 0x10 }

abbrev of_class : Member
of_class = record { owner = c 4; at = 0; flags = 0x8 }

abbrev runs : ℕ → ℕ → Caller
runs class place = record { class = c class; place = place }

written_where_made : fits_row field_ops.PutField w (runs 4 0) final_field ≡ Ok tt
written_where_made = refl

written_elsewhere : fits_row field_ops.PutField w (runs 4 1) final_field ≡ Err (final_error w final_field)
written_elsewhere = refl

written_by_a_subclass : fits_row field_ops.PutField w (runs 5 0) final_field ≡ Err (final_error w final_field)
written_by_a_subclass = refl

read_by_all : fits_row field_ops.GetField w (runs 5 0) final_field ≡ Ok tt
read_by_all = refl

static_by_a_row_on_objects : fits_row field_ops.GetField w (runs 4 0) of_class ≡ Err (field_error errors.IncompatibleClassChangeError w of_class)
static_by_a_row_on_objects = refl

of_objects_by_a_row_on_classes : fits_row field_ops.GetStatic w (runs 4 0) final_field ≡ Err (field_error errors.IncompatibleClassChangeError w final_field)
of_objects_by_a_row_on_classes = refl

-- ---- types

abbrev t : ℕ → ℕ → Element
t class dims = record { base = bases.Class (c class); dims = dims }

abbrev x : ℕ → ℕ → ObjectType
x class dims = record { base = bases.Class (c class); dims = dims }

abbrev ints : ℕ → ObjectType
ints dims = record { base = bases.Prim 73; dims = dims }

to_a_superclass : takes fits.Cast w (t 2 0) (x 5 0) ≡ true
unfolding line_by above_by each_once
to_a_superclass = refl

to_a_subclass : takes fits.Cast w (t 5 0) (x 4 0) ≡ false
unfolding line_by above_by each_once
to_a_subclass = refl

arrays_of_superclasses : takes fits.Cast w (t 2 1) (x 5 1) ≡ true
unfolding line_by above_by each_once
arrays_of_superclasses = refl

array_is_an_object : takes fits.Cast w (t 1 0) (ints 1) ≡ true
array_is_an_object = refl

array_is_cloneable : takes fits.Cast w (t 3 0) (ints 2) ≡ true
array_is_cloneable = refl

array_is_no_throwable : takes fits.Cast w (t 2 0) (ints 1) ≡ false
array_is_no_throwable = refl

ints_are_no_objects : takes fits.Cast w (t 1 1) (ints 1) ≡ false
ints_are_no_objects = refl

arrays_are_objects : takes fits.Cast w (t 1 1) (ints 2) ≡ true
arrays_are_objects = refl

type_of_an_array : type_of (shapes.Array (t 5 1) 3) ≡ x 5 2
type_of_an_array = refl

name_of_a_class : type_text w (x 5 0) ≡ codes "p.D"
name_of_a_class = refl

name_of_an_array : type_text w (x 5 2) ≡ codes "[[Lp.D;"
name_of_an_array = refl

-- ---- objects and constants

new_object : new_shape w (c 2) ≡ shapes.Object (c 2) (kinds.Ref ∷ kinds.Ref ∷ kinds.Ref ∷ [])
unfolding line_by
new_object = refl

number : constant_of (Some (entries.Integer 4294967295)) ≡ constants.Number (negsuc 0)
number = refl

text : constant_of (Some (entries.String 7)) ≡ constants.Text 7
text = refl

no_constant : constant_of (Some (entries.Long 1)) ≡ constants.Other
no_constant = refl

-- ---- which row

ldc : row_by 18 (args.Index 3) ≡ Some (rows.Constant 3)
ldc = refl

putstatic : row_by 179 (args.Index 3) ≡ Some (rows.Field field_ops.PutStatic 3)
putstatic = refl

aastore : row_by 83 args.Nothing ≡ Some rows.StoreReference
aastore = refl

iadd : row_by 96 args.Nothing ≡ None
iadd = refl
