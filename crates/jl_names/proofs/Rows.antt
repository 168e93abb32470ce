-- The definitions on worked rows.
use Rattle.std.proofs.Common.{◌≡◌, [], ◌∷◌, true, false, None, Some, Ok, Err, codes, refl, lit<, lit≤, arith}
use Rattle.jl_names.specs.declared.fault.TextFault.TheVariants.{BadText}
use Rattle.jl_names.specs.declared.types.BaseType.TheVariants.{Prim, Class}
use Rattle.jl_names.specs.declared.types.FieldType.{FieldType}
use Rattle.jl_names.specs.declared.types.Descriptor.TheVariants.{Field, Method}
use Rattle.jl_names.specs.Names.{parts, names_a_class, names_a_field, names_a_method, package_of}
use Rattle.jl_names.specs.Descriptors.{IsDescriptor, class_in, slots, type_bytes, brackets, name_end, base_at, type_at, param_at, params_at, result_at, method_at, field_at, descriptor_read}

-- ---- names

parts_of_two : parts (codes "a/b") ≡ codes "a" ∷ codes "b" ∷ []
unfolding parts
parts_of_two = refl

class_of_two : names_a_class (codes "a/b") ≡ true
unfolding parts
class_of_two = refl

no_class : names_a_class [] ≡ false
unfolding parts
no_class = refl

class_with_an_empty_part : names_a_class (codes "a//b") ≡ false
unfolding parts
class_with_an_empty_part = refl

field_in_a_package : names_a_field (codes "a/b") ≡ false
field_in_a_package = refl

method_init : names_a_method (codes "<init>") ≡ true
method_init = refl

method_with_an_angle : names_a_method (codes "a<b") ≡ false
method_with_an_angle = refl

package_of_three : package_of (codes "p/q/A") ≡ codes "p/q"
unfolding package_of
package_of_three = refl

no_package : package_of (codes "A") ≡ []
unfolding package_of
no_package = refl

-- ---- descriptors

abbrev int : FieldType
int = record { dims = 0; base = Prim 73 }

abbrev long : FieldType
long = record { dims = 0; base = Prim 74 }

abbrev longs : FieldType
longs = record { dims = 1; base = Prim 74 }

three_slots : slots (int ∷ long ∷ []) ≡ 3
three_slots = refl

array_slots : slots (longs ∷ []) ≡ 1
array_slots = refl

bytes_of_a_class : type_bytes (codes "[La/b;") (record { dims = 1; base = Class 2 5 }) ≡ codes "[La/b;"
bytes_of_a_class = refl

method_of_an_int : descriptor_read (codes "(I)V") ≡ Ok (Method (int ∷ []) None)
unfolding descriptor_read method_at params_at param_at type_at base_at brackets result_at
method_of_an_int = refl

method_cut : descriptor_read (codes "(I") ≡ Err (BadText 2)
unfolding descriptor_read method_at params_at param_at type_at base_at brackets
method_cut = refl

field_of_a_class : descriptor_read (codes "[La/b;") ≡ Ok (Field (record { dims = 1; base = Class 2 5 }))
unfolding descriptor_read field_at type_at base_at brackets name_end
field_of_a_class = refl

empty_part : descriptor_read (codes "La//b;") ≡ Err (BadText 3)
unfolding descriptor_read field_at type_at base_at brackets name_end
empty_part = refl

-- ---- classes of types

class_of_an_array : class_in (codes "[Lp/A;") (record { dims = 1; base = Class 2 5 }) ≡ Some (codes "p/A")
class_of_an_array = refl

no_class_of_an_int : class_in (codes "I") (record { dims = 0; base = Prim 73 }) ≡ None
no_class_of_an_int = refl

no_class_of_another_text : class_in (codes "I") (record { dims = 0; base = Class 1 4 }) ≡ None
no_class_of_another_text = refl

-- ---- descriptors by their spelling

an_int_field : IsDescriptor (codes "I") (Field (record { dims = 0; base = Prim 73 }))
an_int_field = record { few = omega arith; base = refl; stands = record { there = refl; ends = refl; within = omega arith } }

no_void_field : IsDescriptor (codes "V") (Field (record { dims = 0; base = Prim 86 })) → ⊥
no_void_field d = let b : false ≡ true = d.base in cc

-- the spelling of (I)V
spelled_method : IsDescriptor (codes "(I)V") (Method (int ∷ []) None)
spelled_method = record {
  close = 2;
  opens = record { there = refl; ends = refl; within = lit≤ tt };
  types = (2, record { few = lit< tt; base = refl; stands = record { there = refl; ends = refl; within = lit≤ tt } }, refl);
  few = lit< tt;
  closes = record { there = refl; ends = refl; within = lit≤ tt };
  returns = record { there = refl; ends = refl; within = lit≤ tt };
}
