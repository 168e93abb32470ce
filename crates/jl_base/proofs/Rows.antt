-- Worked rows: a class of two members, and lists of classes that stand in order or not.
use Rattle.std.proofs.Common.{◌≡◌, [], ◌∷◌, true, false, None, Some, refl}
use Rattle.std.specs.Prelude.{codes}
use Rattle.jl_names.specs.Names.{package_of}
use Rattle.jl_base.specs.declared.row.MemberKind.TheVariants as kinds
use Rattle.jl_base.specs.Base.{base_declaration}
use Rattle.jl_base.specs.Rows.{Row, Member}
use Rattle.jl_base.specs.Images.{class_of}
use Rattle.jl_base.specs.Ready.{is_as_said}
use Rattle.jl_base.specs.Laws.{stand_in_order, is_in, are_apart, boxed_rows}

field : Member
field = record { flags = 0x19; name = codes "out"; desc = codes "I"; kind = kinds.Field }

method : Member
method = record { flags = 0x101; name = codes "f"; desc = codes "()V"; kind = kinds.Boxed 7 }

row : Row
row = record { flags = 0x21; name = codes "java/lang/A"; super_name = codes "java/lang/O"; interfaces = codes "java/lang/I" ∷ []; members = field ∷ method ∷ [] }

-- a field and a method each go to their own list
row_fields : (class_of row).fields ≡ (record { flags = 0x19; name = codes "out"; desc = codes "I"; constant = None }) ∷ []
unfolding class_of row field method
row_fields = refl

row_methods : (class_of row).methods ≡ (record { flags = 0x101; name = codes "f"; desc = codes "()V"; code = None }) ∷ []
unfolding class_of row field method
row_methods = refl

row_super : (class_of row).super_name ≡ Some (codes "java/lang/O")
unfolding class_of row
row_super = refl

row_boxed : boxed_rows (row ∷ row ∷ []) ≡ 7 ∷ 7 ∷ []
unfolding row field method
row_boxed = refl

-- a class that stands behind nothing is out of order, and so is one before its interface
alone : stand_in_order [] (class_of row ∷ []) ≡ false
unfolding class_of row
alone = refl

without_interface : stand_in_order (codes "java/lang/O" ∷ []) (class_of row ∷ []) ≡ false
unfolding class_of row
without_interface = refl

in_order : stand_in_order (codes "java/lang/I" ∷ codes "java/lang/O" ∷ []) (class_of row ∷ []) ≡ true
unfolding class_of row
in_order = refl

in_package : is_in base_declaration.packages (class_of row) ≡ true
unfolding class_of row package_of
in_package = refl

-- a member twice
twice : are_apart ((record { name = codes "f"; desc = codes "()V" }) ∷ (record { name = codes "f"; desc = codes "()V" }) ∷ []) ≡ false
twice = refl

overloaded : are_apart ((record { name = codes "f"; desc = codes "()V" }) ∷ (record { name = codes "f"; desc = codes "(I)V" }) ∷ []) ≡ true
overloaded = refl

-- what a kind says of the flags
abstract_native : is_as_said kinds.Abstract 0x501 ≡ false
abstract_native = refl

core_without_flag : is_as_said kinds.Core 0x1 ≡ false
core_without_flag = refl
