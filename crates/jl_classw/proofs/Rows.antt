-- Worked rows: entries of a small pool, the file of the smallest class, and attributes that a class is given.
use Rattle.std.proofs.Common.{◌≡◌, ℕ, [], ◌∷◌, ◌++◌, true, false, None, Some, Ok, Err, refl}
use Rattle.std.specs.Prelude.{codes}
use Rattle.jl_names.specs.Names.{parts}
use Rattle.jl_names.specs.Text.{plain, has_no_lone_surrogate}
use Rattle.jl_pool.specs.declared.entry.Entry.TheVariants as entries
use Rattle.jl_class.specs.Classes.{Class}
use Rattle.jl_classw.specs.Writing.{first_of, file_bytes}
use Rattle.jl_classw.specs.declared.fault.WriteFault.TheVariants as faults
use Rattle.jl_classw.specs.Building.{Making, entered, declaring, may_be_given, with_attribute}
use Rattle.jl_optable.specs.declared.attributes.AttrForm.TheVariants as forms
use Rattle.jl_optable.specs.Attributes.{first_row}
use Rattle.jl_class.specs.Reading.{host_at, classes_at, listed_at, named_in}
use Rattle.jl_reading.specs.Reading.{each_at}

-- a Long takes two indices, and an entry that is there keeps its own
long_entered : entered (entries.Unused ∷ []) (entries.Long 1) ≡ Ok (entries.Unused ∷ entries.Long 1 ∷ entries.Unused ∷ [], 1)
unfolding entered
long_entered = refl

known_entered : entered (entries.Unused ∷ entries.Integer 7 ∷ entries.Class 9 ∷ []) (entries.Class 9) ≡ Ok (entries.Unused ∷ entries.Integer 7 ∷ entries.Class 9 ∷ [], 2)
unfolding entered
known_entered = refl

-- the class p/A, which extends java/lang/Object
abbrev smallest : Class
smallest = record {
  major = 53;
  minor = 0;
  flags = 0x21;
  name = codes "p/A";
  super_name = Some (codes "java/lang/Object");
  interfaces = [];
  fields = [];
  methods = [];
  nest_host = None;
  nest_members = [];
  permits = None;
  pool = entries.Unused ∷ entries.Utf8 (codes "p/A") ∷ entries.Class 1 ∷ entries.Utf8 (codes "java/lang/Object") ∷ entries.Class 3 ∷ [];
}

file : file_bytes smallest ≡
    0xca ∷ 0xfe ∷ 0xba ∷ 0xbe ∷ 0 ∷ 0 ∷ 0 ∷ 53 ∷ 0 ∷ 5 ∷ 1 ∷ 0 ∷ 3 ∷ codes "p/A"
    ++ (7 ∷ 0 ∷ 1 ∷ 1 ∷ 0 ∷ 16 ∷ codes "java/lang/Object") ++ (7 ∷ 0 ∷ 3 ∷ [])
    ++ (0 ∷ 0x21 ∷ 0 ∷ 2 ∷ 0 ∷ 4 ∷ 0 ∷ 0 ∷ 0 ∷ 0 ∷ 0 ∷ 0 ∷ 0 ∷ 0 ∷ [])
unfolding first_of parts plain has_no_lone_surrogate lib.Utf8.encode
file = refl

-- ---- attributes that the same class is given at version 61

abbrev sealed : Class
sealed = record smallest { major = 61; flags = 0x421 }

abbrev made : Class → ℕ → Making
made c n = record { class = c; attributes = n }

host_declared : declaring sealed forms.Host (0 ∷ 2 ∷ []) ≡ Ok (record sealed { nest_host = Some (codes "p/A") })
unfolding host_at named_in parts plain has_no_lone_surrogate lib.Utf8.encode
host_declared = refl

members_declared : declaring sealed forms.Members (0 ∷ 2 ∷ 0 ∷ 4 ∷ 0 ∷ 2 ∷ []) ≡ Ok (record sealed { nest_members = codes "java/lang/Object" ∷ codes "p/A" ∷ [] })
unfolding classes_at listed_at each_at named_in parts plain has_no_lone_surrogate lib.Utf8.encode
members_declared = refl

permits_declared : declaring sealed forms.Permits (0 ∷ 0 ∷ []) ≡ Ok (record sealed { permits = Some [] })
unfolding classes_at listed_at each_at
permits_declared = refl

-- nothing of a record is kept
record_declared : declaring sealed forms.Components (0 ∷ 0 ∷ []) ≡ Ok sealed
record_declared = refl

-- one that is not read at this version, or at any, is no part of the class, and counts
early_given : with_attribute (made smallest 3) (codes "NestHost") (9 ∷ []) ≡ Ok (made smallest 4)
unfolding with_attribute first_row
early_given = refl

other_given : with_attribute (made sealed 65534) (codes "SourceFile") [] ≡ Ok (made sealed 65535)
unfolding with_attribute first_row
other_given = refl

too_many_given : with_attribute (made sealed 65535) (codes "SourceFile") [] ≡ Err (faults.TooMany (codes "attributes"))
unfolding with_attribute
too_many_given = refl

-- the index of a text is no class, a nest is declared once, and a final class permits nobody
right_host : may_be_given sealed (codes "NestHost") (0 ∷ 2 ∷ []) ≡ true
unfolding first_row host_at named_in parts plain has_no_lone_surrogate lib.Utf8.encode
right_host = refl

wrong_host : may_be_given sealed (codes "NestHost") (0 ∷ 1 ∷ []) ≡ false
unfolding first_row host_at named_in parts plain has_no_lone_surrogate lib.Utf8.encode
wrong_host = refl

second_host : may_be_given (record sealed { nest_members = codes "p/A" ∷ [] }) (codes "NestHost") (0 ∷ 2 ∷ []) ≡ false
unfolding first_row
second_host = refl

final_permits : may_be_given (record sealed { flags = 0x31 }) (codes "PermittedSubclasses") (0 ∷ 0 ∷ []) ≡ false
unfolding first_row
final_permits = refl
