-- Worked rows: the definitions on small tables.
use Rattle.std.proofs.Common.{◌≡◌, List, [], ◌∷◌, None, Some, true, false, Ok, Err, refl}
use Rattle.std.specs.Prelude.{codes}
use Rattle.jl_reading.specs.Reading.{each_at}
use Rattle.jl_pool.specs.declared.entry.Entry.{Entry}
use Rattle.jl_pool.specs.declared.entry.Entry.TheVariants as entries
use Rattle.jl_names.specs.Text.{plain, has_no_lone_surrogate}
use Rattle.jl_tables.specs.declared.fault.InfoFault.TheVariants as faults
use Rattle.jl_tables.specs.Reading.{name_at, new_name_at, version_at, requires_at, implementations_at}
use Rattle.jl_tables.specs.Meaning.{opened_named, module_named, targets_of}

abbrev pool : List Entry
pool = entries.Unused ∷ entries.Utf8 (codes "a") ∷ entries.Module 1 ∷ entries.Class 1 ∷ entries.Utf8 (codes "a b") ∷ entries.Module 4 ∷ []

named : name_at module_named pool (0 ∷ 2 ∷ []) 0 ≡ Ok (codes "a", 2)
unfolding name_at plain has_no_lone_surrogate lib.Utf8.encode
named = refl

with_a_blank : name_at module_named pool (0 ∷ 5 ∷ []) 0 ≡ Err (faults.BadIndex 0)
unfolding name_at plain has_no_lone_surrogate lib.Utf8.encode
with_a_blank = refl

not_a_module : name_at module_named pool (7 ∷ 0 ∷ 3 ∷ []) 1 ≡ Err (faults.BadIndex 1)
unfolding name_at
not_a_module = refl

without_version : version_at pool (0 ∷ 0 ∷ []) 0 ≡ Ok (None, 2)
unfolding version_at
without_version = refl

with_version : version_at pool (0 ∷ 1 ∷ []) 0 ≡ Ok (Some (codes "a"), 2)
unfolding version_at plain lib.Utf8.encode
with_version = refl

table : each_at (requires_at pool (0 ∷ 2 ∷ 0 ∷ 0x40 ∷ 0 ∷ 0 ∷ [])) [] 1 0 ≡ Ok (record { name = codes "a"; transitive = false; is_static = true } ∷ [], 6)
unfolding each_at requires_at new_name_at name_at version_at plain has_no_lone_surrogate lib.Utf8.encode
table = refl

repeated : each_at (requires_at pool (0 ∷ 2 ∷ 0 ∷ 0 ∷ 0 ∷ 0 ∷ 0 ∷ 2 ∷ [])) [] 2 0 ≡ Err (faults.Repeated (codes "requires") (codes "a"))
unfolding each_at requires_at new_name_at name_at version_at plain has_no_lone_surrogate lib.Utf8.encode
repeated = refl

opened_by_an_open_module : name_at (opened_named true) pool (0 ∷ 2 ∷ []) 0 ≡ Err (faults.BadIndex 0)
unfolding name_at
opened_by_an_open_module = refl

no_implementation : implementations_at pool (0 ∷ 0 ∷ []) 0 ≡ Err (faults.BadIndex 0)
unfolding implementations_at
no_implementation = refl

to_all : targets_of [] ≡ None
to_all = refl
