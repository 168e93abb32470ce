-- How the entries of a folder are gathered from a list of files (as `java.nio.file.Files.list`).
use Rattle.std.specs.Prelude.{ℕ, ◌+◌, List, [], ◌∷◌, ◌++◌, length, drop, Option, None, Some, Bool, nat_eq, if◌then◌else◌}
use Rattle.std.specs.List.{starts_with}
use Rattle.std.specs.Cmp.Lexicographic.{pointwise}
use Rattle.indexmap.specs.IndexMap.{insert_entry}
use Rattle.jl_tree.specs.declared.entry.Entry.{Entry}
use Rattle.jl_tree.specs.Files.{File, first_part}

-- what of a path lies below a folder
abbrev pub below : List ℕ → List ℕ → Option (List ℕ)
below dir path = if starts_with nat_eq path (dir ++ 47 ∷ []) then Some (drop (length dir + 1) path) else None

-- a name in a folder, and whether it is a folder itself
abbrev pub entry_of : List ℕ × Bool → Entry
entry_of p = record { name = p.0; is_dir = p.1 }

-- the names in a folder, with what the rest of a path below it begins with
abbrev pub with_rest : List (List ℕ × Bool) → Option (List ℕ) → List (List ℕ × Bool)
with_rest names None = names
with_rest names (Some rest) = insert_entry (pointwise nat_eq) names (first_part rest).name (first_part rest).is_dir

-- the names in a folder, with those of more files
abbrev pub names_from : List ℕ → List (List ℕ × Bool) → List File → List (List ℕ × Bool)
names_from dir names [] = names
names_from dir names (f ∷ fs) = names_from dir (with_rest names (below dir f.path)) fs
