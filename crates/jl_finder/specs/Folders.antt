-- What is in folders, by the flat list of files (`java.lang.module.ModuleFinder.of`).
use Rattle.std.specs.Prelude.{ℕ, List, [], ◌∷◌, map, filter, Bool, not, ◌&&◌, is_some, codes}
use Rattle.std.specs.List.{filter_map, flat_map, list_all, list_any}
use Rattle.jl_logic.specs.Order.{is_text, name_cmp}
use Rattle.jl_names.specs.Names.{parts, package_of}
use Rattle.jl_tree.specs.declared.entry.Entry.{Entry}
use Rattle.jl_tree.specs.Files.{File, file_at, entry_in}
use Rattle.jl_finder.specs.Paths.{path_in, rests, is_nested, fronts, is_class_file, is_walked, by_order, in_order}

-- an entry among entries whose names rise, once
unfoldable pub put_entry : Entry → List Entry → List Entry
put_entry e [] = e ∷ []
put_entry e (x ∷ xs) = by_order (name_cmp e.name x.name) (e ∷ x ∷ xs) (x ∷ xs) (x ∷ put_entry e xs)

unfoldable pub entries_in_order : List Entry → List Entry
entries_in_order [] = []
entries_in_order (e ∷ es) = put_entry e (entries_in_order es)

-- the entries of a folder in the order of their names
abbrev pub entries_of : List File → List ℕ → List Entry
entries_of files dir = entries_in_order (filter_map (λ (f : File). entry_in dir f.path) files)

-- A folder is there where some file lies below it.
abbrev pub is_there : List File → List ℕ → Bool
is_there files dir = list_any (λ (f : File). is_some (entry_in dir f.path)) files

abbrev pub declaration_name : List ℕ
declaration_name = codes "module-info.class"

-- the declaration file of a module's folder
abbrev pub declaration_in : List ℕ → List ℕ
declaration_in place = path_in place declaration_name

-- the folder holds a declaration file
abbrev pub is_module : List File → List ℕ → Bool
is_module files place = is_some (file_at files (declaration_in place))

-- every folder on the way may be a package or lead to one
abbrev pub is_reached : List ℕ → Bool
is_reached folder = list_all is_walked (parts folder)

-- the folders below a module's folder, at any depth, that may be packages or lead to them
abbrev pub folders_below : List File → List ℕ → List (List ℕ)
folders_below files place = in_order (filter is_reached (flat_map fronts (rests files place)))

-- The packages of a module: those of these folders that hold a class file.
abbrev pub packages_below : List File → List ℕ → List (List ℕ)
packages_below files place = in_order (filter is_reached (map package_of (filter (λ r. is_nested r && is_class_file r) (rests files place))))

-- the class files beside a declaration file
abbrev pub top_classes : List File → List ℕ → List (List ℕ)
top_classes files place = in_order (filter (λ r. not (is_nested r) && (is_class_file r && not (is_text r declaration_name))) (rests files place))
