-- The parts of a search for modules (`java.lang.module.ModuleFinder.of`): what a listing is, what is seen in it, and what each step gives.
use Rattle.std.specs.Prelude.{◌≡◌, ℕ, ◌+◌, List, [], ◌∷◌, ◌++◌, length, map, filter, Option, None, Some, Result, Ok, Err, Bool, true, false, not, ◌&&◌, nat_lt, IsPermutation, IsSorted, nat_eq, Contains, if◌then◌else◌}
use Rattle.std.specs.List.{list_any}
use Rattle.std.specs.Ordering.{is_lt}
use Rattle.std.specs.List.Sorted.{IsSortedBy}
use Rattle.std.specs.Cmp.Lexicographic.{pointwise}
use Rattle.indexmap.specs.IndexSet.{insert_all}
use Rattle.jl_logic.specs.Order.{is_text, name_cmp, RisesBy}
use Rattle.jl_reading.specs.Reading.{◌>>=◌}
use Rattle.jl_prim.specs.declared.declaration.Observed.{Observed}
use Rattle.jl_tree.specs.declared.entry.Entry.{Entry}
use Rattle.jl_tree.specs.Files.{File, entry_in}
use Rattle.jl_finder.specs.declared.fault.FindFault.{FindFault}
use Rattle.jl_finder.specs.declared.fault.FindFault.TheVariants as finds
use Rattle.jl_finder.specs.declared.counts.Counts.{Counts}
use Rattle.jl_finder.specs.declared.walk.Walked.{Walked}
use Rattle.jl_finder.specs.Paths.{path_in, is_archive, is_class_file, is_walked}
use Rattle.jl_finder.specs.Folders.{is_there, declaration_name, is_module, folders_below, packages_below}
use Rattle.jl_finder.specs.Observed.{told, Tally, with_folders, scan_module, among, scan_listed, scan_elements}
use Rattle.jl_prim.specs.Limits.{most_file_bytes, most_folders}

abbrev pub tally_of : Counts → Tally
tally_of c = record { modules = c.modules; folders = c.folders }

abbrev pub TellsNothing : FindFault → Type 0
TellsNothing e = told e ≡ None

-- ---- listings

-- the one is the other in the order of the names
pub record AreSorted (entries sorted : List Entry) : Type 0 where
  pub same : IsPermutation entries sorted
  pub order : IsSortedBy (λ (a b : Entry). is_lt (name_cmp a.name b.name)) sorted

-- the entries of a folder in the order of their names: each name once, all of them, and no others
pub record AreEntries (files : List File) (dir : List ℕ) (entries : List Entry) : Type 0 where
  pub rise : RisesBy (λ (a b : Entry). name_cmp a.name b.name) entries
  pub all : (f : File) (e : Entry) → Contains files f → entry_in dir f.path ≡ Some e → Contains entries e
  pub only : (e : Entry) → Contains entries e → (f : File) × Contains files f × (entry_in dir f.path ≡ Some e)

abbrev pub IsListed : List File → List ℕ → Option (List Entry) → Type 0
IsListed files dir None = (is_there files dir ≡ false) × AreEntries files dir []
IsListed files dir (Some entries) = (is_there files dir ≡ true) × AreEntries files dir entries

-- ---- what is seen in a listing

-- a class file
abbrev pub is_class_entry : Entry → Bool
is_class_entry e = not e.is_dir && is_class_file e.name

-- a declaration file
abbrev pub is_declaration : Entry → Bool
is_declaration e = not e.is_dir && is_text e.name declaration_name

-- a class file that is no declaration
abbrev pub is_top_class : Entry → Bool
is_top_class e = not e.is_dir && (is_class_file e.name && not (is_text e.name declaration_name))

-- a folder that may be a package or lead to one
abbrev pub is_walked_entry : Entry → Bool
is_walked_entry e = e.is_dir && is_walked e.name

abbrev pub holds_class : List Entry → Bool
holds_class entries = list_any is_class_entry entries

abbrev pub declares : List Entry → Bool
declares entries = list_any is_declaration entries

abbrev pub tops : List Entry → List (List ℕ)
tops entries = map (λ (e : Entry). e.name) (filter is_top_class entries)

-- the names of the folders to walk, behind the name of the folder that holds them
abbrev pub walked_in : List ℕ → List Entry → List (List ℕ)
walked_in front entries = map (λ (e : Entry). front ++ e.name) (filter is_walked_entry entries)

-- names in order
pub record AreSortedNames (names sorted : List (List ℕ)) : Type 0 where
  pub same : IsPermutation names sorted
  pub order : IsSorted name_cmp sorted

-- One folder more is listed: what folders are known, and which are packages.
pub record Steps (files : List File) (place folder : List ℕ) (keys packages keys_after packages_after : List (List ℕ)) : Type 0 where
  pub entries : List Entry
  pub listed : AreEntries files (path_in place folder) entries
  pub known : keys_after ≡ insert_all (pointwise nat_eq) keys (walked_in (folder ++ 47 ∷ []) entries)
  pub taken : packages_after ≡ (if holds_class entries then packages ++ folder ∷ [] else packages)

-- ---- steps

-- the bytes of a file that may be a declaration file, or that it is too large
abbrev pub whole_content : List ℕ → Option (List ℕ) → Result (Option (List ℕ)) FindFault
whole_content place None = Ok None
whole_content place (Some bytes) = if nat_lt most_file_bytes (length bytes) then Err (finds.TooLarge place (length bytes)) else Ok (Some bytes)

-- the packages below a module's folder, and how many folders are listed then
abbrev pub walked_from : List File → List ℕ → ℕ → Result (List (List ℕ) × ℕ) FindFault
walked_from files place n = if nat_lt most_folders (n + length (folders_below files place)) then Err finds.TooMany else Ok (packages_below files place, n + length (folders_below files place))

abbrev pub walked_of : Walked → List (List ℕ) × ℕ
walked_of w = (w.packages.items, w.folders)

abbrev pub some_module : Observed × Tally → Option Observed × Tally
some_module x = (Some x.0, x.1)

-- the module that a folder holds, if it holds one
abbrev pub folder_found : List File → List ℕ → Tally → Result (Option Observed × Tally) FindFault
folder_found files place t =
    with_folders 1 t >>= λ listed. if is_module files place then scan_module files place listed >>= (λ x. Ok (some_module x)) else Ok (None, listed)

-- the module that an entry of a directory holds, if it holds one
abbrev pub entry_found : List File → List ℕ → Entry → Tally → Result (Option Observed × Tally) FindFault
entry_found files dir e t =
    if is_archive e.name then Err (finds.Archive (path_in dir e.name))
    else if e.is_dir then folder_found files (path_in dir e.name) t
    else Ok (None, t)

-- what was found goes behind what was found before
abbrev pub with_found : List ℕ → List Observed → Option Observed × Tally → Result (List Observed × Tally) FindFault
with_found dir done (None, t) = Ok (done, t)
with_found dir done (Some o, t) = among dir done (o, t)

-- a folder on the module path, which is counted first
abbrev pub listed_found : List File → List ℕ → Tally → Result (List Observed × Tally) FindFault
listed_found files element t = with_folders 1 t >>= scan_listed files element

abbrev pub modules_or : Result (List Observed × Tally) FindFault → Result (List Observed) FindFault
modules_or (Ok x) = Ok x.0
modules_or (Err f) = Err f

-- all modules of all elements
abbrev pub elements_found : List File → List (List ℕ) → Result (List Observed) FindFault
elements_found files elements = modules_or (scan_elements files elements [] (record { modules = 0; folders = 0 }))
