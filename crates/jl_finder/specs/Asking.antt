-- Where modules are on a module path, and what a search for them asks of a tree (`java.lang.module.ModuleFinder`).
use Rattle.std.specs.Prelude.{◌≡◌, ◌≢◌, ℕ, List, [], ◌∷◌, ◌++◌, length, map, Option, option_map, Result, Ok, Err, MatchOption, ⊤, if◌then◌else◌}
use Rattle.std.specs.List.{flat_map}
use Rattle.jl_logic.specs.Counts.{raised}
use Rattle.jl_prim.specs.declared.declaration.Observed.{Observed}
use Rattle.jl_tree.specs.declared.entry.Entry.{Entry}
use Rattle.jl_tree.specs.Files.{File}
use Rattle.jl_tables.specs.declared.fault.InfoFault.TheVariants as infos
use Rattle.jl_finder.specs.declared.fault.FindFault.{FindFault}
use Rattle.jl_finder.specs.declared.fault.FindFault.TheVariants as finds
use Rattle.jl_finder.specs.Paths.{path_in, is_archive}
use Rattle.jl_finder.specs.Folders.{entries_of, is_there, is_module, declaration_in, folders_below, top_classes}
use Rattle.jl_finder.specs.Observed.{told, Tally, with_folders, with_module, scan_entry, scan_element}

-- ---- where modules are

-- a folder, where it holds a declaration file
abbrev pub place_at : List File → List ℕ → List (List ℕ)
place_at files folder = if is_module files folder then folder ∷ [] else []

-- an entry of a folder, where it is a folder that holds a declaration file
abbrev pub place_in : List File → List ℕ → Entry → List (List ℕ)
place_in files dir e = if e.is_dir then place_at files (path_in dir e.name) else []

-- The places of the modules that an element gives: itself where it is a module, and else the modules directly in it.
abbrev pub places_of : List File → List ℕ → List (List ℕ)
places_of files element = if is_module files element then element ∷ [] else flat_map (place_in files element) (entries_of files element)

-- ---- what is asked for

-- the declaration files of these places were asked for too
abbrev pub asked_at : Option (List (List ℕ)) → List (List ℕ) → Option (List (List ℕ))
asked_at asked places = option_map (λ paths. paths ++ map declaration_in places) asked

-- The declaration files of a front of these places were asked for, each once and in their order.
pub record AsksUpTo (asked : Option (List (List ℕ))) (places : List (List ℕ)) (after : Option (List (List ℕ))) : Type 0 where
  pub front : List (List ℕ)
  pub rest : List (List ℕ)
  pub whole : places ≡ front ++ rest
  pub asks : after ≡ asked_at asked front

-- ---- what is read until the first fault

-- what is read behind a step, nothing where the step is a fault
abbrev pub reads_behind : {X : Type 0} → Result X FindFault → (X → List (List ℕ)) → List (List ℕ)
reads_behind (Ok x) reads = reads x
reads_behind (Err f) reads = []

-- A declaration is read where no class file stands beside it.
abbrev pub reads_beside : List ℕ → List (List ℕ) → List (List ℕ)
reads_beside place [] = place ∷ []
reads_beside place (c ∷ cs) = []

-- A module's declaration is read behind the limits and the class files beside it.
abbrev pub reads_of_module : List File → List ℕ → Tally → List (List ℕ)
reads_of_module files place t =
    reads_behind (with_module t) (λ counted. reads_behind (with_folders (length (folders_below files place)) counted) (λ walked. reads_beside place (top_classes files place)))

abbrev pub reads_of_folder : List File → List ℕ → Tally → List (List ℕ)
reads_of_folder files place t = reads_behind (with_folders 1 t) (λ listed. if is_module files place then reads_of_module files place listed else [])

abbrev pub reads_of_entry : List File → List ℕ → Entry → Tally → List (List ℕ)
reads_of_entry files dir e t =
    if is_archive e.name then []
    else if e.is_dir then reads_of_folder files (path_in dir e.name) t
    else []

-- entries of a directory of modules, behind modules that were found in it
unfoldable pub reads_of_entries : List File → List ℕ → List Entry → List Observed → Tally → List (List ℕ)
reads_of_entries files dir [] done t = []
reads_of_entries files dir (e ∷ es) done t = reads_of_entry files dir e t ++ reads_behind (scan_entry files dir e done t) (λ x. reads_of_entries files dir es x.0 x.1)

abbrev pub reads_of_listed : List File → List ℕ → Tally → List (List ℕ)
reads_of_listed files element t = if is_module files element then reads_of_module files element t else reads_of_entries files element (entries_of files element) [] t

abbrev pub reads_of_element : List File → List ℕ → Tally → List (List ℕ)
reads_of_element files element t =
    if is_archive element then []
    else if is_there files element then reads_behind (with_folders 1 t) (reads_of_listed files element)
    else []

unfoldable pub reads_of_elements : List File → List (List ℕ) → Tally → List (List ℕ)
reads_of_elements files [] t = []
reads_of_elements files (e ∷ es) t = reads_of_element files e t ++ reads_behind (scan_element files e t) (λ x. reads_of_elements files es x.1)

-- The places whose declaration files are read until the first fault: that of a fault in a declaration, or of two modules of one name, is the last of them. An archive, a class file beside a declaration and a limit are found before a declaration is read.
abbrev pub reads_of : List File → List (List ℕ) → List (List ℕ)
reads_of files elements = reads_of_elements files elements (record { modules = 0; folders = 0 })

-- What an ended search asked for: the declaration files of all these places, or of a front of them where the tree failed or there was no memory.
abbrev pub AsksTo : FindFault → Option (List (List ℕ)) → List (List ℕ) → Option (List (List ℕ)) → Type 0
AsksTo e asked places after = MatchOption (told e) (AsksUpTo asked places after) (λ f. after ≡ asked_at asked places)

-- What a search asked for: the declaration files of all these places, or what it asked for until it ended.
abbrev pub Asks : {X : Type 0} → Result X FindFault → Option (List (List ℕ)) → List (List ℕ) → Option (List (List ℕ)) → Type 0
Asks (Ok x) asked places after = after ≡ asked_at asked places
Asks (Err e) asked places after = AsksTo e asked places after

-- ---- faults

-- how many faults of a tree there are where this fault ended a search: one more where the tree failed, and no more else
abbrev pub faults_with : FindFault → ℕ → ℕ
faults_with (finds.Info path f) n = n
faults_with (finds.Archive path) n = n
faults_with (finds.TwoInDirectory dir name) n = n
faults_with (finds.TopLevelClass path) n = n
faults_with (finds.TooLarge path size) n = n
faults_with finds.TooMany n = n
faults_with finds.ReadFault n = raised n
faults_with finds.NoMemory n = n

-- a fault that is not of the tree
abbrev pub IsNotRead : FindFault → Type 0
IsNotRead e = (n : ℕ) → faults_with e n ≡ n

-- A fault inside another is one of the file, and no want of memory.
abbrev pub TellsInside : FindFault → Type 0
TellsInside (finds.Info path f) = f ≢ infos.NoMemory
TellsInside _ = ⊤
