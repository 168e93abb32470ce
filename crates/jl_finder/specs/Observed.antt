-- The modules that path elements give, or the first fault. All elements are scanned in order (`java.lang.module.ModuleFinder.of`).
use Rattle.std.specs.Prelude.{ℕ, ◌+◌, nat_lt, List, [], ◌∷◌, ◌++◌, length, filter, Option, None, Some, Result, Ok, Err, not, if◌then◌else◌}
use Rattle.std.specs.List.{list_any}
use Rattle.jl_logic.specs.Order.{is_text}
use Rattle.jl_reading.specs.Reading.{◌>>=◌}
use Rattle.jl_prim.specs.Limits.{most_modules, most_folders, most_file_bytes}
use Rattle.jl_prim.specs.declared.declaration.Declaration.{Declaration}
use Rattle.jl_prim.specs.declared.declaration.Observed.{Observed}
use Rattle.jl_tree.specs.declared.entry.Entry.{Entry}
use Rattle.jl_tree.specs.Files.{File, file_at}
use Rattle.jl_tables.specs.declared.fault.InfoFault.{InfoFault}
use Rattle.jl_modinfo.specs.Reading.{info_of}
use Rattle.jl_finder.specs.declared.fault.FindFault.{FindFault}
use Rattle.jl_finder.specs.declared.fault.FindFault.TheVariants as finds
use Rattle.jl_finder.specs.Paths.{path_in, is_archive}
use Rattle.jl_finder.specs.Folders.{entries_of, is_there, declaration_in, is_module, folders_below, packages_below, top_classes}

-- what an error tells: the fault. A failed tree and want of memory tell nothing.
abbrev pub told : FindFault → Option FindFault
told (finds.Info path f) = Some (finds.Info path f)
told (finds.Archive path) = Some (finds.Archive path)
told (finds.TwoInDirectory dir name) = Some (finds.TwoInDirectory dir name)
told (finds.TopLevelClass path) = Some (finds.TopLevelClass path)
told (finds.TooLarge path n) = Some (finds.TooLarge path n)
told finds.TooMany = Some finds.TooMany
told finds.ReadFault = None
told finds.NoMemory = None

-- ---- one module

abbrev pub observed_or : List ℕ → Result Declaration InfoFault → Result Observed FindFault
observed_or place (Ok d) = Ok (record { declaration = d; place = place })
observed_or place (Err f) = Err (finds.Info (declaration_in place) f)

abbrev pub content_of : Option (List ℕ) → List ℕ
content_of None = []
content_of (Some bytes) = bytes

-- what a declaration file with these bytes declares, where these are the packages to take
abbrev pub declared_by : List ℕ → List (List ℕ) → List ℕ → Result Observed FindFault
declared_by place packages bytes =
    if nat_lt most_file_bytes (length bytes) then Err (finds.TooLarge (declaration_in place) (length bytes))
    else observed_or place (info_of bytes packages)

-- a class file beside the declaration refuses the module
abbrev pub beside_or : List ℕ → List (List ℕ) → Result Observed FindFault → Result Observed FindFault
beside_or place [] declared = declared
beside_or place (c ∷ cs) declared = Err (finds.TopLevelClass (path_in place c))

-- the module in a folder that holds a declaration file
abbrev pub module_at : List File → List ℕ → Result Observed FindFault
module_at files place =
    beside_or place (top_classes files place) (declared_by place (packages_below files place) (content_of (file_at files (declaration_in place))))

-- ---- limits

-- how many modules were scanned, and how many folders listed
pub record Tally : Type 0 where
  pub modules : ℕ
  pub folders : ℕ

-- so many folders more are listed
abbrev pub with_folders : ℕ → Tally → Result Tally FindFault
with_folders n t = if nat_lt most_folders (t.folders + n) then Err finds.TooMany else Ok (record t { folders = t.folders + n })

-- one module more is scanned
abbrev pub with_module : Tally → Result Tally FindFault
with_module t = if nat_lt most_modules (t.modules + 1) then Err finds.TooMany else Ok (record t { modules = t.modules + 1 })

-- ---- scanning

-- a module's folder, which is listed itself already: it is counted, its folders are walked, and it is read
unfoldable pub scan_module : List File → List ℕ → Tally → Result (Observed × Tally) FindFault
scan_module files place t = do
  counted ← with_module t
  walked ← with_folders (length (folders_below files place)) counted
  o ← module_at files place
  Ok (o, walked)

abbrev pub name_of : Observed → List ℕ
name_of o = o.declaration.name

-- a module behind others of one directory, which have other names
abbrev pub among : List ℕ → List Observed → Observed × Tally → Result (List Observed × Tally) FindFault
among dir done (o, t) =
    if list_any (λ (p : Observed). is_text (name_of p) (name_of o)) done then Err (finds.TwoInDirectory dir (name_of o))
    else Ok (done ++ o ∷ [], t)

-- a folder in a directory of modules
unfoldable pub scan_folder : List File → List ℕ → List ℕ → List Observed → Tally → Result (List Observed × Tally) FindFault
scan_folder files dir name done t = do
  listed ← with_folders 1 t
  if is_module files (path_in dir name) then scan_module files (path_in dir name) listed >>= among dir done else Ok (done, listed)

-- an entry of a directory of modules
abbrev pub scan_entry : List File → List ℕ → Entry → List Observed → Tally → Result (List Observed × Tally) FindFault
scan_entry files dir e done t =
    if is_archive e.name then Err (finds.Archive (path_in dir e.name))
    else if e.is_dir then scan_folder files dir e.name done t
    else Ok (done, t)

unfoldable pub scan_entries : List File → List ℕ → List Entry → List Observed → Tally → Result (List Observed × Tally) FindFault
scan_entries files dir [] done t = Ok (done, t)
scan_entries files dir (e ∷ es) done t = scan_entry files dir e done t >>= λ x. scan_entries files dir es x.0 x.1

-- a folder on the module path: one module, or a directory of modules
unfoldable pub scan_listed : List File → List ℕ → Tally → Result (List Observed × Tally) FindFault
scan_listed files element t =
    if is_module files element then (do
      x ← scan_module files element t
      Ok (x.0 ∷ [], x.1))
    else scan_entries files element (entries_of files element) [] t

-- an element of the module path; one that is not there is passed over
abbrev pub scan_element : List File → List ℕ → Tally → Result (List Observed × Tally) FindFault
scan_element files element t =
    if is_archive element then Err (finds.Archive element)
    else if is_there files element then with_folders 1 t >>= scan_listed files element
    else Ok ([], t)

-- all elements in order, behind what was found before
unfoldable pub scan_elements : List File → List (List ℕ) → List Observed → Tally → Result (List Observed × Tally) FindFault
scan_elements files [] done t = Ok (done, t)
scan_elements files (e ∷ es) done t = scan_element files e t >>= λ x. scan_elements files es (done ++ x.0) x.1

-- ---- what is found

-- the first module of each name
unfoldable pub first_of_each : List Observed → List Observed
first_of_each [] = []
first_of_each (o ∷ os) = o ∷ filter (λ (p : Observed). not (is_text (name_of p) (name_of o))) (first_of_each os)

abbrev pub found_or : Result (List Observed × Tally) FindFault → Result (List Observed) FindFault
found_or (Ok x) = Ok (first_of_each x.0)
found_or (Err f) = Err f

-- The modules that elements give, or the first fault.
abbrev pub observed : List File → List (List ℕ) → Result (List Observed) FindFault
observed files elements = found_or (scan_elements files elements [] (record { modules = 0; folders = 0 }))
