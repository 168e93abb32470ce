-- Worked rows of the definitions.
use Rattle.std.proofs.Common.{◌≡◌, ℕ, List, [], ◌∷◌, Ok, Err, true, false, codes, refl, nat_lt, length}
use Rattle.jl_tree.specs.Files.{File}
use Rattle.jl_finder.specs.declared.fault.FindFault.TheVariants as finds
use Rattle.jl_finder.specs.Paths.{is_archive, is_walked, fronts, put_name, in_order}
use Rattle.jl_finder.specs.Folders.{entries_in_order, put_entry}
use Rattle.jl_finder.specs.Observed.{with_folders, with_module, observed, scan_elements, scan_entries, scan_listed, scan_module, first_of_each, scan_folder}
use Rattle.jl_prim.specs.Limits.{most_file_bytes}
use Rattle.jl_prim.specs.declared.declaration.Declaration.{Declaration}
use Rattle.jl_modinfo.specs.Reading.{info_of}
use Rattle.jl_logic.specs.Order.{is_text}
use Rattle.std.specs.List.{flat_map}
use Rattle.jl_tables.specs.declared.fault.InfoFault.{InfoFault}
use Rattle.jl_finder.specs.Asking.{places_of, reads_of, reads_of_elements, reads_of_entries}
use Rattle.jl_finder.proofs.Members.{is_name}

-- ---- limits

last-module : with_module (record { modules = 4095; folders = 0 }) ≡ Ok (record { modules = 4096; folders = 0 })
last-module = refl

module-too-many : with_module (record { modules = 4096; folders = 0 }) ≡ Err finds.TooMany
module-too-many = refl

last-folder : with_folders 1 (record { modules = 0; folders = 65535 }) ≡ Ok (record { modules = 0; folders = 65536 })
last-folder = refl

folder-too-many : with_folders 1 (record { modules = 0; folders = 65536 }) ≡ Err finds.TooMany
folder-too-many = refl

-- ---- names

archive : is_archive (codes "x.jar") ≡ true
archive = refl

no-archive : is_archive (codes "x.jar.d") ≡ false
no-archive = refl

folder-with-dot : is_walked (codes "b.c") ≡ false
folder-with-dot = refl

-- ---- small trees

abbrev empty-file : List ℕ → File
empty-file path = record { path = path; bytes = [] }

nothing-named : observed (empty-file (codes "m/a/module-info.class") ∷ []) [] ≡ Ok []
unfolding scan_elements first_of_each
nothing-named = refl

an-archive : observed [] (codes "x.jar" ∷ []) ≡ Err (finds.Archive (codes "x.jar"))
unfolding scan_elements
an-archive = refl

an-archive-inside : observed (empty-file (codes "m/x.jar") ∷ []) (codes "m" ∷ []) ≡ Err (finds.Archive (codes "m/x.jar"))
unfolding scan_elements scan_listed scan_entries entries_in_order put_entry
an-archive-inside = refl

class-beside : observed (empty-file (codes "m/X.class") ∷ empty-file (codes "m/module-info.class") ∷ []) (codes "m" ∷ []) ≡ Err (finds.TopLevelClass (codes "m/X.class"))
unfolding scan_elements scan_listed scan_module entries_in_order put_entry fronts put_name in_order
class-beside = refl

-- ---- modules that are found, where some bytes declare a module

module _ (bytes : List ℕ) (d : Declaration) (small : nat_lt most_file_bytes (length bytes) ≡ false) (declares : info_of bytes [] ≡ Ok d) where
  abbrev info : List ℕ → File
  info path = record { path = path; bytes = bytes }

  one-module : observed (info (codes "m/a/module-info.class") ∷ []) (codes "m" ∷ []) ≡ Ok (record { declaration = d; place = codes "m/a" } ∷ [])
  unfolding scan_elements scan_listed scan_entries scan_folder scan_module first_of_each entries_in_order put_entry fronts put_name in_order
  one-module = rw (small, declares) refl

  same-name : is_text d.name d.name ≡ true
  same-name = is_name d.name d.name refl

  one-hidden : observed (info (codes "m/a/module-info.class") ∷ info (codes "n/b/module-info.class") ∷ []) (codes "m" ∷ codes "n" ∷ []) ≡ Ok (record { declaration = d; place = codes "m/a" } ∷ [])
  unfolding scan_elements scan_listed scan_entries scan_folder scan_module first_of_each entries_in_order put_entry fronts put_name in_order
  one-hidden = rw (small, declares, small, declares, same-name) refl

  two-in-directory : observed (info (codes "m/p/module-info.class") ∷ info (codes "m/q/module-info.class") ∷ []) (codes "m" ∷ []) ≡ Err (finds.TwoInDirectory (codes "m") d.name)
  unfolding scan_elements scan_listed scan_entries scan_folder scan_module first_of_each entries_in_order put_entry fronts put_name in_order
  two-in-directory = rw (small, declares, same-name) refl

  element-itself : observed (info (codes "m/a/module-info.class") ∷ []) (codes "m/a" ∷ []) ≡ Ok (record { declaration = d; place = codes "m/a" } ∷ [])
  unfolding scan_elements scan_listed scan_entries scan_folder scan_module first_of_each entries_in_order put_entry fronts put_name in_order
  element-itself = rw (small, declares) refl

-- ---- what is asked for

places-in-order : flat_map (places_of (empty-file (codes "m/b/module-info.class") ∷ empty-file (codes "m/c/X.class") ∷ empty-file (codes "m/a/module-info.class") ∷ [])) (codes "m" ∷ codes "m/b" ∷ codes "n" ∷ [])
    ≡ codes "m/a" ∷ codes "m/b" ∷ codes "m/b" ∷ []
unfolding entries_in_order put_entry
places-in-order = refl

-- ---- what is read until the first fault

class-beside-unread : reads_of (empty-file (codes "m/X.class") ∷ empty-file (codes "m/module-info.class") ∷ []) (codes "m" ∷ []) ≡ []
unfolding reads_of_elements scan_listed scan_module entries_in_order put_entry fronts put_name in_order
class-beside-unread = refl

module _ (bytes : List ℕ) (d : Declaration) (small : nat_lt most_file_bytes (length bytes) ≡ false) (declares : info_of bytes [] ≡ Ok d) where
  abbrev file : List ℕ → File
  file path = record { path = path; bytes = bytes }

  unread-behind-archive : reads_of (file (codes "m/a/module-info.class") ∷ []) (codes "m" ∷ codes "x.jar" ∷ codes "m" ∷ []) ≡ codes "m/a" ∷ []
  unfolding reads_of_elements reads_of_entries scan_listed scan_entries scan_folder scan_module entries_in_order put_entry fronts put_name in_order
  unread-behind-archive = rw (small, declares) refl

  name-again : is_text d.name d.name ≡ true
  name-again = is_name d.name d.name refl

  second-of-a-name-is-last : reads_of (file (codes "m/p/module-info.class") ∷ file (codes "m/q/module-info.class") ∷ file (codes "m/r/module-info.class") ∷ []) (codes "m" ∷ []) ≡ codes "m/p" ∷ codes "m/q" ∷ []
  unfolding reads_of_elements reads_of_entries scan_listed scan_entries scan_folder scan_module entries_in_order put_entry fronts put_name in_order
  second-of-a-name-is-last = rw (small, declares, name-again) refl

module _ (bytes : List ℕ) (f : InfoFault) (small : nat_lt most_file_bytes (length bytes) ≡ false) (faulty : info_of bytes [] ≡ Err f) where
  abbrev faulty-file : List ℕ → File
  faulty-file path = record { path = path; bytes = bytes }

  faulty-is-last : reads_of (faulty-file (codes "m/a/module-info.class") ∷ faulty-file (codes "m/b/module-info.class") ∷ []) (codes "m" ∷ []) ≡ codes "m/a" ∷ []
  unfolding reads_of_elements reads_of_entries scan_listed scan_entries scan_folder scan_module entries_in_order put_entry fronts put_name in_order
  faulty-is-last = rw (small, faulty) refl
