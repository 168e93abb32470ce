-- What holds of the modules that are found, without the order of the search (`java.lang.module.ModuleFinder`).
use Rattle.std.specs.Prelude.{◌≡◌, ℕ, List, map, Some, Ok, Contains}
use Rattle.std.specs.List.{flat_map}
use Rattle.jl_logic.specs.Lists.{AreDistinct}
use Rattle.jl_prim.specs.declared.declaration.Observed.{Observed}
use Rattle.jl_tree.specs.Files.{File, file_at}
use Rattle.jl_modinfo.specs.Reading.{info_of}
use Rattle.jl_finder.specs.Folders.{declaration_in, packages_below}
use Rattle.jl_finder.specs.Observed.{observed, name_of}
use Rattle.jl_finder.specs.Asking.{places_of}

-- The file at the module's place declares it. Its folders are its packages, where the file names none.
pub record IsDeclared (files : List File) (o : Observed) : Type 0 where
  pub bytes : List ℕ
  pub file : file_at files (declaration_in o.place) ≡ Some bytes
  pub declares : info_of bytes (packages_below files o.place) ≡ Ok o.declaration

-- What is found: names that differ, modules that stand at places of the elements and are what the files there declare, and the name of each module at a place.
pub record IsFound (files : List File) (elements : List (List ℕ)) (found : List Observed) : Type 0 where
  pub names : AreDistinct (map name_of found)
  pub placed : (o : Observed) → Contains found o → Contains (flat_map (places_of files) elements) o.place
  pub declared : (o : Observed) → Contains found o → IsDeclared files o
  pub all : (place : List ℕ) → Contains (flat_map (places_of files) elements) place → (o : Observed) × (o.place ≡ place) × IsDeclared files o × Contains (map name_of found) (name_of o)

-- What elements give is found so.
abbrev pub FindsByPlaces : Type 0
FindsByPlaces = (files : List File) (elements : List (List ℕ)) (found : List Observed) → observed files elements ≡ Ok found → IsFound files elements found
