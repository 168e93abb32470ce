-- A load, as the code takes its steps. No public clause cites these.
use Rattle.std.specs.Prelude.{◌≡◌, ◌⊎◌, ℕ, zero, suc, List, [], ◌∷◌, ◌++◌, Option, None, Ok, Err, true, is_some, ⊤, if◌then◌else◌}
use Rattle.std.specs.Map.{lookup}
use Rattle.jl_logic.specs.Order.{is_text}
use Rattle.jl_prim.specs.Limits.{most_file_bytes}
use Rattle.jl_prim.specs.declared.numbers.ClassId.{ClassId}
use Rattle.jl_prim.specs.declared.numbers.LoaderId.{LoaderId}
use Rattle.jl_prim.specs.declared.numbers.ModuleId.{ModuleId}
use Rattle.jl_prim.specs.declared.error_kind.ErrorKind.TheVariants as errors
use Rattle.jl_tree.specs.Files.{File, read_of, asked_for}
use Rattle.jl_class.specs.Tables.{AreTables}
use Rattle.jl_loaders.specs.Loaders.{IsLoader}
use Rattle.jl_layer.specs.Layers.{IsModule}
use Rattle.jl_loads.specs.declared.class_key.ClassKey.{ClassKey}
use Rattle.jl_loads.specs.declared.end.FileEnd.{FileEnd}
use Rattle.jl_loads.specs.declared.end.FileEnd.TheVariants as files
use Rattle.jl_loads.specs.declared.end.LinkEnd.{LinkEnd}
use Rattle.jl_loads.specs.declared.end.LinkEnd.TheVariants as ends
use Rattle.jl_loads.specs.Worlds.{State, Loaded, Content, Declares, defined, loader_of_module}
use Rattle.jl_loads.specs.Outcomes.{Outcome, and_then, silent}
use Rattle.jl_loads.specs.Loading.{content_of, declared_by, derived, declared_in, found_or, is_waiting, load_by, unlinked}

-- loads for a class that waits behind these, by its own loader
abbrev pub loads_above : ℕ → List File → ℕ → List ClassKey → ClassKey → State → List ℕ → Outcome ClassId
loads_above n files at waiting key s name = load_by n files at waiting s key.loader name

-- ---- what is kept of paths

-- what is kept of a path among these
abbrev pub kept_in : List ℕ → List (List ℕ × Content) → Option Content
kept_in path entries = lookup (is_text path) entries

-- with what a path gives behind these, if nothing is kept of it
abbrev pub with_entry : List File → List ℕ → List (List ℕ × Content) → List (List ℕ × Content)
with_entry files path entries = if is_some (kept_in path entries) then entries else entries ++ (path, content_of (read_of files path most_file_bytes)) ∷ []

-- a class that was read has short tables
abbrev pub HasTables : Content → Type 0
HasTables (Declares c) = AreTables c
HasTables _ = ⊤

-- A path is read of which nothing was kept: something is kept then, and no other path was asked for.
pub record IsRead (old new : List (List ℕ × Content)) (path : List ℕ) (before after : Option (List (List ℕ))) : Type 0 where
  pub fresh : kept_in path old ≡ None
  pub what : Content
  pub placed : new ≡ old ++ (path, what) ∷ []
  pub tables : HasTables what
  pub asked : (after ≡ before) ⊎ (after ≡ asked_for before path)

-- nothing is done, or the path is read
abbrev pub Reads : List (List ℕ × Content) → List (List ℕ × Content) → List ℕ → Option (List (List ℕ)) → Option (List (List ℕ)) → Type 0
Reads old new path before after = ((new ≡ old) × (after ≡ before)) ⊎ IsRead old new path before after

-- why it was not read, as the end of a load
abbrev pub end_of : FileEnd → LinkEnd
end_of files.ReadFault = ends.ReadFault
end_of files.NoMemory = ends.NoMemory

-- ---- a class by its file

-- a class by what its path gives
abbrev pub unlinked_by : ClassKey → ModuleId → Content → State → Outcome Loaded
unlinked_by key m what s = and_then (s, declared_by key.name what) (λ t c. (t, Ok (unlinked key.loader m c)))

-- a class of a module, before its supertypes are loaded
abbrev pub unlinked_in : List File → State → ClassKey → ModuleId → Outcome Loaded
unlinked_in files s key m = and_then (declared_in files s m key.name) (λ t c. (t, Ok (unlinked key.loader m c)))

-- such a class has its key, and its module and the loader of that are there
pub record IsUnlinked (s : State) (key : ClassKey) (new : Loaded) : Type 0 where
  pub home : IsModule s.layers new.home
  pub there : IsLoader s.layers.loaders new.loader
  pub owner : new.loader ≡ loader_of_module s new.home
  pub loader : key.loader ≡ new.loader
  pub name : key.name ≡ new.declared.name
  pub tables : AreTables new.declared

-- ---- loads

-- what waits and is not defined is not defined meanwhile
abbrev pub StayFree : List ClassKey → State → State → Type 0
StayFree ws old new = (l : LoaderId) (name : List ℕ) → is_waiting l name ws ≡ true → defined old l name ≡ None → defined new l name ≡ None

-- a class of a module is made by its file
abbrev pub made : ℕ → List File → ℕ → List ClassKey → State → ClassKey → ModuleId → Outcome ClassId
made n files at waiting s key m = derived (loads_above n files at (waiting ++ key ∷ []) key) at key.loader m (declared_in files s m key.name)

-- it is made, if one more class may wait
abbrev pub made_if : ℕ → List File → ℕ → List ClassKey → State → ClassKey → ModuleId → Outcome ClassId
made_if zero files at waiting s key m = (s, Err (silent errors.StackOverflowError))
made_if (suc n) files at waiting s key m = made n files at waiting s key m

-- the key of a class of a module
abbrev pub key_in : State → ModuleId → List ℕ → ClassKey
key_in s m name = record { loader = loader_of_module s m; name = name }

-- a class of a module is found, or made
abbrev pub load_in : ℕ → List File → ℕ → List ClassKey → State → List ℕ → ModuleId → Outcome ClassId
load_in n files at waiting s name m = found_or (defined s (loader_of_module s m) name) s waiting (loader_of_module s m) name (made_if n files at waiting s (key_in s m name) m)
