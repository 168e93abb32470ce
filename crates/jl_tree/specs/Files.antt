-- A tree as the list of its files, and what is read and listed of it (as `java.nio.file.Files`).
use Rattle.std.specs.Prelude.{◌≡◌, ◌≢◌, ℕ, ◌+◌, List, [], ◌∷◌, ◌++◌, length, drop, map, Option, None, Some, Result, Ok, Err, nat_eq, nat_lt, ◌==◌, ◌⊎◌, ⊤, Contains, option_map, if◌then◌else◌}
use Rattle.std.specs.List.{starts_with, before_first, list_any}
use Rattle.std.specs.Global.{Vec}
use Rattle.jl_logic.specs.Order.{is_text}
use Rattle.jl_logic.specs.Counts.{raised}
use Rattle.jl_logic.specs.Lists.{AreDistinct}
use Rattle.jl_tree.specs.declared.entry.Entry.{Entry}
use Rattle.jl_tree.specs.declared.tree.TreeFault.{TreeFault}
use Rattle.jl_tree.specs.declared.tree.TreeFault.TheVariants.{Failed, TooLong, NoMemory}

-- a path and the bytes of the file there
pub record File : Type 0 where
  pub path : List ℕ
  pub bytes : List ℕ

-- the bytes of the file at a path
abbrev pub file_at : List File → List ℕ → Option (List ℕ)
file_at [] path = None
file_at (f ∷ fs) path = if is_text f.path path then Some f.bytes else file_at fs path

-- what a read of at most so many bytes answers
abbrev pub read_of : List File → List ℕ → ℕ → Result (Option (List ℕ)) TreeFault
read_of files path most = whole_or_long most (file_at files path) where
  whole_or_long : ℕ → Option (List ℕ) → Result (Option (List ℕ)) TreeFault
  whole_or_long most None = Ok None
  whole_or_long most (Some bytes) = if nat_lt most (length bytes) then Err (TooLong (length bytes)) else Ok (Some bytes)

-- what an error of a tree tells: that a file is too long
abbrev pub told : TreeFault → Option TreeFault
told Failed = None
told (TooLong n) = Some (TooLong n)
told NoMemory = None

abbrev pub IsNotLong : TreeFault → Type 0
IsNotLong Failed = ⊤
IsNotLong (TooLong n) = ⊥
IsNotLong NoMemory = ⊤

-- a failure is one fault more, and no other error is
abbrev pub faults_with : TreeFault → ℕ → ℕ
faults_with Failed n = raised n
faults_with (TooLong _) n = n
faults_with NoMemory n = n

-- how many faults there are after a call, where each failure counts and nothing else
abbrev pub faults_after : {X : Type 0} → Result X TreeFault → ℕ → ℕ
faults_after (Ok x) n = n
faults_after (Err e) n = faults_with e n

-- the first part of a path that begins below a folder, a folder itself where more parts follow
abbrev pub first_part : List ℕ → Entry
first_part rest = record { name = before_first (λ b. b == 47) rest; is_dir = list_any (λ b. b == 47) rest }

-- what a path below a folder is in it
abbrev pub entry_in : List ℕ → List ℕ → Option Entry
entry_in dir path = if starts_with nat_eq path (dir ++ 47 ∷ []) then Some (first_part (drop (length dir + 1) path)) else None

-- the entries of a folder, in any order: each name once, all of them, and no others
pub record IsListing (files : List File) (dir : List ℕ) (entries : List Entry) : Type 0 where
  pub once : AreDistinct (map (λ e. e.name) entries)
  pub all : (f : File) (e : Entry) → Contains files f → entry_in dir f.path ≡ Some e → Contains entries e
  pub only : (e : Entry) → Contains entries e → (f : File) × Contains files f × (entry_in dir f.path ≡ Some e)
  pub some : entries ≢ []

-- a listing, or none where nothing lies below the folder
abbrev pub Lists : List File → List ℕ → Option (List Entry) → Type 0
Lists files dir None = (f : File) → Contains files f → entry_in dir f.path ≡ None
Lists files dir (Some entries) = IsListing files dir entries

-- one more path was asked for
abbrev pub asked_for : Option (List (List ℕ)) → List ℕ → Option (List (List ℕ))
asked_for asked path = option_map (λ ps. ps ++ path ∷ []) asked

-- A read asks for its path. One that finds no memory may have asked or not.
abbrev pub AsksFor : Option (List (List ℕ)) → List ℕ → Result (Option (Vec ℕ)) TreeFault → Option (List (List ℕ)) → Type 0
AsksFor old path (Ok answer) new = new ≡ asked_for old path
AsksFor old path (Err Failed) new = new ≡ asked_for old path
AsksFor old path (Err (TooLong n)) new = new ≡ asked_for old path
AsksFor old path (Err NoMemory) new = (new ≡ old) ⊎ (new ≡ asked_for old path)
