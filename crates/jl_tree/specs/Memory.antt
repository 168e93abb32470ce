-- Trees and sinks in memory, which no text of Java has: what they hold, and what each call of theirs answers and leaves.
use Rattle.std.specs.Prelude.{◌≡◌, ℕ, ◌-◌, List, [], ◌∷◌, ◌++◌, length, map, Option, Some, None, Result, Ok, Err, Bool, true, false, IsTrue, not, ◌&&◌, ◌||◌, ◌==◌, nat_eq, nat_lt, if◌then◌else◌, option_map}
use Rattle.std.specs.List.{starts_with, list_any, list_all}
use Rattle.std.specs.Global.{Vec}
use Rattle.jl_logic.specs.Order.{is_text}
use Rattle.jl_logic.specs.Counts.{raised}
use Rattle.jl_tree.specs.declared.entry.Entry.{Entry}
use Rattle.jl_tree.specs.declared.tree.TreeFault.{TreeFault}
use Rattle.jl_tree.specs.declared.tree.TreeFault.TheVariants.{Failed, TooLong, NoMemory}
use Rattle.jl_tree.specs.declared.sink.SinkFault.{SinkFault}
use Rattle.jl_tree.specs.declared.sink.SinkFault.TheVariants.{Failed as SinkFailed}
use Rattle.jl_tree.specs.Files.{File, read_of, Lists, faults_after}

-- a path with the bytes there, as a file
abbrev pub file_of : List ℕ × List ℕ → File
file_of f = record { path = f.0; bytes = f.1 }

abbrev pub files_of : List (List ℕ × List ℕ) → List File
files_of fs = map file_of fs

-- the one path is the other's folder, or a folder further up
abbrev pub is_folder_of : List ℕ → List ℕ → Bool
is_folder_of p q = starts_with nat_eq q (p ++ 47 ∷ [])

-- two paths that stand in one tree: not the same, and none is a folder of the other
abbrev pub are_apart : List ℕ → List ℕ → Bool
are_apart p q = not (is_text p q) && (not (is_folder_of p q) && not (is_folder_of q p))

-- no path is there twice, and none is a folder of another
abbrev pub is_tree : List (List ℕ) → Bool
is_tree [] = true
is_tree (p ∷ ps) = list_all (λ q. are_apart p q) ps && is_tree ps

abbrev pub IsTree : List File → Type 0
IsTree files = IsTrue (is_tree (map (λ f. f.path) files))

-- A tree in memory: its files, the paths that were asked for, the numbers of the calls that fail, how many
-- calls were made, and how many failed.
pub record MemTreeState : Type 0 where
  pub files : List File
  pub asked : List (List ℕ)
  pub fails : List ℕ
  pub calls : ℕ
  pub faults : ℕ

-- the next call is one of those that fail
abbrev pub is_failing : List ℕ → ℕ → Bool
is_failing fails calls = list_any (λ n. n == raised calls) fails

-- what an error of a tree in memory tells: all but want of memory
abbrev pub known : TreeFault → Option TreeFault
known Failed = Some Failed
known (TooLong n) = Some (TooLong n)
known NoMemory = None

-- what a read answers
abbrev pub mem_read : MemTreeState → List ℕ → ℕ → Result (Option (List ℕ)) TreeFault
mem_read s path most = if is_failing s.fails s.calls then Err Failed else read_of s.files path most

-- what a listing answers: it fails, or has the entries of the folder, unless there is no memory
abbrev pub MemLists : MemTreeState → List ℕ → Result (Option (Vec Entry)) TreeFault → Type 0
MemLists s dir result = when (is_failing s.fails s.calls) result where
  when : Bool → Result (Option (Vec Entry)) TreeFault → Type 0
  when true r = r ≡ Err Failed
  when false (Ok listed) = Lists s.files dir (option_map (λ v. v.items) listed)
  when false (Err e) = e ≡ NoMemory

-- A call was made: it stands in the count, and only the asked paths may have changed besides.
pub record AfterCall {X : Type 0} (old new : MemTreeState) (result : Result X TreeFault) : Type 0 where
  pub same_files : new.files ≡ old.files
  pub same_fails : new.fails ≡ old.fails
  pub one_call : new.calls ≡ raised old.calls
  pub faults : new.faults ≡ faults_after result old.faults

-- A sink in memory: the bytes that it took, how many it has room for in all, the numbers of the calls that
-- fail, how many calls were made, and how many failed.
pub record MemSinkState : Type 0 where
  pub bytes : List ℕ
  pub room : ℕ
  pub fails : List ℕ
  pub calls : ℕ
  pub faults : ℕ

-- the next call fails, by its number or since the piece does not fit
abbrev pub is_refused : MemSinkState → List ℕ → Bool
is_refused s piece = is_failing s.fails s.calls || nat_lt (s.room - length s.bytes) (length piece)

-- what a write answers
abbrev pub mem_write : MemSinkState → List ℕ → Result ℕ SinkFault
mem_write s piece = if is_refused s piece then Err SinkFailed else Ok (length piece)

-- what a write leaves
abbrev pub after_write : MemSinkState → List ℕ → MemSinkState
after_write s piece =
    if is_refused s piece
    then record s { calls = raised s.calls; faults = raised s.faults }
    else record s { calls = raised s.calls; bytes = s.bytes ++ piece }
