-- What contracts see of native methods (JVMS 4.6, ACC_NATIVE) in boxes, and what a call of one changes.
use Rattle.std.specs.Prelude.{◌≡◌, ◌≤◌, ℕ, zero, suc, ◌==◌, List, [], ◌∷◌, ◌++◌, Bool, true, IsTrue, Option, None, Some, Result, Ok, Err, IfSome, option_map, slice_get, slice_set, if◌then◌else◌}
use Rattle.std.specs.List.{position_from}
use Rattle.jl_logic.specs.Answers.{Tells}
use Rattle.jl_logic.specs.Counts.{raised, Rose}
use Rattle.jl_natives.specs.declared.plain.Plain.{Plain}
use Rattle.jl_natives.specs.declared.native.NativeEnd.{NativeEnd}
use Rattle.jl_natives.specs.declared.native.NativeEnd.TheVariants.{Throws, Failed, NoMemory}
use Rattle.jl_natives.specs.Table.{row_of, gives, is_outside}

-- A native in a box: its row, the answers that it gave, where the outside decides it and it tells them, how often it failed, and
-- whether it failed no oftener than it answered so.
pub record View : Type 0 where
  pub row : ℕ
  pub answers : Option (List Plain)
  pub faults : ℕ
  pub counts_exactly : Bool

-- a native that tells no answers and never fails
abbrev pub quiet_view : ℕ → View
quiet_view row = record { row = row; answers = None; faults = 0; counts_exactly = true }

-- what an error tells: what is thrown
abbrev pub told : NativeEnd → Option NativeEnd
told (Throws kind message) = Some (Throws kind message)
told Failed = None
told NoMemory = None

-- an answer of the outside is of the native's kind, and no error of it is thrown
abbrev pub IsFromOutside : ℕ → Result Plain NativeEnd → Type 0
IsFromOutside row (Ok v) = IsTrue (gives row v)
IsFromOutside row (Err (Throws kind message)) = ⊥
IsFromOutside row (Err Failed) = Unit {0}
IsFromOutside row (Err NoMemory) = Unit {0}

-- the answers with one more
abbrev pub and_one : Option (List Plain) → Result Plain NativeEnd → Option (List Plain)
and_one answers (Ok v) = option_map (λ all. all ++ v ∷ []) answers
and_one answers (Err e) = answers

-- the answers given after a call: one more where the outside decides, and else as before
abbrev pub answers_after : ℕ → Result Plain NativeEnd → Option (List Plain) → Option (List Plain)
answers_after row result answers = if is_outside row then and_one answers result else answers

-- a failure is one fault more, and nothing else is
abbrev pub faults_after : Result Plain NativeEnd → ℕ → ℕ
faults_after (Ok v) n = n
faults_after (Err (Throws kind message)) n = n
faults_after (Err Failed) n = raised n
faults_after (Err NoMemory) n = n

-- What a native in a box answers of arguments, and how it is seen before and after.
pub record IsCalled (old : View) (args : List Plain) (result : Result Plain NativeEnd) (new : View) : Type 0 where
  pub same_row : new.row ≡ old.row
  -- a native whose arguments decide it answers its value, or throws its error
  pub decided : IfSome (row_of old.row args) (λ answer. Tells told result answer)
  pub from_outside : IsTrue (is_outside old.row) → IsFromOutside old.row result
  pub answers : new.answers ≡ answers_after old.row result old.answers
  -- only the outside fails, and then the count rose
  pub failed : result ≡ Err Failed → IsTrue (is_outside old.row) × Rose old.faults new.faults
  pub counts : old.faults ≤ new.faults
  pub same_exactness : new.counts_exactly ≡ old.counts_exactly
  pub exact : IsTrue old.counts_exactly → new.faults ≡ faults_after result old.faults

-- One box of a list was asked, and the others are as before.
pub record Asks (old : List View) (place : ℕ) (args : List Plain) (result : Result Plain NativeEnd) (new : List View) : Type 0 where
  pub before : View
  pub after : View
  pub there : slice_get old place ≡ Some before
  pub answers : IsCalled before args result after
  pub others : new ≡ slice_set old place after

-- the first place of a box of a row
abbrev pub place_of : ℕ → List View → Option ℕ
place_of row views = position_from (λ v. v.row == row) 0 views

-- the row of the native at a place, 0 past the end
abbrev pub row_at : List View → ℕ → ℕ
row_at [] at = 0
row_at (v ∷ vs) zero = v.row
row_at (v ∷ vs) (suc at) = row_at vs at
