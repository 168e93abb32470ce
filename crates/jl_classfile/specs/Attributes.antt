-- Reading attributes, of which each form that is read may stand once (JVMS 4.7).
use Rattle.std.specs.Prelude.{◌≡◌, ℕ, List, [], ◌∷◌, ◌++◌, Option, None, Some, Result, Ok, Err, Bool, false, ⊤, MatchOption, if◌then◌else◌}
use Rattle.jl_reading.specs.Reading.{◌>>=◌, number_at, steps_at}
use Rattle.jl_pool.specs.declared.entry.Entry.{Entry}
use Rattle.jl_pool.specs.Pool.{text_of}
use Rattle.jl_classfile.specs.Places.{content_at}

-- What reads the attributes of one site: forms K, what they mean V, and faults F.
pub record Reader (K V F : Type 0) : Type 0 where
  -- the form of the attributes of a name, where they are read
  pub form : List ℕ → Option K
  -- an attribute of a form may stand behind those with these meanings
  pub may_stand : List V → K → Bool
  -- the fault where the index of a name, at this place, names no text
  pub unnamed : ℕ → F
  -- the fault of an attribute at a place that may not stand there
  pub refused : ℕ → K → F
  -- the fault of what is not whole in the attribute at the first place
  pub cut : ℕ → ℕ → F
  -- what the bytes from a place on mean, all of them, in the attribute at the first place
  pub meaning : K → ℕ → List ℕ → ℕ → Result V F

-- The error tells this fault, or nothing.
abbrev pub IsFault : {E F : Type 0} → (E → Option F) → E → F → Type 0
IsFault told e f = MatchOption (told e) ⊤ (λ g. f ≡ g)

-- a value that has to be there
abbrev pub some_or : {A F : Type 0} → F → Option A → Result A F
some_or fault None = Err fault
some_or fault (Some x) = Ok x

-- an attribute that is passed over, behind the index of its name
unfoldable pub passed_at : {K V F : Type 0} → Reader K V F → ℕ → List ℕ → List V → ℕ → Result (List V × ℕ) F
passed_at r place bytes done at = do
  content ← content_at (r.cut place) bytes at
  Ok (done, content.1)

-- an attribute that is read, behind the index of its name
unfoldable pub read_at : {K V F : Type 0} → Reader K V F → K → ℕ → List ℕ → List V → ℕ → Result (List V × ℕ) F
read_at r form place bytes done at = if r.may_stand done form then (do
  content ← content_at (r.cut place) bytes at
  v ← r.meaning form place content.0.0 content.0.1
  Ok (done ++ v ∷ [], content.1)) else Err (r.refused place form)

abbrev pub by_form : {K V F : Type 0} → Reader K V F → ℕ → List ℕ → List V → ℕ → Option K → Result (List V × ℕ) F
by_form r place bytes done at None = passed_at r place bytes done at
by_form r place bytes done at (Some form) = read_at r form place bytes done at

-- the attribute at a place, behind those that were read so far
unfoldable pub attribute_at : {K V F : Type 0} → Reader K V F → List Entry → List ℕ → List V → ℕ → Result (List V × ℕ) F
attribute_at r pool bytes done at = do
  index ← number_at (r.cut at) 2 bytes at
  name ← some_or (r.unnamed at) (text_of pool index.0)
  by_form r at bytes done index.1 (r.form name)

-- so many attributes
abbrev pub attributes_at : {K V F : Type 0} → Reader K V F → List Entry → ℕ → List ℕ → ℕ → Result (List V × ℕ) F
attributes_at r pool count bytes at = steps_at (attribute_at r pool bytes) count [] at

abbrev pub or_else : {W : Type 0} → Option W → Option W → Option W
or_else None other = other
or_else (Some w) other = Some w

-- the first of what holds something
abbrev pub first_that : {V W : Type 0} → (V → Option W) → List V → Option W
first_that pick [] = None
first_that pick (v ∷ vs) = or_else (pick v) (first_that pick vs)

-- ---- sites where attributes of one name alone are read

-- the form of that name
abbrev pub alone : {K : Type 0} → (List ℕ → Bool) → K → List ℕ → Option K
alone is_read form name = if is_read name then Some form else None

-- there may be one, and only where there may be any
abbrev pub may_begin : {V K : Type 0} → Bool → List V → K → Bool
may_begin may [] form = may
may_begin may (v ∷ vs) form = false

abbrev pub first_of : {V : Type 0} → List V → Option V
first_of [] = None
first_of (v ∷ vs) = Some v
