-- What the searches over readings collect (`Configuration.resolve`). No public clause cites these.
use Rattle.std.specs.Prelude.{◌≡◌, ℕ, ◌-◌, ◌<◌, List, length, Contains, ◌⊎◌, slice_index_or}
use Rattle.jl_logic.specs.Order.{name_cmp, RisesBy}
use Rattle.jl_config.specs.declared.readings.Reading.{Reading}
use Rattle.jl_config.specs.declared.same_name.SharedName.{SharedName}
use Rattle.jl_config.specs.declared.fault.ResolveFault.{ResolveFault}
use Rattle.jl_config.specs.declared.fault.ResolveFault.TheVariants.{SameName}
use Rattle.jl_config.specs.declared.candidate.Candidate.{Candidate}
use Rattle.jl_config.specs.Located.{Scene}
use Rattle.jl_config.specs.ReadRows.{name_at, IsReadingOf}

-- A list grew by what has a property, in some order.
pub record Adds {X : Type 0} (old new : List X) (P : X → Type 0) : Type 0 where
  pub keeps : (x : X) → Contains old x → Contains new x
  pub only : (x : X) → Contains new x → Contains old x ⊎ P x
  pub all : (x : X) → P x → Contains new x

-- one of the items has it
abbrev pub Among : {X Y : Type 0} → (X → Y → Type 0) → List X → Y → Type 0
Among {X} P xs y = (x : X) × Contains xs x × P x y

-- it is a reading in sight
abbrev pub IsReading : Scene → Reading → Type 0
IsReading w r = (a : Candidate) × IsReadingOf w r a

-- the name of the module that is read at place i of a reading
abbrev pub read_name : Scene → Reading → ℕ → List ℕ
read_name w r i = name_at w (slice_index_or r.read i 0)

-- The modules read at places i - 1 and i have one name.
pub record IsSharedAt (w : Scene) (r : Reading) (i : ℕ) (c : SharedName) : Type 0 where
  pub later : 0 < i
  pub within : i < length r.read
  pub same : read_name w r (i - 1) ≡ read_name w r i
  pub is : c ≡ record { reader = name_at w r.reader; name = read_name w r i }

-- the reading has the name twice
abbrev pub IsShared : Scene → Reading → SharedName → Type 0
IsShared w r c = (i : ℕ) × IsSharedAt w r i c

-- the refusal of a name that a reader reads twice
abbrev pub same_name_fault : SharedName → ResolveFault
same_name_fault c = SameName c.reader c.name

-- ---- names in order

-- the same names, in order and each once
pub record AreSorted (names sorted : List (List ℕ)) : Type 0 where
  pub rise : RisesBy name_cmp sorted
  pub only : (x : List ℕ) → Contains sorted x → Contains names x
  pub all : (x : List ℕ) → Contains names x → Contains sorted x
