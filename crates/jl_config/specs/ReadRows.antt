-- What a name means as a place, and the readings of a set (`Configuration.resolve`): the words in which reads are found. No public clause cites these.
use Rattle.std.specs.Prelude.{◌≡◌, ℕ, ◌<◌, List, [], ◌∷◌, ◌++◌, length, map, Option, None, Some, Bool, false, Contains, slice_get, slice_index_or, if◌then◌else◌}
use Rattle.std.specs.List.{filter_map}
use Rattle.std.specs.Option.{option_or}
use Rattle.std.specs.Ordering.{ordering_then, nat_cmp}
use Rattle.std.specs.declared.cmp.Ordering.{Ordering}
use Rattle.jl_prim.specs.declared.numbers.ConfigId.{ConfigId}
use Rattle.jl_prim.specs.declared.declaration.Requires.{Requires}
use Rattle.jl_logic.specs.Order.{name_cmp, RisesBy}
use Rattle.jl_config.specs.declared.configuration.Read.{Read}
use Rattle.jl_config.specs.declared.candidate.Candidate.{Candidate}
use Rattle.jl_config.specs.declared.readings.Reading.{Reading}
use Rattle.jl_config.specs.declared.readings.Placed.{Placed}
use Rattle.jl_config.specs.Located.{Scene, candidate_name, is_here}
use Rattle.jl_config.specs.Members.{is_passed_on, IsMember}
use Rattle.jl_config.specs.Places.{place_above, member_place, own_place, AreReadBy}

-- ---- what a name means

-- the place of what a name means to a member
abbrev pub here_place : Scene → List Bool → List ℕ → Option ℕ
here_place w marks name = option_or (member_place w marks name) (place_above w name)

-- the place of what a name means to the module c
abbrev pub meant_place : Scene → List Bool → Candidate → List ℕ → Option ℕ
meant_place w marks c name = if is_here w c then here_place w marks name else own_place w c name

-- the places of what c requires
abbrev pub required_places : Scene → List Bool → Candidate → List ℕ
required_places w marks c = filter_map (λ (r : Requires). meant_place w marks c r.name) c.observed.declaration.required

-- the place of what an entry passes on
abbrev pub passed_place : Scene → List Bool → Candidate → Requires → Option ℕ
passed_place w marks c r = if is_passed_on r then meant_place w marks c r.name else None

-- the places of what c requires transitively
abbrev pub passed_places : Scene → List Bool → Candidate → List ℕ
passed_places w marks c = filter_map (passed_place w marks c) c.observed.declaration.required

-- what follows each place
abbrev pub read_rows : Scene → List Bool → List (List ℕ)
read_rows w marks = map (passed_places w marks) w.candidates

-- what the module a, at a place, reads first
abbrev pub read_starts : Scene → List Bool → Candidate → ℕ → List ℕ
read_starts w marks a place = required_places w marks a ++ place ∷ []

-- ---- the order of what is read

-- the name of a module, where there is one
abbrev pub option_name : Option Candidate → List ℕ
option_name None = []
option_name (Some s) = candidate_name s

-- the name of the module at a place
abbrev pub name_at : Scene → ℕ → List ℕ
name_at w p = option_name (slice_get w.candidates p)

-- places by the names there, and where these are the same, as numbers
abbrev pub place_cmp : Scene → ℕ → ℕ → Ordering
place_cmp w p q = ordering_then (name_cmp (name_at w p) (name_at w q)) (nat_cmp p q)

-- by the names, and then by the places
abbrev pub placed_cmp : Placed → Placed → Ordering
placed_cmp x y = ordering_then (name_cmp x.name y.name) (nat_cmp x.place y.place)

-- a place with what orders it
abbrev pub placed : Scene → ℕ → Placed
placed w p = record { name = name_at w p; place = p }

-- all places in sight, in this order
pub record AreByName (w : Scene) (xs : List Placed) : Type 0 where
  pub rise : RisesBy placed_cmp xs
  pub only : (x : Placed) → Contains xs x → (x.place < length w.candidates) × (x ≡ placed w x.place)
  pub all : (p : ℕ) → p < length w.candidates → Contains xs (placed w p)

-- a place whose mark is set
abbrev pub marked_place : List Bool → Placed → Option ℕ
marked_place marks x = if slice_index_or marks x.place false then Some x.place else None

-- ---- readings

-- the places of what the module a reads, in order
pub record IsRead (w : Scene) (a : Candidate) (ps : List ℕ) : Type 0 where
  pub rise : RisesBy (place_cmp w) ps
  pub read : AreReadBy w a ps

-- The reader is the module a of the set, with what it reads.
pub record IsReadingOf (w : Scene) (r : Reading) (a : Candidate) : Type 0 where
  pub here : slice_get w.candidates r.reader ≡ Some a
  pub member : IsMember w a
  pub reads : IsRead w a r.read

-- by the names of the readers
abbrev pub reading_cmp : Scene → Reading → Reading → Ordering
reading_cmp w r s = name_cmp (name_at w r.reader) (name_at w s.reader)

-- one reading for each module of the set, in name order
pub record AreReadings (w : Scene) (rs : List Reading) : Type 0 where
  pub rise : RisesBy (reading_cmp w) rs
  pub only : (r : Reading) → Contains rs r → (a : Candidate) × IsReadingOf w r a
  pub all : (a : Candidate) → IsMember w a → (r : Reading) × Contains rs r × IsReadingOf w r a

-- ---- reads

-- the configuration of a module, where there is one
abbrev pub option_config : Option Candidate → ConfigId
option_config None = record { 0 = 0 }
option_config (Some s) = s.config

-- that the module at p reads the one at q
abbrev pub read_between : Scene → ℕ → ℕ → Read
read_between w p q = record { reader = name_at w p; config = option_config (slice_get w.candidates q); name = name_at w q }

-- the reads of a reading
abbrev pub reads_in : Scene → Reading → List Read
reads_in w r = map (read_between w r.reader) r.read
