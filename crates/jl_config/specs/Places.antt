-- Modules by their places in sight (`Configuration.resolve`): the words in which the parts of a resolution speak. No public clause cites these.
use Rattle.std.specs.Prelude.{◌≡◌, ℕ, ◌+◌, ◌<◌, List, [], ◌∷◌, length, Option, None, Some, Bool, true, false, ◌&&◌, Contains, All, slice_get, slice_index_or, if◌then◌else◌}
use Rattle.std.specs.List.{filter_map}
use Rattle.std.specs.Option.{option_map}
use Rattle.std.specs.declared.cmp.Ordering.{Ordering}
use Rattle.jl_prim.specs.declared.numbers.ConfigId.{ConfigId}
use Rattle.jl_logic.specs.Order.{is_text, RisesBy, IsLeast}
use Rattle.jl_config.specs.declared.configuration.Read.{Read}
use Rattle.jl_config.specs.declared.candidate.Candidate.{Candidate}
use Rattle.jl_config.specs.declared.fault.ResolveFault.{ResolveFault}
use Rattle.jl_config.specs.declared.fault.ResolveFault.TheVariants.{NotFound, Cycle, SameName, SamePackage, OwnPackage, ServicePackage}
use Rattle.jl_config.specs.Lineages.{is_named, is_outside}
use Rattle.jl_config.specs.Located.{Scene, candidate_name, is_numbered, find_read}
use Rattle.jl_config.specs.Members.{IsMember, Reads}
use Rattle.jl_config.specs.Orders.{candidate_cmp}
use Rattle.jl_config.specs.Refusals.{IsMissing, IsOnCycle, IsSameName, IsSamePackage, IsOwnPackage, IsServicePackage}
use Rattle.jl_config.specs.Tables.{first_where}

-- the place of the first of a name
abbrev pub place_named : List ℕ → List Candidate → Option ℕ
place_named name [] = None
place_named name (s ∷ ss) = if is_text (candidate_name s) name then Some 0 else option_map (λ p. p + 1) (place_named name ss)

-- the place of the module of the first ancestor that has the name
abbrev pub place_above : Scene → List ℕ → Option ℕ
place_above w name = first_where (λ s. is_outside w.id s && is_named name s) w.candidates

-- the place of the first of a configuration and a name
abbrev pub place_of_candidate : ConfigId → List ℕ → List Candidate → Option ℕ
place_of_candidate config name [] = None
place_of_candidate config name (s ∷ ss) =
    if is_numbered s.config config && is_text (candidate_name s) name then Some 0 else option_map (λ p. p + 1) (place_of_candidate config name ss)

-- the place of the module that an entry reads
abbrev pub read_place : List Candidate → Option Read → Option ℕ
read_place ss None = None
read_place ss (Some r) = place_of_candidate r.config r.name ss

-- the place of what a name means to an ancestor's module
abbrev pub own_place : Scene → Candidate → List ℕ → Option ℕ
own_place w s name = read_place w.candidates (find_read s.config (candidate_name s) name w.reads)

-- a place that is marked
abbrev pub kept_marked : List Bool → Option ℕ → Option ℕ
kept_marked marks None = None
kept_marked marks (Some p) = if slice_index_or marks p false then Some p else None

-- the place of the member that is located by a name
abbrev pub member_place : Scene → List Bool → List ℕ → Option ℕ
member_place w marks name = kept_marked marks (place_named name w.candidates)

-- the modules at places
abbrev pub candidates_at : Scene → List ℕ → List Candidate
candidates_at w ps = filter_map (slice_get w.candidates) ps

-- ---- members

-- one mark for each place, set where a module of the set is located by its name
pub record AreMarks (w : Scene) (marks : List Bool) : Type 0 where
  pub one_each : length marks ≡ length w.candidates
  pub only : (p : ℕ) (s : Candidate) → slice_get w.candidates p ≡ Some s → slice_get marks p ≡ Some true
      → IsMember w s × (place_named (candidate_name s) w.candidates ≡ Some p)
  pub all : (p : ℕ) (s : Candidate) → slice_get w.candidates p ≡ Some s → IsMember w s → place_named (candidate_name s) w.candidates ≡ Some p
      → slice_get marks p ≡ Some true

-- the places of the modules of the set, in name order
pub record AreMembers (w : Scene) (ps : List ℕ) : Type 0 where
  pub within : All (λ p. p < length w.candidates) ps
  pub rise : RisesBy candidate_cmp (candidates_at w ps)
  pub only : (p : ℕ) (s : Candidate) → Contains ps p → slice_get w.candidates p ≡ Some s → IsMember w s × (place_named (candidate_name s) w.candidates ≡ Some p)
  pub all : (s : Candidate) → IsMember w s → (p : ℕ) × Contains ps p × (slice_get w.candidates p ≡ Some s)

-- ---- reads

-- places of what a module reads
pub record AreReadBy (w : Scene) (a : Candidate) (ps : List ℕ) : Type 0 where
  pub within : All (λ p. p < length w.candidates) ps
  pub only : (p : ℕ) (s : Candidate) → Contains ps p → slice_get w.candidates p ≡ Some s → Reads w a s × (place_of_candidate s.config (candidate_name s) w.candidates ≡ Some p)
  pub all : (b : Candidate) → Reads w a b → (p : ℕ) × Contains ps p × (slice_get w.candidates p ≡ Some b)

-- ---- refusals of one kind

-- a refusal of a name that is not located
abbrev pub MissingFault : Scene → ResolveFault → Type 0
MissingFault w (NotFound name by) = IsMissing w (name, by)
MissingFault w _ = ⊥

-- a refusal of a cycle
abbrev pub CycleFault : Scene → ResolveFault → Type 0
CycleFault w (Cycle least) = IsOnCycle w least
CycleFault w _ = ⊥

-- a refusal of a name that is read twice
abbrev pub SameNameFault : Scene → ResolveFault → Type 0
SameNameFault w (SameName reader name) = IsSameName w (reader, name)
SameNameFault w _ = ⊥

-- a refusal of a package with two exporters
abbrev pub SamePackageFault : Scene → ResolveFault → Type 0
SamePackageFault w (SamePackage reader p one other) = IsSamePackage w (reader, p, one, other)
SamePackageFault w _ = ⊥

-- a refusal of a package that the reader has and gets
abbrev pub OwnPackageFault : Scene → ResolveFault → Type 0
OwnPackageFault w (OwnPackage reader p other) = IsOwnPackage w (reader, p, other)
OwnPackageFault w _ = ⊥

-- a refusal of a service whose package is not seen
abbrev pub ServiceFault : Scene → ResolveFault → Type 0
ServiceFault w (ServicePackage name service) = IsServicePackage w (name, service)
ServiceFault w _ = ⊥

-- what a search answers: the least that has the property, or that there is none
abbrev pub IsLeastSome : {X : Type 0} → (X → X → Ordering) → (X → Type 0) → Option X → Type 0
IsLeastSome {X} cmp P None = (x : X) → P x → ⊥
IsLeastSome cmp P (Some x) = IsLeast cmp P x
