-- What a resolution answers: exactly these modules and exactly these reads, or exactly this refusal (`Configuration`).
use Rattle.std.specs.Prelude.{◌≡◌, ℕ, List, Bool, Result, Ok, Err, Contains, ⊤}
use Rattle.jl_prim.specs.declared.numbers.ConfigId.{ConfigId}
use Rattle.jl_prim.specs.declared.declaration.Observed.{Observed}
use Rattle.jl_logic.specs.Order.{RisesBy, IsLeast}
use Rattle.jl_config.specs.declared.configuration.Read.{Read}
use Rattle.jl_config.specs.declared.candidate.Candidate.{Candidate}
use Rattle.jl_config.specs.declared.fault.ResolveFault.{ResolveFault}
use Rattle.jl_config.specs.declared.fault.ResolveFault.TheVariants.{NoMemory}
use Rattle.jl_config.specs.Configurations.{Configuration}
use Rattle.jl_config.specs.Located.{Asked, Scene, scene_of, id_of, candidate_name}
use Rattle.jl_config.specs.Members.{IsMember, IsBound, Reads}
use Rattle.jl_config.specs.Orders.{module_cmp, read_cmp}
use Rattle.jl_config.specs.Refusals.{Applies, fault_cmp}

-- what a call asks
abbrev pub asked : List Configuration → List Observed → List ConfigId → List Observed → List (List ℕ) → Bool → Asked
asked known before parents after roots binds =
    record { known = known; before = before; parents = parents; after = after; roots = roots; binds = binds }

-- a module of the new configuration
abbrev pub new_candidate : Asked → Observed → Candidate
new_candidate q o = record { config = id_of q; observed = o }

-- that a reads b
abbrev pub read_of : Candidate → Candidate → Read
read_of a b = record { reader = candidate_name a; config = b.config; name = candidate_name b }

-- exactly the modules of the set, in name order
pub record AreModules (q : Asked) (os : List Observed) : Type 0 where
  pub rise : RisesBy module_cmp os
  pub only : (o : Observed) → Contains os o → IsMember (scene_of q) (new_candidate q o)
  pub all : (s : Candidate) → IsMember (scene_of q) s → Contains os s.observed

-- exactly what they read, in the order of the readers and then of what is read
pub record AreReads (w : Scene) (rs : List Read) : Type 0 where
  pub rise : RisesBy read_cmp rs
  pub only : (r : Read) → Contains rs r → (a : Candidate) × (b : Candidate) × IsMember w a × Reads w a b × (r ≡ read_of a b)
  pub all : (a b : Candidate) → IsMember w a → Reads w a b → Contains rs (read_of a b)

-- the configuration that a resolution gives
pub record IsConfigurationOf (q : Asked) (g : Configuration) : Type 0 where
  pub number : g.id ≡ id_of q
  pub given : g.parents ≡ q.parents
  pub modules : AreModules q g.modules
  pub reads : AreReads (scene_of q) g.reads

-- The answer of a resolution: of the refusals whose condition holds the first, with the least fields, or the graph where none holds. Want of memory tells nothing.
abbrev pub Resolves : Asked → Result Configuration ResolveFault → Type 0
Resolves q (Ok g) = ((f : ResolveFault) → Applies q f → ⊥) × IsConfigurationOf q g
Resolves q (Err NoMemory) = ⊤
Resolves q (Err f) = IsLeast fault_cmp (Applies q) f

-- Each module ends a justified list, so none is superfluous.
abbrev pub AreJustified : Asked → Configuration → Type 0
AreJustified q g = (o : Observed) → Contains g.modules o → IsBound (scene_of q) (new_candidate q o)
