-- The conditions under which a resolution is refused, in the order in which they are decided (`Configuration`, `Configuration.resolve`).
use Rattle.std.specs.Prelude.{◌≡◌, ◌≢◌, ℕ, zero, suc, ◌≤◌, ◌<◌, List, [], ◌∷◌, length, Option, None, Some, Contains, All, ◌⊎◌, ⊤}
use Rattle.jl_prim.specs.declared.declaration.Requires.{Requires}
use Rattle.jl_prim.specs.declared.declaration.Grant.{Grant}
use Rattle.jl_prim.specs.Limits.{most_modules}
use Rattle.jl_logic.specs.Order.{optional_cmp, RisesBy}
use Rattle.jl_names.specs.Names.{package_of}
use Rattle.std.specs.Ordering.{ordering_then, nat_cmp}
use Rattle.std.specs.declared.cmp.Ordering.{Ordering}
use Rattle.std.specs.Cmp.Lexicographic.{slice_cmp}
use Rattle.jl_config.specs.declared.fault.ResolveFault.{ResolveFault}
use Rattle.jl_config.specs.declared.fault.ResolveFault.TheVariants.{NoParents, NotFound, TooMany, Cycle, SameName, SamePackage, OwnPackage, ServicePackage, NoMemory}
use Rattle.jl_config.specs.declared.candidate.Candidate.{Candidate}
use Rattle.jl_config.specs.Located.{Asked, Scene, scene_of, candidate_name, located}
use Rattle.jl_config.specs.Members.{Needs, Uses, IsProvidedBy, IsMember, MeansMember, Reads}
use Rattle.jl_config.specs.Orders.{candidate_cmp}

-- ---- what is not there, or too much

-- a name that is not located: a root, or what a module of the set, by, needs
abbrev pub IsMissing : Scene → List ℕ × Option (List ℕ) → Type 0
IsMissing w (name, None) = Contains w.roots name × (located w name ≡ None)
IsMissing w (name, Some by) = (s : Candidate) × IsMember w s × (candidate_name s ≡ by) × Needs s name × (located w name ≡ None)

-- more modules than a configuration may have are in the set
abbrev pub IsLarge : Scene → Type 0
IsLarge w = (ss : List Candidate) × RisesBy candidate_cmp ss × All (IsMember w) ss × (most_modules < length ss)

-- ---- cycles

-- a requires entry of a means the member b
abbrev pub HasEdge : Scene → Candidate → Candidate → Type 0
HasEdge w a b = (r : Requires) × Contains a.observed.declaration.required r × MeansMember w r.name b

-- n + 1 edges lead from a to b
abbrev pub Leads : Scene → ℕ → Candidate → Candidate → Type 0
Leads w zero a b = HasEdge w a b
Leads w (suc n) a b = (c : Candidate) × Leads w n a c × HasEdge w c b

-- a member with this name is on a cycle
abbrev pub IsOnCycle : Scene → List ℕ → Type 0
IsOnCycle w name = (s : Candidate) × IsMember w s × (candidate_name s ≡ name) × ((n : ℕ) × Leads w n s s)

-- ---- packages

-- the grant reaches a module with this name
abbrev pub ReachesBy : Option (List (List ℕ)) → List ℕ → Type 0
ReachesBy None reader = ⊤
ReachesBy (Some names) reader = Contains names reader

-- s exports the package to modules with this name
abbrev pub Exports : Candidate → List ℕ → List ℕ → Type 0
Exports s p reader = (g : Grant) × Contains s.observed.declaration.exports g × (g.«package» ≡ p) × ReachesBy g.to reader

-- a module of the set reads one that exports the package to it
abbrev pub Gets : Scene → Candidate → Candidate → List ℕ → Type 0
Gets w a b p = IsMember w a × Reads w a b × Exports b p (candidate_name a)

-- the module has the package
abbrev pub Holds : Candidate → List ℕ → Type 0
Holds s p = Contains s.observed.declaration.packages p

-- The reader reads two modules of one name, of different configurations.
abbrev pub IsSameName : Scene → List ℕ × List ℕ → Type 0
IsSameName w (reader, name) = (a : Candidate) × (b : Candidate) × (c : Candidate) × IsMember w a × (candidate_name a ≡ reader)
    × Reads w a b × Reads w a c × (candidate_name b ≡ name) × (candidate_name c ≡ name) × (b.config ≢ c.config)

-- The reader gets the package from one and from another, neither of which is the reader.
abbrev pub IsSamePackage : Scene → List ℕ × List ℕ × List ℕ × List ℕ → Type 0
IsSamePackage w (reader, p, one, other) = (a : Candidate) × (b : Candidate) × (c : Candidate) × (candidate_name a ≡ reader)
    × Gets w a b p × Gets w a c p × (candidate_name b ≡ one) × (candidate_name c ≡ other)
    × (one ≢ reader) × (other ≢ reader) × (one ≢ other)

-- The reader has the package, and gets it from another module.
abbrev pub IsOwnPackage : Scene → List ℕ × List ℕ × List ℕ → Type 0
IsOwnPackage w (reader, p, other) = (a : Candidate) × (b : Candidate) × (candidate_name a ≡ reader) × Holds a p
    × Gets w a b p × (candidate_name b ≡ other) × (other ≢ reader)

-- ---- services

-- the module has the package or gets it
abbrev pub Sees : Scene → Candidate → List ℕ → Type 0
Sees w a p = Holds a p ⊎ ((b : Candidate) × Gets w a b p)

-- The service, used or provided by the module, is in a package that it does not see.
abbrev pub IsServicePackage : Scene → List ℕ × List ℕ → Type 0
IsServicePackage w (name, service) = (a : Candidate) × IsMember w a × (candidate_name a ≡ name)
    × (Uses a service ⊎ IsProvidedBy a service) × (Sees w a (package_of service) → ⊥)

-- ---- in order

-- The condition of a refusal holds, for its fields.
abbrev pub Applies : Asked → ResolveFault → Type 0
Applies q NoParents = q.parents ≡ []
Applies q (NotFound name by) = IsMissing (scene_of q) (name, by)
Applies q TooMany = IsLarge (scene_of q) ⊎ (most_modules ≤ length q.known)
Applies q (Cycle least) = IsOnCycle (scene_of q) least
Applies q (SameName reader name) = IsSameName (scene_of q) (reader, name)
Applies q (SamePackage reader p one other) = IsSamePackage (scene_of q) (reader, p, one, other)
Applies q (OwnPackage reader p other) = IsOwnPackage (scene_of q) (reader, p, other)
Applies q (ServicePackage name service) = IsServicePackage (scene_of q) (name, service)
Applies q NoMemory = ⊥

-- in which order the conditions are decided
abbrev pub rank : ResolveFault → ℕ
rank NoParents = 0
rank (NotFound name by) = 1
rank TooMany = 2
rank (Cycle least) = 3
rank (SameName reader name) = 4
rank (SamePackage reader p one other) = 5
rank (OwnPackage reader p other) = 6
rank (ServicePackage name service) = 7
rank NoMemory = 8

-- the fields of a refusal in order
abbrev pub fields : ResolveFault → List (Option (List ℕ))
fields NoParents = []
fields (NotFound name by) = Some name ∷ by ∷ []
fields TooMany = []
fields (Cycle least) = Some least ∷ []
fields (SameName reader name) = Some reader ∷ Some name ∷ []
fields (SamePackage reader p one other) = Some reader ∷ Some p ∷ Some one ∷ Some other ∷ []
fields (OwnPackage reader p other) = Some reader ∷ Some p ∷ Some other ∷ []
fields (ServicePackage name service) = Some name ∷ Some service ∷ []
fields NoMemory = []

-- field by field
abbrev pub fields_cmp : List (Option (List ℕ)) → List (Option (List ℕ)) → Ordering
fields_cmp = slice_cmp optional_cmp

-- the one that is decided first, and of one kind the one with the lesser fields
abbrev pub fault_cmp : ResolveFault → ResolveFault → Ordering
fault_cmp f g = ordering_then (nat_cmp (rank f) (rank g)) (fields_cmp (fields f) (fields g))
