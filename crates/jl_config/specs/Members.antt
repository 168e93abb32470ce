-- Which modules a resolution has, and which of them reads which (JLS 7.7.1, `Configuration`).
use Rattle.std.specs.Prelude.{◌≡◌, ℕ, zero, suc, List, [], ◌∷◌, Bool, true, false, Some, not, ◌&&◌, ◌||◌, codes, IsTrue, Contains, ◌⊎◌, ⊤}
use Rattle.jl_prim.specs.declared.declaration.Requires.{Requires}
use Rattle.jl_prim.specs.declared.declaration.Provides.{Provides}
use Rattle.jl_logic.specs.Order.{is_text}
use Rattle.jl_config.specs.declared.candidate.Candidate.{Candidate}
use Rattle.jl_config.specs.Located.{Scene, candidate_name, located, located_above, is_here, own_meaning}

-- ---- entries

-- the name of java.base
abbrev pub is_base : List ℕ → Bool
is_base name = is_text name (codes "java.base")

-- an entry that is followed: one that is not static. That of java.base never is.
abbrev pub is_followed : Requires → Bool
is_followed r = not r.is_static || is_base r.name

-- an entry that passes on what it reads: a transitive one. That of java.base never is.
abbrev pub is_passed_on : Requires → Bool
is_passed_on r = r.transitive && not (is_base r.name)

-- the module requires this name, not statically
abbrev pub Needs : Candidate → List ℕ → Type 0
Needs s name = (r : Requires) × Contains s.observed.declaration.required r × IsTrue (is_followed r) × (r.name ≡ name)

-- the module uses the service
abbrev pub Uses : Candidate → List ℕ → Type 0
Uses s service = Contains s.observed.declaration.uses service

-- the module provides the service
abbrev pub IsProvidedBy : Candidate → List ℕ → Type 0
IsProvidedBy s service = (p : Provides) × Contains s.observed.declaration.provides p × (p.service ≡ service)

-- ---- the enumerated set

-- a finder observes the module, and its name is located there
pub record IsFound (w : Scene) (s : Candidate) : Type 0 where
  pub by_finder : IsTrue (is_here w s)
  pub meant : located w (candidate_name s) ≡ Some s

-- s ends a chain of n steps which begins with a root, in which every module is found and each later one is needed by the one before
abbrev pub Enumerated : Scene → ℕ → Candidate → Type 0
Enumerated w zero s = IsFound w s × Contains w.roots (candidate_name s)
Enumerated w (suc n) s = IsFound w s × ((p : Candidate) × Enumerated w n p × Needs p (candidate_name s))

-- ---- the bound set

-- a module of an ancestor
abbrev pub IsAbove : Scene → Candidate → Type 0
IsAbove w s = Contains w.candidates s × (is_here w s ≡ false)

-- one of the earlier modules, or a module of an ancestor, uses the service
abbrev pub IsUsed : Scene → List Candidate → List ℕ → Type 0
IsUsed w earlier service = (s : Candidate) × (Contains earlier s ⊎ IsAbove w s) × Uses s service

-- why a module may stand behind earlier ones: it is a root, one of them needs it, or it provides a service that is used
abbrev pub IsCaused : Scene → List Candidate → Candidate → Type 0
IsCaused w earlier s = Contains w.roots (candidate_name s)
    ⊎ ((p : Candidate) × Contains earlier p × Needs p (candidate_name s))
    ⊎ ((service : List ℕ) × IsProvidedBy s service × IsUsed w earlier service)

-- A list, its last module first, in which each is found and is caused by those before it.
abbrev pub IsJustified : Scene → List Candidate → Type 0
IsJustified w [] = ⊤
IsJustified w (s ∷ earlier) = IsFound w s × IsCaused w earlier s × IsJustified w earlier

-- s ends a justified list
abbrev pub IsBound : Scene → Candidate → Type 0
IsBound w s = (earlier : List Candidate) × IsJustified w (s ∷ earlier)

-- a module of the set: of the bound one, or without binding of the enumerated one
abbrev pub IsMemberBy : Bool → Scene → Candidate → Type 0
IsMemberBy true w s = IsBound w s
IsMemberBy false w s = (n : ℕ) × Enumerated w n s

-- a module of the set
abbrev pub IsMember : Scene → Candidate → Type 0
IsMember w s = IsMemberBy w.binds w s

-- ---- reads

-- the member of the set that is located by the name
pub record MeansMember (w : Scene) (name : List ℕ) (s : Candidate) : Type 0 where
  pub meant : located w name ≡ Some s
  pub member : IsMember w s

-- what a name means to a member: the member that is located by it, or if none is, what the ancestors have first under the name
abbrev pub MeansHere : Scene → List ℕ → Candidate → Type 0
MeansHere w name s = MeansMember w name s ⊎ (((m : Candidate) → MeansMember w name m → ⊥) × (located_above w name ≡ Some s))

-- to a module that is here, or is an ancestor's, a name means this module
abbrev pub MeansBy : Bool → Scene → Candidate → List ℕ → Candidate → Type 0
MeansBy true w a name b = MeansHere w name b
MeansBy false w a name b = own_meaning w a name ≡ Some b

-- what a name means to a module: to an ancestor's, what its own configuration has it read
abbrev pub Means : Scene → Candidate → List ℕ → Candidate → Type 0
Means w a name b = MeansBy (is_here w a) w a name b

-- b is required by a
abbrev pub IsRequired : Scene → Candidate → Candidate → Type 0
IsRequired w a b = (r : Requires) × Contains a.observed.declaration.required r × Means w a r.name b

-- b is required transitively by a
abbrev pub IsPassedOn : Scene → Candidate → Candidate → Type 0
IsPassedOn w a b = (r : Requires) × Contains a.observed.declaration.required r × IsTrue (is_passed_on r) × Means w a r.name b

-- b ends a list in which a requires the first, and each of the n later ones is required transitively by the one before
abbrev pub ReadsBy : Scene → ℕ → Candidate → Candidate → Type 0
ReadsBy w zero a b = IsRequired w a b
ReadsBy w (suc n) a b = (c : Candidate) × ReadsBy w n a c × IsPassedOn w c b

-- a reads itself, and what ends such a list
abbrev pub Reads : Scene → Candidate → Candidate → Type 0
Reads w a b = (a ≡ b) ⊎ ((n : ℕ) × ReadsBy w n a b)
