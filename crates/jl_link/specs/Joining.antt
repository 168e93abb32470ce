-- Loaders that constraints of a name join, and the module to which they lead it (JVMS 5.3.4).
use Rattle.std.specs.Prelude.{ℕ, zero, suc, List, [], ◌∷◌, ◌++◌, length, Option, None, Bool, ◌&&◌, ◌||◌, ◌==◌, if◌then◌else◌}
use Rattle.jl_logic.specs.Order.{is_text}
use Rattle.jl_prim.specs.declared.numbers.ModuleId.{ModuleId}
use Rattle.jl_prim.specs.declared.numbers.LoaderId.{LoaderId}
use Rattle.jl_loaders.specs.declared.constraint.Constraint.{Constraint}
use Rattle.jl_loaders.specs.Loaders.{State, lead}
use Rattle.jl_link.specs.Members.{first_given}

-- the same loader
abbrev pub is_same_loader : LoaderId → LoaderId → Bool
is_same_loader a b = a.0 == b.0

-- A chain of constraints of the name joins the two: one of the others does, or the first constraint joins their two chains, in one direction or the other.
unfoldable pub are_joined : List Constraint → List ℕ → LoaderId → LoaderId → Bool
are_joined [] name a b = is_same_loader a b
are_joined (c ∷ cs) name a b = are_joined cs name a b || (is_text c.name name && ((are_joined cs name a c.one && are_joined cs name c.other b) || (are_joined cs name a c.other && are_joined cs name c.one b)))

-- loaders by their numbers, so many
unfoldable pub loaders_to : ℕ → List LoaderId
loaders_to zero = []
loaders_to (suc n) = loaders_to n ++ record { 0 = suc n } ∷ []

-- where a loader that is joined to one leads the name
abbrev pub joined_lead : State → List ℕ → LoaderId → LoaderId → Option ModuleId
joined_lead s name l k = if are_joined s.constraints name l k then lead s k name else None

-- The module to which the loaders that are joined to one lead the name. Constraints that stand lead to no other.
abbrev pub group_lead : State → List ℕ → LoaderId → Option ModuleId
group_lead s name l = first_given (joined_lead s name l) (loaders_to (length s.loaders))
