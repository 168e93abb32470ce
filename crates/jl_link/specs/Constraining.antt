-- The constraints that a resolved member imposes on two loaders (JVMS 5.3.4, 5.4.3.2 to 5.4.3.4).
use Rattle.std.specs.Prelude.{ℕ, List, [], ◌∷◌, ◌++◌, filter_map, Option, None, Some, Result, Ok, Err, codes, ◌==◌, if◌then◌else◌}
use Rattle.jl_names.specs.Dots.{dotted}
use Rattle.jl_names.specs.Descriptors.{descriptor_read, class_in}
use Rattle.jl_names.specs.declared.types.FieldType.{FieldType}
use Rattle.jl_names.specs.declared.types.Descriptor.{Descriptor}
use Rattle.jl_names.specs.declared.types.Descriptor.TheVariants as descriptors
use Rattle.jl_names.specs.declared.fault.TextFault.{TextFault}
use Rattle.jl_prim.specs.declared.numbers.ModuleId.{ModuleId}
use Rattle.jl_prim.specs.declared.numbers.LoaderId.{LoaderId}
use Rattle.jl_prim.specs.declared.error_kind.ErrorKind.TheVariants as errors
use Rattle.jl_loaders.specs.Constraints.{with_constraint}
use Rattle.jl_loads.specs.Worlds.{State, Thrown, module_text}
use Rattle.jl_loads.specs.Outcomes.{Outcome, and_then, error}
use Rattle.jl_link.specs.Joining.{is_same_loader, group_lead}

-- ---- the names in a descriptor

-- the types of a descriptor, parameters first
abbrev pub types_of : Result Descriptor TextFault → List FieldType
types_of (Ok (descriptors.Field t)) = t ∷ []
types_of (Ok (descriptors.Method params None)) = params
types_of (Ok (descriptors.Method params (Some result))) = params ++ result ∷ []
types_of (Err f) = []

-- the names of classes in a descriptor, in order
abbrev pub names_in : List ℕ → List (List ℕ)
names_in desc = filter_map (class_in desc) (types_of (descriptor_read desc))

-- ---- imposing

-- the two modules to which two groups lead, where they are two
abbrev pub apart : Option ModuleId → Option ModuleId → Option (ModuleId × ModuleId)
apart (Some m) (Some n) = if m.0 == n.0 then None else Some (m, n)
apart _ _ = None

-- the error of a name that two loaders lead to two modules
abbrev pub clash : State → List ℕ → ModuleId × ModuleId → Thrown
clash s name (m, n) = error errors.LinkageError (codes "Clash " ++ dotted name ++ codes " " ++ module_text s m ++ codes " " ++ module_text s n)

-- the constraint more
abbrev pub constrained : List ℕ → LoaderId → LoaderId → State → State
constrained name a b s = record s { layers = record s.layers { loaders = with_constraint name a b s.layers.loaders } }

-- the constraint is added, or what it clashes with is thrown
abbrev pub imposed : Option (ModuleId × ModuleId) → State → List ℕ → LoaderId → LoaderId → Outcome Unit
imposed (Some ms) s name a b = (s, Err (clash s name ms))
imposed None s name a b = (constrained name a b s, Ok tt)

-- a name means one class to both loaders
abbrev pub impose : State → List ℕ → LoaderId → LoaderId → Outcome Unit
impose s name a b = imposed (apart (group_lead s.layers.loaders name a) (group_lead s.layers.loaders name b)) s name a b

-- Each name in turn. What was added before a clash stays.
unfoldable pub impose_each : State → LoaderId → LoaderId → List (List ℕ) → Outcome Unit
impose_each s a b [] = (s, Ok tt)
impose_each s a b (name ∷ names) = and_then (impose s name a b) (λ t u. impose_each t a b names)

-- The names of a descriptor mean one class each to two loaders, where they are two.
abbrev pub agree : State → LoaderId → LoaderId → List ℕ → Outcome Unit
agree s a b desc = if is_same_loader a b then (s, Ok tt) else impose_each s a b (names_in desc)
