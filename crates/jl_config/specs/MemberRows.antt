-- The places that the closure of the set begins with, and those that each place brings in (`Configuration.resolve`). No public clause cites these.
use Rattle.std.specs.Prelude.{ℕ, ◌+◌, List, [], ◌∷◌, ◌++◌, map, Option, None, Some, Bool, false, ◌&&◌, ◌==◌, slice_get, if◌then◌else◌}
use Rattle.std.specs.List.{filter_map, flat_map}
use Rattle.std.specs.Option.{option_map_or}
use Rattle.jl_prim.specs.declared.declaration.Requires.{Requires}
use Rattle.jl_prim.specs.declared.declaration.Provides.{Provides}
use Rattle.jl_prim.specs.declared.declaration.Observed.{Observed}
use Rattle.jl_logic.specs.Order.{is_text}
use Rattle.jl_config.specs.declared.candidate.Candidate.{Candidate}
use Rattle.jl_config.specs.declared.provisions.Provision.{Provision}
use Rattle.jl_config.specs.Located.{Scene, candidate_name, is_here}
use Rattle.jl_config.specs.Members.{is_followed}
use Rattle.jl_config.specs.Places.{place_named, candidates_at}

-- a finder observes the module at the place
abbrev pub here_at : Scene → ℕ → Bool
here_at w p = option_map_or (is_here w) (slice_get w.candidates p) false

-- a place whose module a finder observes
abbrev pub kept_here : Scene → Option ℕ → Option ℕ
kept_here w None = None
kept_here w (Some p) = if here_at w p then Some p else None

-- the place where a name is located, if a finder observes the module
abbrev pub found_place : Scene → List ℕ → Option ℕ
found_place w name = kept_here w (place_named name w.candidates)

-- the place of what an entry that is followed needs
abbrev pub needed_place : Scene → Requires → Option ℕ
needed_place w r = if is_followed r then found_place w r.name else None

-- ---- providers

-- the place is this one
abbrev pub is_place : ℕ → Option ℕ → Bool
is_place p None = false
is_place p (Some q) = q == p

-- what the module at a place provides, if it is found
abbrev pub provided_by : ℕ → List Provides → List Provision
provided_by p entries = map (λ (e : Provides). record { service = e.service; place = p }) entries

-- what a module that is found provides, at its place
abbrev pub provisions_of : Scene → ℕ → Candidate → List Provision
provisions_of w p s = if is_place p (found_place w (candidate_name s)) then provided_by p s.observed.declaration.provides else []

-- what the modules from a place on provide
abbrev pub provisions_from : Scene → ℕ → List Candidate → List Provision
provisions_from w p [] = []
provisions_from w p (s ∷ ss) = provisions_of w p s ++ provisions_from w (p + 1) ss

-- with binding what all modules that are found provide
abbrev pub offers : Scene → List Provision
offers w = if w.binds then provisions_from w 0 w.candidates else []

-- the place of a module that provides the service
abbrev pub for_service : List ℕ → Provision → Option ℕ
for_service service v = if is_text v.service service then Some v.place else None

-- the places of those that provide a service
abbrev pub providers : List Provision → List ℕ → List ℕ
providers vs service = filter_map (for_service service) vs

-- ---- rows and starts

-- the places of what a module needs
abbrev pub needed_places : Scene → Candidate → List ℕ
needed_places w s = if is_here w s then filter_map (needed_place w) s.observed.declaration.required else []

-- the places that a module brings in
abbrev pub member_row : Scene → (List ℕ → List ℕ) → Candidate → List ℕ
member_row w serve s = needed_places w s ++ flat_map serve s.observed.declaration.uses

-- for each place those that its module brings in
abbrev pub member_rows : Scene → List (List ℕ)
member_rows w = map (member_row w (providers (offers w))) w.candidates

-- the places of ancestors' modules
abbrev pub above_from : Scene → ℕ → List Candidate → List ℕ
above_from w p [] = []
above_from w p (s ∷ ss) = if is_here w s then above_from w (p + 1) ss else p ∷ above_from w (p + 1) ss

-- the places with which the set begins
abbrev pub member_starts : Scene → List ℕ
member_starts w = filter_map (found_place w) w.roots ++ (if w.binds then above_from w 0 w.candidates else [])

-- ---- marks and places

-- the marks of modules that a finder observes
abbrev pub cleared : Scene → List Candidate → List Bool → List Bool
cleared w [] marks = []
cleared w (s ∷ ss) [] = []
cleared w (s ∷ ss) (mark ∷ marks) = (mark && is_here w s) ∷ cleared w ss marks

-- the modules at places
abbrev pub modules_at : Scene → List ℕ → List Observed
modules_at w ps = map (λ (s : Candidate). s.observed) (candidates_at w ps)
