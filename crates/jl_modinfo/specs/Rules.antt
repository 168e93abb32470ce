-- The rules on a whole declaration: java.base, and the packages that it names (JLS 7.7.1, 7.7.2, 7.7.4; JVMS 4.7.25, 4.7.26).
use Rattle.std.specs.Prelude.{ℕ, List, [], ◌∷◌, ◌++◌, Option, Bool, true, false, not, map, find, if◌then◌else◌}
use Rattle.std.specs.List.{flat_map}
use Rattle.jl_logic.specs.Order.{is_text}
use Rattle.jl_prim.specs.declared.declaration.Requires.{Requires}
use Rattle.jl_prim.specs.declared.declaration.Grant.{Grant}
use Rattle.jl_prim.specs.declared.declaration.Provides.{Provides}
use Rattle.jl_prim.specs.declared.declaration.Declaration.{Declaration}
use Rattle.jl_names.specs.Names.{package_of}
use Rattle.jl_modinfo.specs.Meaning.{java_base}
use Rattle.jl_tables.specs.Meaning.{is_among}

abbrev pub is_none : List Requires → Bool
is_none [] = true
is_none (r ∷ rs) = false

-- java.base requires nothing, and each other module requires java.base
abbrev pub keeps_base_rule : List ℕ → List Requires → Bool
keeps_base_rule name required =
    if is_text name java_base then is_none required else is_among java_base (map (λ (r : Requires). r.name) required)

-- the packages of a table of exports or opens
abbrev pub granted : List Grant → List (List ℕ)
granted grants = map (λ (g : Grant). g.«package») grants

-- the packages of the classes that implement services
abbrev pub implementing : List Provides → List (List ℕ)
implementing provides = flat_map (λ (p : Provides). map package_of p.implementations) provides

-- the packages that a declaration exports, opens or implements in, in the order of its tables
abbrev pub named_packages : Declaration → List (List ℕ)
named_packages d = granted d.exports ++ (granted d.opens ++ implementing d.provides)

-- the first of them that is not among the packages
abbrev pub missing_package : Declaration → Option (List ℕ)
missing_package d = find (λ p. not (is_among p d.packages)) (named_packages d)
