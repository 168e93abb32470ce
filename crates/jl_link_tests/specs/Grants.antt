-- Exports and opens of packages that a module has (JLS 7.7.2).
use Rattle.std.specs.Prelude.{ℕ, List, Bool, ◌&&◌}
use Rattle.std.specs.List.{list_all, list_any}
use Rattle.jl_logic.specs.Order.{is_text}
use Rattle.jl_prim.specs.declared.declaration.Grant.{Grant}
use Rattle.jl_prim.specs.declared.declaration.Observed.{Observed}

-- the package of the grant is one of these
abbrev pub has_package : List (List ℕ) → Grant → Bool
has_package packages g = list_any (is_text g.«package») packages

-- the module exports and opens packages that it has
abbrev pub has_its_grants : Observed → Bool
has_its_grants o = list_all (has_package o.declaration.packages) o.declaration.exports && list_all (has_package o.declaration.packages) o.declaration.opens
