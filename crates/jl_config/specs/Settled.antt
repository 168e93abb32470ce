-- How far the refusals are decided (`Configuration.resolve`): the words of the parts of a resolution. No public clause cites these.
use Rattle.std.specs.Prelude.{ℕ, ◌≤◌, Option, None, Some, Err}
use Rattle.jl_config.specs.declared.fault.ResolveFault.{ResolveFault}
use Rattle.jl_config.specs.Located.{Asked}
use Rattle.jl_config.specs.Refusals.{Applies, rank}
use Rattle.jl_config.specs.Resolves.{Resolves}

-- no refusal applies that is decided before the k-th
abbrev pub StartsAt : Asked → ℕ → Type 0
StartsAt q k = (f : ResolveFault) → Applies q f → k ≤ rank f

-- the refusal is the answer, or none applies before the k-th
abbrev pub Settles : Asked → ℕ → Option ResolveFault → Type 0
Settles q k None = StartsAt q k
Settles q k (Some f) = Resolves q (Err f)
