-- Laws of resolutions (`Configuration.resolve`).
use Rattle.std.specs.Prelude.{◌≡◌, ◌≢◌, ◌↔◌, Result, Err}
use Rattle.jl_config.specs.declared.fault.ResolveFault.{ResolveFault}
use Rattle.jl_config.specs.declared.fault.ResolveFault.TheVariants.{NoMemory}
use Rattle.jl_config.specs.Configurations.{Configuration}
use Rattle.jl_config.specs.Located.{Asked}
use Rattle.jl_config.specs.Refusals.{Applies}
use Rattle.jl_config.specs.Resolves.{Resolves}

-- Each resolution has an answer other than want of memory.
abbrev pub ResolvesAlways : Type 0
ResolvesAlways = (q : Asked) → (r : Result Configuration ResolveFault) × Resolves q r × (r ≢ Err NoMemory)

-- Two answers of one resolution, neither of which is want of memory, are the same.
abbrev pub ResolvesOnce : Type 0
ResolvesOnce = (q : Asked) (r s : Result Configuration ResolveFault) → Resolves q r → Resolves q s → r ≢ Err NoMemory → s ≢ Err NoMemory → r ≡ s

-- A resolution is refused exactly where the condition of a refusal holds.
abbrev pub RefusesWhereOneHolds : Type 0
RefusesWhereOneHolds = (q : Asked)
    → ((f : ResolveFault) × (f ≢ NoMemory) × Resolves q (Err f)) ↔ ((f : ResolveFault) × Applies q f)
