use Rattle.std.proofs.Common.{ℕ, Option, drop}
use Rattle.jl_config.specs.Cycles.{IsFirstOnCycle}
use Rattle.jl_config.proofs.cycle.first_on_cycle.Given as goal

abbrev pub invariant-loop-place : goal.invariant-loop-place
invariant-loop-place l = (found : Option ℕ) → IsFirstOnCycle l.rows (drop l.place-index l.places) found → IsFirstOnCycle l.rows l.places found
