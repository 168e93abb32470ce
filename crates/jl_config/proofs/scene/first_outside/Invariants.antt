use Rattle.std.proofs.Common.{◌≡◌, drop}
use Rattle.jl_config.specs.Lineages.{is_outside}
use Rattle.jl_config.specs.Tables.{first_of_places}
use Rattle.jl_config.proofs.scene.first_outside.Given as goal

abbrev pub invariant-loop-place : goal.invariant-loop-place
invariant-loop-place l = first_of_places (is_outside l.config) l.candidates (drop l.place-index l.places) ≡ first_of_places (is_outside l.config) l.candidates l.places
