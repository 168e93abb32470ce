use Rattle.std.proofs.Common.{◌≡◌, drop, pos}
use Rattle.jl_natives.specs.Rows.{hash_from}
use Rattle.jl_natives.proofs.units.hash_code.Given as goal

abbrev pub invariant-loop-unit : goal.invariant-loop-unit
invariant-loop-unit l = hash_from l.hash (drop l.unit-index l.text) ≡ hash_from (pos 0) l.text
