use Rattle.std.proofs.Common.{◌≡◌, map, take}
use Rattle.std.specs.String.{string_bytes}
use Rattle.jl_natives.specs.Ascii.{in_ascii}
use Rattle.jl_natives.proofs.numbers.ascii.Given as goal

abbrev pub invariant-loop-unit : goal.invariant-loop-unit
invariant-loop-unit l = string_bytes l.text ≡ map in_ascii (take l.unit-index l.units)
