use Rattle.std.proofs.Common.{◌≡◌, ◌++◌, map}
use Rattle.std.specs.String.{string_bytes}
use Rattle.jl_names.specs.Dots as dots
use Rattle.jl_names.proofs.dots.swapped.Given as goal

abbrev pub invariant-loop-character : goal.invariant-loop-character
invariant-loop-character l = string_bytes l.other ++ map (dots.swapped l.from l.to) l.character-iterator.rest.now ≡ map (dots.swapped l.from l.to) l.text
