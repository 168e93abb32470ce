use Rattle.std.proofs.Common.{◌≡◌, ◌-◌, ◌≤◌, length, map}
use Rattle.std.specs.String.{string_bytes}
use Rattle.jl_words.specs.Reading as reading
use Rattle.jl_words.proofs.options.options.Given as goal

abbrev pub invariant-loop : goal.invariant-loop
invariant-loop l = record {
  within : l.at ≤ length l.words;
  reads : reading.options_from (length l.words - l.counter) l.verb (map string_bytes l.words) l.given l.at ≡ reading.options_from (length l.words) l.verb (map string_bytes l.words) reading.nothing 1;
}
