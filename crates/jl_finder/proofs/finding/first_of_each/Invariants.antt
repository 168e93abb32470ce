use Rattle.std.proofs.Common.{◌≡◌, map}
use Rattle.jl_finder.specs.Observed.{first_of_each, name_of}
use Rattle.jl_finder.proofs.finding.first_of_each.Given as goal

abbrev pub invariant-loop-module : goal.invariant-loop-module
invariant-loop-module l = record {
  kept : l.kept.items ≡ first_of_each l.yielded;
  seen : l.seen.keys ≡ map name_of l.kept.items;
}
