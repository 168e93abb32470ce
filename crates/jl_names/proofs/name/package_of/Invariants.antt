use Rattle.std.proofs.Common.{◌≡◌, ◌≤◌, take, length}
use Rattle.jl_names.specs.Names as names
use Rattle.jl_names.proofs.name.package_of.Given as goal

abbrev pub invariant-loop-at : goal.invariant-loop-at
invariant-loop-at l = record {
  within : l.end ≤ length l.name;
  front : take l.end l.name ≡ names.package_of (take l.at l.name);
}
