use Rattle.std.proofs.Common.{◌≡◌, ◌+◌, ◌++◌, length}
use Rattle.jl_layer.proofs.placing.place_loaders.Given as goal

abbrev pub invariant-loop-part : goal.invariant-loop-part
invariant-loop-part l = record {
  loaders : l.loaders.loaders ≡ l.fn.loaders.loaders ++ l.yielded;
  base : l.loaders.base ≡ l.fn.loaders.base;
  constraints : l.loaders.constraints ≡ l.fn.loaders.constraints;
  room : l.loaders.spare + length l.yielded ≡ l.fn.loaders.spare;
}
