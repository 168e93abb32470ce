use Rattle.std.proofs.Common.{◌≡◌}
use Rattle.jl_verify.specs.Frames.{stacked}
use Rattle.jl_verify.specs.Rows.{onto}
use Rattle.jl_verify.proofs.moving.put_items.Given as goal

abbrev pub invariant-loop-item : goal.invariant-loop-item
invariant-loop-item l = l.f ≡ onto (stacked l.yielded) l.fn.f
