use Rattle.std.proofs.Common.{◌≡◌, ◌++◌, take}
use Rattle.jl_objops.specs.Fields.{declared}
use Rattle.jl_objops.proofs.slots.push_declared.Given as goal

abbrev pub invariant-loop-field : goal.invariant-loop-field
invariant-loop-field l = l.kinds.items ≡ l.fn.kinds.items ++ declared (take l.field-index l.fields)
