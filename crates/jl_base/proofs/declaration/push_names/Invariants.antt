use Rattle.std.proofs.Common.{◌≡◌, ◌++◌, map, take}
use Rattle.jl_base.proofs.declaration.push_names.Given as goal

abbrev pub invariant-loop-text : goal.invariant-loop-text
invariant-loop-text l = l.names.items ≡ l.fn.names.items ++ map (λ text. text.now) (take l.text-index l.texts)
