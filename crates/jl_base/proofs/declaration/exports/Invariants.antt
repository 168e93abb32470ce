use Rattle.std.proofs.Common.{◌≡◌, map, take}
use Rattle.jl_base.specs.Base.{to_all}
use Rattle.jl_base.proofs.declaration.exports.Given as goal

abbrev pub invariant-loop-text : goal.invariant-loop-text
invariant-loop-text l = l.grants.items ≡ map (λ text. to_all text.now) (take l.text-index l.texts)
