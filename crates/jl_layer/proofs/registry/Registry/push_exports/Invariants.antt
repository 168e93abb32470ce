use Rattle.std.proofs.Common.{◌≡◌, ◌++◌, take, flat_map}
use Rattle.jl_layer.specs.Meaning.{exports_by}
use Rattle.jl_layer.proofs.registry.Registry.push_exports.Given as goal

abbrev pub invariant-loop-grant : goal.invariant-loop-grant
invariant-loop-grant l = l.statements.items ≡ l.fn.statements.items ++ flat_map (exports_by l.self l.l l.m) (take l.grant-index l.grants)
