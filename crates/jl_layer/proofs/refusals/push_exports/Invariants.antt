use Rattle.std.proofs.Common.{◌≡◌, ◌++◌, take}
use Rattle.std.specs.List.{filter_map}
use Rattle.jl_layer.specs.Claims.{taken_from}
use Rattle.jl_layer.specs.Meaning.{reaching}
use Rattle.jl_layer.proofs.refusals.push_exports.Given as goal

abbrev pub invariant-loop-grant : goal.invariant-loop-grant
invariant-loop-grant l = l.claims.items ≡ l.fn.claims.items ++ taken_from l.member (filter_map (reaching l.reader) (take l.grant-index l.member.observed.declaration.exports))
