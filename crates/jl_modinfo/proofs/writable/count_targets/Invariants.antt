use Rattle.std.proofs.Common.{◌≡◌, take}
use Rattle.std.specs.List.{sum_by}
use Rattle.jl_modinfo.specs.Layout.{capped, target_length}
use Rattle.jl_modinfo.proofs.writable.count_targets.Given as goal

abbrev pub invariant-loop-grant : goal.invariant-loop-grant
invariant-loop-grant l = l.total ≡ capped (sum_by target_length (take l.grant-index l.grants))
