use Rattle.std.proofs.Common.{◌≡◌, take}
use Rattle.std.specs.List.{sum_by}
use Rattle.jl_modinfo.specs.Layout.{capped, class_length}
use Rattle.jl_modinfo.proofs.writable.count_classes.Given as goal

abbrev pub invariant-loop-service : goal.invariant-loop-service
invariant-loop-service l = l.total ≡ capped (sum_by class_length (take l.service-index l.provides))
