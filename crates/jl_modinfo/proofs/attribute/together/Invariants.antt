use Rattle.std.proofs.Common.{◌≡◌}
use Rattle.jl_modinfo.specs.Reading.{attributes_in}
use Rattle.jl_modinfo.proofs.PartLaws.{all_before}
use Rattle.jl_modinfo.proofs.attribute.together.Given as goal

abbrev pub invariant-loop-part : goal.invariant-loop-part
invariant-loop-part l = all_before l.rest.items l.behind ≡ attributes_in l.fn.read.items

abbrev pub decreases-loop-part : goal.decreases-loop-part
decreases-loop-part l = goal.left-loop-part l
