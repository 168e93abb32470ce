use Rattle.std.proofs.Common.{◌≡◌, ◌+◌, ◌*◌}
use Rattle.std.specs.List.{list_any}
use Rattle.jl_loads.specs.Worlds.{line_by}
use Rattle.jl_link.specs.Members.{wanted}
use Rattle.jl_link.specs.Selection.{overrides_by, is_way, has_way}
use Rattle.jl_link.proofs.overriding.+overriding.Given as goal

abbrev pub decreases-overrides : goal.decreases-overrides
decreases-overrides l = 3 * l.most

abbrev pub decreases-has_way : goal.decreases-has_way
decreases-has_way l = 3 * l.most + 2

abbrev pub decreases-is_way : goal.decreases-is_way
decreases-is_way l = 3 * l.most + 1

abbrev pub invariant-has_way-loop-at : goal.invariant-has_way-loop-at
invariant-has_way-loop-at l = list_any (is_way (overrides_by l.most l.loads (wanted l.name l.desc)) l.loads (wanted l.name l.desc) l.b l.a) (line_by l.left l.loads l.at) ≡ has_way (overrides_by l.most l.loads (wanted l.name l.desc)) l.loads (wanted l.name l.desc) l.b l.a

abbrev pub decreases-has_way-loop-at : goal.decreases-has_way-loop-at
decreases-has_way-loop-at l = l.left
