use Rattle.std.proofs.Common.{◌≡◌, map, length, IsTrue}
use Rattle.jl_base.specs.Rows.{member_of}
use Rattle.jl_base.specs.Made.{with_members}
use Rattle.jl_base.specs.Ready.{may_add_all}
use Rattle.jl_base.proofs.building.add_members.Given as goal

abbrev pub invariant-loop-rest : goal.invariant-loop-rest
invariant-loop-rest l = record {
  made : with_members l.builder (map member_of l.rest) ≡ with_members l.fn.builder (map member_of l.members);
  right : IsTrue (may_add_all l.builder (map member_of l.rest));
}

abbrev pub decreases-loop-rest : goal.decreases-loop-rest
decreases-loop-rest l = length l.rest
