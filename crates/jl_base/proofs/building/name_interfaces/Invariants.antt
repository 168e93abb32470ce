use Rattle.std.proofs.Common.{◌≡◌, map, length, IsTrue}
use Rattle.jl_base.specs.Made.{with_interfaces}
use Rattle.jl_base.specs.Ready.{are_interface_names}
use Rattle.jl_base.proofs.building.name_interfaces.Given as goal

abbrev pub invariant-loop-rest : goal.invariant-loop-rest
invariant-loop-rest l = record {
  made : with_interfaces l.builder (map (λ name. name.now) l.rest) ≡ with_interfaces l.fn.builder (map (λ name. name.now) l.names);
  right : IsTrue (are_interface_names (map (λ name. name.now) l.rest));
}

abbrev pub decreases-loop-rest : goal.decreases-loop-rest
decreases-loop-rest l = length l.rest
