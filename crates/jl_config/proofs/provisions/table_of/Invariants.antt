use Rattle.std.proofs.Common.{◌≡◌, ℕ, List, take}
use Rattle.jl_config.specs.MemberRows.{providers}
use Rattle.jl_config.specs.Tables.{listed}
use Rattle.jl_config.proofs.provisions.table_of.Given as goal

abbrev pub invariant-loop-provision : goal.invariant-loop-provision
invariant-loop-provision l = (service : List ℕ) → listed l.table service ≡ providers (take l.provision-index l.provisions) service
