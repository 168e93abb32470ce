use Rattle.jl_config.specs.MemberRows.{for_service}
use Rattle.jl_config.specs.Tables.{listed}
use Rattle.jl_config.proofs.Lists.{filter_map_step}
use Rattle.jl_config.proofs.provisions.table_of.Goals as goal

pub loop-provision-preserved : goal.loop-provision-preserved
loop-provision-preserved c = λ service.
    filter_map_step (for_service service) c.args.provisions.now c.loop-provision.provision-index c.provision-item.result (listed c.loop-provision.table service) (listed c.note_place.new.table service) c.loop-provision-test.true c.provision-item.is
    (c.loop-provision.invariant service) (c.in_ok-note_place.ensures service)
