use Rattle.jl_class.proofs.PlaceLaws.{pool_begins, past_count}
use Rattle.jl_class.proofs.front.class_pool.Goals as goal

pub pool_count-requires : goal.pool_count-requires
pool_count-requires c = pool_begins c.args.place.bytes.now c.args.place.at c.in_ok-pool.pool c.in_ok-pool.next.at c.in_ok-pool.ensures.stands

pub first_of_modules-requires : goal.first_of_modules-requires
first_of_modules-requires c = past_count c.args.place.bytes.now c.args.place.at c.pool_count.result _ c.in_ok-pool.pool c.in_ok-pool.next.at c.in_ok-pool.ensures.stands c.pool_count.ensures
