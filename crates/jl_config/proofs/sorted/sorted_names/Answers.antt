use Rattle.jl_config.proofs.Names.{text_is}
use Rattle.jl_config.proofs.ReadOrders.{from_any}
use Rattle.jl_config.proofs.sorted.sorted_names.Goals as goal

pub returns : goal.returns
returns c = record {
  rise = c.in_ok-sorted.ensures.rise;
  only = c.in_ok-sorted.ensures.only;
  all = λ x h. from_any text_is c.args.names.items c.in_ok-sorted.sorted.items x h c.in_ok-sorted.ensures.all;
}
