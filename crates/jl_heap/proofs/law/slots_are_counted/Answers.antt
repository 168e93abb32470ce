use Rattle.std.proofs.Common.{refl}
use Rattle.jl_heap.proofs.Counting.{new_counted, slot_counted, mirror_counted, text_counted, list_counted}
use Rattle.jl_heap.proofs.law.slots_are_counted.Goals as goal

pub returns : goal.returns
returns c = record {
  none = refl;
  new = new_counted;
  slot = slot_counted;
  mirror = mirror_counted;
  text = text_counted;
  list = list_counted;
}
