use Rattle.jl_heap.proofs.Alike as alike
use Rattle.jl_heap.proofs.law.shapes_stay.Goals as goal

pub returns : goal.returns
returns c = record {
  slot_alike = λ at v x. alike.slot_alike at v x.shape x.slots;
  slot_shape = λ at v x e. alike.slot_shape at v x.shape x.slots e;
  slot_values = λ at v x. alike.slot_values at v x.shape x.slots;
  mirror_alike = λ what x. alike.mirror_alike what x.shape x.slots;
  mirror_what = λ what x. alike.mirror_what what x.shape x.slots;
  text_alike = λ more x. alike.text_alike more x.shape x.slots;
  text_more = λ more x. alike.text_more more x.shape x.slots;
  list_alike = λ v x. alike.list_alike v x.shape x.slots;
  list_more = λ v x. alike.list_more v x.shape x.slots;
}
