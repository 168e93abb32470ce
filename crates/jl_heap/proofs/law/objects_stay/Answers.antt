use Rattle.std.proofs.Common.{ℕ, ◌+◌, ◌-◌, refl, ap}
use Rattle.jl_prim.specs.declared.numbers.ObjRef.{ObjRef}
use Rattle.jl_heap.specs.Objects.{new_object}
use Rattle.jl_heap.proofs.Setting.{slot_set, slot_beside}
use Rattle.jl_heap.proofs.Staying.{past_end, pushed, old_one, changed_one, other_one, length_changed}
use Rattle.jl_heap.proofs.law.objects_stay.Goals as goal

numbered : ℕ → ObjRef
numbered n = record { 0 = n + 1 }

pub returns : goal.returns
unfolding numbered
returns c = record {
  unused = λ h. past_end h.objects;
  new = λ shape h. pushed h.objects (new_object shape);
  stays = λ shape h o x e. old_one h.objects (new_object shape) x o.0 e;
  changed = λ change h o x e. changed_one change h.objects x o.0 e;
  others = λ change h o p x e ne. other_one change h.objects x o.0 p.0 e ne;
  numbers = λ change h o. ap numbered (length_changed change h.objects (o.0 - 1));
  grown_text = λ more h o p. refl;
  grown_list = λ v h o p. refl;
  slot_set = slot_set;
  slot_beside = slot_beside;
}
