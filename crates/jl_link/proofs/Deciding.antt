-- A reference that is decided is resolved to the same again.
use Rattle.std.proofs.Common.{◌≡◌, ◌≢◌, ℕ, List, Option, Ok, Err, refl, ◌∙◌, ap}
use Rattle.jl_prim.specs.declared.numbers.ClassId.{ClassId}
use Rattle.jl_prim.specs.declared.error_kind.ErrorKind.{ErrorKind}
use Rattle.jl_tree.specs.Files.{File}
use Rattle.jl_loads.specs.declared.slot.Target.{Target}
use Rattle.jl_loads.specs.declared.slot.PoolSlot.{PoolSlot}
use Rattle.jl_loads.specs.declared.slot.PoolSlot.TheVariants.{Empty, Passed, Failed}
use Rattle.jl_loads.specs.Worlds.{State, slot_at}
use Rattle.jl_loads.specs.Outcomes.{Outcome}
use Rattle.jl_link.specs.References.{by_slot, resolve, resolve_anew}
use Rattle.jl_link.specs.Laws.{Onward}

pub passed_again : (files : List File) (at : ℕ) (s : State) (d : ClassId) (i : ℕ) (t : Target) → slot_at s d i ≡ Passed t → resolve files at s d i ≡ (s, Ok t)
passed_again files at s d i t e = ap (λ (x : PoolSlot). by_slot x s d i (resolve_anew files at s d i)) e

pub failed_again : (files : List File) (at : ℕ) (s : State) (d : ClassId) (i : ℕ) (kind : ErrorKind) (message : Option (List ℕ)) → slot_at s d i ≡ Failed kind message → resolve files at s d i ≡ (s, Err (record { kind = kind; message = message }))
failed_again files at s d i kind message e = ap (λ (x : PoolSlot). by_slot x s d i (resolve_anew files at s d i)) e

-- what is decided answers without a look at anything else, and leaves all as it is
same_answer : (x : PoolSlot) (f g : State) (d : ClassId) (i : ℕ) (p q : Outcome Target) → x ≢ Empty → by_slot x g d i p ≡ (g, (by_slot x f d i q).1)
same_answer Empty f g d i p q filled = absurd (filled refl)
same_answer (Passed t) f g d i p q filled = refl
same_answer (Failed kind message) f g d i p q filled = refl

pub decided_again : (files bfiles : List File) (at bt : ℕ) (f g : State) (d : ClassId) (i : ℕ) → Onward f g → slot_at f d i ≢ Empty → resolve files at g d i ≡ (g, (resolve bfiles bt f d i).1)
decided_again files bfiles at bt f g d i more filled =
    ap (λ (x : PoolSlot). by_slot x g d i (resolve_anew files at g d i)) (more.slots d i filled)
    ∙ same_answer (slot_at f d i) f g d i (resolve_anew files at g d i) (resolve_anew bfiles bt f d i) filled
