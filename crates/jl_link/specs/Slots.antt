-- What slots of a class keep, what keeping leaves, and members that are there (JVMS 5.4.3).
use Rattle.std.specs.Prelude.{◌≡◌, ℕ, List, Option, None, Some, Result, Ok, Err, ⊤}
use Rattle.jl_prim.specs.declared.numbers.ClassId.{ClassId}
use Rattle.jl_prim.specs.declared.error_kind.ErrorKind.{ErrorKind}
use Rattle.jl_loads.specs.declared.slot.Target.{Target}
use Rattle.jl_loads.specs.declared.slot.PoolSlot.{PoolSlot}
use Rattle.jl_loads.specs.declared.slot.PoolSlot.TheVariants.{Empty, Passed, Failed}
use Rattle.jl_loads.specs.declared.end.LinkEnd.{LinkEnd}
use Rattle.jl_loads.specs.declared.end.LinkEnd.TheVariants as ends
use Rattle.jl_loads.specs.Ends.{Tells}
use Rattle.jl_loads.specs.Worlds.{State, with_slot}
use Rattle.jl_link.specs.declared.member.Member.{Member}
use Rattle.jl_link.specs.declared.kind.MemberKind.{MemberKind}
use Rattle.jl_link.specs.declared.kind.MemberKind.TheVariants.{FieldEntry, MethodEntry, InterfaceMethodEntry}
use Rattle.jl_link.specs.Members.{IsFieldThere, IsMethodThere}

-- what a slot answers, where it is filled, if there is memory for it
abbrev pub Answers : PoolSlot → Option (Result Target LinkEnd) → Type 0
Answers Empty None = ⊤
Answers (Passed t) (Some (Ok u)) = u ≡ t
Answers (Passed t) (Some (Err e)) = e ≡ ends.NoMemory
Answers (Failed kind message) (Some (Err e)) = Tells e (record { kind = kind; message = message })
Answers _ _ = ⊥

-- the error is kept, or nothing is
abbrev pub KeepsError : ClassId → ℕ → State → ErrorKind → Option (List ℕ) → LinkEnd → State → Type 0
KeepsError d i old kind message (ends.Throws k m) new = (k ≡ kind) × (m ≡ message) × (new ≡ with_slot d i (Failed kind message) old)
KeepsError d i old kind message ends.ReadFault new = ⊥
KeepsError d i old kind message ends.NoMemory new = new ≡ old

-- The target that was found, or the error that is thrown, is kept in the slot, if there is memory for it. What tells nothing is not kept.
abbrev pub Settles : ClassId → ℕ → State → Result Target LinkEnd → Result Target LinkEnd → State → Type 0
Settles d i old (Ok t) (Ok u) new = (u ≡ t) × (new ≡ with_slot d i (Passed t) old)
Settles d i old (Ok t) (Err e) new = (e ≡ ends.NoMemory) × (new ≡ old)
Settles d i old (Err e) (Ok u) new = ⊥
Settles d i old (Err (ends.Throws kind message)) (Err e) new = KeepsError d i old kind message e new
Settles d i old (Err ends.ReadFault) (Err e) new = (e ≡ ends.ReadFault) × (new ≡ old)
Settles d i old (Err ends.NoMemory) (Err e) new = (e ≡ ends.NoMemory) × (new ≡ old)

-- a member that was found is in the list of its class
abbrev pub IsMemberThere : MemberKind → State → Member → Type 0
IsMemberThere FieldEntry s m = IsFieldThere s m
IsMemberThere MethodEntry s m = IsMethodThere s m
IsMemberThere InterfaceMethodEntry s m = IsMethodThere s m
