-- Laws of what was decided: it stays so, whatever is loaded, noted, imposed or added (JVMS 5.4.3).
use Rattle.std.specs.Prelude.{◌≡◌, ◌≢◌, ℕ, List, Option, Ok, Err}
use Rattle.jl_logic.specs.Lists.{IsFront}
use Rattle.jl_prim.specs.declared.numbers.ClassId.{ClassId}
use Rattle.jl_prim.specs.declared.error_kind.ErrorKind.{ErrorKind}
use Rattle.jl_tree.specs.Files.{File}
use Rattle.jl_layer.specs.Laws as over
use Rattle.jl_loads.specs.declared.slot.Target.{Target}
use Rattle.jl_loads.specs.declared.slot.PoolSlot.TheVariants.{Empty, Passed, Failed}
use Rattle.jl_loads.specs.Worlds.{State, IsClass, slot_at, with_slot}
use Rattle.jl_loads.specs.Laws.{AreSound, SlotsStay}
use Rattle.jl_link.specs.References.{resolve, resolve_anew}
use Rattle.jl_link.specs.Standing.{RefersTo}

-- What is there stays, and more comes behind it: of layers, constraints, classes, what was read and what was decided.
pub record Onward (old new : State) : Type 0 where
  pub layers : over.Grows old.layers new.layers
  pub constraints : IsFront old.layers.loaders.constraints new.layers.loaders.constraints
  pub classes : IsFront old.classes new.classes
  pub slots : SlotsStay old new
  pub kept : IsFront old.kept new.kept

-- no reference is decided that was not
abbrev pub StayEmpty : State → State → Type 0
StayEmpty old new = (d : ClassId) (i : ℕ) → slot_at old d i ≡ Empty → slot_at new d i ≡ Empty

-- Each reference that passed refers to its target in this state, and each class of which something is decided is there.
pub record AllStand (s : State) : Type 0 where
  pub passed : (d : ClassId) (i : ℕ) (t : Target) → slot_at s d i ≡ Passed t → RefersTo s d i t
  pub there : (d : ClassId) (i : ℕ) → slot_at s d i ≢ Empty → IsClass s d

-- What was decided stays. A reference that passed refers to the same target in every later state, found anew at any step, whatever the files are; one that failed throws the same error; and of either nothing is added.
pub record DecidedStays : Type 0 where
  pub same : (f : State) → Onward f f
  pub onward : (f g h : State) → Onward f g → Onward g h → Onward f h
  -- a reference that is resolved anew adds alone
  pub goes : (files : List File) (at : ℕ) (s : State) (d : ClassId) (i : ℕ) → Onward s (resolve_anew files at s d i).0
  -- why a reference refers to a target holds on, and it is what is found anew
  pub refers : (f g : State) (d : ClassId) (i : ℕ) (t : Target) → AreSound f → Onward f g → RefersTo f d i t → RefersTo g d i t
  pub anew : (files : List File) (at : ℕ) (s : State) (d : ClassId) (i : ℕ) (t : Target) → AreSound s → RefersTo s d i t → (resolve_anew files at s d i).1 ≡ Ok t
  -- all references stand, whatever comes, and where one more is decided
  pub stand : (f g : State) → AreSound f → Onward f g → StayEmpty f g → AllStand f → AllStand g
  pub decided : (s : State) (d : ClassId) (i : ℕ) (t : Target) → AreSound s → AllStand s → IsClass s d → slot_at s d i ≡ Empty → RefersTo s d i t → AllStand (with_slot d i (Passed t) s)
  pub refused : (s : State) (d : ClassId) (i : ℕ) (kind : ErrorKind) (message : Option (List ℕ)) → AreSound s → AllStand s → IsClass s d → slot_at s d i ≡ Empty → AllStand (with_slot d i (Failed kind message) s)
  -- once decided, always the same, with nothing added
  pub passed : (files : List File) (at : ℕ) (s : State) (d : ClassId) (i : ℕ) (t : Target) → slot_at s d i ≡ Passed t → resolve files at s d i ≡ (s, Ok t)
  pub failed : (files : List File) (at : ℕ) (s : State) (d : ClassId) (i : ℕ) (kind : ErrorKind) (message : Option (List ℕ)) → slot_at s d i ≡ Failed kind message → resolve files at s d i ≡ (s, Err (record { kind = kind; message = message }))
  pub again : (files bfiles : List File) (at bt : ℕ) (f g : State) (d : ClassId) (i : ℕ) → Onward f g → slot_at f d i ≢ Empty → resolve files at g d i ≡ (g, (resolve bfiles bt f d i).1)
