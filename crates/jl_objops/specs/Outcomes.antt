-- How a row that asks for classes ends, and what it leaves of a world and a store (JVMS 6.5).
use Rattle.std.specs.Prelude.{◌≡◌, ℕ, nat_lt, List, length, Result, Ok, Err, ⊤, if◌then◌else◌}
use Rattle.jl_prim.specs.declared.numbers.ClassId.{ClassId}
use Rattle.jl_tree.specs.Files.{File}
use Rattle.jl_heap.specs.declared.value.Kind.TheVariants as kinds
use Rattle.jl_heap.specs.declared.store.Store.{Store}
use Rattle.jl_heap.specs.declared.ends.RowEnd.{RowEnd}
use Rattle.jl_heap.specs.declared.ends.RowEnd.TheVariants as ends
use Rattle.jl_heap.specs.Statics.{entry_of, is_usable}
use Rattle.jl_ops.specs.declared.stop.Stop.{Stop}
use Rattle.jl_ops.specs.declared.stop.Stop.TheVariants as stops
use Rattle.jl_ops.specs.Stops as plain
use Rattle.jl_loads.specs.declared.slot.Target.{Target}
use Rattle.jl_loads.specs.Worlds.{State, Thrown, row_of}
use Rattle.jl_loads.specs.Outcomes as loads
use Rattle.jl_link.specs.References.{resolve}
use Rattle.jl_objops.specs.declared.halt.Halt.{Halt}
use Rattle.jl_objops.specs.declared.halt.Halt.TheVariants as halts

-- the world that a row leaves, and the store, or why the row does not go on
abbrev pub Outcome : Type 0
Outcome = State × Result Store Halt

-- ---- why a row does not go on

-- an operand, an array or the heap is not as it has to be
abbrev pub stopped : {X : Type 0} → Result X Stop → Result X Halt
stopped (Ok x) = Ok x
stopped (Err stop) = Err (halts.Stop stop)

-- an error of linking is thrown
abbrev pub of_thrown : Thrown → Halt
of_thrown e = halts.Throws e.kind e.message

-- how a row stops on an object that has not what the row names
abbrev pub no_member : Halt
no_member = halts.Stop (stops.Stuck kinds.Ref kinds.Ref)

-- how a row stops that names nothing of the pool of its class
abbrev pub no_constant : Halt
no_constant = halts.Stop (stops.Stuck kinds.Top kinds.Top)

-- a class that the row needs, and that the task may not use yet
abbrev pub needed : Store → ClassId → Result Unit Halt
needed s c = if is_usable (entry_of s.statics c) s.frames.task then Ok tt else Err (halts.Needs c)

-- ---- resolution

-- what a reference refers to, or the error of it
abbrev pub as_halt : loads.Outcome Target → State × Result Target Halt
as_halt (v, Ok t) = (v, Ok t)
as_halt (v, Err e) = (v, Err (of_thrown e))

-- the reference of a class at an index is resolved
abbrev pub refer : List File → ℕ → State → ClassId → ℕ → State × Result Target Halt
refer files at w d i = if nat_lt i (length (row_of w d)) then as_halt (resolve files at w d i) else (w, Err no_constant)

-- The row goes on with the target, in the world that is left then.
abbrev pub with_target : State × Result Target Halt → (State → Target → Result Store Halt) → Outcome
with_target (v, Ok t) next = (v, next v t)
with_target (v, Err h) next = (v, Err h)

-- A row whose operands are not as it wants them ends before anything is resolved.
abbrev pub tested : {X : Type 0} → State → Result X Stop → (X → Outcome) → Outcome
tested w (Ok x) next = next x
tested w (Err stop) next = (w, Err (halts.Stop stop))

-- ---- how the code answers

-- the end of a row that does not go on, with its message
abbrev pub end_of : Halt → RowEnd
end_of (halts.Stop stop) = plain.end_of stop
end_of (halts.Throws kind message) = ends.Throws kind message
end_of (halts.Needs c) = ends.Needs c
end_of (halts.Native m) = ends.Native m
end_of halts.NoMemory = ends.NoMemory

-- what is left and how the call ends: a row that does not go on leaves the store as it was
abbrev pub told : Store → Outcome → State × Store × RowEnd
told s (v, Ok t) = (v, t, ends.Next)
told s (v, Err h) = (v, s, end_of h)

-- The call answered as is said. Where the tree failed, or memory is wanting, nothing is said.
abbrev pub IsRow : Outcome → Store → RowEnd → State → Store → Type 0
IsRow said s ends.NoMemory v t = ⊤
IsRow said s ends.ReadFault v t = ⊤
IsRow said s end v t = told s said ≡ (v, t, end)

-- What a part of a row did: what it changes is as is said, or it does not go on as is said, and has changed nothing. Without memory nothing is said.
abbrev pub Does : {S U : Type 0} → Result S Halt → S → Result U Halt → S → Type 0
Does said old (Ok u) new = said ≡ Ok new
Does said old (Err halts.NoMemory) new = ⊤
Does said old (Err h) new = (said ≡ Err h) × (new ≡ old)

-- What a part of a row found. Without memory nothing is said.
abbrev pub Finds : {X : Type 0} → Result X Halt → Result X Halt → Type 0
Finds said (Ok x) = said ≡ Ok x
Finds said (Err halts.NoMemory) = ⊤
Finds said (Err h) = said ≡ Err h

-- The end is as is said, or memory is wanting.
abbrev pub EndsSo : RowEnd → RowEnd → Type 0
EndsSo said ends.NoMemory = ⊤
EndsSo said end = said ≡ end

-- likewise why a row does not go on
abbrev pub Halts : Halt → Halt → Type 0
Halts said halts.NoMemory = ⊤
Halts said h = said ≡ h

-- the tree did not fail
abbrev pub IsNotRead : RowEnd → Type 0
IsNotRead ends.ReadFault = ⊥
IsNotRead end = ⊤

-- How a part ended, and how the call ends by it.
abbrev pub EndsBy : {U : Type 0} → Result U Halt → RowEnd → Type 0
EndsBy (Ok u) end = end ≡ ends.Next
EndsBy (Err h) end = EndsSo (end_of h) end × IsNotRead end

-- A reference was resolved as is said, or the call ends as its error does. Where the tree failed, or memory is wanting, nothing is said.
abbrev pub Refers : State × Result Target Halt → Result Target RowEnd → State → Type 0
Refers said (Ok t) v = said ≡ (v, Ok t)
Refers said (Err ends.NoMemory) v = ⊤
Refers said (Err ends.ReadFault) v = ⊤
Refers said (Err end) v = (h : Halt) × (said ≡ (v, Err h)) × (end_of h ≡ end)
