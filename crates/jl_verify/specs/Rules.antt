-- The rules by which an instruction is checked, each as a question or without one (JVMS 4.10.1.1, 4.10.1.4, 4.10.1.5).
use Rattle.std.specs.Prelude.{ℕ, ◌+◌, nat_le, nat_lt, List, [], ◌∷◌, length, map, find, reverse, Option, None, Some, option_map, Bool, true, false, not, ◌&&◌, ◌||◌, ◌==◌, is_some, if◌then◌else◌}
use Rattle.jl_prim.specs.declared.declaration.Handler.{Handler}
use Rattle.jl_code.specs.declared.code.Arg.{Arg}
use Rattle.jl_code.specs.declared.code.Arg.TheVariants as args
use Rattle.jl_code.specs.declared.code.Instr.{Instr}
use Rattle.jl_code.specs.Locals.{local_of}
use Rattle.jl_vtypes.specs.declared.item.Item.{Item}
use Rattle.jl_vtypes.specs.declared.item.Item.TheVariants as items
use Rattle.jl_vtypes.specs.Asking.{Asks, Done, and_then}
use Rattle.jl_vtypes.specs.Assignability.{goes, subclass_asks}
use Rattle.jl_verify.specs.Frames.{Frame}
use Rattle.jl_verify.specs.Declaring.{class_item, is_init}
use Rattle.jl_verify.specs.Families.{family_of, is_return, leaves}
use Rattle.jl_verify.specs.Checked.{Checked}
use Rattle.jl_verify.specs.Moves.{both, throwable, throwable_name, class_named}
use Rattle.jl_verify.specs.Rows.{applies, after}
use Rattle.jl_verify.specs.declared.declared_frame.DeclaredFrame.{DeclaredFrame}
use Rattle.jl_verify.specs.declared.family.Family.{Family}
use Rattle.jl_verify.specs.declared.family.Family.TheVariants as families
use Rattle.jl_verify.specs.declared.family.ValueKind.TheVariants as kinds
use Rattle.jl_verify.specs.declared.rule.CheckRule.{CheckRule}
use Rattle.jl_verify.specs.declared.rule.CheckRule.TheVariants as rules

-- ---- one frame for another

-- the items of one list go to those of another, one by one from the first; a missing one is Top
abbrev pub items_go : List Item → List Item → Asks Bool
items_go from [] = Done true
items_go [] (t ∷ ts) = both (goes items.Top t) (items_go [] ts)
items_go (f ∷ fs) (t ∷ ts) = both (goes f t) (items_go fs ts)

-- A frame is assignable to one with as many slots on the stack, and a marked one to a marked one alone. Then the locals go, and then the stacks, both
-- from the lowest.
abbrev pub frame_goes : Frame → Frame → Asks Bool
frame_goes from to =
    if (length from.stack == length to.stack) && (not from.marked || to.marked)
    then both (items_go from.locals to.locals) (items_go (reverse from.stack) (reverse to.stack))
    else Done false

-- the frame that is declared for a place
abbrev pub declared_at : Checked → ℕ → Option Frame
declared_at c place = option_map (λ (d : DeclaredFrame). d.frame) (find (λ (d : DeclaredFrame). d.offset == place) c.declared)

-- a frame goes to the one that is declared for a place, where there is one
abbrev pub goes_to_declared : Frame → Option Frame → Asks Bool
goes_to_declared from None = Done false
goes_to_declared from (Some to) = frame_goes from to

-- ---- handlers

-- the instructions that a handler covers
abbrev pub covers : Handler → Instr → Bool
covers h i = nat_le h.start i.at && nat_lt i.at h.end

-- what a handler catches, where 0 is everything
abbrev pub caught_item : Checked → Handler → Item
caught_item c h = if h.catch_type == 0 then throwable else class_item (class_named c h.catch_type)

-- the frame with which a handler is entered
abbrev pub caught : Checked → Frame → Handler → Frame
caught c f h = record { locals = f.locals; stack = caught_item c h ∷ []; marked = f.marked }

-- what a handler catches is a Throwable, which is asked where it names a class
abbrev pub catches : Checked → Handler → Asks Bool
catches c h = if h.catch_type == 0 then Done true else subclass_asks (class_named c h.catch_type) throwable_name

abbrev pub handler_fits : Checked → Frame → Handler → Asks Bool
handler_fits c f h = both (goes_to_declared (caught c f h) (declared_at c h.target)) (catches c h)

-- the handlers that cover an instruction, in their order
abbrev pub handlers_fit : Checked → Frame → Instr → List Handler → Asks Bool
handlers_fit c f i [] = Done true
handlers_fit c f i (h ∷ later) = if covers h i then both (handler_fits c f h) (handlers_fit c f i later) else handlers_fit c f i later

-- ---- places

-- the places to which an instruction leads
abbrev pub targets : Arg → List ℕ
targets (args.Target place) = place ∷ []
targets (args.Switch other cases) = other ∷ map (λ case. case.1) cases
targets _ = []

-- a frame goes to the frames that are declared for places
abbrev pub leads : Checked → Frame → List ℕ → Asks Bool
leads c f [] = Done true
leads c f (place ∷ later) = both (goes_to_declared f (declared_at c place)) (leads c f later)

-- ---- room

-- a frame has no more slots than the code says
abbrev pub has_room : Checked → Frame → Bool
has_room c f = nat_le (length f.stack) c.code.max_stack && nat_le (length f.locals) c.code.max_locals

-- how many slots the local takes that an instruction names
abbrev pub local_size : Option Family → ℕ
local_size (Some (families.Load kinds.Long)) = 2
local_size (Some (families.Store kinds.Long)) = 2
local_size _ = 1

-- the local that an instruction names is within the locals
abbrev pub names_within : Checked → Instr → Bool
names_within c i = elim (local_of i.op i.arg) [ Some n ↦ nat_le (n + local_size (family_of i.op)) c.code.max_locals | None ↦ true ]

-- What falls through has room too: of the first instruction the descriptor's frame, where another is declared there. Behind each other instruction it had.
abbrev pub has_room_or_none : Checked → Option Frame → Bool
has_room_or_none c None = true
has_room_or_none c (Some f) = has_room c f

-- ---- the rules at an instruction

-- a rule holds, or it is the one that fails
abbrev pub rule : CheckRule → Asks Bool → Asks (Option CheckRule) → Asks (Option CheckRule)
rule name holds later = and_then holds (λ is. if is then later else Done (Some name))

-- where a frame falls through and another is declared, the one goes to the other
abbrev pub falls_rightly : Option Frame → Option Frame → Asks Bool
falls_rightly (Some falling) (Some declared) = frame_goes falling declared
falls_rightly _ _ = Done true

-- The last rules: where the instruction leads, and that the last one does not fall through.
abbrev pub ways : Checked → Frame → Instr → Bool → Asks (Option CheckRule)
ways c next i is_last = rule rules.Target (leads c next (targets i.arg)) (rule rules.End (Done (not (is_last && not (leaves i.op)))) (Done None))

-- before them the return from <init>, and room, which what falls through had or not
abbrev pub room : Checked → Bool → Frame → Instr → Bool → Asks (Option CheckRule)
room c had_room f i is_last =
    rule rules.Init (Done (not (is_return i.op && (is_init c.method && f.marked))))
    (rule rules.Overflow (Done ((had_room && has_room c f) && (has_room c (after c f i) && names_within c i))) (ways c (after c f i) i is_last))

-- before them that it applies
abbrev pub row : Checked → Bool → Frame → Instr → Bool → Asks (Option CheckRule)
row c had_room f i is_last = rule rules.Operand (applies c f i) (room c had_room f i is_last)

-- before them the handlers
abbrev pub handled : Checked → Bool → Frame → Instr → Bool → Asks (Option CheckRule)
handled c had_room f i is_last = rule rules.Handler (handlers_fit c f i c.code.handlers) (row c had_room f i is_last)

-- a declared frame stands, or else what falls through; where there is neither, the frame is nothing
abbrev pub frame_here : Option Frame → Option Frame → Frame
frame_here (Some declared) falls = declared
frame_here None (Some falls) = falls
frame_here None None = record { locals = []; stack = []; marked = false }

-- The first rule that fails at an instruction: by the frame that falls through to it, where one does, the frame at it, and whether it is the last.
abbrev pub first_failing : Checked → Option Frame → Frame → Instr → Bool → Asks (Option CheckRule)
first_failing c falling f i is_last =
    rule rules.NoFrame (Done (is_some falling || is_some (declared_at c i.at)))
    (rule rules.Frame (falls_rightly falling (declared_at c i.at)) (handled c (has_room_or_none c falling) f i is_last))

-- the same at an instruction for which a frame is declared
abbrev pub first_declared : Checked → Option Frame → Frame → Bool → Instr → Bool → Asks (Option CheckRule)
first_declared c falling declared had_room i is_last = rule rules.Frame (falls_rightly falling (Some declared)) (handled c had_room declared i is_last)
