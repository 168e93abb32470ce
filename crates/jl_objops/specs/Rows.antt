-- What an instruction that asks for classes does (JVMS 6.5): all but calls and arrays of arrays.
use Rattle.std.specs.Prelude.{ℕ, List, Option, None, Some, ◌==◌, option_map, if◌then◌else◌}
use Rattle.std.specs.Option.{option_and_then}
use Rattle.jl_prim.specs.declared.numbers.ClassId.{ClassId}
use Rattle.jl_prim.specs.declared.numbers.MethodId.{MethodId}
use Rattle.jl_optable.specs.declared.ops.TheConstants as numbers
use Rattle.jl_code.specs.declared.code.Arg.{Arg}
use Rattle.jl_code.specs.declared.code.Arg.TheVariants as args
use Rattle.jl_code.specs.declared.code.Instr.{Instr}
use Rattle.jl_code.specs.declared.code.Code.{Code}
use Rattle.jl_tree.specs.Files.{File}
use Rattle.jl_heap.specs.declared.frame.FrameKind.{FrameKind}
use Rattle.jl_heap.specs.declared.frame.FrameKind.TheVariants as frame_kinds
use Rattle.jl_heap.specs.declared.store.Store.{Store}
use Rattle.jl_heap.specs.Frames.{FrameState, top_of}
use Rattle.jl_ops.specs.Places.{next_place}
use Rattle.jl_ops.specs.Rows.{instr_under}
use Rattle.jl_loads.specs.Worlds.{State}
use Rattle.jl_link.specs.Owners.{method_owner}
use Rattle.jl_objops.specs.declared.caller.Caller.{Caller}
use Rattle.jl_objops.specs.declared.row.FieldOp.TheVariants as field_ops
use Rattle.jl_objops.specs.declared.row.CastOp.TheVariants as cast_ops
use Rattle.jl_objops.specs.declared.row.ObjectRow.{ObjectRow}
use Rattle.jl_objops.specs.declared.row.ObjectRow.TheVariants as rows
use Rattle.jl_objops.specs.Outcomes.{Outcome}
use Rattle.jl_objops.specs.Arrays.{reference_stored, array_row}
use Rattle.jl_objops.specs.Casts.{cast_row}
use Rattle.jl_objops.specs.Fields.{field_row}
use Rattle.jl_objops.specs.Objects.{constant_row, new_row}

-- ---- which row an instruction has

-- rows that name an entry of the pool
abbrev pub named_row : ℕ → ℕ → Option ObjectRow
named_row op i =
    if op == numbers.LDC then Some (rows.Constant i) else if op == numbers.LDC_W then Some (rows.Constant i)
    else if op == numbers.GETSTATIC then Some (rows.Field field_ops.GetStatic i) else if op == numbers.PUTSTATIC then Some (rows.Field field_ops.PutStatic i)
    else if op == numbers.GETFIELD then Some (rows.Field field_ops.GetField i) else if op == numbers.PUTFIELD then Some (rows.Field field_ops.PutField i)
    else if op == numbers.NEW then Some (rows.New i) else if op == numbers.ANEWARRAY then Some (rows.NewArray i)
    else if op == numbers.CHECKCAST then Some (rows.Cast cast_ops.Check i) else if op == numbers.INSTANCEOF then Some (rows.Cast cast_ops.Ask i)
    else None

-- the row of an instruction that asks for classes, by its opcode and operands; calls and arrays of arrays have none here yet
abbrev pub row_by : ℕ → Arg → Option ObjectRow
row_by op (args.Index i) = named_row op i
row_by op args.Nothing = if op == numbers.AASTORE then Some rows.StoreReference else None
row_by op arg = None

abbrev pub row_of : Instr → Option ObjectRow
row_of i = row_by i.op i.arg

-- ---- what a row does

-- What a row does in a method, where the next instruction stands at a place: the world that is left, and the store or why the row does not go on.
unfoldable pub row : List File → ℕ → State → Store → Caller → ObjectRow → ℕ → Outcome
row files at w s caller (rows.Constant i) next = constant_row files at w s caller i next
row files at w s caller rows.StoreReference next = (w, reference_stored next w s)
row files at w s caller (rows.Field op i) next = field_row files at w s caller op i next
row files at w s caller (rows.New i) next = new_row files at w s caller i next
row files at w s caller (rows.NewArray i) next = array_row files at w s caller i next
row files at w s caller (rows.Cast op i) next = cast_row files at w s caller op i next

-- ---- the instruction at hand

-- the method of a frame
abbrev pub method_in : FrameKind → Option MethodId
method_in (frame_kinds.Method m) = Some m
method_in kind = None

abbrev pub as_caller : ClassId × ℕ → Caller
as_caller (c, place) = record { class = c; place = place }

-- the method with a number
abbrev pub caller_in : State → MethodId → Option Caller
caller_in w m = option_map as_caller (method_owner w m)

abbrev pub caller_of : State → FrameKind → Option Caller
caller_of w kind = option_and_then (caller_in w) (method_in kind)

-- the method of the top frame
abbrev pub caller_on_top : State → Store → Option Caller
caller_on_top w s = option_and_then (caller_of w) (option_map (λ (f : FrameState). f.kind) (top_of s.frames))

-- what the instruction does at which the top frame stands
abbrev pub row_at : List File → ℕ → State → Store → Caller → Option Instr → Option Outcome
row_at files at w s caller None = None
row_at files at w s caller (Some i) = option_map (λ r. row files at w s caller r (next_place i)) (row_of i)

abbrev pub row_under : List File → ℕ → State → Store → Code → Option Outcome
row_under files at w s code = option_and_then (λ caller. row_at files at w s caller (instr_under code s)) (caller_on_top w s)

-- the row of the instruction at which the top frame stands, where it asks for classes
abbrev pub object_row_under : Code → Store → Option ObjectRow
object_row_under code s = option_and_then row_of (instr_under code s)
