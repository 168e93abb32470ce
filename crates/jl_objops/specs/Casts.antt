-- Casts (JVMS 6.5, checkcast, instanceof).
use Rattle.std.specs.Prelude.{ℕ, ℤ, pos, List, ◌++◌, Option, None, Some, Result, Ok, Err, Bool, true, false, codes, if◌then◌else◌}
use Rattle.jl_reading.specs.Reading.{◌>>=◌}
use Rattle.jl_prim.specs.declared.numbers.ObjRef.{ObjRef}
use Rattle.jl_prim.specs.declared.error_kind.ErrorKind.TheVariants as errors
use Rattle.jl_tree.specs.Files.{File}
use Rattle.jl_heap.specs.declared.value.Value.TheVariants as values
use Rattle.jl_heap.specs.declared.shape.Element.{Element}
use Rattle.jl_heap.specs.declared.shape.Shape.{Shape}
use Rattle.jl_heap.specs.declared.store.Store.{Store}
use Rattle.jl_heap.specs.Frames.{FramesState}
use Rattle.jl_heap.specs.Heap.{shape_at}
use Rattle.jl_ops.specs.Operands.{ref_under, put, popped}
use Rattle.jl_ops.specs.Rows.{standing}
use Rattle.jl_loads.specs.declared.slot.Target.{Target}
use Rattle.jl_loads.specs.Worlds.{State}
use Rattle.jl_loads.specs.Outcomes as loads
use Rattle.jl_objops.specs.declared.caller.Caller.{Caller}
use Rattle.jl_objops.specs.declared.halt.Halt.{Halt}
use Rattle.jl_objops.specs.declared.row.CastOp.{CastOp}
use Rattle.jl_objops.specs.declared.row.CastOp.TheVariants as ops
use Rattle.jl_objops.specs.declared.types.Fit.TheVariants as fits
use Rattle.jl_objops.specs.Outcomes.{Outcome, of_thrown, no_member, refer, with_target, tested}
use Rattle.jl_objops.specs.Types.{loader_of, type_of_target, takes, type_of, type_text, as_object}

-- whether an object of a shape is of a type is put in the place of the object
abbrev pub as_int : Bool → ℤ
as_int false = pos 0
as_int true = pos 1

abbrev pub answered : Bool → Store → Store
answered is s = record s { frames = put (values.Int (as_int is)) (popped s.frames) }

-- An object of the type stays on the stack. Another one is an error that names both types.
abbrev pub judged : CastOp → State → Store → Shape → Element → Result Store Halt
judged ops.Check w s x t =
    if takes fits.Cast w t (type_of x) then Ok s
    else Err (of_thrown (loads.error errors.ClassCastException (type_text w (type_of x) ++ codes " to " ++ type_text w (as_object t))))
judged ops.Ask w s x t = Ok (answered (takes fits.Cast w t (type_of x)) s)

abbrev pub judged_at : CastOp → State → Store → Element → Option Shape → Result Store Halt
judged_at op w s t None = Err no_member
judged_at op w s t (Some x) = judged op w s x t

abbrev pub judged_if : CastOp → State → Store → Option Shape → Option Element → Result Store Halt
judged_if op w s x None = Err no_member
judged_if op w s x (Some t) = judged_at op w s t x

abbrev pub cast_done : CastOp → ℕ → Store → Caller → ObjRef → State → Target → Result Store Halt
cast_done op next s caller o w t =
    judged_if op w s (shape_at s.heap o) (type_of_target w (loader_of w caller.class) t) >>= λ u. Ok (standing next u)

-- null is cast to every type, and is an instance of none
abbrev pub null_frames : CastOp → FramesState → FramesState
null_frames ops.Check f = f
null_frames ops.Ask f = put (values.Int (as_int false)) (popped f)

abbrev pub null_cast : CastOp → Store → Store
null_cast op s = record s { frames = null_frames op s.frames }

-- Null resolves nothing.
abbrev pub cast_of : List File → ℕ → State → Store → Caller → CastOp → ℕ → ℕ → Option ObjRef → Outcome
cast_of files at w s caller op i next None = (w, Ok (standing next (null_cast op s)))
cast_of files at w s caller op i next (Some o) = with_target (refer files at w caller.class i) (cast_done op next s caller o)

abbrev pub cast_row : List File → ℕ → State → Store → Caller → CastOp → ℕ → ℕ → Outcome
cast_row files at w s caller op i next = tested w (ref_under s.frames 0) (cast_of files at w s caller op i next)
