-- What the instructions of a method have, where they were read and none makes the method a stub (JVMS 4.7.3, 4.9.1).
use Rattle.std.specs.Prelude.{◌≡◌, ℕ, ◌<◌, List, [], ◌∷◌, length, map, slice_get, Some, Bool, true, false, not, ◌||◌, ◌==◌, IsTrue, ⊤}
use Rattle.std.specs.List.{list_all, AllByRecursion}
use Rattle.jl_prim.specs.declared.declaration.Handler.{Handler}
use Rattle.jl_pool.specs.declared.entry.Entry.{Entry}
use Rattle.jl_pool.specs.Pool.{tag_of}
use Rattle.jl_optable.specs.declared.form.Operands.{Operands}
use Rattle.jl_optable.specs.declared.form.Operands.TheVariants as kinds
use Rattle.jl_optable.specs.declared.ops.TheConstants as ops
use Rattle.jl_optable.specs.Rows.{has_row, operands_of}
use Rattle.jl_code.specs.declared.code.Arg.{Arg}
use Rattle.jl_code.specs.declared.code.Arg.TheVariants as args
use Rattle.jl_code.specs.declared.code.Instr.{Instr}
use Rattle.jl_code.specs.declared.code.Code.{Code}
use Rattle.jl_code.specs.declared.code.Code.TheVariants as codes
use Rattle.jl_code.specs.References.{has_tag, has_float, described, is_right_index, is_array_of}
use Rattle.jl_code.specs.Instructions.{names_local}
use Rattle.jl_code.specs.Stubs.{makes_stub}
use Rattle.jl_code.specs.Places.{stands}
use Rattle.jl_code.specs.Decoding.{leads_right, is_right_handler}

-- the places of instructions
abbrev pub starts : List Instr → List ℕ
starts instrs = map (λ i. i.at) instrs

-- each place is lower than all after it
abbrev pub PlacesRise : List Instr → Type 0
PlacesRise [] = ⊤
PlacesRise (i ∷ is) = AllByRecursion (λ (later : Instr). i.at < later.at) is × PlacesRise is

-- the index in an operand names an entry that the instruction takes
abbrev pub names_entry : List Entry → ℕ → Operands → Arg → Bool
names_entry pool op kinds.Dynamic (args.Index i) = has_tag 18 (tag_of pool i)
names_entry pool op kind (args.Index i) = is_right_index pool op i
names_entry pool op kind (args.Multi i count) = is_array_of pool i count
names_entry pool op kind _ = true

-- An operand has the form that the row says. That of ldc2_w is the long itself, in place of its index.
abbrev pub has_shape : ℕ → Operands → Arg → Bool
has_shape op kinds.Nothing args.Nothing = true
has_shape op kinds.Byte (args.Number n) = true
has_shape op kinds.Short (args.Number n) = true
has_shape op kinds.Local (args.Local n) = true
has_shape op kinds.Index1 (args.Index i) = true
has_shape op kinds.Index2 (args.Index i) = not (op == ops.LDC2_W)
has_shape op kinds.Index2 (args.Long value) = op == ops.LDC2_W
has_shape op kinds.Inc (args.Inc n more) = true
has_shape op kinds.Target2 (args.Target place) = true
has_shape op kinds.Target4 (args.Target place) = true
has_shape op kinds.Table (args.Switch other cases) = true
has_shape op kinds.Lookup (args.Switch other cases) = true
has_shape op kinds.Interface (args.Index i) = true
has_shape op kinds.Dynamic (args.Index i) = true
has_shape op kinds.Multi (args.Multi i count) = true
has_shape op _ _ = false

-- only iinc and loads and stores of a local are widened
abbrev pub may_be_wide : Instr → Bool
may_be_wide i = not i.wide || ((i.op == ops.IINC) || names_local i.op)

-- The first stands at 0, and the others behind it in order, inside the code. Operands have the form that their opcode asks for. Branches and handlers lead to instructions.
pub record AreSound (pool : List Entry) (desc code : List ℕ) (handlers : List Handler) (instrs : List Instr) : Type 0 where
  pub first : slice_get (starts instrs) 0 ≡ Some 0
  pub rise : PlacesRise instrs
  pub inside : AllByRecursion (λ (i : Instr). i.at < length code) instrs
  pub rows : IsTrue (list_all (λ i. has_row i.op) instrs)
  pub shaped : IsTrue (list_all (λ i. has_shape i.op (operands_of i.op) i.arg) instrs)
  pub widened : IsTrue (list_all may_be_wide instrs)
  pub lead : IsTrue (list_all (λ i. leads_right (stands (starts instrs)) i.arg) instrs)
  pub handled : IsTrue (list_all (is_right_handler pool code (stands (starts instrs))) handlers)
  pub named : IsTrue (list_all (λ i. names_entry pool i.op (operands_of i.op) i.arg) instrs)
  pub runs : IsTrue (list_all (λ i. not (makes_stub pool i)) instrs)
  pub own : has_float (described (Some desc)) ≡ false

-- what was read, where it is no stub
abbrev pub IsSound : List Entry → List ℕ → List ℕ → List Handler → Code → Type 0
IsSound pool desc code handlers (codes.Instructions instrs) = AreSound pool desc code handlers instrs
IsSound pool desc code handlers (codes.Stub op) = ⊤
