-- The code of a method as instructions, or as a stub, or the first fault (JVMS 4.7.3, 4.9.1).
use Rattle.std.specs.Prelude.{ℕ, nat_lt, List, [], ◌∷◌, length, position, Option, None, Some, Result, Ok, Err, Bool, true, not, ◌&&◌, ◌||◌, ◌==◌, if◌then◌else◌, is_some}
use Rattle.std.specs.Option.{option_map}
use Rattle.std.specs.List.{list_all}
use Rattle.jl_prim.specs.declared.declaration.Handler.{Handler}
use Rattle.jl_pool.specs.declared.entry.Entry.{Entry}
use Rattle.jl_pool.specs.Pool.{class_of}
use Rattle.jl_code.specs.declared.fault.CodeFault.{CodeFault}
use Rattle.jl_code.specs.declared.fault.CodeFault.TheVariants as faults
use Rattle.jl_code.specs.declared.code.Arg.{Arg}
use Rattle.jl_code.specs.declared.code.Arg.TheVariants as args
use Rattle.jl_code.specs.declared.code.Instr.{Instr}
use Rattle.jl_code.specs.declared.code.Code.{Code}
use Rattle.jl_code.specs.declared.code.Code.TheVariants as codes
use Rattle.jl_code.specs.References.{described, has_float}
use Rattle.jl_code.specs.Stubs.{makes_stub}
use Rattle.jl_code.specs.declared.walking.Walked.{Walked}
use Rattle.jl_code.specs.Places.{places, stands}
use Rattle.jl_code.specs.Walking.{walk}

-- each place to which an instruction leads is one where one stands
abbrev pub leads_right : (ℕ → Bool) → Arg → Bool
leads_right is_start (args.Target place) = is_start place
leads_right is_start (args.Switch other cases) = is_start other && list_all (λ case. is_start case.1) cases
leads_right is_start _ = true

-- the first item that passes a test
unfoldable pub first_where : {X : Type 0} → (X → Bool) → List X → Option X
first_where test [] = None
first_where test (x ∷ xs) = if test x then Some x else first_where test xs

-- the place of the first instruction that leads to a place where none stands
abbrev pub first_astray : (ℕ → Bool) → List Instr → Option ℕ
first_astray is_start instrs = option_map (λ i. i.at) (first_where (λ i. not (leads_right is_start i.arg)) instrs)

-- A handler's range is some instructions, it begins at one, and what it catches is a class or everything.
abbrev pub is_right_handler : List Entry → List ℕ → (ℕ → Bool) → Handler → Bool
is_right_handler pool code is_start h =
    nat_lt h.start h.end && (is_start h.start && (is_start h.target && ((is_start h.end || (h.end == length code)) && ((h.catch_type == 0) || is_some (class_of pool h.catch_type)))))

-- the first handler that is not right
abbrev pub wrong_handler : List Entry → List ℕ → (ℕ → Bool) → List Handler → Option ℕ
wrong_handler pool code is_start handlers = position (λ h. not (is_right_handler pool code is_start h)) handlers

-- the opcode of the first instruction that makes a stub
abbrev pub first_stub : List Entry → List Instr → Option ℕ
first_stub pool instrs = option_map (λ i. i.op) (first_where (makes_stub pool) instrs)

-- a stub by an instruction with this opcode, or else the instructions
abbrev pub stub_or : List Instr → Option ℕ → Code
stub_or instrs None = codes.Instructions instrs
stub_or instrs (Some op) = codes.Stub (Some op)

-- a stub where the method takes or gives F or D, or where an instruction makes it one
abbrev pub kind_of : List Entry → List ℕ → List Instr → Code
kind_of pool desc instrs = if has_float (described (Some desc)) then codes.Stub None else stub_or instrs (first_stub pool instrs)

-- a fault stands before all that follow it
abbrev pub unless : Option CodeFault → Result Code CodeFault → Result Code CodeFault
unless (Some f) later = Err f
unless None later = later

-- the fault of a code without a byte
abbrev pub empty : List ℕ → Option CodeFault
empty [] = Some faults.Empty
empty (b ∷ bs) = None

-- Branches of the instructions that were read come before the fault of the walk, which stands behind them.
abbrev pub judged : List Entry → List ℕ → List ℕ → List Handler → (ℕ → Bool) → Walked → Result Code CodeFault
judged pool desc code handlers is_start walked =
    unless (option_map faults.BadTarget (first_astray is_start walked.instructions))
    (unless walked.fault
    (unless (option_map faults.BadRange (wrong_handler pool code is_start handlers))
    (Ok (kind_of pool desc walked.instructions))))

-- the code of a method from its bytes on: what it is, or its first fault
unfoldable pub code_of : List Entry → List ℕ → List ℕ → List Handler → Result Code CodeFault
code_of pool desc code handlers = unless (empty code) (judged pool desc code handlers (stands (places code)) (walk pool code))
