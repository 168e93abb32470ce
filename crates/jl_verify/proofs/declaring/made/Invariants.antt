use Rattle.std.proofs.Common.{◌≡◌, ℕ, List, drop}
use Rattle.jl_code.specs.declared.code.Instr.{Instr}
use Rattle.jl_code.specs.Sound.{starts}
use Rattle.jl_code.specs.Places.{stands}
use Rattle.jl_code.specs.PlaceTables.{IsIndexOf, index_in}
use Rattle.jl_verify.specs.Declaring.{made}
use Rattle.jl_verify.proofs.MadeLists.{behind}
use Rattle.jl_verify.proofs.declaring.made.Given as goal

abbrev pub invariant-loop-frame : goal.invariant-loop-frame
invariant-loop-frame l = (instrs : List Instr) → ((pc : ℕ) → IsIndexOf (starts instrs) pc (index_in l.places pc))
    → made l.pool (stands (starts instrs)) l.fn.first.items l.stated ≡ behind l.declared.items (made l.pool (stands (starts instrs)) l.locals (drop l.frame-index l.stated))
