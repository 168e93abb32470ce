-- The instructions of code from its start on (JVMS 4.9.1).
use Rattle.std.specs.Prelude.{◌≡◌, MatchOption, ℕ, zero, suc, nat_lt, List, [], ◌∷◌, ◌++◌, length, Option, None, Some, Result, Ok, Err, if◌then◌else◌}
use Rattle.jl_pool.specs.declared.entry.Entry.{Entry}
use Rattle.jl_code.specs.declared.fault.CodeFault.{CodeFault}
use Rattle.jl_code.specs.declared.code.Instr.{Instr}
use Rattle.jl_code.specs.declared.walking.Walked.{Walked}
use Rattle.jl_code.specs.Told.{told}
use Rattle.jl_code.specs.Instructions.{instr_at}

-- instructions, and why there are no more
abbrev pub up_to : List Instr → Option CodeFault → Walked
up_to instrs fault = record { instructions = instrs; fault = fault }

-- The instructions from a place on, behind those before it, at most n. Each takes at least a byte.
unfoldable pub walk_on : List Entry → List ℕ → List Instr → ℕ → ℕ → Walked
walk_on pool code before zero at = up_to before None
walk_on pool code before (suc n) at =
    if nat_lt at (length code) then elim (instr_at pool code at) [ Ok read ↦ walk_on pool code (before ++ read.0 ∷ []) n read.1 | Err f ↦ up_to before (Some f) ]
    else up_to before None

-- the instructions up to the end, or up to the first that is not right in itself, with its fault
abbrev pub walk : List Entry → List ℕ → Walked
walk pool code = walk_on pool code [] (length code) 0

-- a walk ends at a fault, unless it says nothing of the code
abbrev pub StopsAt : Result Walked CodeFault → List Instr → CodeFault → Type 0
StopsAt result instrs fault = MatchOption (told fault) (result ≡ Err fault) (λ f. result ≡ Ok (up_to instrs (Some f)))
