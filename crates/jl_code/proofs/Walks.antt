-- Walking through code instruction by instruction, as a loop does.
use Rattle.std.proofs.Common.{◌≡◌, ℕ, zero, suc, ◌-◌, ◌≤◌, ◌<◌, List, [], ◌∷◌, ◌++◌, length, length-append, None, Some, Result, Ok, Err, refl, sym, ◌∙◌, arith}
use Rattle.std.proofs.lemmas.Bool.{lt-ltb, le-ltb}
use Rattle.jl_pool.specs.declared.entry.Entry.{Entry}
use Rattle.jl_code.specs.declared.fault.CodeFault.{CodeFault}
use Rattle.jl_code.specs.declared.code.Instr.{Instr}
use Rattle.jl_code.specs.declared.walking.Walked.{Walked}
use Rattle.jl_code.specs.Instructions.{instr_at}
use Rattle.jl_logic.specs.Answers.{Fails, Gives}
use Rattle.jl_code.specs.declared.fault.CodeFault.TheVariants as faults
use Rattle.jl_code.specs.Told.{told}
use Rattle.jl_code.specs.Walking.{up_to, walk_on, StopsAt}

-- as many instructions may come as there are bytes, less those that came
abbrev pub left : List ℕ → List Instr → ℕ
left code before = length code - length before

pub walk_more : (pool : List Entry) (code : List ℕ) (before : List Instr) (at : ℕ) (i : Instr) (next : ℕ) (total : Walked)
    → at < length code → length before ≤ at → instr_at pool code at ≡ Ok (i, next) → walk_on pool code before (left code before) at ≡ total
    → walk_on pool code (before ++ i ∷ []) (left code (before ++ i ∷ [])) next ≡ total
unfolding walk_on
walk_more pool code before at i next total lt few read so_far =
    let k : left code before ≡ suc (left code (before ++ i ∷ [])) = omega (arith, length-append before (i ∷ [])) in
    let step : walk_on pool code before (left code before) at ≡ walk_on pool code (before ++ i ∷ []) (left code (before ++ i ∷ [])) next = rw (k, lt-ltb at (length code) lt, read) refl in
    sym step ∙ so_far

pub walk_stops : (pool : List Entry) (code : List ℕ) (before : List Instr) (at : ℕ) (f : CodeFault) (total : Walked)
    → at < length code → length before ≤ at → instr_at pool code at ≡ Err f → walk_on pool code before (left code before) at ≡ total
    → total ≡ up_to before (Some f)
unfolding walk_on
walk_stops pool code before at f total lt few read so_far =
    let k : left code before ≡ suc (left code before - 1) = omega arith in
    let step : walk_on pool code before (left code before) at ≡ up_to before (Some f) = rw (k, lt-ltb at (length code) lt, read) refl in
    sym so_far ∙ step

pub walk_end : (n : ℕ) (pool : List Entry) (code : List ℕ) (before : List Instr) (at : ℕ) → length code ≤ at → walk_on pool code before n at ≡ up_to before None
unfolding walk_on
walk_end zero pool code before at le = refl
walk_end (suc n) pool code before at le = rw (le-ltb at (length code) le) refl

pub walk_ends : (pool : List Entry) (code : List ℕ) (before : List Instr) (at : ℕ) (total : Walked)
    → length code ≤ at → walk_on pool code before (left code before) at ≡ total → total ≡ up_to before None
walk_ends pool code before at total le so_far = sym so_far ∙ walk_end (left code before) pool code before at le

-- a walk that ends at a fault is the whole walk
pub walk_gives : (pool : List Entry) (code : List ℕ) (before : List Instr) (at : ℕ) (f : CodeFault) (result : Result Walked CodeFault) (total : Walked)
    → at < length code → length before ≤ at → Fails told f (instr_at pool code at) → walk_on pool code before (left code before) at ≡ total
    → StopsAt result before f → Gives told (λ w. w) result (Ok total)
walk_gives pool code before at faults.NoMemory result total lt few read so_far stops = rw stops tt
walk_gives pool code before at f result total lt few read so_far stops = rw (stops, walk_stops pool code before at _ total lt few read so_far) refl
