-- What the code's questions come to, where want of memory may come at any time.
use Rattle.std.specs.Prelude.{◌≡◌, ℕ, List, Result, Err, ⊤}
use Rattle.jl_vtypes.specs.declared.ends.HierarchyEnd.{HierarchyEnd}
use Rattle.jl_vtypes.specs.declared.ends.HierarchyEnd.TheVariants as ends
use Rattle.jl_vtypes.specs.declared.question.Question.{Question}
use Rattle.jl_vtypes.specs.declared.question.Asked.{Asked}
use Rattle.jl_vtypes.specs.Asking.{Asks, Follows, Leads}
use Rattle.jl_vtypes.specs.Unanswered.{first_name}
use Rattle.jl_verify.specs.declared.fault.VerifyFault.{VerifyFault}
use Rattle.jl_verify.specs.declared.fault.VerifyFault.TheVariants as faults

-- a question without an answer is a fault with its first name
abbrev pub missing_named : List ℕ → HierarchyEnd → VerifyFault
missing_named name (ends.Missing kind message) = faults.ClassMissing name kind message
missing_named name ends.ReadFault = faults.ReadFault
missing_named name ends.NoMemory = faults.NoMemory

abbrev pub missing : Question → HierarchyEnd → VerifyFault
missing q end = missing_named (first_name q) end

-- the fault of a question without an answer, or want of memory
abbrev pub IsMissing : List ℕ → HierarchyEnd → VerifyFault → Type 0
IsMissing name end faults.NoMemory = ⊤
IsMissing name end fault = fault ≡ missing_named name end

-- the questions and answers come to a result, where it is not want of memory
abbrev pub FollowsIfTold : {X : Type 0} → Asks X → List Asked → Result X VerifyFault → Type 0
FollowsIfTold asks asked (Err faults.NoMemory) = ⊤
FollowsIfTold asks asked result = Follows missing asks asked result

-- A definition is asked of classes, and comes to a result, unless memory ran out behind some questions.
pub record Comes {S X : Type 0} (step : S → Asked → S → Type 0) (asks : Asks X) (old : S) (result : Result X VerifyFault) (new : S) : Type 0 where
  pub asked : List Asked
  pub leads : Leads step old asked new
  pub follows : FollowsIfTold asks asked result
