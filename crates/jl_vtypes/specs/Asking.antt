-- Definitions that ask questions about classes, and the questions and answers that follow one.
use Rattle.std.specs.Prelude.{◌≡◌, List, [], ◌∷◌, Bool, Result, Ok, Err}
use Rattle.jl_vtypes.specs.declared.ends.HierarchyEnd.{HierarchyEnd}
use Rattle.jl_vtypes.specs.declared.question.Question.{Question}
use Rattle.jl_vtypes.specs.declared.question.Asked.{Asked}

-- An outcome, or one more question with what follows each answer.
pub data Asks (X : Type 0) : Type 0 where
  Done : X → Asks X
  Ask : Question → (Bool → Asks X) → Asks X

-- the second definition is asked where the first has an outcome, and depends on it
abbrev pub and_then : {X Y : Type 0} → Asks X → (X → Asks Y) → Asks Y
and_then (Done x) next = next x
and_then (Ask q each) next = Ask q (λ answer. and_then (each answer) next)

-- A definition asks exactly these questions, gets these answers, and comes to this result. Each question has an entry. One that ended in an
-- error is the last, and the result is the fault made of it.
abbrev pub Follows : {X F : Type 0} → (Question → HierarchyEnd → F) → Asks X → List Asked → Result X F → Type 0
Follows fault (Done x) [] result = result ≡ Ok x
Follows fault (Done x) (a ∷ later) result = ⊥
Follows fault (Ask q each) [] result = ⊥
Follows fault (Ask q each) (a ∷ later) result =
    (a.question ≡ q) × elim a.answer [ Ok answer ↦ Follows fault (each answer) later result | Err end ↦ (later ≡ []) × (result ≡ Err (fault q end)) ]

-- By these questions and answers, one after the other, the first classes become the second.
abbrev pub Leads : {S : Type 0} → (S → Asked → S → Type 0) → S → List Asked → S → Type 0
Leads step old [] new = old ≡ new
Leads {S} step old (a ∷ later) new = (between : S) × step old a between × Leads step between later new

-- A definition is asked of classes, comes to a result, and leaves classes: by some questions and answers.
pub record ComesTo {S X F : Type 0} (step : S → Asked → S → Type 0) (fault : Question → HierarchyEnd → F) (asks : Asks X) (old : S) (result : Result X F) (new : S) : Type 0 where
  pub asked : List Asked
  pub leads : Leads step old asked new
  pub follows : Follows fault asks asked result
