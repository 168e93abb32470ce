-- Questions without an answer, told with their first name.
use Rattle.std.specs.Prelude.{ℕ, List, Bool, Result, Ok, Err}
use Rattle.jl_vtypes.specs.declared.ends.HierarchyEnd.{HierarchyEnd}
use Rattle.jl_vtypes.specs.declared.question.Question.{Question}
use Rattle.jl_vtypes.specs.declared.question.Question.TheVariants as questions
use Rattle.jl_vtypes.specs.declared.question.Unanswered.{Unanswered}

-- the first name in a question
abbrev pub first_name : Question → List ℕ
first_name (questions.IsInterface name) = name
first_name (questions.IsSubclass from to) = from

-- what is told of a question without an answer
abbrev pub no_answer : Question → HierarchyEnd → List ℕ × HierarchyEnd
no_answer q end = (first_name q, end)

-- a result with the name itself in place of what refers to it
abbrev pub seen : Result Bool Unanswered → Result Bool (List ℕ × HierarchyEnd)
seen (Ok answer) = Ok answer
seen (Err u) = Err (u.name.now, u.end)
