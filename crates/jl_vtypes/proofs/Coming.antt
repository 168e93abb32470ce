-- How what a definition comes to is put together from its parts.
use Rattle.std.proofs.Common.{◌≡◌, List, [], ◌∷◌, Bool, Result, Ok, Err, refl, subst, ap}
use Rattle.jl_vtypes.specs.declared.ends.HierarchyEnd.{HierarchyEnd}
use Rattle.jl_vtypes.specs.declared.question.Question.{Question}
use Rattle.jl_vtypes.specs.declared.question.Asked.{Asked}
use Rattle.jl_vtypes.specs.Asking.{Asks, Done, Ask, Follows, ComesTo}

-- an outcome without a question
pub done : {S X F : Type 0} (step : S → Asked → S → Type 0) (fault : Question → HierarchyEnd → F) (x : X) (s : S) → ComesTo step fault (Done x) s (Ok x) s
done step fault x s = record { asked = []; leads = refl; follows = refl }

-- a question with its answer, and what follows
pub goes_on : {S X F : Type 0} (step : S → Asked → S → Type 0) (fault : Question → HierarchyEnd → F) (q : Question) (each : Bool → Asks X) (old between new : S) (answer : Bool) (result : Result X F)
    → step old (record { question = q; answer = Ok answer }) between → ComesTo step fault (each answer) between result new → ComesTo step fault (Ask q each) old result new
goes_on step fault q each old between new answer result one rest =
    record { asked = record { question = q; answer = Ok answer } ∷ rest.asked; leads = (between, one, rest.leads); follows = (refl, rest.follows) }

-- a question without an answer
pub stops : {S X F : Type 0} (step : S → Asked → S → Type 0) (fault : Question → HierarchyEnd → F) (q : Question) (each : Bool → Asks X) (old new : S) (end : HierarchyEnd)
    → step old (record { question = q; answer = Err end }) new → ComesTo step fault (Ask q each) old (Err (fault q end)) new
stops step fault q each old new end one = record { asked = record { question = q; answer = Err end } ∷ []; leads = (new, one, refl); follows = (refl, (refl, refl)) }

-- a fault made of another
abbrev pub of_fault : {X F G : Type 0} → (F → G) → Result X F → Result X G
of_fault g (Ok x) = Ok x
of_fault g (Err f) = Err (g f)

follows_of : {X F G : Type 0} (g : F → G) (fault : Question → HierarchyEnd → F) (asks : Asks X) (asked : List Asked) (result : Result X F)
    → Follows fault asks asked result → Follows (λ q e. g (fault q e)) asks asked (of_fault g result)
follows_of g fault (Done x) [] result f = ap (of_fault g) f
follows_of g fault (Done x) (a ∷ later) result f = absurd f
follows_of g fault (Ask q each) [] result f = absurd f
follows_of {X} {F} {G} g fault (Ask q each) (a ∷ later) result f = (f.0, by (λ b. follows_of g fault (each b) later result) a.answer f.1)
  where
    by : ((b : Bool) → Follows fault (each b) later result → Follows (λ q e. g (fault q e)) (each b) later (of_fault g result)) → (answer : Result Bool HierarchyEnd)
        → elim answer as (λ x. Type 0) [ Ok b ↦ Follows fault (each b) later result | Err end ↦ (later ≡ []) × (result ≡ Err (fault q end)) ]
        → elim answer as (λ x. Type 0) [ Ok b ↦ Follows (λ q e. g (fault q e)) (each b) later (of_fault g result) | Err end ↦ (later ≡ []) × (of_fault g result ≡ Err (g (fault q end))) ]
    by more (Ok b) h = more b h
    by more (Err e) h = (h.0, ap (of_fault g) h.1)

-- another fault is told of a question without an answer
pub with_fault : {S X F G : Type 0} (step : S → Asked → S → Type 0) (g : F → G) (fault : Question → HierarchyEnd → F) (asks : Asks X) (old new : S) (result : Result X F)
    → ComesTo step fault asks old result new → ComesTo step (λ q e. g (fault q e)) asks old (of_fault g result) new
with_fault step g fault asks old new result c = record { asked = c.asked; leads = c.leads; follows = follows_of g fault asks c.asked result c.follows }

-- the same definition in other words
pub same_asks : {S X F : Type 0} (step : S → Asked → S → Type 0) (fault : Question → HierarchyEnd → F) (a b : Asks X) (old new : S) (result : Result X F)
    → a ≡ b → ComesTo step fault a old result new → ComesTo step fault b old result new
same_asks step fault a b old new result e comes = subst (λ asks. ComesTo step fault asks old result new) e comes
