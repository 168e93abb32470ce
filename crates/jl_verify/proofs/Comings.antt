-- How what the questions of the check come to is put together from its parts.
use Rattle.std.proofs.Common.{◌≡◌, ℕ, List, [], ◌∷◌, ◌++◌, Bool, true, false, Option, Some, Result, Ok, Err, refl, sym, subst, ap}
use Rattle.jl_vtypes.specs.declared.ends.HierarchyEnd.{HierarchyEnd}
use Rattle.jl_vtypes.specs.declared.question.Question.{Question}
use Rattle.jl_vtypes.specs.declared.question.Asked.{Asked}
use Rattle.jl_vtypes.specs.Asking.{Asks, Done, Ask, and_then, Follows, Leads, ComesTo}
use Rattle.jl_vtypes.specs.Unanswered.{no_answer}
use Rattle.jl_vtypes.proofs.Coming.{with_fault}
use Rattle.jl_verify.specs.declared.rule.CheckRule.{CheckRule}
use Rattle.jl_verify.specs.declared.fault.VerifyFault.{VerifyFault}
use Rattle.jl_verify.specs.declared.fault.VerifyFault.TheVariants as faults
use Rattle.jl_verify.specs.Comes.{missing, missing_named, IsMissing, FollowsIfTold, Comes}
use Rattle.jl_verify.specs.Moves.{both}
use Rattle.jl_verify.specs.Rules.{rule}

-- ---- lists of questions

pub leads_on : {S : Type 0} (step : S → Asked → S → Type 0) (one two : List Asked) (old mid new : S) → Leads step old one mid → Leads step mid two new → Leads step old (one ++ two) new
leads_on step [] two old mid new p q = subst (λ s. Leads step s two new) (sym p) q
leads_on step (a ∷ later) two old mid new p q = (p.0, p.1, leads_on step later two p.0 mid new p.2 q)

-- what follows a question with this answer
abbrev pub AfterAnswer : {X F : Type 0} → (Question → HierarchyEnd → F) → Question → (Bool → Asks X) → List Asked → Result X F → Result Bool HierarchyEnd → Type 0
AfterAnswer fault q each later result (Ok answer) = Follows fault (each answer) later result
AfterAnswer fault q each later result (Err end) = (later ≡ []) × (result ≡ Err (fault q end))

pub not_ok : {X F : Type 0} (x : X) (f : F) → Ok x ≡ Err f → ⊥
not_ok x f e = cc

module _ {X Y F : Type 0} (fault : Question → HierarchyEnd → F) (next : X → Asks Y) where
  follows_then : (a : Asks X) (one two : List Asked) (x : X) (result : Result Y F) → Follows fault a one (Ok x) → Follows fault (next x) two result → Follows fault (and_then a next) (one ++ two) result
  follows_then (Done y) [] two x result p q = let e : x ≡ y = cc in subst (λ z. Follows fault (next z) two result) e q
  follows_then (Done y) (a ∷ later) two x result p q = absurd p
  follows_then (Ask question each) [] two x result p q = absurd p
  follows_then (Ask question each) (a ∷ later) two x result p q = (p.0, by (λ b h. follows_then (each b) later two x result h q) a.answer p.1)
    where
      by : ((b : Bool) → Follows fault (each b) later (Ok x) → Follows fault (and_then (each b) next) (later ++ two) result) → (answer : Result Bool HierarchyEnd)
          → AfterAnswer fault question each later (Ok x) answer → AfterAnswer fault question (λ b. and_then (each b) next) (later ++ two) result answer
      by more (Ok b) h = more b h
      by more (Err end) h = absurd (not_ok x (fault question end) h.1)

  follows_err : (a : Asks X) (one : List Asked) (e : F) → Follows fault a one (Err e) → Follows fault (and_then a next) one (Err e)
  follows_err (Done y) [] e p = absurd cc
  follows_err (Done y) (a ∷ later) e p = absurd p
  follows_err (Ask question each) [] e p = absurd p
  follows_err (Ask question each) (a ∷ later) e p = (p.0, by (λ b h. follows_err (each b) later e h) a.answer p.1)
    where
      by : ((b : Bool) → Follows fault (each b) later (Err e) → Follows fault (and_then (each b) next) later (Err e)) → (answer : Result Bool HierarchyEnd)
          → AfterAnswer fault question each later (Err e) answer → AfterAnswer fault question (λ b. and_then (each b) next) later (Err e) answer
      by more (Ok b) h = more b h
      by more (Err end) h = (h.0, (let s : e ≡ fault question end = cc in ap Err s))

-- ---- results

module _ {S : Type 0} (step : S → Asked → S → Type 0) where
  -- what is told is told
  pub told : {X : Type 0} (asks : Asks X) (old : S) (result : Result X VerifyFault) (new : S) → ComesTo step missing asks old result new → Comes step asks old result new
  told asks old result new c = record { asked = c.asked; leads = c.leads; follows = by result c.follows }
    where
      by : (result : Result _ VerifyFault) → Follows missing asks c.asked result → FollowsIfTold asks c.asked result
      by (Ok x) h = h
      by (Err (faults.Code f)) h = h
      by (Err (faults.Frames f)) h = h
      by (Err (faults.NotTyped at rule)) h = h
      by (Err (faults.ClassMissing name kind message)) h = h
      by (Err faults.ReadFault) h = h
      by (Err faults.NoMemory) h = tt

  -- a question without an answer, which is told with its first name
  pub unanswered : {X : Type 0} (asks : Asks X) (old new : S) (name : List ℕ) (end : HierarchyEnd) (e : VerifyFault)
      → ComesTo step no_answer asks old (Err (name, end)) new → IsMissing name end e → Comes step asks old (Err e) new
  unanswered asks old new name end e c is = by e is
    where
      at : (e : VerifyFault) → e ≡ missing_named name end → Comes step asks old (Err e) new
      at e h = subst (λ f. Comes step asks old (Err f) new) (sym h) (told asks old (Err (missing_named name end)) new (with_fault step (λ p. missing_named p.0 p.1) no_answer asks old new (Err (name, end)) c))

      by : (e : VerifyFault) → IsMissing name end e → Comes step asks old (Err e) new
      by (faults.Code f) h = at (faults.Code f) h
      by (faults.Frames f) h = at (faults.Frames f) h
      by (faults.NotTyped place rule) h = at (faults.NotTyped place rule) h
      by (faults.ClassMissing other kind message) h = at (faults.ClassMissing other kind message) h
      by faults.ReadFault h = at faults.ReadFault h
      by faults.NoMemory h = record { asked = c.asked; leads = c.leads; follows = tt }

  pub answered : (asks : Asks Bool) (old new : S) (is : Bool) → ComesTo step no_answer asks old (Ok is) new → Comes step asks old (Ok is) new
  answered asks old new is c = told asks old (Ok is) new (with_fault step (λ p. missing_named p.0 p.1) no_answer asks old new (Ok is) c)

  pub done : {X : Type 0} (x : X) (s : S) → Comes step (Done x) s (Ok x) s
  done x s = record { asked = []; leads = refl; follows = refl }

  -- there was no memory, before any question or behind some
  pub no_memory : {X : Type 0} (asks : Asks X) (s : S) → Comes step asks s (Err faults.NoMemory) s
  no_memory asks s = record { asked = []; leads = refl; follows = tt }

  pub then_ok : {X Y : Type 0} (a : Asks X) (next : X → Asks Y) (x : X) (old mid : S) (result : Result Y VerifyFault) (new : S)
      → Comes step a old (Ok x) mid → Comes step (next x) mid result new → Comes step (and_then a next) old result new
  then_ok a next x old mid result new p q = record { asked = p.asked ++ q.asked; leads = leads_on step p.asked q.asked old mid new p.leads q.leads; follows = by result q.follows }
    where
      by : (result : Result _ VerifyFault) → FollowsIfTold (next x) q.asked result → FollowsIfTold (and_then a next) (p.asked ++ q.asked) result
      by (Ok y) h = follows_then missing next a p.asked q.asked x (Ok y) p.follows h
      by (Err (faults.Code f)) h = follows_then missing next a p.asked q.asked x (Err (faults.Code f)) p.follows h
      by (Err (faults.Frames f)) h = follows_then missing next a p.asked q.asked x (Err (faults.Frames f)) p.follows h
      by (Err (faults.NotTyped at rule)) h = follows_then missing next a p.asked q.asked x (Err (faults.NotTyped at rule)) p.follows h
      by (Err (faults.ClassMissing name kind message)) h = follows_then missing next a p.asked q.asked x (Err (faults.ClassMissing name kind message)) p.follows h
      by (Err faults.ReadFault) h = follows_then missing next a p.asked q.asked x (Err faults.ReadFault) p.follows h
      by (Err faults.NoMemory) h = tt

  pub then_err : {X Y : Type 0} (a : Asks X) (next : X → Asks Y) (e : VerifyFault) (old new : S) → Comes step a old (Err e) new → Comes step (and_then a next) old (Err e) new
  then_err a next e old new p = record { asked = p.asked; leads = p.leads; follows = by e p.follows }
    where
      by : (e : VerifyFault) → FollowsIfTold a p.asked (Err e) → FollowsIfTold (and_then a next) p.asked (Err e)
      by (faults.Code f) h = follows_err missing next a p.asked (faults.Code f) h
      by (faults.Frames f) h = follows_err missing next a p.asked (faults.Frames f) h
      by (faults.NotTyped at rule) h = follows_err missing next a p.asked (faults.NotTyped at rule) h
      by (faults.ClassMissing name kind message) h = follows_err missing next a p.asked (faults.ClassMissing name kind message) h
      by faults.ReadFault h = follows_err missing next a p.asked faults.ReadFault h
      by faults.NoMemory h = tt

  -- memory ran out behind what was asked
  pub no_memory_behind : {X Y : Type 0} (a : Asks X) (next : X → Asks Y) (x : X) (old mid : S) → Comes step a old (Ok x) mid → Comes step (and_then a next) old (Err faults.NoMemory) mid
  no_memory_behind a next x old mid p = then_ok a next x old mid (Err faults.NoMemory) mid p (no_memory (next x) mid)

  -- ---- both

  pub both_true : (a b : Asks Bool) (old mid : S) (result : Result Bool VerifyFault) (new : S) → Comes step a old (Ok true) mid → Comes step b mid result new → Comes step (both a b) old result new
  both_true a b old mid result new p q = then_ok a _ true old mid result new p q

  pub both_false : (a b : Asks Bool) (old new : S) → Comes step a old (Ok false) new → Comes step (both a b) old (Ok false) new
  both_false a b old new p = then_ok a _ false old new (Ok false) new p (done false new)

  pub both_err : (a b : Asks Bool) (e : VerifyFault) (old new : S) → Comes step a old (Err e) new → Comes step (both a b) old (Err e) new
  both_err a b e old new p = then_err a _ e old new p

  -- ---- rules

  pub rule_holds : (name : CheckRule) (holds : Asks Bool) (later : Asks (Option CheckRule)) (old mid : S) (result : Result (Option CheckRule) VerifyFault) (new : S)
      → Comes step holds old (Ok true) mid → Comes step later mid result new → Comes step (rule name holds later) old result new
  rule_holds name holds later old mid result new p q = then_ok holds _ true old mid result new p q

  pub rule_fails : (name : CheckRule) (holds : Asks Bool) (later : Asks (Option CheckRule)) (old new : S) → Comes step holds old (Ok false) new → Comes step (rule name holds later) old (Ok (Some name)) new
  rule_fails name holds later old new p = then_ok holds _ false old new (Ok (Some name)) new p (done (Some name) new)

  pub rule_err : (name : CheckRule) (holds : Asks Bool) (later : Asks (Option CheckRule)) (e : VerifyFault) (old new : S) → Comes step holds old (Err e) new → Comes step (rule name holds later) old (Err e) new
  rule_err name holds later e old new p = then_err holds _ e old new p
