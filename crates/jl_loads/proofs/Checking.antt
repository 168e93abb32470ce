-- A check of access, step by step.
use Rattle.std.proofs.Common.{◌≡◌, ◌∙◌, ap, subst, refl, ℕ, List, Bool, true, false, Result, Option, Some, None}
use Rattle.std.specs.Prelude.{if◌then◌else◌}
use Rattle.jl_names.specs.Dots.{dotted}
use Rattle.jl_class.specs.Meaning.{is_public}
use Rattle.jl_access.specs.declared.verdict.Verdict.{Verdict}
use Rattle.jl_access.specs.declared.report.NoteKind.{NoteKind}
use Rattle.jl_access.specs.declared.report.Key.{Key}
use Rattle.jl_access.specs.declared.report.NoteKind.TheVariants as kinds
use Rattle.jl_access.specs.Verdicts.{class_verdict}
use Rattle.jl_access.specs.Reports.{is_due}
use Rattle.jl_loads.specs.declared.end.LinkEnd.{LinkEnd}
use Rattle.jl_loads.specs.Checks.{due_key, with_due}
use Rattle.jl_loads.specs.Ends.{Leaves}
use Rattle.jl_loads.specs.Loading.{key, access, checked, judged, with_check}
use Rattle.jl_loads.specs.Worlds.{State, Loaded, place_of, with_note}

-- a check is noted where it is due
pub due_noted : (at : ℕ) (from to : Loaded) (kind : NoteKind) (v : Verdict) (s : State) → with_due (due_key from to kind v) at s ≡ with_check at from to kind v s
due_noted at from to kind v s = by (is_due from.home to.home)
  where
    by : (b : Bool) → with_due (if b then Some (key from to kind v) else None) at s ≡ (if b then with_note (key from to kind v) at s else s)
    by true = refl
    by false = refl

-- a verdict that is noted and judged is checked
pub checked_by : (at : ℕ) (from to : Loaded) (kind : NoteKind) (what : List ℕ) (v : Verdict) (k : Option Key) (s t : State) (r : Result Unit LinkEnd) → k ≡ due_key from to kind v → t ≡ with_due k at s
    → Leaves (judged from to what v t) r t → Leaves (checked at from to kind what s v) r t
checked_by at from to kind what v k s t r due noted h =
    subst (λ (u : State). Leaves (judged from to what v u) r t) (noted ∙ ap (λ (o : Option Key). with_due o at s) due ∙ due_noted at from to kind v s) h

-- access is a check of its verdict
pub access_checked : (at : ℕ) (s t : State) (caller from to : Loaded) (what : List ℕ) (v : Verdict) (r : Result Unit LinkEnd) → caller ≡ from
    → v ≡ class_verdict s.layers.facts (place_of caller) (place_of to) (is_public to.declared.flags) → what ≡ dotted to.declared.name
    → Leaves (checked at from to kinds.Class what s v) r t → Leaves (access at s from to) r t
access_checked at s t caller from to what v r same of_verdict of_what h =
    let verdict : Loaded → Verdict = λ x. class_verdict s.layers.facts (place_of x) (place_of to) (is_public to.declared.flags) in
    subst (λ (w : List ℕ). Leaves (checked at from to kinds.Class w s (verdict from)) r t) of_what
    (subst (λ (x : Verdict). Leaves (checked at from to kinds.Class what s x) r t) (of_verdict ∙ ap verdict same) h)
