-- An access to a class that was granted is granted in any later state (JVMS 5.4.4).
use Rattle.std.proofs.Common.{◌≡◌, ℕ, Ok, ap, refl}
use Rattle.jl_names.specs.Dots.{dotted}
use Rattle.jl_class.specs.Meaning.{is_public}
use Rattle.jl_access.specs.declared.verdict.Verdict.{Verdict}
use Rattle.jl_access.specs.declared.verdict.Verdict.TheVariants.{Granted, Denied}
use Rattle.jl_access.specs.declared.report.NoteKind.TheVariants as kinds
use Rattle.jl_access.specs.Verdicts.{class_verdict}
use Rattle.jl_access.specs.Laws.{GrantsStay}
use Rattle.jl_loads.specs.Worlds.{State, Loaded, place_of}
use Rattle.jl_loads.specs.Loading.{checked}
use Rattle.jl_loads.specs.Laws.{AccessStays}

-- what passes was granted
passed_granted : (at : ℕ) (s : State) (from to : Loaded) (v : Verdict) → (checked at from to kinds.Class (dotted to.declared.name) s v).1 ≡ Ok tt → v ≡ Granted
passed_granted at s from to Granted e = refl
passed_granted at s from to (Denied r) e = absurd cc

pub access_stays_lem : GrantsStay → AccessStays
access_stays_lem stay at bt f g from to more e =
    let was = passed_granted at f from to (class_verdict f.layers.facts (place_of from) (place_of to) (is_public to.declared.flags)) e in
    ap (λ (v : Verdict). (checked bt from to kinds.Class (dotted to.declared.name) g v).1)
    (stay.classes f.layers.facts g.layers.facts (place_of from) (place_of to) (is_public to.declared.flags) more.layers.facts was)
