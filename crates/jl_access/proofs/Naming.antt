-- A denial names the first condition that fails, and what a grant between two modules is.
use Rattle.std.proofs.Common.{◌≡◌, ℕ, Option, List, [], ◌∷◌, ◌++◌, Bool, true, false, if◌then◌else◌, refl, sym, ◌∙◌, ap, ap₂, true≢false}
use Rattle.std.specs.Prelude.{◌↔◌}
use Rattle.std.specs.List.{AllByRecursion}
use Rattle.jl_prim.specs.declared.numbers.ModuleId.{ModuleId}
use Rattle.jl_access.specs.declared.verdict.Place.{Place}
use Rattle.jl_access.specs.declared.verdict.MemberAccess.{MemberAccess}
use Rattle.jl_access.specs.declared.verdict.Rule.{Rule}
use Rattle.jl_access.specs.declared.verdict.Rule.TheVariants as rules
use Rattle.jl_access.specs.declared.verdict.Verdict.TheVariants.{Granted, Denied}
use Rattle.jl_access.specs.Facts.{State, opened, uses}
use Rattle.jl_access.specs.Verdicts.{judged, then_judged, member_conditions, by_its_class, reflect_verdict, reflect_conditions, may_go_deep, deep_verdict, service_verdict, may_change, caller_verdict}
use Rattle.jl_access.specs.Laws.{FailsFirst}

-- ---- the first that fails

denied_is : (q r : Rule) → Denied q ≡ Denied r → q ≡ r
denied_is q r e = cc

first_of : (cs : List (Bool × Rule)) (r : Rule) → judged cs ≡ Denied r → FailsFirst cs r
first_of [] r e = absurd cc
first_of (c ∷ cs) r e = by c.0 refl e (first_of cs r)
  where
    by : (b : Bool) → c.0 ≡ b → (if b then judged cs else Denied c.1) ≡ Denied r → (judged cs ≡ Denied r → FailsFirst cs r) → FailsFirst (c ∷ cs) r
    by true h e rest =
        let f = rest e in
        record { before = c ∷ f.before; after = f.after; order = ap (λ l. c ∷ l) f.order; hold = (h, f.hold) }
    by false h e rest = record { before = []; after = cs; order = ap₂ (λ b q. (b, q) ∷ cs) h (denied_is c.1 r e); hold = tt }

named_by : (r : Rule) (before after : List (Bool × Rule)) → AllByRecursion (λ c. c.0 ≡ true) before → judged (before ++ (false, r) ∷ after) ≡ Denied r
named_by r [] after hold = refl
named_by r (c ∷ before) after hold = ap (λ b. if b then judged (before ++ (false, r) ∷ after) else Denied c.1) hold.0 ∙ named_by r before after hold.1

pub denied_first : (cs : List (Bool × Rule)) (r : Rule) → (judged cs ≡ Denied r) ↔ FailsFirst cs r
denied_first cs r = (first_of cs r, λ f. ap judged f.order ∙ named_by r f.before f.after f.hold)

-- ---- reflection

judged_on : (cs ds : List (Bool × Rule)) → then_judged (judged cs) (judged ds) ≡ judged (cs ++ ds)
judged_on [] ds = refl
judged_on (c ∷ cs) ds = by c.0 (judged_on cs ds)
  where
    by : (b : Bool) → then_judged (judged cs) (judged ds) ≡ judged (cs ++ ds) → then_judged (if b then judged cs else Denied c.1) (judged ds) ≡ (if b then judged (cs ++ ds) else Denied c.1)
    by true h = h
    by false h = refl

pub reflection_first : (f : State) (from to : Place) (public : Bool) (a : MemberAccess) (r : Rule) → a.same_class ≡ false
    → (reflect_verdict f from to public a ≡ Denied r) ↔ FailsFirst (reflect_conditions f from to public ++ member_conditions a.access (by_its_class a)) r
reflection_first f from to public a r other =
    let cs = reflect_conditions f from to public in
    let ds = member_conditions a.access (by_its_class a) in
    let is : reflect_verdict f from to public a ≡ judged (cs ++ ds) = ap (λ b. if b then Granted else then_judged (judged cs) (judged ds)) other ∙ judged_on cs ds in
    let first = denied_first (cs ++ ds) r in
    (λ e. first.0 (sym is ∙ e), λ h. is ∙ first.1 h)

-- ---- deep reflection

deeper_closed : (may o : Bool) → ((if may then Granted else (if o then Denied rules.NotOpenTo else Denied rules.NotOpen)) ≡ Denied rules.NotOpen) ↔ ((may ≡ false) × (o ≡ false))
deeper_closed true o = (λ e. absurd cc, λ h. absurd (true≢false h.0))
deeper_closed false true = (λ e. absurd cc, λ h. absurd (true≢false h.1))
deeper_closed false false = (λ e. (refl, refl), λ h. refl)

deeper_to_others : (may o : Bool) → ((if may then Granted else (if o then Denied rules.NotOpenTo else Denied rules.NotOpen)) ≡ Denied rules.NotOpenTo) ↔ ((may ≡ false) × (o ≡ true))
deeper_to_others true o = (λ e. absurd cc, λ h. absurd (true≢false h.0))
deeper_to_others false false = (λ e. absurd cc, λ h. absurd (true≢false (sym h.1)))
deeper_to_others false true = (λ e. (refl, refl), λ h. refl)

pub deep_closed : (f : State) (from to : Place) (public : Bool) (a : MemberAccess)
    → (deep_verdict f from to public a ≡ Denied rules.NotOpen) ↔ ((may_go_deep f from to public a ≡ false) × (opened f to.module to.package ≡ false))
deep_closed f from to public a = deeper_closed (may_go_deep f from to public a) (opened f to.module to.package)

pub deep_to_others : (f : State) (from to : Place) (public : Bool) (a : MemberAccess)
    → (deep_verdict f from to public a ≡ Denied rules.NotOpenTo) ↔ ((may_go_deep f from to public a ≡ false) × (opened f to.module to.package ≡ true))
deep_to_others f from to public a = deeper_to_others (may_go_deep f from to public a) (opened f to.module to.package)

-- ---- services and changes

one_condition : (b : Bool) (q r : Rule) → (judged ((b, q) ∷ []) ≡ Denied r) ↔ ((b ≡ false) × (r ≡ q))
one_condition true q r = (λ e. absurd cc, λ h. absurd (true≢false h.0))
one_condition false q r = (λ e. (refl, sym (denied_is q r e)), λ h. ap (λ x. Denied x) (sym h.1))

pub services_named : (f : State) (from : ModuleId) (service : List ℕ) (r : Rule)
    → (service_verdict f from service ≡ Denied r) ↔ ((uses f from service ≡ false) × (r ≡ rules.ServiceNotUsed))
services_named f from service r = one_condition (uses f from service) rules.ServiceNotUsed r

pub changes_named : (f : State) (from to : ModuleId) (opens : Option (List ℕ)) (r : Rule)
    → (caller_verdict f from to opens ≡ Denied r) ↔ ((may_change f from to opens ≡ false) × (r ≡ rules.CallerNotAllowed))
changes_named f from to opens r = one_condition (may_change f from to opens) rules.CallerNotAllowed r
