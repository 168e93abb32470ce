-- What a grant between two modules is.
use Rattle.std.proofs.Common.{◌≡◌, ◌⊎◌, List, [], ◌∷◌, Bool, true, false, ◌&&◌, ◌||◌, if◌then◌else◌, inl, inr, refl, sym, ◌∙◌, ap, true≢false, ℕ}
use Rattle.std.specs.Prelude.{◌↔◌}
use Rattle.std.specs.List.{list_any}
use Rattle.jl_prim.specs.declared.numbers.ModuleId.{ModuleId}
use Rattle.jl_logic.specs.Order.{is_text}
use Rattle.jl_access.specs.declared.statement.Statement.{Statement}
use Rattle.jl_access.specs.declared.statement.Statement.TheVariants as statements
use Rattle.jl_access.specs.declared.verdict.Place.{Place}
use Rattle.jl_access.specs.declared.verdict.MemberAccess.{MemberAccess}
use Rattle.jl_access.specs.declared.verdict.Rule.TheVariants as rules
use Rattle.jl_access.specs.declared.verdict.Verdict.TheVariants.{Granted, Denied}
use Rattle.jl_access.specs.Facts.{State, is_open_module, is_same, says_opens, says_exports, anywhere, reaches, reach_to, reads, opened, open_to, exported, exported_to}
use Rattle.jl_access.specs.Verdicts.{judged, then_judged, class_verdict, within_module, beyond_reading, is_one_module, member_verdict, by_its_class, reflect_verdict, reflect_conditions, is_shown, is_shown_to, may_go_deep, deep_verdict}
use Rattle.jl_access.proofs.Lists.{eqb_turned}
use Rattle.jl_access.proofs.Conditions.{holds}
use Rattle.jl_access.proofs.Staying.{granted_first, then_granted}

-- ---- grants between two modules

any_implied : (p q : Statement → Bool) (ss : List Statement) → ((s : Statement) → p s ≡ true → q s ≡ true) → list_any p ss ≡ true → list_any q ss ≡ true
any_implied p q [] h e = e
any_implied p q (s ∷ ss) h e = by (p s) (q s) (h s) (any_implied p q ss h) e
  where
    by : (a b : Bool) → (a ≡ true → b ≡ true) → (list_any p ss ≡ true → list_any q ss ≡ true) → (a || list_any p ss) ≡ true → (b || list_any q ss) ≡ true
    by true b f g e = ap (λ x. x || list_any q ss) (f refl)
    by false true f g e = refl
    by false false f g e = g e

less_said : (m t r : Bool) → (m && (t && r)) ≡ true → (m && (t && true)) ≡ true
less_said true true r e = refl
less_said true false r e = e
less_said false t r e = e

opens_implied : (c m : ModuleId) (p : List ℕ) (s : Statement) → says_opens (reach_to c) m p s ≡ true → says_opens anywhere m p s ≡ true
opens_implied c m p (statements.Reads a b) e = e
opens_implied c m p (statements.Exports x q r) e = e
opens_implied c m p (statements.Opens x q r) e = less_said (is_same x m) (is_text q p) (reaches r c) e
opens_implied c m p (statements.Uses x t) e = e

exports_implied : (c m : ModuleId) (p : List ℕ) (s : Statement) → says_exports (reach_to c) m p s ≡ true → says_exports anywhere m p s ≡ true
exports_implied c m p (statements.Reads a b) e = e
exports_implied c m p (statements.Opens x q r) e = e
exports_implied c m p (statements.Exports x q r) e = less_said (is_same x m) (is_text q p) (reaches r c) e
exports_implied c m p (statements.Uses x t) e = e

somewhere : (same o a b c d : Bool) → same ≡ false → (a ≡ true → b ≡ true) → (c ≡ true → d ≡ true) → ((same || (o || a)) || c) ≡ true → ((o || b) || d) ≡ true
somewhere true o a b c d h f g e = absurd (true≢false h)
somewhere false true a b c d h f g e = refl
somewhere false false true b c d h f g e = ap (λ x. x || d) (f refl)
somewhere false false false true c d h f g e = refl
somewhere false false false false c d h f g e = g e

-- what is exported to another module is exported
exported_somewhere : (f : State) (m : ModuleId) (p : List ℕ) (c : ModuleId) → is_same m c ≡ false → exported_to f m p c ≡ true → exported f m p ≡ true
exported_somewhere f m p c other =
    let ss = f.statements in
    somewhere (is_same m c) (is_open_module f m) (list_any (says_opens (reach_to c) m p) ss) (list_any (says_opens anywhere m p) ss) (list_any (says_exports (reach_to c) m p) ss) (list_any (says_exports anywhere m p) ss)
    other (any_implied (says_opens (reach_to c) m p) (says_opens anywhere m p) ss (opens_implied c m p)) (any_implied (says_exports (reach_to c) m p) (says_exports anywhere m p) ss (exports_implied c m p))

-- what is asked beyond reading
beyond_by : (f : State) (from to : Place) (public : Bool) → is_one_module from to ≡ false
    → (judged (beyond_reading f from to public) ≡ Granted) ↔ ((exported_to f to.module to.package from.module ≡ true) × (public ≡ true))
beyond_by f from to public other =
    let m = to.module in
    let p = to.package in
    let c = from.module in
    let last = (public, rules.ClassNotPublic) ∷ [] in (
      λ e.
          let two = granted_first (exported f m p) rules.NotExported ((exported_to f m p c, rules.NotExportedTo) ∷ last) e in
          let three = granted_first (exported_to f m p c) rules.NotExportedTo last two.1 in
          let four = granted_first public rules.ClassNotPublic [] three.1 in
          (three.0, four.0),
      λ h. sym (holds (exported f m p) rules.NotExported ((exported_to f m p c, rules.NotExportedTo) ∷ last) Granted (exported_somewhere f m p c (eqb_turned m.0 c.0 ∙ other) h.0)
          (holds (exported_to f m p c) rules.NotExportedTo last Granted h.0
          (holds public rules.ClassNotPublic [] Granted h.1 refl))),
    )

pub by_three : (f : State) (from to : Place) (public : Bool) → is_one_module from to ≡ false
    → (class_verdict f from to public ≡ Granted) ↔ ((reads f from.module to.module ≡ true) × (exported_to f to.module to.package from.module ≡ true) × (public ≡ true))
by_three f from to public other =
    let m = to.module in
    let c = from.module in
    let beyond = beyond_by f from to public other in
    let is : class_verdict f from to public ≡ judged ((reads f c m, rules.NotRead) ∷ beyond_reading f from to public) =
    ap (λ b. judged (if b then within_module from to public else (reads f c m, rules.NotRead) ∷ beyond_reading f from to public)) other in (
      λ e.
          let one = granted_first (reads f c m) rules.NotRead (beyond_reading f from to public) (sym is ∙ e) in
          let two = beyond.0 one.1 in
          (one.0, two.0, two.1),
      λ h. is ∙ sym (holds (reads f c m) rules.NotRead (beyond_reading f from to public) Granted h.0 (sym (beyond.1 (h.1, h.2)))),
    )

-- ---- reflection

pub by_an_export : (f : State) (from to : Place) (public : Bool) (a : MemberAccess) → is_one_module from to ≡ false → a.same_class ≡ false
    → (reflect_verdict f from to public a ≡ Granted) ↔ ((exported_to f to.module to.package from.module ≡ true) × (public ≡ true) × (member_verdict (by_its_class a) ≡ Granted))
by_an_export f from to public a other apart =
    let last = member_verdict (by_its_class a) in
    let cs = beyond_reading f from to public in
    let beyond = beyond_by f from to public other in
    let is : reflect_verdict f from to public a ≡ then_judged (judged cs) last =
    ap (λ b. if b then Granted else then_judged (judged (reflect_conditions f from to public)) last) apart
    ∙ ap (λ b. then_judged (judged (if b then within_module from to public else cs)) last) other in (
      λ e.
          let both = then_granted (judged cs) last (sym is ∙ e) in
          let class = beyond.0 both.0 in
          (class.0, class.1, both.1),
      λ h. is ∙ ap (λ v. then_judged v last) (beyond.1 (h.0, h.1)) ∙ h.2,
    )

-- ---- deep reflection

deep_granted : (may o : Bool) → ((if may then Granted else (if o then Denied rules.NotOpenTo else Denied rules.NotOpen)) ≡ Granted) ↔ (may ≡ true)
deep_granted true o = (λ e. refl, λ h. refl)
deep_granted false true = (λ e. absurd cc, λ h. absurd (true≢false (sym h)))
deep_granted false false = (λ e. absurd cc, λ h. absurd (true≢false (sym h)))

shown_or_open : (p s e o : Bool) → ((p && (s && e)) || o) ≡ true → (o ≡ true) ⊎ ((e ≡ true) × (p ≡ true) × (s ≡ true))
shown_or_open true true true o h = inr (refl, refl, refl)
shown_or_open true true false o h = inl h
shown_or_open true false e o h = inl h
shown_or_open false s e o h = inl h

or_true : (b : Bool) → (b || true) ≡ true
or_true true = refl
or_true false = refl

open_or_shown : (p s e o : Bool) → (o ≡ true) ⊎ ((e ≡ true) × (p ≡ true) × (s ≡ true)) → ((p && (s && e)) || o) ≡ true
open_or_shown p s e o (inl h) = ap (λ x. (p && (s && e)) || x) h ∙ or_true (p && (s && e))
open_or_shown p s e o (inr h) = ap (λ x. (x && (s && e)) || o) h.1 ∙ ap (λ x. (true && (x && e)) || o) h.2 ∙ ap (λ x. (true && (true && x)) || o) h.0

pub by_an_opening : (f : State) (from to : Place) (public : Bool) (a : MemberAccess) → is_one_module from to ≡ false
    → (deep_verdict f from to public a ≡ Granted) ↔ ((open_to f to.module to.package from.module ≡ true) ⊎ ((exported_to f to.module to.package from.module ≡ true) × (public ≡ true) × (is_shown a ≡ true)))
by_an_opening f from to public a other =
    let e = exported_to f to.module to.package from.module in
    let o = open_to f to.module to.package from.module in
    let granted = deep_granted (may_go_deep f from to public a) (opened f to.module to.package) in
    let is : may_go_deep f from to public a ≡ (is_shown_to f from to public a || o) = ap (λ b. b || (is_shown_to f from to public a || o)) other in (
      λ h. shown_or_open public (is_shown a) e o (sym is ∙ granted.0 h),
      λ h. granted.1 (is ∙ open_or_shown public (is_shown a) e o h),
    )
