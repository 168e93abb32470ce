-- What is granted stays granted.
use Rattle.std.proofs.Common.{◌≡◌, List, [], ◌∷◌, ◌++◌, Bool, true, false, ◌&&◌, ◌||◌, if◌then◌else◌, Option, Some, None, refl, sym, ◌∙◌, ap, ℕ, zero, suc, true≢false}
use Rattle.std.specs.List.{list_any}
use Rattle.std.proofs.lemmas.List.{append-nil, append_assoc}
use Rattle.std.proofs.lemmas.List.Folds.{list_any-append}
use Rattle.std.proofs.lemmas.Option.{slice_get_within}
use Rattle.jl_logic.specs.Lists.{IsFront}
use Rattle.jl_logic.specs.Order.{is_text}
use Rattle.jl_prim.specs.declared.numbers.ModuleId.{ModuleId}
use Rattle.jl_access.specs.declared.statement.Statement.{Statement}
use Rattle.jl_access.specs.declared.verdict.Place.{Place}
use Rattle.jl_access.specs.declared.verdict.MemberAccess.{MemberAccess}
use Rattle.jl_access.specs.declared.verdict.Rule.{Rule}
use Rattle.jl_access.specs.declared.verdict.Rule.TheVariants as rules
use Rattle.jl_access.specs.declared.verdict.Verdict.{Verdict}
use Rattle.jl_access.specs.declared.verdict.Verdict.TheVariants.{Granted, Denied}
use Rattle.jl_access.specs.Facts.{State, Declared, Adds, Grows, numbered, is_open_in, packages_in, has_package, is_open_module, is_same, says_reads, says_opens, says_exports, says_uses, reaches_all, anywhere, reach_to, reads, opened, open_to, open_to_all, exported, exported_to, exported_to_all, asked_open, asked_exported, uses}
use Rattle.jl_access.proofs.Lists.{front_place}
use Rattle.jl_access.specs.Verdicts.{judged, then_judged, class_verdict, within_module, beyond_reading, is_one_module, member_verdict, by_its_class, reflect_verdict, reflect_conditions, is_shown, is_shown_to, may_go_deep, deep_verdict, service_verdict, caller_verdict}

-- ---- booleans

or_stays : (a b c d : Bool) → (a ≡ true → c ≡ true) → (b ≡ true → d ≡ true) → (a || b) ≡ true → (c || d) ≡ true
or_stays true b c d f g e = ap (λ x. x || d) (f refl)
or_stays false b c d f g e = ap (λ x. c || x) (g e) ∙ or_true c
  where
    or_true : (b : Bool) → (b || true) ≡ true
    or_true true = refl
    or_true false = refl

and_stays : (a b d : Bool) → (b ≡ true → d ≡ true) → (a && b) ≡ true → (a && d) ≡ true
and_stays true b d g e = g e
and_stays false b d g e = e

both_stay : (a b c d : Bool) → (a ≡ true → c ≡ true) → (b ≡ true → d ≡ true) → (a && b) ≡ true → (c && d) ≡ true
both_stay true b c d f g e = ap (λ x. x && d) (f refl) ∙ g e
both_stay false b c d f g e = absurd cc

-- ---- facts

kept_module : (old rest : List Declared) (n : ℕ) (d : Declared) → numbered old n ≡ Some d → numbered (old ++ rest) n ≡ Some d
kept_module old rest zero d e = absurd cc
kept_module old rest (suc n) d e = front_place old rest n (slice_get_within old n d e) ∙ e

-- what no module fails to have stays
kept_in : (q : Option Declared → Bool) (old new : List Declared) (n : ℕ) → q None ≡ false → IsFront old new → q (numbered old n) ≡ true → q (numbered new n) ≡ true
kept_in q old new n none front e = by (numbered old n) refl
  where
    by : (o : Option Declared) → numbered old n ≡ o → q (numbered new n) ≡ true
    by None h = absurd (true≢false (sym e ∙ ap q h ∙ none))
    by (Some d) h = ap (λ ms. q (numbered ms n)) front.1 ∙ ap q (kept_module old front.0 n d h ∙ sym h) ∙ e

-- a statement more, a module more, and one growth after another
pub grows_by_statement : (s : Statement) (f g : State) → Adds s f g → Grows f g
grows_by_statement s f g adds = record { modules = ([], adds.modules ∙ sym (append-nil f.modules)); statements = (s ∷ [], adds.statements) }

pub grows_by_module : (d : Declared) (f g : State) → g.modules ≡ f.modules ++ d ∷ [] → g.statements ≡ f.statements → Grows f g
grows_by_module d f g modules statements = record { modules = (d ∷ [], modules); statements = ([], statements ∙ sym (append-nil f.statements)) }

front_onward : {X : Type 0} (xs ys zs : List X) → IsFront xs ys → IsFront ys zs → IsFront xs zs
front_onward xs ys zs p q = (p.0 ++ q.0, q.1 ∙ ap (λ l. l ++ q.0) p.1 ∙ append_assoc xs p.0 q.0)

pub grows_onward : (f g h : State) → Grows f g → Grows g h → Grows f h
grows_onward f g h a b = record { modules = front_onward f.modules g.modules h.modules a.modules b.modules; statements = front_onward f.statements g.statements h.statements a.statements b.statements }

module _ (f g : State) (grows : Grows f g) where
  more : (p : Statement → Bool) → list_any p f.statements ≡ true → list_any p g.statements ≡ true
  more p e =
      let rest = grows.statements.0 in
      ap (list_any p) grows.statements.1 ∙ list_any-append p f.statements rest ∙ ap (λ b. b || list_any p rest) e

  open_stays : (m : ModuleId) → is_open_module f m ≡ true → is_open_module g m ≡ true
  open_stays m = kept_in is_open_in f.modules g.modules m.0 refl grows.modules

  pub packages_stay : (m : ModuleId) (p : List ℕ) → has_package f m p ≡ true → has_package g m p ≡ true
  packages_stay m p = kept_in (λ o. list_any (λ q. is_text q p) (packages_in o)) f.modules g.modules m.0 refl grows.modules

  pub reads_stay : (a b : ModuleId) → reads f a b ≡ true → reads g a b ≡ true
  reads_stay a b = or_stays (is_same a b) (list_any (says_reads a b) f.statements) (is_same a b) (list_any (says_reads a b) g.statements) (λ e. e) (more (says_reads a b))

  pub opened_stays : (m : ModuleId) (p : List ℕ) → opened f m p ≡ true → opened g m p ≡ true
  opened_stays m p = or_stays (is_open_module f m) (list_any (says_opens anywhere m p) f.statements) (is_open_module g m) (list_any (says_opens anywhere m p) g.statements) (open_stays m) (more (says_opens anywhere m p))

  pub open_to_stays : (m : ModuleId) (p : List ℕ) (c : ModuleId) → open_to f m p c ≡ true → open_to g m p c ≡ true
  open_to_stays m p c =
      or_stays (is_same m c) (is_open_module f m || list_any (says_opens (reach_to c) m p) f.statements) (is_same m c) (is_open_module g m || list_any (says_opens (reach_to c) m p) g.statements) (λ e. e)
      (or_stays (is_open_module f m) (list_any (says_opens (reach_to c) m p) f.statements) (is_open_module g m) (list_any (says_opens (reach_to c) m p) g.statements) (open_stays m) (more (says_opens (reach_to c) m p)))

  pub exported_stays : (m : ModuleId) (p : List ℕ) → exported f m p ≡ true → exported g m p ≡ true
  exported_stays m p = or_stays (opened f m p) (list_any (says_exports anywhere m p) f.statements) (opened g m p) (list_any (says_exports anywhere m p) g.statements) (opened_stays m p) (more (says_exports anywhere m p))

  pub exported_to_stays : (m : ModuleId) (p : List ℕ) (c : ModuleId) → exported_to f m p c ≡ true → exported_to g m p c ≡ true
  exported_to_stays m p c = or_stays (open_to f m p c) (list_any (says_exports (reach_to c) m p) f.statements) (open_to g m p c) (list_any (says_exports (reach_to c) m p) g.statements) (open_to_stays m p c) (more (says_exports (reach_to c) m p))

  pub open_to_all_stays : (m : ModuleId) (p : List ℕ) → open_to_all f m p ≡ true → open_to_all g m p ≡ true
  open_to_all_stays m p = or_stays (is_open_module f m) (list_any (says_opens reaches_all m p) f.statements) (is_open_module g m) (list_any (says_opens reaches_all m p) g.statements) (open_stays m) (more (says_opens reaches_all m p))

  pub exported_to_all_stays : (m : ModuleId) (p : List ℕ) → exported_to_all f m p ≡ true → exported_to_all g m p ≡ true
  exported_to_all_stays m p = or_stays (open_to_all f m p) (list_any (says_exports reaches_all m p) f.statements) (open_to_all g m p) (list_any (says_exports reaches_all m p) g.statements) (open_to_all_stays m p) (more (says_exports reaches_all m p))

  pub asked_open_stays : (m : ModuleId) (p : List ℕ) (to : Option ModuleId) → asked_open f m p to ≡ true → asked_open g m p to ≡ true
  asked_open_stays m p None = both_stay (has_package f m p) (open_to_all f m p) (has_package g m p) (open_to_all g m p) (packages_stay m p) (open_to_all_stays m p)
  asked_open_stays m p (Some c) = both_stay (has_package f m p) (open_to f m p c) (has_package g m p) (open_to g m p c) (packages_stay m p) (open_to_stays m p c)

  pub asked_exported_stays : (m : ModuleId) (p : List ℕ) (to : Option ModuleId) → asked_exported f m p to ≡ true → asked_exported g m p to ≡ true
  asked_exported_stays m p None = both_stay (has_package f m p) (exported_to_all f m p) (has_package g m p) (exported_to_all g m p) (packages_stay m p) (exported_to_all_stays m p)
  asked_exported_stays m p (Some c) = both_stay (has_package f m p) (exported_to f m p c) (has_package g m p) (exported_to g m p c) (packages_stay m p) (exported_to_stays m p c)

  pub uses_stay : (m : ModuleId) (t : List ℕ) → uses f m t ≡ true → uses g m t ≡ true
  uses_stay m t = more (says_uses m t)

-- ---- verdicts

-- a grant has each condition
pub granted_first : (c : Bool) (r : Rule) (cs : List (Bool × Rule)) → judged ((c, r) ∷ cs) ≡ Granted → (c ≡ true) × (judged cs ≡ Granted)
granted_first true r cs e = (refl, e)
granted_first false r cs e = absurd cc

judged_stays : (c d : Bool) (r : Rule) (cs ds : List (Bool × Rule)) → (c ≡ true → d ≡ true) → (judged cs ≡ Granted → judged ds ≡ Granted) → judged ((c, r) ∷ cs) ≡ Granted → judged ((d, r) ∷ ds) ≡ Granted
judged_stays c d r cs ds f h e =
    let g = granted_first c r cs e in
    ap (λ b. if b then judged ds else Denied r) (f g.0) ∙ h g.1

pub then_granted : (v w : Verdict) → then_judged v w ≡ Granted → (v ≡ Granted) × (w ≡ Granted)
then_granted Granted w e = (refl, e)
then_granted (Denied r) w e = absurd cc

module _ (f g : State) (from to : Place) (public : Bool) (grows : Grows f g) where
  beyond_stays : judged (beyond_reading f from to public) ≡ Granted → judged (beyond_reading g from to public) ≡ Granted
  beyond_stays =
      let m = to.module in
      let p = to.package in
      let c = from.module in
      let last = (public, rules.ClassNotPublic) ∷ [] in
      judged_stays (exported f m p) (exported g m p) rules.NotExported ((exported_to f m p c, rules.NotExportedTo) ∷ last) ((exported_to g m p c, rules.NotExportedTo) ∷ last) (exported_stays f g grows m p)
      (judged_stays (exported_to f m p c) (exported_to g m p c) rules.NotExportedTo last last (exported_to_stays f g grows m p c) (λ e. e))

  pub classes_stay : class_verdict f from to public ≡ Granted → class_verdict g from to public ≡ Granted
  classes_stay = by (is_one_module from to)
    where
      by : (b : Bool) → judged (if b then within_module from to public else (reads f from.module to.module, rules.NotRead) ∷ beyond_reading f from to public) ≡ Granted
          → judged (if b then within_module from to public else (reads g from.module to.module, rules.NotRead) ∷ beyond_reading g from to public) ≡ Granted
      by true e = e
      by false e = judged_stays (reads f from.module to.module) (reads g from.module to.module) rules.NotRead (beyond_reading f from to public) (beyond_reading g from to public) (reads_stay f g grows from.module to.module) beyond_stays e

  reflect_stays : judged (reflect_conditions f from to public) ≡ Granted → judged (reflect_conditions g from to public) ≡ Granted
  reflect_stays = by (is_one_module from to)
    where
      by : (b : Bool) → judged (if b then within_module from to public else beyond_reading f from to public) ≡ Granted
          → judged (if b then within_module from to public else beyond_reading g from to public) ≡ Granted
      by true e = e
      by false e = beyond_stays e

  pub reflection_stays : (a : MemberAccess) → reflect_verdict f from to public a ≡ Granted → reflect_verdict g from to public a ≡ Granted
  reflection_stays a = by a.same_class
    where
      by : (b : Bool) → (if b then Granted else then_judged (judged (reflect_conditions f from to public)) (member_verdict (by_its_class a))) ≡ Granted
          → (if b then Granted else then_judged (judged (reflect_conditions g from to public)) (member_verdict (by_its_class a))) ≡ Granted
      by true e = e
      by false e =
          let h = then_granted (judged (reflect_conditions f from to public)) (member_verdict (by_its_class a)) e in
          ap (λ v. then_judged v (member_verdict (by_its_class a))) (reflect_stays h.0) ∙ h.1

  deep_may_stay : (a : MemberAccess) → may_go_deep f from to public a ≡ true → may_go_deep g from to public a ≡ true
  deep_may_stay a =
      let m = to.module in
      let p = to.package in
      let c = from.module in
      or_stays (is_one_module from to) (is_shown_to f from to public a || open_to f m p c) (is_one_module from to) (is_shown_to g from to public a || open_to g m p c) (λ e. e)
      (or_stays (is_shown_to f from to public a) (open_to f m p c) (is_shown_to g from to public a) (open_to g m p c)
      (and_stays public (is_shown a && exported_to f m p c) (is_shown a && exported_to g m p c) (and_stays (is_shown a) (exported_to f m p c) (exported_to g m p c) (exported_to_stays f g grows m p c)))
      (open_to_stays f g grows m p c))

  pub deep_stays : (a : MemberAccess) → deep_verdict f from to public a ≡ Granted → deep_verdict g from to public a ≡ Granted
  deep_stays a e = by (may_go_deep f from to public a) (opened f to.module to.package) refl e
    where
      by : (b o : Bool) → may_go_deep f from to public a ≡ b → (if b then Granted else (if o then Denied rules.NotOpenTo else Denied rules.NotOpen)) ≡ Granted → deep_verdict g from to public a ≡ Granted
      by true o h e = ap (λ b. if b then Granted else (if opened g to.module to.package then Denied rules.NotOpenTo else Denied rules.NotOpen)) (deep_may_stay a h)
      by false true h e = absurd cc
      by false false h e = absurd cc

module _ (f g : State) (from : ModuleId) (grows : Grows f g) where
  pub services_stay : (service : List ℕ) → service_verdict f from service ≡ Granted → service_verdict g from service ≡ Granted
  services_stay t = judged_stays (uses f from t) (uses g from t) rules.ServiceNotUsed [] [] (uses_stay f g grows from t) (λ e. e)

  pub changes_stay : (to : ModuleId) (opens : Option (List ℕ)) → caller_verdict f from to opens ≡ Granted → caller_verdict g from to opens ≡ Granted
  changes_stay to None = λ e. e
  changes_stay to (Some p) = judged_stays (open_to f to p from) (open_to g to p from) rules.CallerNotAllowed [] [] (open_to_stays f g grows to p from) (λ e. e)
