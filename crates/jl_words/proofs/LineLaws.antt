-- That what is read is what a well-formed line says, and the other way round.
use Rattle.std.proofs.Common.{◌≡◌, ℕ, ◌≤◌, List, [], ◌∷◌, ◌++◌, length, map, filter, Bool, true, false, cond, ◌||◌, IsTrue, Option, None, Some, refl, sym, ap, subst, ◌∙◌, arith}
use Rattle.std.specs.Prelude.{is_some}
use Rattle.std.specs.List.{list_all, flat_map, AllByRecursion}
use Rattle.std.proofs.lemmas.Bool.{true≢false, and_parts}
use Rattle.std.proofs.lemmas.List.{append-nil, length-map}
use Rattle.jl_prim.specs.Names.{names_a_module}
use Rattle.jl_logic.specs.Lists.{Match}
use Rattle.jl_logic.proofs.Rising.{each_in_append}
use Rattle.jl_words.specs.declared.command.Added.{Added}
use Rattle.jl_words.specs.declared.given.Given.{Given}
use Rattle.jl_words.specs.declared.setting.Setting.{Setting}
use Rattle.jl_words.specs.declared.setting.Setting.TheVariants as settings
use Rattle.jl_words.specs.declared.setting.Verb.{Verb}
use Rattle.jl_words.specs.declared.setting.Verb.TheVariants as verbs
use Rattle.jl_words.specs.Settings.{is_single, is_setting, has_setting}
use Rattle.jl_words.specs.Values.{path_parts, listed, number_of, IsNumber, IsAdded}
use Rattle.jl_words.specs.Line.{Use, uses_of, values_of, IsUse, AreUses, adds, IsBound, is_some_use, AreElements, AreRoots, AreAdded}
use Rattle.jl_words.specs.Reading.{is_given, added_of, nothing, or_none, or_usual}
use Rattle.jl_words.proofs.ValueLaws.{number_is, number_found, added_is, added_found}
use Rattle.jl_words.proofs.UseLaws.{listed_fact, fine}
use Rattle.jl_words.proofs.GivenLaws.{put_all, Ready, last_path, last_steps, last_report, facts, elements_given, steps_given, report_given, add_given, added_given, count, Fine, ready_parts, ready_from}

pub all_true : {X : Type 0} (p : X → Bool) (xs : List X) → list_all p xs ≡ true → AllByRecursion (λ x. IsTrue (p x)) xs
all_true p [] e = tt
all_true p (x ∷ xs) e = let parts = and_parts (p x) (list_all p xs) e in (parts.0, all_true p xs parts.1)

pub true_all : {X : Type 0} (p : X → Bool) (xs : List X) → AllByRecursion (λ x. IsTrue (p x)) xs → list_all p xs ≡ true
true_all p [] e = refl
true_all p (x ∷ xs) e = rw e.0 (true_all p xs e.1)

each_apart : {X : Type 0} (P : X → Type 0) (xs ys : List X) → AllByRecursion P (xs ++ ys) → AllByRecursion P xs × AllByRecursion P ys
each_apart P [] ys e = (tt, e)
each_apart P (x ∷ xs) ys e = let later = each_apart P xs ys e.1 in ((e.0, later.0), later.1)

-- ---- values that are of their forms

roots_named : (uses : List Use) → Fine uses → AllByRecursion (λ n. IsTrue (names_a_module n)) (flat_map listed (values_of settings.AddModules uses))
roots_named [] good = tt
roots_named (u ∷ us) good = by u.setting good.0 (roots_named us good.1)
  where
    by : (t : Setting) → fine t u.value ≡ true → AllByRecursion (λ n. IsTrue (names_a_module n)) (flat_map listed (values_of settings.AddModules us)) → AllByRecursion (λ n. IsTrue (names_a_module n)) (flat_map listed (map (λ (x : Use). x.value) (cond (is_setting settings.AddModules t) (u ∷ uses_of settings.AddModules us) (uses_of settings.AddModules us))))
    by settings.AddModules g h = each_in_append (λ n. IsTrue (names_a_module n)) (listed u.value) (flat_map listed (values_of settings.AddModules us)) (all_true names_a_module (listed u.value) g) h
    by _ g h = h

numbers_fine : (uses : List Use) → Fine uses → AllByRecursion (λ v. is_some (number_of v) ≡ true) (values_of settings.Steps uses)
numbers_fine [] good = tt
numbers_fine (u ∷ us) good = by u.setting good.0 (numbers_fine us good.1)
  where
    by : (t : Setting) → fine t u.value ≡ true → AllByRecursion (λ v. is_some (number_of v) ≡ true) (values_of settings.Steps us) → AllByRecursion (λ v. is_some (number_of v) ≡ true) (map (λ (x : Use). x.value) (cond (is_setting settings.Steps t) (u ∷ uses_of settings.Steps us) (uses_of settings.Steps us)))
    by settings.Steps g h = (g, h)
    by _ g h = h

take_fact : (u : Use) (l : List Use) (m : List Added) (t : Setting) → u.setting ≡ t → (r : Option Added) → added_of t u.value ≡ r → is_some r ≡ true → Match (λ (x : Use). IsAdded x.setting x.value) l m → Match (λ (x : Use). IsAdded x.setting x.value) (u ∷ l) (listed_fact r ++ m)
take_fact u l m t is None e some h = absurd (true≢false (sym some))
take_fact u l m t is (Some a) e some h = (subst (λ s. IsAdded s u.value a) (sym is) (added_is t u.value a e), h)

facts_match : (uses : List Use) → Fine uses → Match (λ (x : Use). IsAdded x.setting x.value) (filter adds uses) (facts uses)
facts_match [] good = tt
facts_match (u ∷ us) good = by u.setting refl good.0 (facts_match us good.1)
  where
    by : (t : Setting) → u.setting ≡ t → fine t u.value ≡ true → Match (λ (x : Use). IsAdded x.setting x.value) (filter adds us) (facts us) → Match (λ (x : Use). IsAdded x.setting x.value) (cond (is_setting settings.AddReads t || (is_setting settings.AddExports t || is_setting settings.AddOpens t)) (u ∷ filter adds us) (filter adds us)) (listed_fact (added_of t u.value) ++ facts us)
    by settings.AddReads is g h = take_fact u (filter adds us) (facts us) settings.AddReads is (added_of settings.AddReads u.value) refl g h
    by settings.AddExports is g h = take_fact u (filter adds us) (facts us) settings.AddExports is (added_of settings.AddExports u.value) refl g h
    by settings.AddOpens is g h = take_fact u (filter adds us) (facts us) settings.AddOpens is (added_of settings.AddOpens u.value) refl g h
    by _ is g h = h

fine_from : (uses : List Use) (added : List Added) → AllByRecursion (λ n. IsTrue (names_a_module n)) (flat_map listed (values_of settings.AddModules uses)) → AllByRecursion (λ v. is_some (number_of v) ≡ true) (values_of settings.Steps uses) → Match (λ (x : Use). IsAdded x.setting x.value) (filter adds uses) added
    → Fine uses × (added ≡ facts uses)
fine_from [] [] r n m = (tt, refl)
fine_from [] (a ∷ added) r n m = absurd m
fine_from (u ∷ us) added r n m = let x = by u.setting refl added r n m (λ added r n m. fine_from us added r n m) in ((x.0, x.1), x.2)
  where
    Later : Type 0
    Later = (added : List Added) → AllByRecursion (λ n. IsTrue (names_a_module n)) (flat_map listed (values_of settings.AddModules us)) → AllByRecursion (λ v. is_some (number_of v) ≡ true) (values_of settings.Steps us) → Match (λ (x : Use). IsAdded x.setting x.value) (filter adds us) added → Fine us × (added ≡ facts us)

    -- an option that adds a fact
    one_fact : (t : Setting) → u.setting ≡ t → (added : List Added) → AllByRecursion (λ n. IsTrue (names_a_module n)) (flat_map listed (values_of settings.AddModules us)) → AllByRecursion (λ v. is_some (number_of v) ≡ true) (values_of settings.Steps us)
        → Match (λ (x : Use). IsAdded x.setting x.value) (u ∷ filter adds us) added → Later → (is_some (added_of t u.value) ≡ true) × Fine us × (added ≡ listed_fact (added_of t u.value) ++ facts us)
    one_fact t is [] r n m later = absurd m
    one_fact t is (a ∷ added) r n m later =
        let x = later added r n m.1 in
        let found : added_of t u.value ≡ Some a = added_found t u.value a (subst (λ s. IsAdded s u.value a) is m.0) in
        (ap is_some found, x.0, ap (λ l. a ∷ l) x.1 ∙ ap (λ o. listed_fact o ++ facts us) (sym found))

    by : (t : Setting) → u.setting ≡ t → (added : List Added) → AllByRecursion (λ n. IsTrue (names_a_module n)) (flat_map listed (map (λ (x : Use). x.value) (cond (is_setting settings.AddModules t) (u ∷ uses_of settings.AddModules us) (uses_of settings.AddModules us)))) → AllByRecursion (λ v. is_some (number_of v) ≡ true) (map (λ (x : Use). x.value) (cond (is_setting settings.Steps t) (u ∷ uses_of settings.Steps us) (uses_of settings.Steps us)))
        → Match (λ (x : Use). IsAdded x.setting x.value) (cond (is_setting settings.AddReads t || (is_setting settings.AddExports t || is_setting settings.AddOpens t)) (u ∷ filter adds us) (filter adds us)) added → Later → (fine t u.value ≡ true) × Fine us × (added ≡ listed_fact (added_of t u.value) ++ facts us)
    by settings.ModulePath is added r n m later = let x = later added r n m in (refl, x.0, x.1)
    by settings.AddModules is added r n m later =
        let parts = each_apart (λ n. IsTrue (names_a_module n)) (listed u.value) (flat_map listed (values_of settings.AddModules us)) r in
        let x = later added parts.1 n m in
        (true_all names_a_module (listed u.value) parts.0, x.0, x.1)
    by settings.AddReads is added r n m later = one_fact settings.AddReads is added r n m later
    by settings.AddExports is added r n m later = one_fact settings.AddExports is added r n m later
    by settings.AddOpens is added r n m later = one_fact settings.AddOpens is added r n m later
    by settings.Steps is added r n m later = let x = later added r n.1 m in (n.0, x.0, x.1)
    by settings.Report is added r n m later = let x = later added r n m in (refl, x.0, x.1)

-- ---- single options

bound_is : (values : List (List ℕ)) → length values ≤ 1 → AllByRecursion (λ v. is_some (number_of v) ≡ true) values → IsBound values (or_usual (last_steps values None))
bound_is [] few good = refl
bound_is (v ∷ []) few good = by (number_of v) refl good.0
  where
    by : (r : Option ℕ) → number_of v ≡ r → is_some r ≡ true → IsNumber v (or_usual (number_of v))
    by None e some = absurd (true≢false (sym some))
    by (Some n) e some = subst (λ o. IsNumber v (or_usual o)) (sym e) (number_is v n e)
bound_is (v ∷ w ∷ vs) few good = absurd (omega (arith, few))

bound_from : (values : List (List ℕ)) (n : ℕ) → length values ≤ 1 → IsBound values n → AllByRecursion (λ v. is_some (number_of v) ≡ true) values × (or_usual (last_steps values None) ≡ n)
bound_from [] n few is = (tt, sym is)
bound_from (v ∷ []) n few is = let e = number_found v n is in ((ap is_some e, tt), ap or_usual e)
bound_from (v ∷ w ∷ vs) n few is = absurd (omega (arith, few))

path_is : (values : List (List ℕ)) → length values ≤ 1 → or_none (last_path values None) ≡ flat_map path_parts values
path_is [] few = refl
path_is (v ∷ []) few = sym (append-nil (path_parts v))
path_is (v ∷ w ∷ vs) few = absurd (omega (arith, few))

stays : (us : List Use) → last_report us true ≡ true
stays [] = refl
stays (u ∷ us) = stays us

report_is : (us : List Use) → last_report us false ≡ is_some_use us
report_is [] = refl
report_is (u ∷ us) = stays us

nothing_given : (s : Setting) → is_given s nothing ≡ false
nothing_given settings.ModulePath = refl
nothing_given _ = refl

values_few : (s : Setting) (uses : List Use) → length (uses_of s uses) ≤ 1 → length (values_of s uses) ≤ 1
values_few s uses few = omega (arith, few, length-map (uses_of s uses) (λ (x : Use). x.value))

-- ---- what uses say

pub record Said (verb : Verb) (uses : List Use) (after : Given) : Type 0 where
  pub options : AreUses verb uses
  pub path : AreElements uses (or_none after.elements)
  pub roots : AreRoots uses after.add
  pub added : AreAdded uses after.added
  pub steps : IsBound (values_of settings.Steps uses) (or_usual after.steps)
  pub report : after.report ≡ is_some_use (uses_of settings.Report uses)

pub said_from : (verb : Verb) (uses : List Use) → Ready verb uses nothing → Said verb uses (put_all uses nothing)
said_from verb uses ready =
    let parts = ready_parts verb uses nothing ready in
    let once : (s : Setting) → is_single s ≡ true → length (uses_of s uses) ≤ 1 = λ s single. let c = parts.2 s single in omega (arith, c) in
    record {
      options = record { each = parts.0; once = once };
      path = ap or_none (elements_given uses nothing) ∙ path_is (values_of settings.ModulePath uses) (values_few settings.ModulePath uses (once settings.ModulePath refl));
      roots = record { listed = add_given uses nothing; named = subst (AllByRecursion (λ n. IsTrue (names_a_module n))) (sym (add_given uses nothing)) (roots_named uses parts.1) };
      added = subst (Match (λ (x : Use). IsAdded x.setting x.value) (filter adds uses)) (sym (added_given uses nothing)) (facts_match uses parts.1);
      steps = subst (λ o. IsBound (values_of settings.Steps uses) (or_usual o)) (sym (steps_given uses nothing)) (bound_is (values_of settings.Steps uses) (values_few settings.Steps uses (once settings.Steps refl)) (numbers_fine uses parts.1));
      report = report_given uses nothing ∙ report_is (uses_of settings.Report uses);
    }

-- what is given where the uses are those of a line
pub record Meant (verb : Verb) (uses : List Use) (elements add : List (List ℕ)) (added : List Added) (steps : ℕ) (report : Bool) : Type 0 where
  pub ready : Ready verb uses nothing
  pub path : or_none (put_all uses nothing).elements ≡ elements
  pub roots : (put_all uses nothing).add ≡ add
  pub facts : (put_all uses nothing).added ≡ added
  pub bound : or_usual (put_all uses nothing).steps ≡ steps
  pub flag : (put_all uses nothing).report ≡ report

pub meant_from : (verb : Verb) (uses : List Use) (elements add : List (List ℕ)) (added : List Added) (steps : ℕ) (report : Bool)
    → AreUses verb uses → AreElements uses elements → AreRoots uses add → AreAdded uses added → IsBound (values_of settings.Steps uses) steps → report ≡ is_some_use (uses_of settings.Report uses)
    → Meant verb uses elements add added steps report
meant_from verb uses elements add added steps report are path roots is bound flag =
    let numbers = bound_from (values_of settings.Steps uses) steps (values_few settings.Steps uses (are.once settings.Steps refl)) bound in
    let good = fine_from uses added (subst (AllByRecursion (λ n. IsTrue (names_a_module n))) roots.listed roots.named) numbers.0 is in
    let once : (s : Setting) → is_single s ≡ true → count s uses nothing ≤ 1 = λ s single. rw (nothing_given s) (let few = are.once s single in omega (arith, few)) in
    record {
      ready = ready_from verb uses nothing are.each good.0 once;
      path = ap or_none (elements_given uses nothing) ∙ path_is (values_of settings.ModulePath uses) (values_few settings.ModulePath uses (are.once settings.ModulePath refl)) ∙ sym path;
      roots = add_given uses nothing ∙ sym roots.listed;
      facts = added_given uses nothing ∙ sym good.1;
      bound = ap or_usual (steps_given uses nothing) ∙ numbers.1;
      flag = report_given uses nothing ∙ report_is (uses_of settings.Report uses) ∙ sym flag;
    }

-- resolve has neither facts to add nor a bound
pub plain_adds : (uses : List Use) → AllByRecursion (IsUse verbs.Resolve) uses → (filter adds uses ≡ []) × (values_of settings.Steps uses ≡ [])
plain_adds [] each = (refl, refl)
plain_adds (u ∷ us) each = by u.setting each.0.has (plain_adds us each.1)
  where
    by : (t : Setting) → has_setting verbs.Resolve t ≡ true → (filter adds us ≡ []) × (values_of settings.Steps us ≡ []) → (cond (is_setting settings.AddReads t || (is_setting settings.AddExports t || is_setting settings.AddOpens t)) (u ∷ filter adds us) (filter adds us) ≡ []) × (map (λ (x : Use). x.value) (cond (is_setting settings.Steps t) (u ∷ uses_of settings.Steps us) (uses_of settings.Steps us)) ≡ [])
    by settings.ModulePath g h = h
    by settings.AddModules g h = h
    by _ g h = absurd (true≢false (sym g))
