-- What is given after the uses of a well-formed line.
use Rattle.std.proofs.Common.{◌≡◌, ℕ, zero, suc, ◌+◌, ◌≤◌, List, [], ◌∷◌, ◌++◌, length, map, drop, Bool, true, false, cond, Option, None, Some, Result, Ok, Err, refl, sym, ap, subst, ◌∙◌, arith}
use Rattle.std.specs.Prelude.{is_some, slice_get, ⊤}
use Rattle.std.specs.List.{flat_map, AllByRecursion}
use Rattle.std.proofs.lemmas.Bool.{true≢false}
use Rattle.std.proofs.lemmas.List.{append_assoc, append-nil, length-append}
use Rattle.std.proofs.lemmas.Option.{slice_get_past}
use Rattle.jl_reading.specs.Reading.{◌>>=◌}
use Rattle.jl_reading.proofs.Steps.{ok_is}
use Rattle.jl_words.specs.declared.command.Added.{Added}
use Rattle.jl_words.specs.declared.fault.WordFault.{WordFault}
use Rattle.jl_words.specs.declared.given.Given.{Given}
use Rattle.jl_words.specs.declared.setting.Setting.{Setting}
use Rattle.jl_words.specs.declared.setting.Setting.TheVariants as settings
use Rattle.jl_words.specs.declared.setting.Verb.{Verb}
use Rattle.jl_words.specs.Settings.{setting_text, is_flag, is_single, is_setting}
use Rattle.jl_words.specs.Values.{path_parts, listed, number_of}
use Rattle.jl_words.specs.Line.{Use, use_words, uses_of, values_of, IsUse}
use Rattle.jl_words.specs.Reading.{is_given, added_of, is_option, word_of, use_of, named_by, options_from}
use Rattle.jl_words.proofs.Uses.{used, options_stop, step}
use Rattle.jl_words.proofs.UseLaws.{err_ok, listed_fact, put, fine, Adds, Used, at_word, used_from, used_read}

abbrev pub put_all : List Use → Given → Given
put_all [] given = given
put_all (u ∷ us) given = put_all us (put u.setting u.value given)

-- each use may stand where it stands
abbrev pub Ready : Verb → List Use → Given → Type 0
Ready verb [] given = ⊤
Ready verb (u ∷ us) given = Adds verb u given (put u.setting u.value given) × Ready verb us (put u.setting u.value given)

-- ---- the uses of options that were read

pub record Uses (verb : Verb) (words : List (List ℕ)) (given after : Given) (at next : ℕ) : Type 0 where
  pub uses : List Use
  pub ready : Ready verb uses given
  pub gives : put_all uses given ≡ after
  pub text : drop at words ≡ flat_map use_words uses ++ drop next words
  pub ends : is_option (slice_get words next) ≡ false

ended : (verb : Verb) (words : List (List ℕ)) (given after : Given) (at next : ℕ) → is_option (slice_get words at) ≡ false → ◌≡◌ {A = Result (Given × ℕ) WordFault} (Ok (given, at)) (Ok (after, next)) → Uses verb words given after at next
ended verb words given after at next stop e =
    let same = ok_is {F = WordFault} (given, at) (after, next) e in
    let there : at ≡ next = ap (λ x. x.1) same in
    record { uses = []; ready = tt; gives = ap (λ x. x.0) same; text = ap (λ n. drop n words) there; ends = subst (λ n. is_option (slice_get words n) ≡ false) there stop }

one_more : (verb : Verb) (words : List (List ℕ)) (given mid after : Given) (at near next : ℕ) → Used verb words given mid at near → Uses verb words mid after near next → Uses verb words given after at next
one_more verb words given mid after at near next u rest = record {
  uses = u.it ∷ rest.uses;
  ready = (record { is = u.adds.is; first = u.adds.first; good = u.adds.good; gives = refl }, subst (Ready verb rest.uses) (sym u.adds.gives) rest.ready);
  gives = ap (put_all rest.uses) u.adds.gives ∙ rest.gives;
  text = u.text ∙ ap (λ l. use_words u.it ++ l) rest.text ∙ sym (append_assoc (use_words u.it) (flat_map use_words rest.uses) (drop next words));
  ends = rest.ends;
}

pub from_options : (n : ℕ) (verb : Verb) (words : List (List ℕ)) (given after : Given) (at next : ℕ) → length words ≤ at + n → options_from n verb words given at ≡ Ok (after, next) → Uses verb words given after at next
from_options zero verb words given after at next enough e =
    let stop : is_option (slice_get words at) ≡ false = ap is_option (slice_get_past words at (omega (arith, enough))) in
    ended verb words given after at next stop (sym (options_stop 0 verb words given at stop) ∙ e)
from_options (suc n) verb words given after at next enough e = by (slice_get words at) refl (λ mid near. from_options n verb words mid after near next)
  where
    Later : Type 0
    Later = (mid : Given) (near : ℕ) → length words ≤ near + n → options_from n verb words mid near ≡ Ok (after, next) → Uses verb words mid after near next

    read : Later → (word : List ℕ) → slice_get words at ≡ Some word → (r : Result (Given × ℕ) WordFault) → used verb words given at ≡ r → (r >>= λ x. options_from n verb words x.0 x.1) ≡ Ok (after, next) → Uses verb words given after at next
    read later word here (Err f) is e = absurd (err_ok _ _ e)
    read later word here (Ok x) is e =
        let u = used_from verb words given x.0 at x.1 word (at_word words at word here) (ap (λ w. use_of (named_by verb (word_of w)) words given at) (sym here) ∙ is) in
        one_more verb words given x.0 after at x.1 next u (later x.0 x.1 (omega (arith, u.further, enough)) e)

    option : Later → (word : List ℕ) → slice_get words at ≡ Some word → (t : Bool) → is_option (slice_get words at) ≡ t → Uses verb words given after at next
    option later word here false stop = ended verb words given after at next stop (sym (options_stop (suc n) verb words given at stop) ∙ e)
    option later word here true go = read later word here (used verb words given at) refl (sym (step n verb words given at go) ∙ e)

    by : (r : Option (List ℕ)) → slice_get words at ≡ r → Later → Uses verb words given after at next
    by None here later = let stop : is_option (slice_get words at) ≡ false = ap is_option here in ended verb words given after at next stop (sym (options_stop (suc n) verb words given at stop) ∙ e)
    by (Some word) here later = option later word here (is_option (slice_get words at)) refl

-- ---- uses are read

pub head_at : (words rest : List (List ℕ)) (at : ℕ) → drop at words ≡ rest → slice_get words at ≡ slice_get rest 0
head_at [] rest zero e = ap (λ l. slice_get l 0) e
head_at [] rest (suc at) e = ap (λ l. slice_get l 0) e
head_at (w ∷ ws) rest zero e = ap (λ l. slice_get l 0) e
head_at (w ∷ ws) rest (suc at) e = head_at ws rest at e

pub into_options : (uses : List Use) (n : ℕ) (verb : Verb) (words rest : List (List ℕ)) (given : Given) (at : ℕ) → Ready verb uses given → drop at words ≡ flat_map use_words uses ++ rest → is_option (slice_get rest 0) ≡ false → length uses ≤ n
    → (next : ℕ) × (options_from n verb words given at ≡ Ok (put_all uses given, next)) × (drop next words ≡ rest)
into_options [] n verb words rest given at ready text stop enough = (at, options_stop n verb words given at (ap is_option (head_at words rest at text) ∙ stop), text)
into_options (u ∷ us) zero verb words rest given at ready text stop enough = absurd (omega (arith, enough))
into_options (u ∷ us) (suc n) verb words rest given at ready text stop enough =
    let mid = put u.setting u.value given in
    let here = used_read verb words (flat_map use_words us ++ rest) given mid at u ready.0 (text ∙ append_assoc (use_words u) (flat_map use_words us) rest) in
    let later = into_options us n verb words rest mid here.0 ready.1 here.3 stop (omega (arith, enough)) in
    (later.0, step n verb words given at here.1 ∙ ap (λ r. r >>= λ x. options_from n verb words x.0 x.1) here.2 ∙ later.1, later.2)

some_words : (u : Use) → 1 ≤ length (use_words u)
some_words u = by (is_flag u.setting) u.joined
  where
    by : (t j : Bool) → 1 ≤ length (cond t (setting_text u.setting ∷ []) (cond j ((setting_text u.setting ++ 61 ∷ u.value) ∷ []) (setting_text u.setting ∷ u.value ∷ [])))
    by true j = omega arith
    by false true = omega arith
    by false false = omega arith

pub uses_few : (uses : List Use) → length uses ≤ length (flat_map use_words uses)
uses_few [] = omega arith
uses_few (u ∷ us) = let more = uses_few us in let one = some_words u in omega (arith, more, one, length-append (use_words u) (flat_map use_words us))

-- ---- what is given, field by field

abbrev pub last_path : List (List ℕ) → Option (List (List ℕ)) → Option (List (List ℕ))
last_path [] given = given
last_path (v ∷ vs) given = last_path vs (Some (path_parts v))

abbrev pub last_steps : List (List ℕ) → Option ℕ → Option ℕ
last_steps [] given = given
last_steps (v ∷ vs) given = last_steps vs (number_of v)

abbrev pub last_report : List Use → Bool → Bool
last_report [] given = given
last_report (u ∷ us) given = last_report us true

abbrev pub facts : List Use → List Added
facts [] = []
facts (u ∷ us) = listed_fact (added_of u.setting u.value) ++ facts us

pub elements_given : (uses : List Use) (given : Given) → (put_all uses given).elements ≡ last_path (values_of settings.ModulePath uses) given.elements
elements_given [] given = refl
elements_given (u ∷ us) given = by u.setting (elements_given us (put u.setting u.value given))
  where
    by : (t : Setting) → (put_all us (put t u.value given)).elements ≡ last_path (values_of settings.ModulePath us) (put t u.value given).elements → (put_all us (put t u.value given)).elements ≡ last_path (map (λ (x : Use). x.value) (cond (is_setting settings.ModulePath t) (u ∷ uses_of settings.ModulePath us) (uses_of settings.ModulePath us))) given.elements
    by settings.ModulePath h = h
    by _ h = h

pub steps_given : (uses : List Use) (given : Given) → (put_all uses given).steps ≡ last_steps (values_of settings.Steps uses) given.steps
steps_given [] given = refl
steps_given (u ∷ us) given = by u.setting (steps_given us (put u.setting u.value given))
  where
    by : (t : Setting) → (put_all us (put t u.value given)).steps ≡ last_steps (values_of settings.Steps us) (put t u.value given).steps → (put_all us (put t u.value given)).steps ≡ last_steps (map (λ (x : Use). x.value) (cond (is_setting settings.Steps t) (u ∷ uses_of settings.Steps us) (uses_of settings.Steps us))) given.steps
    by settings.ModulePath h = h
    by _ h = h

pub report_given : (uses : List Use) (given : Given) → (put_all uses given).report ≡ last_report (uses_of settings.Report uses) given.report
report_given [] given = refl
report_given (u ∷ us) given = by u.setting (report_given us (put u.setting u.value given))
  where
    by : (t : Setting) → (put_all us (put t u.value given)).report ≡ last_report (uses_of settings.Report us) (put t u.value given).report → (put_all us (put t u.value given)).report ≡ last_report (cond (is_setting settings.Report t) (u ∷ uses_of settings.Report us) (uses_of settings.Report us)) given.report
    by settings.ModulePath h = h
    by _ h = h

pub add_given : (uses : List Use) (given : Given) → (put_all uses given).add ≡ given.add ++ flat_map listed (values_of settings.AddModules uses)
add_given [] given = sym (append-nil given.add)
add_given (u ∷ us) given = by u.setting (add_given us (put u.setting u.value given))
  where
    by : (t : Setting) → (put_all us (put t u.value given)).add ≡ (put t u.value given).add ++ flat_map listed (values_of settings.AddModules us) → (put_all us (put t u.value given)).add ≡ given.add ++ flat_map listed (map (λ (x : Use). x.value) (cond (is_setting settings.AddModules t) (u ∷ uses_of settings.AddModules us) (uses_of settings.AddModules us)))
    by settings.AddModules h = h ∙ append_assoc given.add (listed u.value) (flat_map listed (values_of settings.AddModules us))
    by _ h = h

pub added_given : (uses : List Use) (given : Given) → (put_all uses given).added ≡ given.added ++ facts uses
added_given [] given = sym (append-nil given.added)
added_given (u ∷ us) given = by u.setting (added_given us (put u.setting u.value given))
  where
    by : (t : Setting) → (put_all us (put t u.value given)).added ≡ (put t u.value given).added ++ facts us → (put_all us (put t u.value given)).added ≡ given.added ++ (listed_fact (added_of t u.value) ++ facts us)
    by settings.AddReads h = h ∙ append_assoc given.added (listed_fact (added_of settings.AddReads u.value)) (facts us)
    by settings.AddExports h = h ∙ append_assoc given.added (listed_fact (added_of settings.AddExports u.value)) (facts us)
    by settings.AddOpens h = h ∙ append_assoc given.added (listed_fact (added_of settings.AddOpens u.value)) (facts us)
    by _ h = h

-- ---- at most once

abbrev pub count : Setting → List Use → Given → ℕ
count s uses given = length (uses_of s uses) + cond (is_given s given) 1 0

count_step : (s : Setting) (u : Use) (us : List Use) (given : Given) → is_single s ≡ true → fine u.setting u.value ≡ true → is_given u.setting given ≡ false → count s (u ∷ us) given ≡ count s us (put u.setting u.value given)
count_step s u us given single good first = by s u.setting single good first
  where
    by : (s t : Setting) → is_single s ≡ true → fine t u.value ≡ true → is_given t given ≡ false → length (cond (is_setting s t) (u ∷ uses_of s us) (uses_of s us)) + cond (is_given s given) 1 0 ≡ length (uses_of s us) + cond (is_given s (put t u.value given)) 1 0
    by settings.ModulePath settings.ModulePath single good first = rw first (omega arith)
    by settings.Steps settings.Steps single good first = rw (first, good) (omega arith)
    by settings.Report settings.Report single good first = rw first (omega arith)
    by settings.ModulePath _ single good first = refl
    by settings.Steps _ single good first = refl
    by settings.Report _ single good first = refl
    by _ t single good first = absurd (true≢false (sym single))

abbrev pub Fine : List Use → Type 0
Fine uses = AllByRecursion (λ (u : Use). fine u.setting u.value ≡ true) uses

pub ready_parts : (verb : Verb) (uses : List Use) (given : Given) → Ready verb uses given
    → AllByRecursion (IsUse verb) uses × Fine uses × ((s : Setting) → is_single s ≡ true → count s uses given ≤ 1)
ready_parts verb [] given ready = (tt, tt, λ s single. small (is_given s given))
  where
    small : (b : Bool) → 0 + cond b 1 0 ≤ 1
    small true = omega arith
    small false = omega arith
ready_parts verb (u ∷ us) given ready =
    let later = ready_parts verb us (put u.setting u.value given) ready.1 in
    ((ready.0.is, later.0), (ready.0.good, later.1), λ s single. subst (λ n. n ≤ 1) (sym (count_step s u us given single ready.0.good ready.0.first)) (later.2 s single))

must_be : (b : Bool) (n : ℕ) → suc n + cond b 1 0 ≤ 1 → b ≡ false
must_be true n h = absurd (omega (arith, h))
must_be false n h = refl

pub ready_from : (verb : Verb) (uses : List Use) (given : Given) → AllByRecursion (IsUse verb) uses → Fine uses → ((s : Setting) → is_single s ≡ true → count s uses given ≤ 1) → Ready verb uses given
ready_from verb [] given each good once = tt
ready_from verb (u ∷ us) given each good once =
    let first : is_given u.setting given ≡ false = by u.setting once in
    (record { is = each.0; first = first; good = good.0; gives = refl }, ready_from verb us (put u.setting u.value given) each.1 good.1 (λ s single. subst (λ n. n ≤ 1) (count_step s u us given single good.0 first) (once s single)))
  where
    by : (t : Setting) → ((s : Setting) → is_single s ≡ true → length (cond (is_setting s t) (u ∷ uses_of s us) (uses_of s us)) + cond (is_given s given) 1 0 ≤ 1) → is_given t given ≡ false
    by settings.ModulePath h = must_be (is_some given.elements) (length (uses_of settings.ModulePath us)) (h settings.ModulePath refl)
    by settings.Steps h = must_be (is_some given.steps) (length (uses_of settings.Steps us)) (h settings.Steps refl)
    by settings.Report h = must_be given.report (length (uses_of settings.Report us)) (h settings.Report refl)
    by _ h = refl
