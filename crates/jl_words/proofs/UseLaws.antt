-- Options, and the uses that a well-formed line has.
use Rattle.std.proofs.Common.{◌≡◌, ℕ, zero, suc, ◌+◌, ◌≤◌, ◌<◌, List, [], ◌∷◌, ◌++◌, length, drop, Bool, true, false, cond, ◌&&◌, Option, None, Some, Result, Ok, Err, refl, sym, ap, subst, ◌∙◌, arith}
use Rattle.std.specs.Prelude.{is_some, is_ok, slice_get}
use Rattle.std.specs.List.{list_all}
use Rattle.std.specs.Cmp.Lexicographic.{bytes_decides}
use Rattle.std.proofs.Math.Bool.{and-true, and-false}
use Rattle.std.proofs.lemmas.Bool.{true≢false, and_parts, not-true}
use Rattle.std.proofs.lemmas.List.{length-drop}
use Rattle.std.proofs.lemmas.Option.{none-some, same_Some, slice_get_within}
use Rattle.jl_logic.specs.Order.{is_text}
use Rattle.jl_reading.proofs.Steps.{ok_is}
use Rattle.jl_prim.specs.Names.{names_a_module}
use Rattle.jl_words.specs.declared.command.Added.{Added}
use Rattle.jl_words.specs.declared.fault.WordFault.{WordFault}
use Rattle.jl_words.specs.declared.fault.WordFault.TheVariants as faults
use Rattle.jl_words.specs.declared.given.Given.{Given}
use Rattle.jl_words.specs.declared.setting.Setting.{Setting}
use Rattle.jl_words.specs.declared.setting.Setting.TheVariants as settings
use Rattle.jl_words.specs.declared.setting.Verb.{Verb}
use Rattle.jl_words.specs.Settings.{setting_text, has_setting, is_flag}
use Rattle.jl_words.specs.Values.{path_parts, listed, number_of}
use Rattle.jl_words.specs.Line.{Use, use_words, IsUse}
use Rattle.jl_words.specs.Reading.{parted, setting_of, fits, fitting, named_by, is_given, with_value, added_of, with_added, with_steps, and_then, valued, use_of, is_option, word_of}
use Rattle.jl_words.proofs.ValueLaws.{whole}

pub err_ok : {X F : Type 0} (f : F) (y : X) → ◌≡◌ {A = Result X F} (Err f) (Ok y) → ⊥
err_ok f y e = true≢false (sym (ap is_ok e))

-- ---- what a value gives

abbrev pub listed_fact : Option Added → List Added
listed_fact None = []
listed_fact (Some a) = a ∷ []

-- what is given with the value of an option
abbrev pub put : Setting → List ℕ → Given → Given
put settings.ModulePath value given = record given { elements = Some (path_parts value) }
put settings.AddModules value given = record given { add = given.add ++ listed value }
put settings.AddReads value given = record given { added = given.added ++ listed_fact (added_of settings.AddReads value) }
put settings.AddExports value given = record given { added = given.added ++ listed_fact (added_of settings.AddExports value) }
put settings.AddOpens value given = record given { added = given.added ++ listed_fact (added_of settings.AddOpens value) }
put settings.Steps value given = record given { steps = number_of value }
put settings.Report value given = record given { report = true }

-- the value is of the option's form
abbrev pub fine : Setting → List ℕ → Bool
fine settings.ModulePath value = true
fine settings.AddModules value = list_all names_a_module (listed value)
fine settings.AddReads value = is_some (added_of settings.AddReads value)
fine settings.AddExports value = is_some (added_of settings.AddExports value)
fine settings.AddOpens value = is_some (added_of settings.AddOpens value)
fine settings.Steps value = is_some (number_of value)
fine settings.Report value = true

put_fact : (r : Option Added) (at : ℕ) (given : Given) → is_some r ≡ true → with_added r at given ≡ Ok (record given { added = given.added ++ listed_fact r })
put_fact None at given is = absurd (true≢false (sym is))
put_fact (Some a) at given is = refl

pub put_value : (s : Setting) (value : List ℕ) (at : ℕ) (given : Given) → fine s value ≡ true → with_value s value at given ≡ Ok (put s value given)
put_value settings.ModulePath value at given is = refl
put_value settings.AddModules value at given is = rw is refl
put_value settings.AddReads value at given is = put_fact (added_of settings.AddReads value) at given is
put_value settings.AddExports value at given is = put_fact (added_of settings.AddExports value) at given is
put_value settings.AddOpens value at given is = put_fact (added_of settings.AddOpens value) at given is
put_value settings.Steps value at given is = by (number_of value) is
  where
    by : (r : Option ℕ) → is_some r ≡ true → with_steps r at given ≡ Ok (record given { steps = r })
    by None is = absurd (true≢false (sym is))
    by (Some n) is = refl
put_value settings.Report value at given is = refl

-- a value that is taken is of the option's form
fine_fact : (r : Option Added) (at : ℕ) (given after : Given) → with_added r at given ≡ Ok after → is_some r ≡ true
fine_fact None at given after e = absurd (err_ok _ _ e)
fine_fact (Some a) at given after e = refl

fine_steps : (r : Option ℕ) (at : ℕ) (given after : Given) → with_steps r at given ≡ Ok after → is_some r ≡ true
fine_steps None at given after e = absurd (err_ok _ _ e)
fine_steps (Some n) at given after e = refl

fine_value : (s : Setting) (value : List ℕ) (at : ℕ) (given after : Given) → with_value s value at given ≡ Ok after → fine s value ≡ true
fine_value settings.ModulePath value at given after e = refl
fine_value settings.AddModules value at given after e = by (list_all names_a_module (listed value)) e
  where
    by : (t : Bool) → cond t (Ok (record given { add = given.add ++ listed value })) (Err (faults.BadTarget at)) ≡ Ok after → t ≡ true
    by true e = refl
    by false e = absurd (err_ok _ _ e)
fine_value settings.AddReads value at given after e = fine_fact (added_of settings.AddReads value) at given after e
fine_value settings.AddExports value at given after e = fine_fact (added_of settings.AddExports value) at given after e
fine_value settings.AddOpens value at given after e = fine_fact (added_of settings.AddOpens value) at given after e
fine_value settings.Steps value at given after e = fine_steps (number_of value) at given after e
fine_value settings.Report value at given after e = refl

taken_value : (s : Setting) (value : List ℕ) (at : ℕ) (given after : Given) → with_value s value at given ≡ Ok after → (fine s value ≡ true) × (put s value given ≡ after)
taken_value s value at given after e =
    let good = fine_value s value at given after e in
    (good, ok_is {F = WordFault} _ _ (sym (put_value s value at given good) ∙ e))

-- ---- the words of a use

abbrev pub named_word : Setting → Option (List ℕ) → List ℕ
named_word s None = setting_text s
named_word s (Some value) = setting_text s ++ 61 ∷ value

text_whole : (s : Setting) → parted 61 (setting_text s) ≡ None
unfolding parted
text_whole settings.ModulePath = refl
text_whole _ = refl

text_cut : (s : Setting) (value : List ℕ) → parted 61 (setting_text s ++ 61 ∷ value) ≡ Some (setting_text s, value)
unfolding parted
text_cut settings.ModulePath value = refl
text_cut _ value = refl

text_names : (s : Setting) → setting_of (setting_text s) ≡ Some s
text_names settings.ModulePath = refl
text_names _ = refl

text_dash : (s : Setting) (v : Option (List ℕ)) → is_option (Some (named_word s v)) ≡ true
text_dash settings.ModulePath None = refl
text_dash settings.ModulePath (Some v) = refl
text_dash _ None = refl
text_dash _ (Some v) = refl

pub same_text : (a b : List ℕ) → is_text a b ≡ true → a ≡ b
same_text a b e = (bytes_decides a b).0 e

-- one test of the text of an option
tested : (text : List ℕ) (t s : Setting) (rest : Option Setting) → (rest ≡ Some s → text ≡ setting_text s) → cond (is_text text (setting_text t)) (Some t) rest ≡ Some s → text ≡ setting_text s
tested text t s rest later e = by (is_text text (setting_text t)) refl e
  where
    by : (b : Bool) → is_text text (setting_text t) ≡ b → cond b (Some t) rest ≡ Some s → text ≡ setting_text s
    by true is e = same_text text (setting_text t) is ∙ ap setting_text (same_Some t s e)
    by false is e = later e

setting_is : (text : List ℕ) (s : Setting) → setting_of text ≡ Some s → text ≡ setting_text s
setting_is text s =
    tested text settings.ModulePath s _ (tested text settings.AddModules s _ (tested text settings.AddReads s _ (tested text settings.AddExports s _ (tested text settings.AddOpens s _
    (tested text settings.Steps s _ (tested text settings.Report s None (λ e. absurd (none-some s e))))))))

pub record Named (verb : Verb) (word : List ℕ) (s : Setting) (v : Option (List ℕ)) : Type 0 where
  pub text : word ≡ named_word s v
  pub has : has_setting verb s ≡ true
  pub flag : (is_flag s && is_some v) ≡ false

fitting_named : (verb : Verb) (text word : List ℕ) (o : Option Setting) (v w : Option (List ℕ)) (s : Setting) → (o ≡ Some s → word ≡ named_word s v) → fitting verb o v ≡ Some (s, w) → Named verb word s w
fitting_named verb text word None v w s is e = absurd (none-some _ e)
fitting_named verb text word (Some t) v w s is e = by (fits verb t v) refl e
  where
    by : (b : Bool) → fits verb t v ≡ b → cond {A = Option (Setting × Option (List ℕ))} b (Some (t, v)) None ≡ Some (s, w) → Named verb word s w
    by false fit e = absurd (none-some _ e)
    by true fit e =
        let same = same_Some (t, v) (s, w) e in
        let first : t ≡ s = ap (λ x. x.0) same in
        let second : v ≡ w = ap (λ x. x.1) same in
        let parts = and_parts (has_setting verb t) _ fit in
        record {
          text = is (ap Some first) ∙ ap (named_word s) second;
          has = subst (λ x. has_setting verb x ≡ true) first parts.0;
          flag = subst (λ x. (is_flag x.0 && is_some x.1) ≡ false) same (not-true _ parts.1);
        }

named_whole : (verb : Verb) (word : List ℕ) → parted 61 word ≡ None → named_by verb word ≡ fitting verb (setting_of word) None
named_whole verb word e = rw e refl

named_cut : (verb : Verb) (word : List ℕ) (x : List ℕ × List ℕ) → parted 61 word ≡ Some x → named_by verb word ≡ fitting verb (setting_of x.0) (Some x.1)
named_cut verb word x e = rw e refl

pub named_is : (verb : Verb) (word : List ℕ) (s : Setting) (v : Option (List ℕ)) → named_by verb word ≡ Some (s, v) → Named verb word s v
named_is verb word s v e = by (parted 61 word) refl
  where
    by : (r : Option (List ℕ × List ℕ)) → parted 61 word ≡ r → Named verb word s v
    by None cut = fitting_named verb word word (setting_of word) None v s (setting_is word s) (sym (named_whole verb word cut) ∙ e)
    by (Some x) cut = fitting_named verb x.0 word (setting_of x.0) (Some x.1) v s (λ is. whole 61 word x cut ∙ ap (λ l. l ++ 61 ∷ x.1) (setting_is x.0 s is)) (sym (named_cut verb word x cut) ∙ e)

fits_named : (verb : Verb) (s : Setting) (v : Option (List ℕ)) → has_setting verb s ≡ true → (is_flag s && is_some v) ≡ false → fitting verb (Some s) v ≡ Some (s, v)
fits_named verb s v has flag = rw (has, flag) refl

named_found : (verb : Verb) (s : Setting) (v : Option (List ℕ)) → has_setting verb s ≡ true → (is_flag s && is_some v) ≡ false → named_by verb (named_word s v) ≡ Some (s, v)
named_found verb s None has flag = named_whole verb (setting_text s) (text_whole s) ∙ ap (λ o. fitting verb o None) (text_names s) ∙ fits_named verb s None has flag
named_found verb s (Some value) has flag = named_cut verb _ _ (text_cut s value) ∙ ap (λ o. fitting verb o (Some value)) (text_names s) ∙ fits_named verb s (Some value) has flag

-- ---- one use

-- the use stands where the option may stand, and says what is given after it
pub record Adds (verb : Verb) (u : Use) (given after : Given) : Type 0 where
  pub is : IsUse verb u
  pub first : is_given u.setting given ≡ false
  pub good : fine u.setting u.value ≡ true
  pub gives : put u.setting u.value given ≡ after

abbrev pub joined_value : Use → Option (List ℕ)
joined_value u = cond u.joined (Some u.value) None

abbrev is_nil : List (List ℕ) → Bool
is_nil [] = true
is_nil (w ∷ ws) = false

abbrev head_or : List ℕ → List (List ℕ) → List ℕ
head_or d [] = d
head_or d (w ∷ ws) = w

abbrev tail_of : List (List ℕ) → List (List ℕ)
tail_of [] = []
tail_of (w ∷ ws) = ws

-- a word at a place, and the words from there on
pub at_word : (words : List (List ℕ)) (at : ℕ) (word : List ℕ) → slice_get words at ≡ Some word → drop at words ≡ word ∷ drop (suc at) words
at_word [] at word e = absurd (none-some word e)
at_word (w ∷ ws) zero word e = ap (λ x. x ∷ ws) (same_Some w word e)
at_word (w ∷ ws) (suc at) word e = at_word ws at word e

pub from_word : (words : List (List ℕ)) (at : ℕ) (word : List ℕ) (rest : List (List ℕ)) → drop at words ≡ word ∷ rest → (slice_get words at ≡ Some word) × (drop (suc at) words ≡ rest)
from_word [] zero word rest e = absurd (true≢false (ap is_nil e))
from_word [] (suc at) word rest e = absurd (true≢false (ap is_nil e))
from_word (w ∷ ws) zero word rest e = (ap Some (ap (λ l. head_or word l) e), ap tail_of e)
from_word (w ∷ ws) (suc at) word rest e = from_word ws at word rest e

-- what one option at a place is
pub record Used (verb : Verb) (words : List (List ℕ)) (given after : Given) (at next : ℕ) : Type 0 where
  pub it : Use
  pub adds : Adds verb it given after
  pub text : drop at words ≡ use_words it ++ drop next words
  pub further : at < next
  pub within : next ≤ length words

pub and_then_is : (r : Result Given WordFault) (n next : ℕ) (after : Given) → and_then r n ≡ Ok (after, next) → (r ≡ Ok after) × (n ≡ next)
and_then_is (Err f) n next after e = absurd (err_ok _ _ e)
and_then_is (Ok g) n next after e =
    let same = ok_is {F = WordFault} (g, n) (after, next) e in
    (ap (λ x. Ok x.0) same, ap (λ x. x.1) same)

pub valued_flag : (s : Setting) (words : List (List ℕ)) (given : Given) (at : ℕ) → is_flag s ≡ true → valued s None words given at ≡ and_then (with_value s [] at given) (at + 1)
valued_flag s words given at flag = rw flag refl

pub valued_lacks : (s : Setting) (words : List (List ℕ)) (given : Given) (at : ℕ) → is_flag s ≡ false → slice_get words (at + 1) ≡ None → valued s None words given at ≡ Err (faults.Missing (setting_text s))
valued_lacks s words given at flag second = rw flag (rw second refl)

pub valued_apart : (s : Setting) (words : List (List ℕ)) (given : Given) (at : ℕ) (value : List ℕ) → is_flag s ≡ false → slice_get words (at + 1) ≡ Some value → valued s None words given at ≡ and_then (with_value s value (at + 1) given) (at + 2)
valued_apart s words given at value flag second = rw flag (rw second refl)

flag_use : (u : Use) → is_flag u.setting ≡ true → use_words u ≡ setting_text u.setting ∷ []
flag_use u flag = rw flag refl

joined_use : (u : Use) → is_flag u.setting ≡ false → u.joined ≡ true → use_words u ≡ (setting_text u.setting ++ 61 ∷ u.value) ∷ []
joined_use u flag is = rw (flag, is) refl

apart_use : (u : Use) → is_flag u.setting ≡ false → u.joined ≡ false → use_words u ≡ setting_text u.setting ∷ u.value ∷ []
apart_use u flag is = rw (flag, is) refl

module _ (verb : Verb) (words : List (List ℕ)) (given after : Given) (at next : ℕ) (word : List ℕ) (s : Setting) (here : drop at words ≡ word ∷ drop (suc at) words) (first : is_given s given ≡ false) where
  one_there : (n : ℕ) → at + 1 ≡ n → n ≤ length words
  one_there n e = let long = ap length here in omega (arith, e, long, length-drop at words)

  used_joined : (value : List ℕ) → Named verb word s (Some value) → and_then (with_value s value at given) (at + 1) ≡ Ok (after, next) → Used verb words given after at next
  used_joined value named e =
      let flag : is_flag s ≡ false = sym (and-true (is_flag s)) ∙ named.flag in
      let parts = and_then_is (with_value s value at given) (at + 1) next after e in
      let on : suc at ≡ next = omega (arith, parts.1) in
      let taken = taken_value s value at given after parts.0 in
      record {
        it = record { setting = s; value = value; joined = true };
        adds = record { is = record { has = named.has; flag = λ f. absurd (true≢false (sym f ∙ flag)) }; first = first; good = taken.0; gives = taken.1 };
        text = here ∙ ap (λ w. w ∷ drop (suc at) words) named.text ∙ ap (λ n. (setting_text s ++ 61 ∷ value) ∷ drop n words) on ∙ ap (λ l. l ++ drop next words) (sym (joined_use (record { setting = s; value = value; joined = true }) flag refl));
        further = omega (arith, parts.1);
        within = one_there next parts.1;
      }

  used_flag : is_flag s ≡ true → Named verb word s None → and_then (with_value s [] at given) (at + 1) ≡ Ok (after, next) → Used verb words given after at next
  used_flag flag named e =
      let parts = and_then_is (with_value s [] at given) (at + 1) next after e in
      let on : suc at ≡ next = omega (arith, parts.1) in
      let taken = taken_value s [] at given after parts.0 in
      record {
        it = record { setting = s; value = []; joined = false };
        adds = record { is = record { has = named.has; flag = λ f. (refl, refl) }; first = first; good = taken.0; gives = taken.1 };
        text = here ∙ ap (λ w. w ∷ drop (suc at) words) named.text ∙ ap (λ n. setting_text s ∷ drop n words) on ∙ ap (λ l. l ++ drop next words) (sym (flag_use (record { setting = s; value = []; joined = false }) flag));
        further = omega (arith, parts.1);
        within = one_there next parts.1;
      }

  used_apart : (value : List ℕ) → is_flag s ≡ false → slice_get words (at + 1) ≡ Some value → Named verb word s None → and_then (with_value s value (at + 1) given) (at + 2) ≡ Ok (after, next) → Used verb words given after at next
  used_apart value flag second named e =
      let parts = and_then_is (with_value s value (at + 1) given) (at + 2) next after e in
      let on : suc (suc at) ≡ next = omega (arith, parts.1) in
      let place : suc at ≡ at + 1 = omega arith in
      let taken = taken_value s value (at + 1) given after parts.0 in
      let more : drop (suc at) words ≡ value ∷ drop next words =
      at_word words (suc at) value (ap (slice_get words) place ∙ second) ∙ ap (λ n. value ∷ drop n words) on in
      record {
        it = record { setting = s; value = value; joined = false };
        adds = record { is = record { has = named.has; flag = λ f. absurd (true≢false (sym f ∙ flag)) }; first = first; good = taken.0; gives = taken.1 };
        text = here ∙ ap (λ w. w ∷ drop (suc at) words) named.text ∙ ap (λ l. setting_text s ∷ l) more ∙ ap (λ l. l ++ drop next words) (sym (apart_use (record { setting = s; value = value; joined = false }) flag refl));
        further = omega (arith, parts.1);
        within = let less = slice_get_within words (at + 1) value second in omega (arith, less, parts.1);
      }

  -- an option that was read is a use
  used_valued : (v : Option (List ℕ)) → Named verb word s v → valued s v words given at ≡ Ok (after, next) → Used verb words given after at next
  used_valued (Some value) named e = used_joined value named e
  used_valued None named e = by (is_flag s) refl
    where
      apart : is_flag s ≡ false → (r : Option (List ℕ)) → slice_get words (at + 1) ≡ r → Used verb words given after at next
      apart flag None second = absurd (err_ok _ _ (sym (valued_lacks s words given at flag second) ∙ e))
      apart flag (Some value) second = used_apart value flag second named (sym (valued_apart s words given at value flag second) ∙ e)

      by : (t : Bool) → is_flag s ≡ t → Used verb words given after at next
      by true flag = used_flag flag named (sym (valued_flag s words given at flag) ∙ e)
      by false flag = apart flag (slice_get words (at + 1)) refl

pub used_from : (verb : Verb) (words : List (List ℕ)) (given after : Given) (at next : ℕ) (word : List ℕ) → drop at words ≡ word ∷ drop (suc at) words → use_of (named_by verb word) words given at ≡ Ok (after, next) → Used verb words given after at next
used_from verb words given after at next word here e = by (named_by verb word) (named_is verb word) e
  where
    new : (s : Setting) (v : Option (List ℕ)) → Named verb word s v → (t : Bool) → is_given s given ≡ t → cond t (Err (faults.Repeated (setting_text s))) (valued s v words given at) ≡ Ok (after, next) → Used verb words given after at next
    new s v named true first e = absurd (err_ok _ _ e)
    new s v named false first e = used_valued verb words given after at next word s here first v named e

    by : (r : Option (Setting × Option (List ℕ))) → ((s : Setting) (v : Option (List ℕ)) → r ≡ Some (s, v) → Named verb word s v) → use_of r words given at ≡ Ok (after, next) → Used verb words given after at next
    by None is e = absurd (err_ok _ _ e)
    by (Some x) is e = new x.0 x.1 (is x.0 x.1 refl) (is_given x.0 given) refl e

-- a use is read as an option
pub used_read : (verb : Verb) (words rest : List (List ℕ)) (given after : Given) (at : ℕ) (u : Use) → Adds verb u given after → drop at words ≡ use_words u ++ rest
    → (next : ℕ) × (is_option (slice_get words at) ≡ true) × (use_of (named_by verb (word_of (slice_get words at))) words given at ≡ Ok (after, next)) × (drop next words ≡ rest)
used_read verb words rest given after at u adds text = by (is_flag u.setting) refl u.joined refl
  where
    taken : (n : ℕ) → with_value u.setting u.value n given ≡ Ok after
    taken n = put_value u.setting u.value n given adds.good ∙ ap Ok adds.gives

    reads : (v : Option (List ℕ)) (next : ℕ) → (is_flag u.setting && is_some v) ≡ false → slice_get words at ≡ Some (named_word u.setting v) → valued u.setting v words given at ≡ Ok (after, next) → (is_option (slice_get words at) ≡ true) × (use_of (named_by verb (word_of (slice_get words at))) words given at ≡ Ok (after, next))
    reads v next flag here e = (
      ap is_option here ∙ text_dash u.setting v,
      ap (λ w. use_of (named_by verb (word_of w)) words given at) here ∙ ap (λ o. use_of o words given at) (named_found verb u.setting v adds.is.has flag)
          ∙ ap (λ t. cond t (Err (faults.Repeated (setting_text u.setting))) (valued u.setting v words given at)) adds.first ∙ e,
    )

    no_flag : is_flag u.setting ≡ false → (is_flag u.setting && true) ≡ false
    no_flag f = ap (λ t. t && true) f

    by : (t : Bool) → is_flag u.setting ≡ t → (j : Bool) → u.joined ≡ j → (next : ℕ) × (is_option (slice_get words at) ≡ true) × (use_of (named_by verb (word_of (slice_get words at))) words given at ≡ Ok (after, next)) × (drop next words ≡ rest)
    by true flag j is =
        let place : at + 1 ≡ suc at = omega arith in
        let none = (adds.is.flag flag).0 in
        let here = from_word words at (setting_text u.setting) rest (text ∙ ap (λ l. l ++ rest) (flag_use u flag)) in
        let both = reads None (suc at) (and-false (is_flag u.setting)) here.0 (valued_flag u.setting words given at flag ∙ ap (λ v. and_then (with_value u.setting v at given) (at + 1)) (sym none) ∙ ap (λ r. and_then r (at + 1)) (taken at) ∙ ap (λ n. Ok (after, n)) place) in
        (suc at, both.0, both.1, here.1)
    by false flag true is =
        let place : at + 1 ≡ suc at = omega arith in
        let here = from_word words at (setting_text u.setting ++ 61 ∷ u.value) rest (text ∙ ap (λ l. l ++ rest) (joined_use u flag is)) in
        let both = reads (Some u.value) (suc at) (no_flag flag) here.0 (ap (λ r. and_then r (at + 1)) (taken at) ∙ ap (λ n. Ok (after, n)) place) in
        (suc at, both.0, both.1, here.1)
    by false flag false is =
        let place : at + 1 ≡ suc at = omega arith in
        let two : at + 2 ≡ suc (suc at) = omega arith in
        let here = from_word words at (setting_text u.setting) (u.value ∷ rest) (text ∙ ap (λ l. l ++ rest) (apart_use u flag is)) in
        let second = from_word words (suc at) u.value rest here.1 in
        let both = reads None (suc (suc at)) (and-false (is_flag u.setting)) here.0 (valued_apart u.setting words given at u.value flag (ap (slice_get words) place ∙ second.0) ∙ ap (λ r. and_then r (at + 2)) (taken (at + 1)) ∙ ap (λ n. Ok (after, n)) two) in
        (suc (suc at), both.0, both.1, second.1)
