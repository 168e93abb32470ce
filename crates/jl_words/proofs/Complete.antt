-- That words which were read as far as they go begin a command.
use Rattle.std.proofs.Common.{◌≡◌, ℕ, zero, suc, ◌+◌, ◌-◌, ◌≤◌, List, [], ◌∷◌, ◌++◌, length, drop, true, false, cond, IsTrue, Option, None, Some, Result, Err, refl, sym, ap, subst, ◌∙◌, arith}
use Rattle.std.specs.Prelude.{slice_get, codes}
use Rattle.std.specs.List.{flat_map, AllByRecursion}
use Rattle.std.proofs.lemmas.Bool.{true≢false}
use Rattle.std.proofs.lemmas.List.{append_assoc, append-nil, length-append}
use Rattle.jl_prim.specs.Names.{names_a_module}
use Rattle.jl_reading.specs.Reading.{◌>>=◌}
use Rattle.jl_logic.proofs.Rising.{each_in_append}
use Rattle.jl_names.specs.Names.{parts}
use Rattle.jl_words.specs.declared.command.Command.{Command}
use Rattle.jl_words.specs.declared.command.Command.TheVariants.{Resolve, Run, Sample}
use Rattle.jl_words.specs.declared.fault.WordFault.{WordFault}
use Rattle.jl_words.specs.declared.fault.WordFault.TheVariants as faults
use Rattle.jl_words.specs.declared.given.Given.{Given}
use Rattle.jl_words.specs.declared.setting.Setting.{Setting}
use Rattle.jl_words.specs.declared.setting.Setting.TheVariants as settings
use Rattle.jl_words.specs.declared.setting.Verb.{Verb}
use Rattle.jl_words.specs.declared.setting.Verb.TheVariants as verbs
use Rattle.jl_words.specs.Settings.{verb_text, setting_text, has_setting, is_flag}
use Rattle.jl_words.specs.Values.{IsNumber, split}
use Rattle.jl_words.specs.Line.{Use, use_words, AreOperands, begins_with_dash, IsResolve, IsRun, IsSample, IsCommand}
use Rattle.jl_words.specs.Reading.{nothing, or_none, run_words, is_given, parted, parted_last, is_option, word_of, named_by, use_of, valued, options_from, operands_at, line_read}
use Rattle.jl_words.specs.Laws.{Begins}
use Rattle.jl_words.proofs.Uses.{used, step}
use Rattle.jl_words.proofs.ValueLaws.{number_is}
use Rattle.jl_words.proofs.UseLaws.{put, fine, Adds, from_word, used_read}
use Rattle.jl_words.proofs.GivenLaws.{put_all, Ready, uses_few}
use Rattle.jl_words.proofs.LineLaws.{Said, said_from}
use Rattle.jl_words.proofs.FoundLaws.{line_with, no_uses}

-- words that so many more make a command
pub record Made (k : ℕ) (words : List (List ℕ)) : Type 0 where
  pub rest : List (List ℕ)
  pub command : Command
  pub few : length rest ≤ k
  pub is : IsCommand (words ++ rest) command

pub begins : (k : ℕ) (words : List (List ℕ)) → k ≤ 2 → Made k words → Begins words
begins k words le m = record { rest = m.rest; command = m.command; few = let n = m.few in omega (arith, n, le); is = m.is }

pub none_more : (words : List (List ℕ)) (c : Command) → IsCommand words c → Made 0 words
none_more words c is = record { rest = []; command = c; few = omega arith; is = subst (λ l. IsCommand l c) (sym (append-nil words)) is }

-- ---- operands

pub resolve_made : (uses : List Use) (roots : List (List ℕ)) → Ready verbs.Resolve uses nothing → AreOperands (roots ++ codes "a" ∷ []) → AllByRecursion (λ n. IsTrue (names_a_module n)) roots → Made 1 (verb_text verbs.Resolve ∷ (flat_map use_words uses ++ roots))
resolve_made uses roots ready stop named =
    let said : Said verbs.Resolve uses (put_all uses nothing) = said_from verbs.Resolve uses ready in
    let all = roots ++ codes "a" ∷ [] in
    let line : IsResolve (verb_text verbs.Resolve ∷ ((flat_map use_words uses ++ roots) ++ codes "a" ∷ [])) (or_none (put_all uses nothing).elements) (put_all uses nothing).add all = record {
      uses = uses;
      text = ap (λ l. verb_text verbs.Resolve ∷ l) (append_assoc (flat_map use_words uses) roots (codes "a" ∷ []));
      options = said.options;
      path = said.path;
      added_roots = said.roots;
      operands = stop;
      named = each_in_append (λ n. IsTrue (names_a_module n)) roots (codes "a" ∷ []) named (refl, tt);
    } in
    record { rest = codes "a" ∷ []; command = Resolve (or_none (put_all uses nothing).elements) (put_all uses nothing).add all; few = omega arith; is = line }

pub run_made : (uses : List Use) → Ready verbs.Run uses nothing → Made 1 (verb_text verbs.Run ∷ flat_map use_words uses)
run_made uses ready =
    let said : Said verbs.Run uses (put_all uses nothing) = said_from verbs.Run uses ready in
    let line : IsRun (verb_text verbs.Run ∷ (flat_map use_words uses ++ codes "a" ∷ [])) (run_words (put_all uses nothing) (codes "a", None) []) = record {
      uses = uses;
      target = codes "a";
      text = refl;
      options = said.options;
      path = said.path;
      added_roots = said.roots;
      added = said.added;
      steps = said.steps;
      report = said.report;
      operands = refl;
      main = (refl, refl);
    } in
    record { rest = codes "a" ∷ []; command = Run (run_words (put_all uses nothing) (codes "a", None) []); few = omega arith; is = line }

one : IsNumber (codes "1") 1
one = number_is (codes "1") 1 refl

sample_is : (number limit : List ℕ) (n bound : ℕ) → IsNumber number n → (1 ≤ n) × (n ≤ 1000) → IsNumber limit bound → IsSample (verb_text verbs.Sample ∷ number ∷ limit ∷ []) n bound
sample_is number limit n bound counts few bounds = record { number = number; limit = limit; text = refl; counts = counts; few = few; bounds = bounds }

sample_made : Made 2 (verb_text verbs.Sample ∷ [])
sample_made = record { rest = codes "1" ∷ codes "1" ∷ []; command = Sample 1 1; few = omega arith; is = sample_is (codes "1") (codes "1") 1 1 one (omega arith, omega arith) one }

pub number_made : (number : List ℕ) (n : ℕ) → IsNumber number n → (1 ≤ n) × (n ≤ 1000) → Made 1 (verb_text verbs.Sample ∷ number ∷ [])
number_made number n counts few = record { rest = codes "1" ∷ []; command = Sample n 1; few = omega arith; is = sample_is number (codes "1") n 1 counts few one }

pub both_made : (number limit : List ℕ) (n bound : ℕ) → IsNumber number n → (1 ≤ n) × (n ≤ 1000) → IsNumber limit bound → Made 0 (verb_text verbs.Sample ∷ number ∷ limit ∷ [])
both_made number limit n bound counts few bounds = record { rest = []; command = Sample n bound; few = omega arith; is = sample_is number limit n bound counts few bounds }

-- ---- options

more : (words : List (List ℕ)) → Made 1 words → Made 2 words
more words m = record { rest = m.rest; command = m.command; few = let n = m.few in omega (arith, n); is = m.is }

resolve_alone : (uses : List Use) → Ready verbs.Resolve uses nothing → Made 1 (verb_text verbs.Resolve ∷ flat_map use_words uses)
resolve_alone uses ready = subst (λ l. Made 1 (verb_text verbs.Resolve ∷ l)) (append-nil (flat_map use_words uses)) (resolve_made uses [] ready refl tt)

-- a command with its options
pub uses_made : (verb : Verb) (uses : List Use) → Ready verb uses nothing → Made 2 (verb_text verb ∷ flat_map use_words uses)
uses_made verbs.Resolve uses ready = more (verb_text verbs.Resolve ∷ flat_map use_words uses) (resolve_alone uses ready)
uses_made verbs.Run uses ready = more (verb_text verbs.Run ∷ flat_map use_words uses) (run_made uses ready)
uses_made verbs.Sample uses ready = subst (λ us. Made 2 (verb_text verbs.Sample ∷ flat_map use_words us)) (sym (no_uses uses nothing ready)) sample_made

optional_made : (verb : Verb) (s : Setting) (uses : List Use) → has_setting verb s ≡ true → Ready verb uses nothing → Made 1 (verb_text verb ∷ flat_map use_words uses)
optional_made verbs.Resolve s uses has ready = resolve_alone uses ready
optional_made verbs.Run s uses has ready = run_made uses ready
optional_made verbs.Sample s uses has ready = absurd (true≢false (sym has))

-- a value that the option may have
abbrev good : Setting → List ℕ
good settings.ModulePath = codes "a"
good settings.AddModules = codes "a"
good settings.AddReads = codes "a=a"
good settings.AddExports = codes "a/p=a"
good settings.AddOpens = codes "a/p=a"
good settings.Steps = codes "1"
good settings.Report = []

good_fine : (s : Setting) → fine s (good s) ≡ true
unfolding parted parted_last split parts
good_fine settings.ModulePath = refl
good_fine _ = refl

ready_more : (verb : Verb) (uses : List Use) (u : Use) (given : Given) → Ready verb uses given → Adds verb u (put_all uses given) (put u.setting u.value (put_all uses given)) → Ready verb (uses ++ u ∷ []) given
ready_more verb [] u given ready adds = (adds, tt)
ready_more verb (x ∷ uses) u given ready adds = (ready.0, ready_more verb uses u (put x.setting x.value given) ready.1 adds)

words_more : (uses : List Use) (u : Use) → flat_map use_words (uses ++ u ∷ []) ≡ flat_map use_words uses ++ use_words u
words_more [] u = append-nil (use_words u)
words_more (x ∷ uses) u = ap (λ l. use_words x ++ l) (words_more uses u) ∙ sym (append_assoc (use_words x) (flat_map use_words uses) (use_words u))

-- a command with an option whose value is the next word
pub value_made : (verb : Verb) (uses : List Use) (s : Setting) → Ready verb uses nothing → has_setting verb s ≡ true → is_given s (put_all uses nothing) ≡ false → is_flag s ≡ false → Made 2 (verb_text verb ∷ (flat_map use_words uses ++ setting_text s ∷ []))
value_made verb uses s ready has first flag =
    let u : Use = record { setting = s; value = good s; joined = false } in
    let adds : Adds verb u (put_all uses nothing) (put s (good s) (put_all uses nothing)) = record { is = record { has = has; flag = λ f. absurd (true≢false (sym f ∙ flag)) }; first = first; good = good_fine s; gives = refl } in
    let m = optional_made verb s (uses ++ u ∷ []) has (ready_more verb uses u nothing ready adds) in
    let two : use_words u ≡ setting_text s ∷ good s ∷ [] = rw flag refl in
    let ws = flat_map use_words uses ++ setting_text s ∷ [] in
    let text : flat_map use_words (uses ++ u ∷ []) ≡ ws ++ good s ∷ [] =
    words_more uses u ∙ ap (λ l. flat_map use_words uses ++ l) two ∙ sym (append_assoc (flat_map use_words uses) (setting_text s ∷ []) (good s ∷ [])) in
    let whole : flat_map use_words (uses ++ u ∷ []) ++ m.rest ≡ ws ++ good s ∷ m.rest = ap (λ l. l ++ m.rest) text ∙ append_assoc ws (good s ∷ []) m.rest in
    record { rest = good s ∷ m.rest; command = m.command; few = let n = m.few in omega (arith, n); is = subst (λ l. IsCommand (verb_text verb ∷ l) m.command) whole m.is }

-- ---- an option that stands twice

into_uses : (uses : List Use) (n m : ℕ) (verb : Verb) (words rest : List (List ℕ)) (given : Given) (at : ℕ) → Ready verb uses given → drop at words ≡ flat_map use_words uses ++ rest → n ≡ length uses + m
    → (next : ℕ) × (options_from n verb words given at ≡ options_from m verb words (put_all uses given) next) × (drop next words ≡ rest)
into_uses [] n m verb words rest given at ready text enough = let q : n ≡ m = omega (arith, enough) in (at, ap (λ k. options_from k verb words given at) q, text)
into_uses (u ∷ us) zero m verb words rest given at ready text enough = absurd (omega (arith, enough))
into_uses (u ∷ us) (suc n) m verb words rest given at ready text enough =
    let mid = put u.setting u.value given in
    let here = used_read verb words (flat_map use_words us ++ rest) given mid at u ready.0 (text ∙ append_assoc (use_words u) (flat_map use_words us) rest) in
    let later = into_uses us n m verb words rest mid here.0 ready.1 here.3 (omega (arith, enough)) in
    (later.0, step n verb words given at here.1 ∙ ap (λ r. r >>= λ x. options_from n verb words x.0 x.1) here.2 ∙ later.1, later.2)

option_ends : (m : ℕ) (verb : Verb) (words : List (List ℕ)) (given : Given) (at : ℕ) (f : WordFault) → is_option (slice_get words at) ≡ true → used verb words given at ≡ Err f → options_from (suc m) verb words given at ≡ Err f
option_ends m verb words given at f go e = step m verb words given at go ∙ ap (λ r. r >>= λ x. options_from m verb words x.0 x.1) e

-- words up to the second use of an option have the same fault
pub repeat_read : (verb : Verb) (uses : List Use) (w : List ℕ) (s : Setting) (v : Option (List ℕ)) → Ready verb uses nothing → begins_with_dash w ≡ true → named_by verb w ≡ Some (s, v) → is_given s (put_all uses nothing) ≡ true
    → line_read (verb_text verb ∷ (flat_map use_words uses ++ w ∷ [])) ≡ Err (faults.Repeated (setting_text s))
repeat_read verb uses w s v ready dash named given =
    let ws = flat_map use_words uses ++ w ∷ [] in
    let words = verb_text verb ∷ ws in
    let few = uses_few uses in
    let m : ℕ = suc (length (flat_map use_words uses) - length uses) in
    let o = into_uses uses (length words) (suc m) verb words (w ∷ []) nothing 1 ready refl (omega (arith, few, length-append (flat_map use_words uses) (w ∷ []))) in
    let here = (from_word words o.0 w [] o.2).0 in
    let fault : Result (Given × ℕ) WordFault = Err (faults.Repeated (setting_text s)) in
    let twice : used verb words (put_all uses nothing) o.0 ≡ fault =
    ap (λ x. use_of (named_by verb (word_of x)) words (put_all uses nothing) o.0) here ∙ ap (λ x. use_of x words (put_all uses nothing) o.0) named ∙ ap (λ b. cond b fault (valued s v words (put_all uses nothing) o.0)) given in
    line_with verb ws ∙ ap (λ r. r >>= operands_at verb words) (o.1 ∙ option_ends m verb words (put_all uses nothing) o.0 (faults.Repeated (setting_text s)) (ap is_option here ∙ dash) twice)
