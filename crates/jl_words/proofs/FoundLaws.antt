-- That a line is read just where it is well-formed.
use Rattle.std.proofs.Common.{◌≡◌, ℕ, suc, ◌+◌, ◌<◌, ◌≤◌, nat_lt, nat_le, List, [], ◌∷◌, ◌++◌, length, map, drop, Bool, true, false, not, cond, ◌&&◌, IsTrue, Option, None, Some, Result, Ok, Err, refl, sym, ap, subst, ◌∙◌, arith}
use Rattle.std.specs.Prelude.{slice_get, position, codes, IfOk}
use Rattle.std.specs.List.{list_all, flat_map, AllByRecursion, prefix_len}
use Rattle.std.proofs.lemmas.Bool.{true≢false, le-ltb, lt-ltb, ltb-true, ltb-false, leb-true, le-leb, ne_eqb, and_parts}
use Rattle.std.proofs.lemmas.Option.{none-some, same_Some}
use Rattle.std.proofs.lemmas.List.{length-append, length-drop, length-map, drop_all}
use Rattle.jl_logic.specs.Answers.{Gives}
use Rattle.jl_logic.specs.Lists.{Match}
use Rattle.jl_logic.specs.Order.{is_text}
use Rattle.jl_prim.specs.Limits.{most_words, usual_steps}
use Rattle.jl_prim.specs.Names.{names_a_module}
use Rattle.jl_names.specs.Names.{is_empty}
use Rattle.jl_reading.specs.Reading.{◌>>=◌}
use Rattle.jl_reading.proofs.Steps.{bind_ok, ok_is}
use Rattle.jl_reading.proofs.Whole.{found_in, only_in}
use Rattle.jl_words.specs.declared.command.Command.{Command}
use Rattle.jl_words.specs.declared.command.RunWords.{RunWords}
use Rattle.jl_words.specs.declared.command.Command.TheVariants.{Resolve, Run, Sample}
use Rattle.jl_words.specs.declared.fault.WordFault.{WordFault}
use Rattle.jl_words.specs.declared.fault.WordFault.TheVariants as faults
use Rattle.jl_words.specs.declared.given.Given.{Given}
use Rattle.jl_words.specs.declared.setting.Setting.TheVariants as settings
use Rattle.jl_words.specs.declared.setting.Verb.{Verb}
use Rattle.jl_words.specs.declared.setting.Verb.TheVariants as verbs
use Rattle.jl_words.specs.Settings.{verb_text}
use Rattle.jl_words.specs.Values.{number_of, IsNumber, IsAdded, is_digit}
use Rattle.jl_words.specs.Line.{Use, use_words, AreOperands, begins_with_dash, IsResolve, IsRun, IsSample, IsCommand, IsLine, is_some_use, uses_of, IsBound}
use Rattle.jl_words.specs.Reading.{told, nothing, target_of, verb_of, verb_or, or_none, roots_or, run_words, number_or, is_option, options_from, operands_at, resolve_at, run_at, sample_at, line_read}
use Rattle.jl_words.proofs.ValueLaws.{number_is, number_found, target_is, target_found}
use Rattle.jl_words.proofs.UseLaws.{err_ok, same_text, at_word, from_word}
use Rattle.jl_words.proofs.GivenLaws.{put_all, Ready, Uses, from_options, into_options, uses_few, head_at}
use Rattle.jl_words.proofs.LineLaws.{all_true, true_all, Said, said_from, meant_from, plain_adds}

-- ---- roots

all_pass : (p : List ℕ → Bool) (xs : List (List ℕ)) → list_all p xs ≡ true → prefix_len (λ x. not (not (p x))) xs ≡ length xs
all_pass p [] e = refl
all_pass p (x ∷ xs) e = let parts = and_parts (p x) (list_all p xs) e in let later = all_pass p xs parts.1 in rw parts.0 (omega (arith, later))

one_fails : (p : List ℕ → Bool) (xs : List (List ℕ)) → list_all p xs ≡ false → prefix_len (λ x. not (not (p x))) xs < length xs
one_fails p [] e = absurd (true≢false e)
one_fails p (x ∷ xs) e = by (p x) e (one_fails p xs)
  where
    by : (t : Bool) → (t && list_all p xs) ≡ false → (list_all p xs ≡ false → prefix_len (λ x. not (not (p x))) xs < length xs) → cond (not (not t)) (1 + prefix_len (λ x. not (not (p x))) xs) 0 < length (x ∷ xs)
    by true e later = let less = later e in omega (arith, less)
    by false e later = omega arith

no_place : (p : List ℕ → Bool) (xs : List (List ℕ)) → list_all p xs ≡ true → position (λ x. not (p x)) xs ≡ None
no_place p xs e = rw (le-ltb (prefix_len (λ x. not (not (p x))) xs) (length xs) (let all = all_pass p xs e in omega (arith, all))) refl

pub some_place : (p : List ℕ → Bool) (xs : List (List ℕ)) → position (λ x. not (p x)) xs ≡ None → list_all p xs ≡ true
some_place p xs e = by (list_all p xs) refl
  where
    found : list_all p xs ≡ false → position (λ x. not (p x)) xs ≡ Some (prefix_len (λ x. not (not (p x))) xs)
    found none = rw (lt-ltb (prefix_len (λ x. not (not (p x))) xs) (length xs) (one_fails p xs none)) refl

    by : (t : Bool) → list_all p xs ≡ t → t ≡ true
    by true all = refl
    by false none = absurd (none-some _ (sym e ∙ found none))

pub resolve_is : (words : List (List ℕ)) (given : Given) (at : ℕ) (c : Command) → resolve_at words given at ≡ Ok c → (at < length words) × AllByRecursion (λ n. IsTrue (names_a_module n)) (drop at words) × (Resolve (or_none given.elements) given.add (drop at words) ≡ c)
unfolding resolve_at
resolve_is words given at c e = by (nat_lt at (length words)) refl e
  where
    roots : at < length words → (r : Option ℕ) → position (λ n. not (names_a_module n)) (drop at words) ≡ r → roots_or r given words at ≡ Ok c → (at < length words) × AllByRecursion (λ n. IsTrue (names_a_module n)) (drop at words) × (Resolve (or_none given.elements) given.add (drop at words) ≡ c)
    roots less None none e = (less, all_true names_a_module (drop at words) (some_place names_a_module (drop at words) none), ok_is {F = WordFault} _ _ e)
    roots less (Some k) none e = absurd (err_ok _ _ e)

    by : (t : Bool) → nat_lt at (length words) ≡ t → cond t (roots_or (position (λ n. not (names_a_module n)) (drop at words)) given words at) (Err (faults.Missing (codes "ROOT"))) ≡ Ok c → (at < length words) × AllByRecursion (λ n. IsTrue (names_a_module n)) (drop at words) × (Resolve (or_none given.elements) given.add (drop at words) ≡ c)
    by true less e = roots (ltb-true _ _ less) (position (λ n. not (names_a_module n)) (drop at words)) refl e
    by false less e = absurd (err_ok _ _ e)

resolve_found : (words : List (List ℕ)) (given : Given) (at : ℕ) → at < length words → AllByRecursion (λ n. IsTrue (names_a_module n)) (drop at words) → resolve_at words given at ≡ Ok (Resolve (or_none given.elements) given.add (drop at words))
unfolding resolve_at
resolve_found words given at less named = rw (lt-ltb at (length words) less, no_place names_a_module (drop at words) (true_all names_a_module (drop at words) named)) refl

-- ---- targets

pub run_lacks : (words : List (List ℕ)) (given : Given) (at : ℕ) → slice_get words at ≡ None → run_at words given at ≡ Err (faults.Missing (codes "MODULE/CLASS"))
unfolding run_at
run_lacks words given at e = rw e refl

pub run_wrong : (words : List (List ℕ)) (given : Given) (at : ℕ) (word : List ℕ) → slice_get words at ≡ Some word → target_of word ≡ None → run_at words given at ≡ Err (faults.BadTarget at)
unfolding run_at
run_wrong words given at word e f = rw e (rw f refl)

pub run_found : (words : List (List ℕ)) (given : Given) (at : ℕ) (word : List ℕ) (main : List ℕ × Option (List ℕ)) → slice_get words at ≡ Some word → target_of word ≡ Some main → run_at words given at ≡ Ok (Run (run_words given main (drop (at + 1) words)))
unfolding run_at
run_found words given at word main e f = rw e (rw f refl)

pub run_is : (words : List (List ℕ)) (given : Given) (at : ℕ) (c : Command) → run_at words given at ≡ Ok c → (word : List ℕ) × (main : List ℕ × Option (List ℕ)) × (slice_get words at ≡ Some word) × (target_of word ≡ Some main) × (Run (run_words given main (drop (at + 1) words)) ≡ c)
run_is words given at c e = by (slice_get words at) refl
  where
    to : (word : List ℕ) → slice_get words at ≡ Some word → (r : Option (List ℕ × Option (List ℕ))) → target_of word ≡ r → (word : List ℕ) × (main : List ℕ × Option (List ℕ)) × (slice_get words at ≡ Some word) × (target_of word ≡ Some main) × (Run (run_words given main (drop (at + 1) words)) ≡ c)
    to word here None f = absurd (err_ok _ _ (sym (run_wrong words given at word here f) ∙ e))
    to word here (Some main) f = (word, main, here, f, ok_is {F = WordFault} _ _ (sym (run_found words given at word main here f) ∙ e))

    by : (r : Option (List ℕ)) → slice_get words at ≡ r → (word : List ℕ) × (main : List ℕ × Option (List ℕ)) × (slice_get words at ≡ Some word) × (target_of word ≡ Some main) × (Run (run_words given main (drop (at + 1) words)) ≡ c)
    by None here = absurd (err_ok _ _ (sym (run_lacks words given at here) ∙ e))
    by (Some word) here = to word here (target_of word) refl

-- ---- numbers

pub number_read : (what word : List ℕ) (at n : ℕ) → number_of word ≡ Some n → number_or what (Some word) at ≡ Ok n
number_read what word at n e = rw e refl

pub number_wrong : (what word : List ℕ) (at : ℕ) → number_of word ≡ None → number_or what (Some word) at ≡ Err (faults.BadNumber at)
number_wrong what word at e = rw e refl

number_or_is : (what : List ℕ) (o : Option (List ℕ)) (at n : ℕ) → number_or what o at ≡ Ok n → (word : List ℕ) × (o ≡ Some word) × IsNumber word n
number_or_is what None at n e = absurd (err_ok _ _ e)
number_or_is what (Some word) at n e = by (number_of word) refl
  where
    by : (r : Option ℕ) → number_of word ≡ r → (w : List ℕ) × (Some word ≡ Some w) × IsNumber w n
    by None is = absurd (err_ok _ _ (sym (number_wrong what word at is) ∙ e))
    by (Some m) is = (word, refl, number_is word n (is ∙ ap Some (ok_is {F = WordFault} m n (sym (number_read what word at m is) ∙ e))))

pub record Sampled (words : List (List ℕ)) (at : ℕ) (c : Command) : Type 0 where
  pub number : List ℕ
  pub limit : List ℕ
  pub n : ℕ
  pub bound : ℕ
  pub first : slice_get words at ≡ Some number
  pub second : slice_get words (at + 1) ≡ Some limit
  pub counts : IsNumber number n
  pub few : (1 ≤ n) × (n ≤ 1000)
  pub bounds : IsNumber limit bound
  pub last : length words ≤ at + 2
  pub gives : Sample n bound ≡ c

pub sample_is : (words : List (List ℕ)) (at : ℕ) (c : Command) → sample_at words at ≡ Ok c → Sampled words at c
unfolding sample_at
sample_is words at c e =
    let one = bind_ok (number_or (codes "N") (slice_get words at) at) _ c e in
    let first = number_or_is (codes "N") (slice_get words at) at one.0 one.1 in
    by one.0 first.0 first.1 first.2 (nat_le 1 one.0 && nat_le one.0 1000) refl one.2
  where
    last : (n : ℕ) (number : List ℕ) → slice_get words at ≡ Some number → IsNumber number n → (1 ≤ n) × (n ≤ 1000) → (b : ℕ) (limit : List ℕ) → slice_get words (at + 1) ≡ Some limit → IsNumber limit b → (t : Bool) → nat_lt (at + 2) (length words) ≡ t → cond t (Err (faults.UnknownWord (at + 2))) (Ok (Sample n b)) ≡ Ok c → Sampled words at c
    last n number here is few b limit next bounds true more e = absurd (err_ok _ _ e)
    last n number here is few b limit next bounds false more e = record { number = number; limit = limit; n = n; bound = b; first = here; second = next; counts = is; few = few; bounds = bounds; last = ltb-false _ _ more; gives = ok_is {F = WordFault} _ _ e }

    by : (n : ℕ) (number : List ℕ) → slice_get words at ≡ Some number → IsNumber number n → (t : Bool) → (nat_le 1 n && nat_le n 1000) ≡ t
        → cond (not t) (Err (faults.BadNumber at)) (number_or (codes "BOUND") (slice_get words (at + 1)) (at + 1) >>= λ bound. cond (nat_lt (at + 2) (length words)) (Err (faults.UnknownWord (at + 2))) (Ok (Sample n bound))) ≡ Ok c → Sampled words at c
    by n number here is false few e = absurd (err_ok _ _ e)
    by n number here is true few e =
        let parts = and_parts (nat_le 1 n) (nat_le n 1000) few in
        let two = bind_ok (number_or (codes "BOUND") (slice_get words (at + 1)) (at + 1)) _ c e in
        let second = number_or_is (codes "BOUND") (slice_get words (at + 1)) (at + 1) two.0 two.1 in
        last n number here is (leb-true _ _ parts.0, leb-true _ _ parts.1) two.0 second.0 second.1 second.2 (nat_lt (at + 2) (length words)) refl two.2

sample_found : (words : List (List ℕ)) (at : ℕ) (number limit : List ℕ) (n bound : ℕ) → slice_get words at ≡ Some number → slice_get words (at + 1) ≡ Some limit → IsNumber number n → (1 ≤ n) × (n ≤ 1000) → IsNumber limit bound → length words ≤ at + 2 → sample_at words at ≡ Ok (Sample n bound)
unfolding sample_at
sample_found words at number limit n bound first second counts few bounds last =
    rw (first, number_found number n counts, le-leb 1 n few.0, le-leb n 1000 few.1, second, number_found limit bound bounds, le-ltb (at + 2) (length words) last) refl

-- ---- commands

verb_found : (verb : Verb) → verb_of (verb_text verb) ≡ Some verb
verb_found verbs.Resolve = refl
verb_found _ = refl

tested : (word : List ℕ) (t s : Verb) (rest : Option Verb) → (rest ≡ Some s → word ≡ verb_text s) → cond (is_text word (verb_text t)) (Some t) rest ≡ Some s → word ≡ verb_text s
tested word t s rest later e = by (is_text word (verb_text t)) refl e
  where
    by : (b : Bool) → is_text word (verb_text t) ≡ b → cond b (Some t) rest ≡ Some s → word ≡ verb_text s
    by true is e = same_text word (verb_text t) is ∙ ap verb_text (same_Some t s e)
    by false is e = later e

pub verb_is : (word : List ℕ) (verb : Verb) → verb_of word ≡ Some verb → word ≡ verb_text verb
verb_is word verb = tested word verbs.Resolve verb _ (tested word verbs.Run verb _ (tested word verbs.Sample verb None (λ e. absurd (none-some verb e))))

operands : (rest : List (List ℕ)) → is_option (slice_get rest 0) ≡ false → 1 ≤ length rest → AreOperands rest
operands [] stop some = absurd (omega (arith, some))
operands (w ∷ ws) stop some = stop

stops : (rest : List (List ℕ)) → AreOperands rest → (is_option (slice_get rest 0) ≡ false) × (1 ≤ length rest)
stops [] are = absurd are
stops (w ∷ ws) are = (are, omega arith)

pub no_uses : (uses : List Use) (given : Given) → Ready verbs.Sample uses given → uses ≡ []
no_uses [] given ready = refl
no_uses (u ∷ us) given ready = absurd (true≢false (sym ready.0.is.has))

-- ---- what is read is of the form

module _ (w : List ℕ) (ws : List (List ℕ)) (after : Given) (next : ℕ) (c : Command) where
  resolve_line : Uses verbs.Resolve (w ∷ ws) nothing after 1 next → w ≡ verb_text verbs.Resolve → resolve_at (w ∷ ws) after next ≡ Ok c → IsCommand (w ∷ ws) c
  resolve_line u is e =
      let r = resolve_is (w ∷ ws) after next c e in
      let said : Said verbs.Resolve u.uses after = subst (Said verbs.Resolve u.uses) u.gives (said_from verbs.Resolve u.uses u.ready) in
      let line : IsResolve (w ∷ ws) (or_none after.elements) after.add (drop next (w ∷ ws)) = record {
        uses = u.uses;
        text = ap (λ x. x ∷ ws) is ∙ ap (λ l. verb_text verbs.Resolve ∷ l) u.text;
        options = said.options;
        path = said.path;
        added_roots = said.roots;
        operands = operands (drop next (w ∷ ws)) (ap is_option (sym (head_at (w ∷ ws) (drop next (w ∷ ws)) next refl)) ∙ u.ends) (omega (arith, r.0, length-drop next (w ∷ ws)));
        named = r.1;
      } in
      subst (IsCommand (w ∷ ws)) r.2 line

  run_line : Uses verbs.Run (w ∷ ws) nothing after 1 next → w ≡ verb_text verbs.Run → run_at (w ∷ ws) after next ≡ Ok c → IsCommand (w ∷ ws) c
  run_line u is e =
      let r = run_is (w ∷ ws) after next c e in
      let said : Said verbs.Run u.uses after = subst (Said verbs.Run u.uses) u.gives (said_from verbs.Run u.uses u.ready) in
      let place : suc next ≡ next + 1 = omega arith in
      let rest : drop next (w ∷ ws) ≡ r.0 ∷ drop (next + 1) (w ∷ ws) = at_word (w ∷ ws) next r.0 r.2 ∙ ap (λ n. r.0 ∷ drop n (w ∷ ws)) place in
      let line : IsRun (w ∷ ws) (run_words after r.1 (drop (next + 1) (w ∷ ws))) = record {
        uses = u.uses;
        target = r.0;
        text = ap (λ x. x ∷ ws) is ∙ ap (λ l. verb_text verbs.Run ∷ l) (u.text ∙ ap (λ l. flat_map use_words u.uses ++ l) rest);
        options = said.options;
        path = said.path;
        added_roots = said.roots;
        added = said.added;
        steps = said.steps;
        report = said.report;
        operands = ap is_option (sym r.2) ∙ u.ends;
        main = target_is r.0 r.1 r.3;
      } in
      subst (IsCommand (w ∷ ws)) r.4 line

  sample_line : Uses verbs.Sample (w ∷ ws) nothing after 1 next → w ≡ verb_text verbs.Sample → sample_at (w ∷ ws) next ≡ Ok c → IsCommand (w ∷ ws) c
  sample_line u is e =
      let r = sample_is (w ∷ ws) next c e in
      let none = no_uses u.uses nothing u.ready in
      let place : next + 1 ≡ suc next = omega arith in
      let rest : drop next (w ∷ ws) ≡ r.number ∷ r.limit ∷ [] =
      at_word (w ∷ ws) next r.number r.first ∙ ap (λ l. r.number ∷ l) (at_word (w ∷ ws) (suc next) r.limit (ap (slice_get (w ∷ ws)) (sym place) ∙ r.second) ∙ ap (λ l. r.limit ∷ l) (drop_all (suc (suc next)) (w ∷ ws) (omega (arith, r.last)))) in
      let line : IsSample (w ∷ ws) r.n r.bound = record {
        number = r.number;
        limit = r.limit;
        text = ap (λ x. x ∷ ws) is ∙ ap (λ l. verb_text verbs.Sample ∷ l) (u.text ∙ ap (λ us. flat_map use_words us ++ drop next (w ∷ ws)) none ∙ rest);
        counts = r.counts;
        few = r.few;
        bounds = r.bounds;
      } in
      subst (IsCommand (w ∷ ws)) r.gives line

  verb_line : (verb : Verb) → Uses verb (w ∷ ws) nothing after 1 next → w ≡ verb_text verb → operands_at verb (w ∷ ws) (after, next) ≡ Ok c → IsCommand (w ∷ ws) c
  verb_line verbs.Resolve u is e = resolve_line u is e
  verb_line verbs.Run u is e = run_line u is e
  verb_line verbs.Sample u is e = sample_line u is e

pub line_found : (words : List (List ℕ)) (c : Command) → line_read words ≡ Ok c → IsCommand words c
unfolding line_read
line_found [] c e = absurd (err_ok _ _ e)
line_found (w ∷ ws) c e = by (verb_of w) refl e
  where
    by : (r : Option Verb) → verb_of w ≡ r → verb_or r (w ∷ ws) ≡ Ok c → IsCommand (w ∷ ws) c
    by None is e = absurd (err_ok _ _ e)
    by (Some verb) is e =
        let x = bind_ok (options_from (length (w ∷ ws)) verb (w ∷ ws) nothing 1) (operands_at verb (w ∷ ws)) c e in
        verb_line w ws x.0.0 x.0.1 c verb (from_options (length (w ∷ ws)) verb (w ∷ ws) nothing x.0.0 1 x.0.1 (omega arith) x.1) (verb_is w verb is) x.2

-- ---- what is of the form is read

pub line_with : (verb : Verb) (ws : List (List ℕ)) → line_read (verb_text verb ∷ ws) ≡ (options_from (length (verb_text verb ∷ ws)) verb (verb_text verb ∷ ws) nothing 1 >>= operands_at verb (verb_text verb ∷ ws))
unfolding line_read
line_with verb ws = rw (verb_found verb) refl

Into : Verb → List Use → List (List ℕ) → Type 0
Into verb uses rest = (next : ℕ) × (line_read (verb_text verb ∷ (flat_map use_words uses ++ rest)) ≡ operands_at verb (verb_text verb ∷ (flat_map use_words uses ++ rest)) (put_all uses nothing, next)) × (drop next (verb_text verb ∷ (flat_map use_words uses ++ rest)) ≡ rest)

into : (verb : Verb) (uses : List Use) (rest : List (List ℕ)) → Ready verb uses nothing → is_option (slice_get rest 0) ≡ false → Into verb uses rest
unfolding Into
into verb uses rest ready stop =
    let words = verb_text verb ∷ (flat_map use_words uses ++ rest) in
    let few = uses_few uses in
    let o = into_options uses (length words) verb words rest nothing 1 ready refl stop (omega (arith, few, length-append (flat_map use_words uses) rest)) in
    (o.0, line_with verb (flat_map use_words uses ++ rest) ∙ ap (λ r. r >>= operands_at verb words) o.1, o.2)

digits_stop : (text : List ℕ) (n : ℕ) → IsNumber text n → begins_with_dash text ≡ false
digits_stop [] n is = refl
digits_stop (b ∷ bs) n is =
    let digits = and_parts (nat_le (length (b ∷ bs)) 20) (list_all is_digit (b ∷ bs)) (and_parts (not (is_empty (b ∷ bs))) (nat_le (length (b ∷ bs)) 20 && list_all is_digit (b ∷ bs)) is.digits).1 in
    let digit = and_parts (is_digit b) (list_all is_digit bs) digits.1 in
    let low : 48 ≤ b = leb-true 48 b (and_parts (nat_le 48 b) (nat_le b 57) digit.0).0 in
    ne_eqb b 45 (λ e. omega (arith, low, e))

resolve_into : (words elements add roots : List (List ℕ)) → IsResolve words elements add roots → line_read words ≡ Ok (Resolve elements add roots)
unfolding Into
resolve_into words elements add roots is =
    let plain = plain_adds is.uses is.options.each in
    let m = meant_from verbs.Resolve is.uses elements add [] usual_steps (is_some_use (uses_of settings.Report is.uses)) is.options is.path is.added_roots
    (subst (λ l. Match (λ (x : Use). IsAdded x.setting x.value) l []) (sym plain.0) tt) (subst (λ vs. IsBound vs usual_steps) (sym plain.1) refl) refl in
    let stop = stops roots is.operands in
    let x = into verbs.Resolve is.uses roots m.ready stop.0 in
    let line = verb_text verbs.Resolve ∷ (flat_map use_words is.uses ++ roots) in
    let same : length (drop x.0 line) ≡ length roots = ap length x.2 in
    let less : x.0 < length line = omega (arith, same, stop.1, length-drop x.0 line) in
    let found = resolve_found line (put_all is.uses nothing) x.0 less (subst (AllByRecursion (λ n. IsTrue (names_a_module n))) (sym x.2) is.named) in
    ap line_read is.text ∙ x.1 ∙ found ∙ (λ i. Ok (Resolve (m.path i) (m.roots i) (x.2 i)))

run_into : (words : List (List ℕ)) (r : RunWords) → IsRun words r → line_read words ≡ Ok (Run r)
unfolding Into
run_into words r is =
    let m = meant_from verbs.Run is.uses r.elements r.add r.added r.steps r.report is.options is.path is.added_roots is.added is.steps is.report in
    let x = into verbs.Run is.uses (is.target ∷ r.args) m.ready is.operands in
    let line = verb_text verbs.Run ∷ (flat_map use_words is.uses ++ is.target ∷ r.args) in
    let here = from_word line x.0 is.target r.args x.2 in
    let place : x.0 + 1 ≡ suc x.0 = omega arith in
    let args : drop (x.0 + 1) line ≡ r.args = ap (λ n. drop n line) place ∙ here.1 in
    let found = run_found line (put_all is.uses nothing) x.0 is.target (r.main_module, r.main_class) here.0 (target_found is.target r.main_module r.main_class is.main) in
    ap line_read is.text ∙ x.1 ∙ found ∙ (λ i. Ok (Run (record { elements = m.path i; add = m.roots i; added = m.facts i; steps = m.bound i; report = m.flag i; main_module = r.main_module; main_class = r.main_class; args = args i })))

sample_into : (words : List (List ℕ)) (n bound : ℕ) → IsSample words n bound → line_read words ≡ Ok (Sample n bound)
unfolding Into
sample_into words n bound is =
    let rest = is.number ∷ is.limit ∷ [] in
    let x = into verbs.Sample [] rest tt (digits_stop is.number n is.counts) in
    let line = verb_text verbs.Sample ∷ rest in
    let first = from_word line x.0 is.number (is.limit ∷ []) x.2 in
    let second = from_word line (suc x.0) is.limit [] first.1 in
    let place : x.0 + 1 ≡ suc x.0 = omega arith in
    let none : length (drop (suc (suc x.0)) line) ≡ 0 = ap length second.1 in
    let found = sample_found line x.0 is.number is.limit n bound first.0 (ap (slice_get line) place ∙ second.0) is.counts is.few is.bounds (omega (arith, none, length-drop (suc (suc x.0)) line)) in
    ap line_read is.text ∙ x.1 ∙ found

pub line_into : (words : List (List ℕ)) (c : Command) → IsCommand words c → line_read words ≡ Ok c
line_into words (Resolve elements add roots) is = resolve_into words elements add roots is
line_into words (Run r) is = run_into words r is
line_into words (Sample n bound) is = sample_into words n bound is

-- ---- whole lines

module _ {W : Type 0} (f : W → List ℕ) (ws : List W) (r : Result Command WordFault) (few : length ws ≤ most_words) where
  pub found_few : Gives told (λ x. x) r (line_read (map f ws)) → IfOk r (λ c. IsLine (map f ws) c)
  found_few = found_in (line_read (map f ws)) (IsLine (map f ws)) told (λ x. x) r (λ c e. record { few = omega (arith, few, length-map ws f); command = line_found (map f ws) c e })

  pub only_few : Gives told (λ x. x) r (line_read (map f ws)) → (c : Command) → IsLine (map f ws) c → Gives told (λ x. x) r (Ok c)
  only_few = only_in (line_read (map f ws)) (IsLine (map f ws)) told (λ x. x) r (λ c is. line_into (map f ws) c is.command)
