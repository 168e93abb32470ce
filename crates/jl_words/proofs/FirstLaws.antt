-- Where the first fault of a line is met, and that the words before it begin a command.
use Rattle.std.proofs.Common.{◌≡◌, ℕ, zero, suc, ◌+◌, ◌≤◌, ◌<◌, ◌⊎◌, inl, inr, List, [], ◌∷◌, ◌++◌, length, take, drop, Bool, true, false, cond, not, ◌&&◌, nat_le, nat_lt, IsTrue, Option, None, Some, Result, Ok, Err, refl, sym, ap, subst, ◌∙◌, arith}
use Rattle.std.specs.Prelude.{slice_get, get_or, position, codes, ⊤}
use Rattle.std.specs.List.{flat_map, AllByRecursion}
use Rattle.std.proofs.lemmas.Bool.{true≢false, ltb-true, ltb-false, leb-true, leb-false, and_parts}
use Rattle.std.proofs.lemmas.List.{append_assoc, append-nil, length-append, length-take, length-drop, take_all, take-take}
use Rattle.std.proofs.lemmas.List.Quantifiers.{position-Some}
use Rattle.std.proofs.lemmas.Option.{slice_get_within, slice_get_past}
use Rattle.jl_logic.specs.Lists.{IsFront}
use Rattle.jl_prim.specs.Limits.{most_words}
use Rattle.jl_prim.specs.Names.{names_a_module}
use Rattle.jl_reading.specs.Reading.{◌>>=◌}
use Rattle.jl_words.specs.declared.command.Command.{Command}
use Rattle.jl_words.specs.declared.command.Command.TheVariants.{Sample}
use Rattle.jl_words.specs.declared.fault.WordFault.{WordFault}
use Rattle.jl_words.specs.declared.fault.WordFault.TheVariants as faults
use Rattle.jl_words.specs.declared.given.Given.{Given}
use Rattle.jl_words.specs.declared.setting.Setting.{Setting}
use Rattle.jl_words.specs.declared.setting.Verb.{Verb}
use Rattle.jl_words.specs.declared.setting.Verb.TheVariants as verbs
use Rattle.jl_words.specs.Settings.{verb_text, setting_text, is_flag}
use Rattle.jl_words.specs.Values.{number_of}
use Rattle.jl_words.specs.Line.{Use, use_words, AreOperands}
use Rattle.jl_words.specs.Reading.{nothing, is_given, with_value, valued, use_of, is_option, word_of, named_by, number_or, resolve_at, run_at, sample_at, roots_or, target_of, verb_of, verb_or, operands_at, line_read, past_most, words_read}
use Rattle.jl_words.specs.Laws.{IsTold, Begins, BeginsNone, UsesOption, IsMet, IsFirst, FirstFault, LineBegins}
use Rattle.jl_words.proofs.Uses.{used}
use Rattle.jl_words.proofs.UseLaws.{err_ok, Named, named_is, named_word, valued_flag, valued_lacks, valued_apart, at_word, used_from, Used}
use Rattle.jl_words.proofs.ValueLaws.{number_is}
use Rattle.jl_words.proofs.GivenLaws.{put_all, Ready, head_at}
use Rattle.jl_words.proofs.FoundLaws.{run_lacks, run_wrong, run_found, number_read, number_wrong, verb_is, no_uses, line_found}
use Rattle.jl_words.proofs.FaultLaws.{err_is, Placed, value_placed, and_err, no_some, Whole, stopped, spent, went, option_word, of_front, no_line_begins}
use Rattle.jl_words.proofs.Most.{few_read, many_read}
use Rattle.jl_words.proofs.Complete.{begins, none_more, resolve_made, run_made, number_made, both_made, uses_made, value_made, repeat_read}

-- ---- what is found of a fault

-- the words up to the second use of an option have the same fault
abbrev Again : List (List ℕ) → WordFault → ℕ → Type 0
Again ws (faults.Repeated option) n = line_read (take (n + 1) ws) ≡ Err (faults.Repeated option)
Again ws _ n = ⊤

record Begun (ws : List (List ℕ)) (f : WordFault) : Type 0 where
  at : ℕ
  met : IsMet ws f at
  before : Begins (take at ws)
  again : Again ws f at

begun_missing : (ws : List (List ℕ)) (what : List ℕ) (n : ℕ) → length ws ≤ n → Begins (take n ws) → Begun ws (faults.Missing what)
begun_missing ws what n past b = record { at = length ws; met = refl; before = subst Begins (take_all n ws past ∙ sym (take_all (length ws) ws (omega arith))) b; again = tt }

begun_placed : (ws : List (List ℕ)) (f : WordFault) (n : ℕ) → Placed n f → n < length ws → Begins (take n ws) → Begun ws f
begun_placed ws f n (inl q) less b = subst (Begun ws) (sym q) (record { at = n; met = (refl, less); before = b; again = tt })
begun_placed ws f n (inr q) less b = subst (Begun ws) (sym q) (record { at = n; met = (refl, less); before = b; again = tt })

at_target : (ws : List (List ℕ)) (n : ℕ) → n < length ws → Begins (take n ws) → Begun ws (faults.BadTarget n)
at_target ws n less b = record { at = n; met = (refl, less); before = b; again = tt }

at_number : (ws : List (List ℕ)) (n : ℕ) → n < length ws → Begins (take n ws) → Begun ws (faults.BadNumber n)
at_number ws n less b = record { at = n; met = (refl, less); before = b; again = tt }

at_unknown : (ws : List (List ℕ)) (n : ℕ) → n < length ws → Begins (take n ws) → Begun ws (faults.UnknownWord n)
at_unknown ws n less b = record { at = n; met = (refl, less); before = b; again = tt }

-- ---- lists

take_into : (xs ys : List (List ℕ)) (k : ℕ) → take (length xs + k) (xs ++ ys) ≡ xs ++ take k ys
take_into [] ys k = let q : length {A = List ℕ} [] + k ≡ k = omega arith in ap (λ n. take n ys) q
take_into (x ∷ xs) ys k = let q : length (x ∷ xs) + k ≡ suc (length xs + k) = omega arith in ap (λ n. take n (x ∷ (xs ++ ys))) q ∙ ap (λ l. x ∷ l) (take_into xs ys k)

none_past : (ws : List (List ℕ)) (i : ℕ) → slice_get ws i ≡ None → length ws ≤ i
none_past [] i e = omega arith
none_past (w ∷ ws) zero e = absurd (no_some w (sym e))
none_past (w ∷ ws) (suc i) e = let later = none_past ws i e in omega (arith, later)

-- ---- what was read before a fault

-- a command with options, and what is left of its words
record Left (verb : Verb) (ws : List (List ℕ)) (uses : List Use) (near : ℕ) : Type 0 where
  ready : Ready verb uses nothing
  whole : ws ≡ verb_text verb ∷ (flat_map use_words uses ++ drop near ws)
  place : near ≡ 1 + length (flat_map use_words uses)

cut : (verb : Verb) (ws : List (List ℕ)) (uses : List Use) (near : ℕ) → Left verb ws uses near → (k : ℕ) → take (near + k) ws ≡ verb_text verb ∷ (flat_map use_words uses ++ take k (drop near ws))
cut verb ws uses near l k =
    let front = verb_text verb ∷ flat_map use_words uses in
    let place = l.place in
    let q : near + k ≡ length front + k = omega (arith, place) in
    ap (λ n. take n ws) q ∙ ap (take (length front + k)) l.whole ∙ take_into front (drop near ws) k

before : (verb : Verb) (ws : List (List ℕ)) (uses : List Use) (near : ℕ) → Left verb ws uses near → Begins (take near ws)
before verb ws uses near l =
    let q : near ≡ near + 0 = omega arith in
    subst Begins (sym (ap (λ n. take n ws) q ∙ cut verb ws uses near l 0 ∙ ap (λ x. verb_text verb ∷ x) (append-nil (flat_map use_words uses)))) (begins 2 (verb_text verb ∷ flat_map use_words uses) (omega arith) (uses_made verb uses l.ready))

one_cut : (verb : Verb) (ws : List (List ℕ)) (uses : List Use) (near : ℕ) (w : List ℕ) → Left verb ws uses near → slice_get ws near ≡ Some w → take (near + 1) ws ≡ verb_text verb ∷ (flat_map use_words uses ++ w ∷ [])
one_cut verb ws uses near w l here = cut verb ws uses near l 1 ∙ ap (λ x. verb_text verb ∷ (flat_map use_words uses ++ take 1 x)) (at_word ws near w here)

-- ---- options

module _ (verb : Verb) (ws : List (List ℕ)) (uses : List Use) (near : ℕ) (w : List ℕ) (f : WordFault) (l : Left verb ws uses near) (here : slice_get ws near ≡ Some w) where
  less : near < length ws
  less = slice_get_within ws near w here

  twice : (s : Setting) (v : Option (List ℕ)) → is_option (slice_get ws near) ≡ true → named_by verb w ≡ Some (s, v) → is_given s (put_all uses nothing) ≡ true → Begun ws (faults.Repeated (setting_text s))
  twice s v go named given = record {
    at = near;
    met = (w, here, uses_option v (named_is verb w s v named).text);
    before = before verb ws uses near l;
    again = ap line_read (one_cut verb ws uses near w l here) ∙ repeat_read verb uses w s v l.ready (ap is_option (sym here) ∙ go) named given;
  }
    where
      uses_option : (v : Option (List ℕ)) → w ≡ named_word s v → UsesOption (setting_text s) w
      uses_option None is = inl is
      uses_option (Some value) is = inr (value, is ∙ sym (append_assoc (setting_text s) (61 ∷ []) value))

  -- an option whose value is the next word
  apart : (s : Setting) → Named verb w s None → is_given s (put_all uses nothing) ≡ false → is_flag s ≡ false → Begins (take (near + 1) ws)
  apart s named first flag =
      subst Begins (sym (one_cut verb ws uses near w l here ∙ ap (λ x. verb_text verb ∷ (flat_map use_words uses ++ x ∷ [])) named.text))
      (begins 2 (verb_text verb ∷ (flat_map use_words uses ++ setting_text s ∷ [])) (omega arith) (value_made verb uses s l.ready named.has first flag))

  value_begun : (s : Setting) (v : Option (List ℕ)) → Named verb w s v → is_given s (put_all uses nothing) ≡ false → valued s v ws (put_all uses nothing) near ≡ Err f → Begun ws f
  value_begun s (Some value) named first e = begun_placed ws f near (value_placed s value near (put_all uses nothing) f (and_err (with_value s value near (put_all uses nothing)) (near + 1) f e)) less (before verb ws uses near l)
  value_begun s None named first e = by (is_flag s) refl
    where
      given : Given
      given = put_all uses nothing

      next : is_flag s ≡ false → (o : Option (List ℕ)) → slice_get ws (near + 1) ≡ o → Begun ws f
      next flag None none =
          subst (Begun ws) (err_is (faults.Missing (setting_text s)) f (sym (valued_lacks s ws (put_all uses nothing) near flag none) ∙ e))
          (begun_missing ws (setting_text s) (near + 1) (none_past ws (near + 1) none) (apart s named first flag))
      next flag (Some value) there =
          begun_placed ws f (near + 1) (value_placed s value (near + 1) (put_all uses nothing) f (and_err (with_value s value (near + 1) (put_all uses nothing)) (near + 2) f (sym (valued_apart s ws (put_all uses nothing) near value flag there) ∙ e)))
          (slice_get_within ws (near + 1) value there) (apart s named first flag)

      by : (t : Bool) → is_flag s ≡ t → Begun ws f
      by true flag = begun_placed ws f near (value_placed s [] near (put_all uses nothing) f (and_err (with_value s [] near (put_all uses nothing)) (near + 1) f (sym (valued_flag s ws (put_all uses nothing) near flag) ∙ e))) less (before verb ws uses near l)
      by false flag = next flag (slice_get ws (near + 1)) refl

  option_begun : is_option (slice_get ws near) ≡ true → used verb ws (put_all uses nothing) near ≡ Err f → Begun ws f
  option_begun go e = by (named_by verb w) refl (sym (ap (λ o. use_of (named_by verb (word_of o)) ws (put_all uses nothing) near) here) ∙ e)
    where
      first : (s : Setting) (v : Option (List ℕ)) → named_by verb w ≡ Some (s, v) → (t : Bool) → is_given s (put_all uses nothing) ≡ t → cond t (Err (faults.Repeated (setting_text s))) (valued s v ws (put_all uses nothing) near) ≡ Err f → Begun ws f
      first s v named true given q = subst (Begun ws) (err_is (faults.Repeated (setting_text s)) f q) (twice s v go named given)
      first s v named false given q = value_begun s v (named_is verb w s v named) given q

      by : (o : Option (Setting × Option (List ℕ))) → named_by verb w ≡ o → use_of o ws (put_all uses nothing) near ≡ Err f → Begun ws f
      by None named q = subst (Begun ws) (err_is (faults.UnknownWord near) f q) (at_unknown ws near less (before verb ws uses near l))
      by (Some (s, v)) named q = first s v named (is_given s (put_all uses nothing)) refl q

-- ---- operands

named_front : (xs : List (List ℕ)) (k : ℕ) → ((i : ℕ) → i < k → not (names_a_module (get_or xs i [])) ≡ false) → AllByRecursion (λ n. IsTrue (names_a_module n)) (take k xs)
named_front xs zero all = tt
named_front [] (suc k) all = tt
named_front (x ∷ xs) (suc k) all = (flip (names_a_module x) (all 0 (omega arith)), named_front xs k (λ i less. all (suc i) (omega (arith, less))))
  where
    flip : (b : Bool) → not b ≡ false → b ≡ true
    flip true h = refl
    flip false h = absurd (true≢false h)

stop_front : (xs : List (List ℕ)) (k : ℕ) → is_option (slice_get xs 0) ≡ false → AreOperands (take k xs ++ codes "a" ∷ [])
stop_front xs zero stop = refl
stop_front [] (suc k) stop = refl
stop_front (x ∷ xs) (suc k) stop = stop

resolve_begun : (ws : List (List ℕ)) (uses : List Use) (near : ℕ) (f : WordFault) → Left verbs.Resolve ws uses near → is_option (slice_get ws near) ≡ false → resolve_at ws (put_all uses nothing) near ≡ Err f → Begun ws f
unfolding resolve_at
resolve_begun ws uses near f l stop e = by (nat_lt near (length ws)) refl e
  where
    roots : near < length ws → (r : Option ℕ) → position (λ n. not (names_a_module n)) (drop near ws) ≡ r → roots_or r (put_all uses nothing) ws near ≡ Err f → Begun ws f
    roots less None is q = absurd (err_ok _ _ (sym q))
    roots less (Some k) is q =
        let p = position-Some (λ n. not (names_a_module n)) (drop near ws) k [] is in
        let made = resolve_made uses (take k (drop near ws)) l.ready (stop_front (drop near ws) k (ap is_option (sym (head_at ws (drop near ws) near refl)) ∙ stop)) (named_front (drop near ws) k p.2) in
        subst (Begun ws) (err_is (faults.BadTarget (near + k)) f q)
        (at_target ws (near + k) (omega (arith, p.0, length-drop near ws)) (subst Begins (sym (cut verbs.Resolve ws uses near l k)) (begins 1 _ (omega arith) made)))

    by : (t : Bool) → nat_lt near (length ws) ≡ t → cond t (roots_or (position (λ n. not (names_a_module n)) (drop near ws)) (put_all uses nothing) ws near) (Err (faults.Missing (codes "ROOT"))) ≡ Err f → Begun ws f
    by true less q = roots (ltb-true _ _ less) (position (λ n. not (names_a_module n)) (drop near ws)) refl q
    by false less q = subst (Begun ws) (err_is (faults.Missing (codes "ROOT")) f q) (begun_missing ws (codes "ROOT") near (ltb-false _ _ less) (before verbs.Resolve ws uses near l))

run_begun : (ws : List (List ℕ)) (uses : List Use) (near : ℕ) (f : WordFault) → Left verbs.Run ws uses near → run_at ws (put_all uses nothing) near ≡ Err f → Begun ws f
run_begun ws uses near f l e = by (slice_get ws near) refl
  where
    to : (w : List ℕ) → slice_get ws near ≡ Some w → (r : Option (List ℕ × Option (List ℕ))) → target_of w ≡ r → Begun ws f
    to w here None t = subst (Begun ws) (err_is (faults.BadTarget near) f (sym (run_wrong ws (put_all uses nothing) near w here t) ∙ e)) (at_target ws near (slice_get_within ws near w here) (before verbs.Run ws uses near l))
    to w here (Some main) t = absurd (err_ok _ _ (sym e ∙ run_found ws (put_all uses nothing) near w main here t))

    by : (o : Option (List ℕ)) → slice_get ws near ≡ o → Begun ws f
    by None here = subst (Begun ws) (err_is (faults.Missing (codes "MODULE/CLASS")) f (sym (run_lacks ws (put_all uses nothing) near here) ∙ e)) (begun_missing ws (codes "MODULE/CLASS") near (none_past ws near here) (before verbs.Run ws uses near l))
    by (Some w) here = to w here (target_of w) refl

sample_cut : (ws : List (List ℕ)) (uses : List Use) (near k : ℕ) → Left verbs.Sample ws uses near → take (near + k) ws ≡ verb_text verbs.Sample ∷ take k (drop near ws)
sample_cut ws uses near k l = cut verbs.Sample ws uses near l k ∙ ap (λ us. verb_text verbs.Sample ∷ (flat_map use_words us ++ take k (drop near ws))) (no_uses uses nothing l.ready)

sample_begun : (ws : List (List ℕ)) (uses : List Use) (near : ℕ) (f : WordFault) → Left verbs.Sample ws uses near → sample_at ws near ≡ Err f → Begun ws f
unfolding sample_at
sample_begun ws uses near f l e = first (slice_get ws near) refl e
  where
    Last : ℕ → ℕ → Result Command WordFault
    Last n b = cond (nat_lt (near + 2) (length ws)) (Err (faults.UnknownWord (near + 2))) (Ok (Sample n b))

    Second : Option (List ℕ) → ℕ → Result Command WordFault
    Second o n = number_or (codes "BOUND") o (near + 1) >>= λ b. Last n b

    Rest : ℕ → Result Command WordFault
    Rest n = cond (not (nat_le 1 n && nat_le n 1000)) (Err (faults.BadNumber near)) (Second (slice_get ws (near + 1)) n)

    none : Begins (take near ws)
    none = before verbs.Sample ws uses near l

    one : (w : List ℕ) (n : ℕ) → slice_get ws near ≡ Some w → number_of w ≡ Some n → (1 ≤ n) × (n ≤ 1000) → Begins (take (near + 1) ws)
    one w n here is few = subst Begins (sym (sample_cut ws uses near 1 l ∙ ap (λ x. verb_text verbs.Sample ∷ take 1 x) (at_word ws near w here))) (begins 1 (verb_text verbs.Sample ∷ w ∷ []) (omega arith) (number_made w n (number_is w n is) few))

    last : (w v : List ℕ) (n b : ℕ) → slice_get ws near ≡ Some w → number_of w ≡ Some n → (1 ≤ n) × (n ≤ 1000) → slice_get ws (near + 1) ≡ Some v → number_of v ≡ Some b → (t : Bool) → nat_lt (near + 2) (length ws) ≡ t → cond t (Err (faults.UnknownWord (near + 2))) (Ok (Sample n b)) ≡ Err f → Begun ws f
    last w v n b here is few next bounds false more q = absurd (err_ok _ _ (sym q))
    last w v n b here is few next bounds true more q =
        let place : near + 1 ≡ suc near = omega arith in
        let both = at_word ws near w here ∙ ap (λ x. w ∷ x) (at_word ws (suc near) v (ap (slice_get ws) (sym place) ∙ next)) in
        subst (Begun ws) (err_is (faults.UnknownWord (near + 2)) f q)
        (at_unknown ws (near + 2) (ltb-true _ _ more) (subst Begins (sym (sample_cut ws uses near 2 l ∙ ap (λ x. verb_text verbs.Sample ∷ take 2 x) both)) (begins 0 (verb_text verbs.Sample ∷ w ∷ v ∷ []) (omega arith) (both_made w v n b (number_is w n is) few (number_is v b bounds)))))

    bound : (w v : List ℕ) (n : ℕ) → slice_get ws near ≡ Some w → number_of w ≡ Some n → (1 ≤ n) × (n ≤ 1000) → slice_get ws (near + 1) ≡ Some v → (r : Option ℕ) → number_of v ≡ r → Second (Some v) n ≡ Err f → Begun ws f
    bound w v n here is few next None wrong q =
        subst (Begun ws) (err_is (faults.BadNumber (near + 1)) f (sym (ap (λ r. r >>= λ b. Last n b) (number_wrong (codes "BOUND") v (near + 1) wrong)) ∙ q)) (at_number ws (near + 1) (slice_get_within ws (near + 1) v next) (one w n here is few))
    bound w v n here is few next (Some b) right q = last w v n b here is few next right (nat_lt (near + 2) (length ws)) refl (sym (ap (λ r. r >>= λ b. Last n b) (number_read (codes "BOUND") v (near + 1) b right)) ∙ q)

    second : (w : List ℕ) (n : ℕ) → slice_get ws near ≡ Some w → number_of w ≡ Some n → (1 ≤ n) × (n ≤ 1000) → (o : Option (List ℕ)) → slice_get ws (near + 1) ≡ o → Second o n ≡ Err f → Begun ws f
    second w n here is few None next q = subst (Begun ws) (err_is (faults.Missing (codes "BOUND")) f q) (begun_missing ws (codes "BOUND") (near + 1) (none_past ws (near + 1) next) (one w n here is few))
    second w n here is few (Some v) next q = bound w v n here is few next (number_of v) refl q

    counted : (w : List ℕ) (n : ℕ) → slice_get ws near ≡ Some w → number_of w ≡ Some n → (t : Bool) → (nat_le 1 n && nat_le n 1000) ≡ t → cond (not t) (Err (faults.BadNumber near)) (Second (slice_get ws (near + 1)) n) ≡ Err f → Begun ws f
    counted w n here is false t q = subst (Begun ws) (err_is (faults.BadNumber near) f q) (at_number ws near (slice_get_within ws near w here) none)
    counted w n here is true t q = let p = and_parts (nat_le 1 n) (nat_le n 1000) t in second w n here is (leb-true _ _ p.0, leb-true _ _ p.1) (slice_get ws (near + 1)) refl q

    number : (w : List ℕ) → slice_get ws near ≡ Some w → (r : Option ℕ) → number_of w ≡ r → (number_or (codes "N") (Some w) near >>= Rest) ≡ Err f → Begun ws f
    number w here None is q = subst (Begun ws) (err_is (faults.BadNumber near) f (sym (ap (λ r. r >>= Rest) (number_wrong (codes "N") w near is)) ∙ q)) (at_number ws near (slice_get_within ws near w here) none)
    number w here (Some n) is q = counted w n here is (nat_le 1 n && nat_le n 1000) refl (sym (ap (λ r. r >>= Rest) (number_read (codes "N") w near n is)) ∙ q)

    first : (o : Option (List ℕ)) → slice_get ws near ≡ o → (number_or (codes "N") o near >>= Rest) ≡ Err f → Begun ws f
    first None here q = subst (Begun ws) (err_is (faults.Missing (codes "N")) f q) (begun_missing ws (codes "N") near (none_past ws near here) none)
    first (Some w) here q = number w here (number_of w) refl q

operands_begun : (verb : Verb) (ws : List (List ℕ)) (uses : List Use) (near : ℕ) (f : WordFault) → Left verb ws uses near → is_option (slice_get ws near) ≡ false → operands_at verb ws (put_all uses nothing, near) ≡ Err f → Begun ws f
operands_begun verbs.Resolve ws uses near f l stop e = resolve_begun ws uses near f l stop e
operands_begun verbs.Run ws uses near f l stop e = run_begun ws uses near f l e
operands_begun verbs.Sample ws uses near f l stop e = sample_begun ws uses near f l e

-- ---- where reading stops

-- the option at this place has the fault, or the operands from there on
abbrev Ends : Verb → List (List ℕ) → Given → ℕ → WordFault → Type 0
Ends verb ws given near f = ((is_option (slice_get ws near) ≡ true) × (used verb ws given near ≡ Err f)) ⊎ ((is_option (slice_get ws near) ≡ false) × (operands_at verb ws (given, near) ≡ Err f))

record Stuck (verb : Verb) (ws : List (List ℕ)) (given : Given) (at : ℕ) (f : WordFault) : Type 0 where
  uses : List Use
  near : ℕ
  ready : Ready verb uses given
  text : drop at ws ≡ flat_map use_words uses ++ drop near ws
  place : near ≡ at + length (flat_map use_words uses)
  ends : Ends verb ws (put_all uses given) near f

here_stuck : (verb : Verb) (ws : List (List ℕ)) (given : Given) (at : ℕ) (f : WordFault) → Ends verb ws given at f → Stuck verb ws given at f
here_stuck verb ws given at f ends = record { uses = []; near = at; ready = tt; text = refl; place = omega arith; ends = ends }

one_stuck : (verb : Verb) (ws : List (List ℕ)) (given mid : Given) (at next : ℕ) (f : WordFault) → Used verb ws given mid at next → Stuck verb ws mid next f → Stuck verb ws given at f
one_stuck verb ws given mid at next f u r =
    let long : length (drop at ws) ≡ length (use_words u.it ++ drop next ws) = ap length u.text in
    let place = r.place in
    record {
      uses = u.it ∷ r.uses;
      near = r.near;
      ready = (record { is = u.adds.is; first = u.adds.first; good = u.adds.good; gives = refl }, subst (Ready verb r.uses) (sym u.adds.gives) r.ready);
      text = u.text ∙ ap (λ l. use_words u.it ++ l) r.text ∙ sym (append_assoc (use_words u.it) (flat_map use_words r.uses) (drop r.near ws));
      place = omega (arith, place, long, u.within, u.further, length-drop at ws, length-drop next ws, length-append (use_words u.it) (drop next ws), length-append (use_words u.it) (flat_map use_words r.uses));
      ends = subst (λ g. Ends verb ws (put_all r.uses g) r.near f) (sym u.adds.gives) r.ends;
    }

stuck : (n : ℕ) (verb : Verb) (ws : List (List ℕ)) (given : Given) (at : ℕ) (f : WordFault) → length ws ≤ at + n → Whole n verb ws given at ≡ Err f → Stuck verb ws given at f
stuck zero verb ws given at f enough e = here_stuck verb ws given at f (inr (ap is_option (slice_get_past ws at (omega (arith, enough))), sym (spent verb ws given at) ∙ e))
stuck (suc n) verb ws given at f enough e = by (is_option (slice_get ws at)) refl (λ mid near. stuck n verb ws mid near f)
  where
    Later : Type 0
    Later = (mid : Given) (near : ℕ) → length ws ≤ near + n → Whole n verb ws mid near ≡ Err f → Stuck verb ws mid near f

    read : Later → is_option (slice_get ws at) ≡ true → (w : List ℕ) → slice_get ws at ≡ Some w → (r : Result (Given × ℕ) WordFault) → used verb ws given at ≡ r → Stuck verb ws given at f
    read later go w here (Err g) is =
        let q : g ≡ f = err_is g f (sym (went n verb ws given at go (Err g) is) ∙ e) in
        here_stuck verb ws given at f (inl (go, is ∙ ap (λ t. Err t) q))
    read later go w here (Ok x) is =
        let u = used_from verb ws given x.0 at x.1 w (at_word ws at w here) (ap (λ o. use_of (named_by verb (word_of o)) ws given at) (sym here) ∙ is) in
        one_stuck verb ws given x.0 at x.1 f u (later x.0 x.1 (omega (arith, u.further, enough)) (sym (went n verb ws given at go (Ok x) is) ∙ e))

    by : (t : Bool) → is_option (slice_get ws at) ≡ t → Later → Stuck verb ws given at f
    by false stop later = here_stuck verb ws given at f (inr (stop, sym (stopped (suc n) verb ws given at stop) ∙ e))
    by true go later = let w = option_word ws at go in read later go w.0 w.1 (used verb ws given at) refl

-- ---- lines

nothing_begun : Begins []
nothing_begun = let m = run_made [] tt in record { rest = verb_text verbs.Run ∷ m.rest; command = m.command; few = let n = m.few in omega (arith, n); is = m.is }

line_begun : (ws : List (List ℕ)) (f : WordFault) → line_read ws ≡ Err f → Begun ws f
unfolding line_read
line_begun [] f e = subst (Begun []) (err_is faults.NoCommand f e) (record { at = 0; met = (refl, refl); before = nothing_begun; again = tt })
line_begun (w ∷ ws) f e = by (verb_of w) refl e
  where
    from : (verb : Verb) → w ≡ verb_text verb → (s : Stuck verb (w ∷ ws) nothing 1 f) → Begun (w ∷ ws) f
    from verb is s = ends s.ends
      where
        l : Left verb (w ∷ ws) s.uses s.near
        l = record { ready = s.ready; whole = ap (λ x. x ∷ ws) is ∙ ap (λ x. verb_text verb ∷ x) s.text; place = s.place }

        ends : Ends verb (w ∷ ws) (put_all s.uses nothing) s.near f → Begun (w ∷ ws) f
        ends (inl (go, q)) = let v = option_word (w ∷ ws) s.near go in option_begun verb (w ∷ ws) s.uses s.near v.0 f l v.1 go q
        ends (inr (stop, q)) = operands_begun verb (w ∷ ws) s.uses s.near f l stop q

    by : (r : Option Verb) → verb_of w ≡ r → verb_or r (w ∷ ws) ≡ Err f → Begun (w ∷ ws) f
    by None is q = subst (Begun (w ∷ ws)) (err_is (faults.UnknownWord 0) f q) (at_unknown (w ∷ ws) 0 (omega arith) nothing_begun)
    by (Some verb) is q = from verb (verb_is w verb is) (stuck (length (w ∷ ws)) verb (w ∷ ws) nothing 1 f (omega arith) q)

-- ---- no line begins with the word of the fault

abbrev AgainRead : List (List ℕ) → WordFault → ℕ → Type 0
AgainRead ws (faults.Repeated option) n = words_read (take (n + 1) ws) ≡ Err (faults.Repeated option)
AgainRead ws _ n = ⊤

again_read : (ws : List (List ℕ)) (f : WordFault) (n : ℕ) → length (take (n + 1) ws) ≤ most_words → Again ws f n → AgainRead ws f n
again_read ws (faults.Repeated option) n few again = few_read (take (n + 1) ws) few ∙ again
again_read ws _ n few again = tt

none_after : (ws : List (List ℕ)) (f : WordFault) (n : ℕ) → words_read ws ≡ Err f → IsMet ws f n → AgainRead ws f n → n < length ws → BeginsNone (take (n + 1) ws)
none_after ws faults.NoCommand n e met again less longer c front line = let none : length ws ≡ length {A = List ℕ} [] = ap length met.0 in absurd (omega (arith, less, none))
none_after ws (faults.UnknownWord at) n e met again less longer c front line = no_line_begins ws (faults.UnknownWord at) e tt longer c (subst (λ k. IsFront (take (k + 1) ws) longer) met.0 front) line
none_after ws (faults.Missing what) n e met again less longer c front line = absurd (omega (arith, less, met))
none_after ws (faults.Repeated option) n e met again less longer c front line = no_line_begins (take (n + 1) ws) (faults.Repeated option) again tt longer c front line
none_after ws (faults.BadNumber at) n e met again less longer c front line = no_line_begins ws (faults.BadNumber at) e tt longer c (subst (λ k. IsFront (take (k + 1) ws) longer) met.0 front) line
none_after ws (faults.BadTarget at) n e met again less longer c front line = no_line_begins ws (faults.BadTarget at) e tt longer c (subst (λ k. IsFront (take (k + 1) ws) longer) met.0 front) line
none_after ws faults.NotBuilt n e met again less longer c front line = met
none_after ws faults.NoMemory n e met again less longer c front line = met

-- a fault that is met among the first words is met there in all
record Kept (words : List (List ℕ)) (f : WordFault) (n : ℕ) : Type 0 where
  less : n < length (take most_words words)
  met : IsMet words f n

placed_kept : (words : List (List ℕ)) (n : ℕ) → n < length (take most_words words) → n < length words
placed_kept words n less = omega (arith, less, length-take most_words words)

kept : (words : List (List ℕ)) (f : WordFault) (n : ℕ) → IsTold f → IsMet (take most_words words) f n → Kept words f n
kept words faults.NoCommand n is met = absurd is
kept words (faults.UnknownWord at) n is met = record { less = met.1; met = (met.0, placed_kept words n met.1) }
kept words (faults.Missing what) n is met = absurd is
kept words (faults.Repeated option) n is met = record { less = slice_get_within (take most_words words) n met.0 met.1; met = (met.0, of_front most_words words n met.0 met.1, met.2) }
kept words (faults.BadNumber at) n is met = record { less = met.1; met = (met.0, placed_kept words n met.1) }
kept words (faults.BadTarget at) n is met = record { less = met.1; met = (met.0, placed_kept words n met.1) }
kept words faults.NotBuilt n is met = absurd is
kept words faults.NoMemory n is met = absurd is

again_kept : (words : List (List ℕ)) (f : WordFault) (n : ℕ) → n < most_words → Again (take most_words words) f n → Again words f n
again_kept words (faults.Repeated option) n less again = ap line_read (sym (take-take (n + 1) most_words words (omega (arith, less)))) ∙ again
again_kept words _ n less again = tt

pub first_fault : FirstFault
first_fault words f e = by (nat_le (length words) most_words) refl
  where
    first : Begun words f → (at_most : (n : ℕ) → n < length words → length (take (n + 1) words) ≤ most_words) → IsFirst words f
    first b at_most = record { at = b.at; met = b.met; before = b.before; after = λ less. none_after words f b.at e b.met (again_read words f b.at (at_most b.at less) b.again) less }

    too_many : most_words < length words → Begins (take most_words words) → faults.UnknownWord most_words ≡ f → IsFirst words f
    too_many many b q =
        let met : IsMet words f most_words = subst (λ g. IsMet words g most_words) q (refl, many) in
        record { at = most_words; met = met; before = b; after = λ less. none_after words f most_words e met (subst (λ g. AgainRead words g most_words) q tt) less }

    among : (g : WordFault) → IsTold g → line_read (take most_words words) ≡ Err g → g ≡ f → IsFirst words f
    among g is r q =
        let b = line_begun (take most_words words) g r in
        let k = kept words g b.at is b.met in
        let less : b.at < most_words = let l = k.less in omega (arith, l, length-take most_words words) in
        let met = subst (λ h. IsMet words h b.at) q k.met in
        let again = subst (λ h. Again words h b.at) q (again_kept words g b.at less b.again) in
        record {
          at = b.at;
          met = met;
          before = subst Begins (take-take b.at most_words words (omega (arith, less))) b.before;
          after = λ there. none_after words f b.at e met (again_read words f b.at (omega (arith, less, length-take (b.at + 1) words)) again) there;
        }

    past : most_words < length words → (r : Result Command WordFault) → line_read (take most_words words) ≡ r → past_most r ≡ Err f → IsFirst words f
    past many (Ok c) r q = too_many many (begins 0 (take most_words words) (omega arith) (none_more (take most_words words) c (line_found (take most_words words) c r))) (err_is (faults.UnknownWord most_words) f q)
    past many (Err (faults.Missing what)) r q =
        let b = line_begun (take most_words words) (faults.Missing what) r in
        let met = b.met in
        too_many many (subst Begins (take_all b.at (take most_words words) (omega (arith, met))) b.before) (err_is (faults.UnknownWord most_words) f q)
    past many (Err faults.NoCommand) r q =
        let b = line_begun (take most_words words) faults.NoCommand r in
        let none : length (take most_words words) ≡ length {A = List ℕ} [] = ap length b.met.0 in
        absurd (omega (arith, none, many, length-take most_words words))
    past many (Err (faults.UnknownWord at)) r q = among (faults.UnknownWord at) tt r (err_is (faults.UnknownWord at) f q)
    past many (Err (faults.Repeated option)) r q = among (faults.Repeated option) tt r (err_is (faults.Repeated option) f q)
    past many (Err (faults.BadNumber at)) r q = among (faults.BadNumber at) tt r (err_is (faults.BadNumber at) f q)
    past many (Err (faults.BadTarget at)) r q = among (faults.BadTarget at) tt r (err_is (faults.BadTarget at) f q)
    past many (Err faults.NotBuilt) r q = absurd (line_begun (take most_words words) faults.NotBuilt r).met
    past many (Err faults.NoMemory) r q = absurd (line_begun (take most_words words) faults.NoMemory r).met

    by : (b : Bool) → nat_le (length words) most_words ≡ b → IsFirst words f
    by true few =
        let le : length words ≤ most_words = leb-true _ _ few in
        first (line_begun words f (sym (few_read words le) ∙ e)) (λ n less. omega (arith, le, length-take (n + 1) words))
    by false many = let more : most_words < length words = leb-false _ _ many in past more (line_read (take most_words words)) refl (sym (many_read words more) ∙ e)

pub line_begins : LineBegins
line_begins words b room = (words ++ b.rest, b.command, (b.rest, refl), record { few = let n = b.few in omega (arith, n, room, length-append words b.rest); command = b.is })
