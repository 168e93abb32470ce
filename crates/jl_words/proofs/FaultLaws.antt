-- That no line begins with the words that tell a fault.
use Rattle.std.proofs.Common.{◌≡◌, ℕ, zero, suc, ◌+◌, ◌≤◌, ◌<◌, ◌⊎◌, inl, inr, List, [], ◌∷◌, ◌++◌, length, take, drop, Bool, true, false, cond, not, ◌&&◌, nat_le, nat_lt, IsTrue, Option, None, Some, Result, Ok, Err, refl, sym, ap, subst, ◌∙◌, arith}
use Rattle.std.specs.Prelude.{is_some, slice_get, position, codes}
use Rattle.std.specs.List.{list_all, AllByRecursion}
use Rattle.std.proofs.lemmas.Bool.{true≢false, ltb-true, leb-true, leb-false, le-leb}
use Rattle.std.proofs.lemmas.List.{length-append, length-take}
use Rattle.std.proofs.lemmas.List.Quantifiers.{position-Some}
use Rattle.std.proofs.lemmas.Option.{slice_get_within, get_or_from_slice_get}
use Rattle.jl_logic.specs.Lists.{IsFront}
use Rattle.jl_prim.specs.Limits.{most_words}
use Rattle.jl_prim.specs.Names.{names_a_module}
use Rattle.jl_reading.specs.Reading.{◌>>=◌}
use Rattle.jl_words.specs.declared.command.Added.{Added}
use Rattle.jl_words.specs.declared.command.Command.{Command}
use Rattle.jl_words.specs.declared.command.Command.TheVariants.{Sample}
use Rattle.jl_words.specs.declared.fault.WordFault.{WordFault}
use Rattle.jl_words.specs.declared.fault.WordFault.TheVariants as faults
use Rattle.jl_words.specs.declared.given.Given.{Given}
use Rattle.jl_words.specs.declared.setting.Setting.{Setting}
use Rattle.jl_words.specs.declared.setting.Setting.TheVariants as settings
use Rattle.jl_words.specs.declared.setting.Verb.{Verb}
use Rattle.jl_words.specs.declared.setting.Verb.TheVariants as verbs
use Rattle.jl_words.specs.Settings.{setting_text, is_flag}
use Rattle.jl_words.specs.Values.{listed, number_of}
use Rattle.jl_words.specs.Reading.{is_given, added_of, with_value, with_added, with_steps, and_then, valued, use_of, is_option, word_of, named_by, options_from, nothing, number_or, resolve_at, run_at, sample_at, roots_or, target_of, verb_of, verb_or, operands_at, line_read, past_most}
use Rattle.jl_words.specs.Laws.{telling, IsTold, NoLineBegins, NoLine}
use Rattle.jl_words.proofs.Uses.{used, options_stop, step}
use Rattle.jl_words.proofs.UseLaws.{err_ok, valued_flag, valued_lacks, valued_apart, and_then_is, at_word, used_from}
use Rattle.jl_words.proofs.ValueLaws.{number_found}
use Rattle.jl_words.proofs.FoundLaws.{resolve_is, run_lacks, run_wrong, run_found, run_is, number_read, number_wrong, Sampled, sample_is, line_into}
use Rattle.jl_words.proofs.Most.{few_read, many_read}

-- so many words tell the fault of so many
abbrev Told : ℕ → ℕ → WordFault → Type 0
Told k all faults.NoCommand = ⊥
Told k all (faults.UnknownWord at) = at < k
Told k all (faults.Missing what) = ⊥
Told k all (faults.Repeated option) = all ≤ k
Told k all (faults.BadNumber at) = at < k
Told k all (faults.BadTarget at) = at < k
Told k all faults.NotBuilt = ⊥
Told k all faults.NoMemory = ⊥

-- the first words of the one are those of the other
abbrev Agree : ℕ → List (List ℕ) → List (List ℕ) → Type 0
Agree k ws us = (i : ℕ) (w : List ℕ) → i < k → slice_get ws i ≡ Some w → slice_get us i ≡ Some w

pub err_is : {X : Type 0} (e f : WordFault) → ◌≡◌ {A = Result X WordFault} (Err e) (Err f) → e ≡ f
err_is e f q = cc

err_same : {X Y : Type 0} (e f : WordFault) → ◌≡◌ {A = Result X WordFault} (Err e) (Err f) → ◌≡◌ {A = Result Y WordFault} (Err e) (Err f)
err_same e f q = ap (λ t. Err t) (err_is e f q)

-- ---- values

abbrev pub Placed : ℕ → WordFault → Type 0
Placed at f = (f ≡ faults.BadTarget at) ⊎ (f ≡ faults.BadNumber at)

fact_placed : (o : Option Added) (at : ℕ) (given : Given) (f : WordFault) → with_added o at given ≡ Err f → Placed at f
fact_placed None at given f e = inl (sym (err_is (faults.BadTarget at) f e))
fact_placed (Some a) at given f e = absurd (err_ok _ _ (sym e))

steps_placed : (o : Option ℕ) (at : ℕ) (given : Given) (f : WordFault) → with_steps o at given ≡ Err f → Placed at f
steps_placed None at given f e = inr (sym (err_is (faults.BadNumber at) f e))
steps_placed (Some a) at given f e = absurd (err_ok _ _ (sym e))

pub value_placed : (s : Setting) (value : List ℕ) (at : ℕ) (given : Given) (f : WordFault) → with_value s value at given ≡ Err f → Placed at f
value_placed settings.ModulePath value at given f e = absurd (err_ok _ _ (sym e))
value_placed settings.AddModules value at given f e = by (list_all names_a_module (listed value)) e
  where
    by : (b : Bool) → cond b (Ok (record given { add = given.add ++ listed value })) (Err (faults.BadTarget at)) ≡ Err f → (f ≡ faults.BadTarget at) ⊎ (f ≡ faults.BadNumber at)
    by true k = absurd (err_ok _ _ (sym k))
    by false k = inl (sym (err_is (faults.BadTarget at) f k))
value_placed settings.AddReads value at given f e = fact_placed (added_of settings.AddReads value) at given f e
value_placed settings.AddExports value at given f e = fact_placed (added_of settings.AddExports value) at given f e
value_placed settings.AddOpens value at given f e = fact_placed (added_of settings.AddOpens value) at given f e
value_placed settings.Steps value at given f e = steps_placed (number_of value) at given f e
value_placed settings.Report value at given f e = absurd (err_ok _ _ (sym e))

value_told : (s : Setting) (value : List ℕ) (at k all : ℕ) (given : Given) (f : WordFault) → Told k all f → with_value s value at given ≡ Err f → at < k
value_told s value at k all given f told e = by (value_placed s value at given f e)
  where
    by : (f ≡ faults.BadTarget at) ⊎ (f ≡ faults.BadNumber at) → at < k
    by (inl q) = subst (Told k all) q told
    by (inr q) = subst (Told k all) q told

pub and_err : (r : Result Given WordFault) (n : ℕ) (f : WordFault) → and_then r n ≡ Err f → r ≡ Err f
and_err (Ok g) n f e = absurd (err_ok _ _ (sym e))
and_err (Err d) n f e = err_same d f e

-- ---- one option

abbrev Failing : ℕ → ℕ → Result (Given × ℕ) WordFault → WordFault → Type 0
Failing at k r f = (at < k) × (r ≡ Err f)

valued_err : (s : Setting) (v : Option (List ℕ)) (ws us : List (List ℕ)) (given : Given) (at k : ℕ) (f : WordFault) → Told k (length ws) f → Agree k ws us → valued s v ws given at ≡ Err f → Failing at k (valued s v us given at) f
valued_err s (Some value) ws us given at k f told agree e = (value_told s value at k (length ws) given f told (and_err (with_value s value at given) (at + 1) f e), e)
valued_err s None ws us given at k f told agree e = by (is_flag s) refl
  where
    apart : is_flag s ≡ false → (o : Option (List ℕ)) → slice_get ws (at + 1) ≡ o → (at < k) × (valued s None us given at ≡ Err f)
    apart flag None here = absurd (subst (Told k (length ws)) (sym (err_is (faults.Missing (setting_text s)) f (sym (valued_lacks s ws given at flag here) ∙ e))) told)
    apart flag (Some value) here =
        let w = sym (valued_apart s ws given at value flag here) ∙ e in
        let far : at + 1 < k = value_told s value (at + 1) k (length ws) given f told (and_err (with_value s value (at + 1) given) (at + 2) f w) in
        (omega (arith, far), valued_apart s us given at value flag (agree (at + 1) value far here) ∙ w)

    by : (b : Bool) → is_flag s ≡ b → (at < k) × (valued s None us given at ≡ Err f)
    by true flag =
        let w = sym (valued_flag s ws given at flag) ∙ e in
        (value_told s [] at k (length ws) given f told (and_err (with_value s [] at given) (at + 1) f w), valued_flag s us given at flag ∙ w)
    by false flag = apart flag (slice_get ws (at + 1)) refl

use_err : (o : Option (Setting × Option (List ℕ))) (ws us : List (List ℕ)) (given : Given) (at k : ℕ) (f : WordFault) → at < length ws → Told k (length ws) f → Agree k ws us → use_of o ws given at ≡ Err f → Failing at k (use_of o us given at) f
use_err None ws us given at k f there told agree e = (subst (Told k (length ws)) (sym (err_is (faults.UnknownWord at) f e)) told, e)
use_err (Some (s, v)) ws us given at k f there told agree e = by (is_given s given) refl
  where
    by : (b : Bool) → is_given s given ≡ b → (at < k) × (use_of (Some (s, v)) us given at ≡ Err f)
    by true is =
        let w = sym (ap (λ b. cond b (Err (faults.Repeated (setting_text s))) (valued s v ws given at)) is) ∙ e in
        let all : length ws ≤ k = subst (Told k (length ws)) (sym (err_is (faults.Repeated (setting_text s)) f w)) told in
        (omega (arith, there, all), ap (λ b. cond b (Err (faults.Repeated (setting_text s))) (valued s v us given at)) is ∙ w)
    by false is =
        let w = sym (ap (λ b. cond b (Err (faults.Repeated (setting_text s))) (valued s v ws given at)) is) ∙ e in
        let r = valued_err s v ws us given at k f told agree w in
        (r.0, ap (λ b. cond b (Err (faults.Repeated (setting_text s))) (valued s v us given at)) is ∙ r.1)

valued_ok : (s : Setting) (v : Option (List ℕ)) (ws us : List (List ℕ)) (given : Given) (at k : ℕ) (x : Given × ℕ) → Agree k ws us → x.1 ≤ k → valued s v ws given at ≡ Ok x → valued s v us given at ≡ Ok x
valued_ok s (Some value) ws us given at k x agree far e = e
valued_ok s None ws us given at k x agree far e = by (is_flag s) refl
  where
    apart : is_flag s ≡ false → (o : Option (List ℕ)) → slice_get ws (at + 1) ≡ o → valued s None us given at ≡ Ok x
    apart flag None here = absurd (err_ok _ _ (sym (valued_lacks s ws given at flag here) ∙ e))
    apart flag (Some value) here =
        let w = sym (valued_apart s ws given at value flag here) ∙ e in
        let next : at + 2 ≡ x.1 = (and_then_is (with_value s value (at + 1) given) (at + 2) x.1 x.0 w).1 in
        valued_apart s us given at value flag (agree (at + 1) value (omega (arith, far, next)) here) ∙ w

    by : (b : Bool) → is_flag s ≡ b → valued s None us given at ≡ Ok x
    by true flag = valued_flag s us given at flag ∙ sym (valued_flag s ws given at flag) ∙ e
    by false flag = apart flag (slice_get ws (at + 1)) refl

use_ok : (o : Option (Setting × Option (List ℕ))) (ws us : List (List ℕ)) (given : Given) (at k : ℕ) (x : Given × ℕ) → Agree k ws us → x.1 ≤ k → use_of o ws given at ≡ Ok x → use_of o us given at ≡ Ok x
use_ok None ws us given at k x agree far e = absurd (err_ok _ _ e)
use_ok (Some (s, v)) ws us given at k x agree far e = by (is_given s given) refl
  where
    by : (b : Bool) → is_given s given ≡ b → use_of (Some (s, v)) us given at ≡ Ok x
    by true is = absurd (err_ok _ _ (sym (ap (λ b. cond b (Err (faults.Repeated (setting_text s))) (valued s v ws given at)) is) ∙ e))
    by false is =
        ap (λ b. cond b (Err (faults.Repeated (setting_text s))) (valued s v us given at)) is
        ∙ valued_ok s v ws us given at k x agree far (sym (ap (λ b. cond b (Err (faults.Repeated (setting_text s))) (valued s v ws given at)) is) ∙ e)

-- ---- operands

pub no_some : {X : Type 0} (x : X) → None ≡ Some x → ⊥
no_some x e = true≢false (sym (ap is_some e))

pub word_there : (ws : List (List ℕ)) (i : ℕ) → i < length ws → (w : List ℕ) × (slice_get ws i ≡ Some w)
word_there ws i less = by (slice_get ws i) refl ws i less
  where
    by : (o : Option (List ℕ)) → slice_get ws i ≡ o → (vs : List (List ℕ)) (j : ℕ) → j < length vs → (w : List ℕ) × (slice_get vs j ≡ Some w)
    by o e [] j k = absurd (omega (arith, k))
    by o e (v ∷ vs) zero k = (v, refl)
    by o e (v ∷ vs) (suc j) k = by o e vs j (omega (arith, k))

dropped : (ws : List (List ℕ)) (at j : ℕ) → slice_get (drop at ws) j ≡ slice_get ws (at + j)
dropped ws zero j = let q : j ≡ zero + j = omega arith in ap (slice_get ws) q
dropped [] (suc at) j = refl
dropped (w ∷ ws) (suc at) j = let q : suc (at + j) ≡ suc at + j = omega arith in dropped ws at j ∙ ap (slice_get (w ∷ ws)) q

every : (ws : List (List ℕ)) (j : ℕ) (w : List ℕ) → AllByRecursion (λ n. IsTrue (names_a_module n)) ws → slice_get ws j ≡ Some w → names_a_module w ≡ true
every [] j w all e = absurd (no_some w e)
every (v ∷ vs) zero w all e = let q : v ≡ w = cc in ap names_a_module (sym q) ∙ all.0
every (v ∷ vs) (suc j) w all e = every vs j w all.1 e

-- an operand that is no module
record Misnamed (ws : List (List ℕ)) (at k : ℕ) : Type 0 where
  j : ℕ
  w : List ℕ
  here : slice_get ws (at + j) ≡ Some w
  wrong : names_a_module w ≡ false
  near : at + j < k
  first : at < length ws

resolve_err : (ws : List (List ℕ)) (given : Given) (at k : ℕ) (f : WordFault) → Told k (length ws) f → resolve_at ws given at ≡ Err f → Misnamed ws at k
unfolding resolve_at
resolve_err ws given at k f told e = by (nat_lt at (length ws)) refl e
  where
    roots : at < length ws → (r : Option ℕ) → position (λ n. not (names_a_module n)) (drop at ws) ≡ r → roots_or r given ws at ≡ Err f → Misnamed ws at k
    roots less None is q = absurd (err_ok _ _ (sym q))
    roots less (Some j) is q =
        let p = position-Some (λ n. not (names_a_module n)) (drop at ws) j [] is in
        let t = word_there (drop at ws) j p.0 in
        record {
          j = j;
          w = t.0;
          here = sym (dropped ws at j) ∙ t.1;
          wrong = not_named t.0 (ap (λ n. not (names_a_module n)) (sym (get_or_from_slice_get (drop at ws) j t.0 [] t.1)) ∙ p.1);
          near = subst (Told k (length ws)) (sym (err_is (faults.BadTarget (at + j)) f q)) told;
          first = less;
        }
      where
        not_named : (w : List ℕ) → not (names_a_module w) ≡ true → names_a_module w ≡ false
        not_named w h = flip (names_a_module w) h
          where
            flip : (b : Bool) → not b ≡ true → b ≡ false
            flip true h = absurd (true≢false (sym h))
            flip false h = refl

    by : (t : Bool) → nat_lt at (length ws) ≡ t → cond t (roots_or (position (λ n. not (names_a_module n)) (drop at ws)) given ws at) (Err (faults.Missing (codes "ROOT"))) ≡ Err f → Misnamed ws at k
    by true less q = roots (ltb-true _ _ less) (position (λ n. not (names_a_module n)) (drop at ws)) refl q
    by false less q = absurd (subst (Told k (length ws)) (sym (err_is (faults.Missing (codes "ROOT")) f q)) told)

resolve_apart : (ws us : List (List ℕ)) (given : Given) (at k : ℕ) (c : Command) → Misnamed ws at k → Agree k ws us → resolve_at us given at ≡ Ok c → ⊥
resolve_apart ws us given at k c m agree e =
    let r = resolve_is us given at c e in
    true≢false (sym (every (drop at us) m.j m.w r.1 (dropped us at m.j ∙ agree (at + m.j) m.w m.near m.here)) ∙ m.wrong)

record Untargeted (ws : List (List ℕ)) (at k : ℕ) : Type 0 where
  w : List ℕ
  here : slice_get ws at ≡ Some w
  wrong : target_of w ≡ None
  near : at < k

run_err : (ws : List (List ℕ)) (given : Given) (at k : ℕ) (f : WordFault) → Told k (length ws) f → run_at ws given at ≡ Err f → Untargeted ws at k
run_err ws given at k f told e = by (slice_get ws at) refl
  where
    to : (w : List ℕ) → slice_get ws at ≡ Some w → (r : Option (List ℕ × Option (List ℕ))) → target_of w ≡ r → Untargeted ws at k
    to w here None t = record { w = w; here = here; wrong = t; near = subst (Told k (length ws)) (sym (err_is (faults.BadTarget at) f (sym (run_wrong ws given at w here t) ∙ e))) told }
    to w here (Some main) t = absurd (err_ok _ _ (sym e ∙ run_found ws given at w main here t))

    by : (o : Option (List ℕ)) → slice_get ws at ≡ o → Untargeted ws at k
    by None here = absurd (subst (Told k (length ws)) (sym (err_is (faults.Missing (codes "MODULE/CLASS")) f (sym (run_lacks ws given at here) ∙ e))) told)
    by (Some w) here = to w here (target_of w) refl

run_apart : (ws us : List (List ℕ)) (given : Given) (at k : ℕ) (c : Command) → Untargeted ws at k → Agree k ws us → run_at us given at ≡ Ok c → ⊥
run_apart ws us given at k c m agree e =
    let r = run_is us given at c e in
    let q : m.w ≡ r.0 = let z : Some m.w ≡ Some r.0 = sym (agree at m.w m.near m.here) ∙ r.2 in cc in
    no_some r.1 (sym m.wrong ∙ ap target_of q ∙ r.3)

-- what is wrong with the words of a sample
record Unsampled (ws : List (List ℕ)) (at k : ℕ) : Type 0 where
  w : List ℕ
  here : slice_get ws at ≡ Some w
  near : at < k
  apart : (us : List (List ℕ)) (c : Command) → Agree k ws us → Sampled us at c → ⊥

sample_err : (ws : List (List ℕ)) (at k : ℕ) (f : WordFault) → Told k (length ws) f → sample_at ws at ≡ Err f → Unsampled ws at k
unfolding sample_at
sample_err ws at k f told e = first (slice_get ws at) refl e
  where
    Rest : ℕ → Result Command WordFault
    Rest n = cond (not (nat_le 1 n && nat_le n 1000)) (Err (faults.BadNumber at)) (number_or (codes "BOUND") (slice_get ws (at + 1)) (at + 1) >>= λ bound. cond (nat_lt (at + 2) (length ws)) (Err (faults.UnknownWord (at + 2))) (Ok (Sample n bound)))

    same_number : (us : List (List ℕ)) (c : Command) (i : ℕ) (w v : List ℕ) → i < k → Agree k ws us → slice_get ws i ≡ Some w → slice_get us i ≡ Some v → w ≡ v
    same_number us c i w v near agree h g = let z : Some w ≡ Some v = sym (agree i w near h) ∙ g in cc

    last : (w v : List ℕ) (n b : ℕ) → slice_get ws at ≡ Some w → (t : Bool) → nat_lt (at + 2) (length ws) ≡ t → cond t (Err (faults.UnknownWord (at + 2))) (Ok (Sample n b)) ≡ Err f → Unsampled ws at k
    last w v n b here true more q =
        let near : at + 2 < k = subst (Told k (length ws)) (sym (err_is (faults.UnknownWord (at + 2)) f q)) told in
        let t = word_there ws (at + 2) (ltb-true _ _ more) in
        record { w = w; here = here; near = omega (arith, near); apart = λ us c agree s. let less = slice_get_within us (at + 2) t.0 (agree (at + 2) t.0 near t.1) in absurd (omega (arith, less, s.last)) }
    last w v n b here false more q = absurd (err_ok _ _ (sym q))

    bound : (w v : List ℕ) (n : ℕ) → slice_get ws at ≡ Some w → slice_get ws (at + 1) ≡ Some v → (r : Option ℕ) → number_of v ≡ r → (number_or (codes "BOUND") (Some v) (at + 1) >>= λ bound. cond (nat_lt (at + 2) (length ws)) (Err (faults.UnknownWord (at + 2))) (Ok (Sample n bound))) ≡ Err f → Unsampled ws at k
    bound w v n here next None is q =
        let near : at + 1 < k = subst (Told k (length ws)) (sym (err_is (faults.BadNumber (at + 1)) f (sym (ap (λ r. r >>= λ bound. cond (nat_lt (at + 2) (length ws)) (Err (faults.UnknownWord (at + 2))) (Ok (Sample n bound))) (number_wrong (codes "BOUND") v (at + 1) is)) ∙ q))) told in
        record { w = w; here = here; near = omega (arith, near); apart = λ us c agree s. no_some s.bound (sym is ∙ ap number_of (same_number us c (at + 1) v s.limit near agree next s.second) ∙ number_found s.limit s.bound s.bounds) }
    bound w v n here next (Some b) is q =
        last w v n b here (nat_lt (at + 2) (length ws)) refl (sym (ap (λ r. r >>= λ bound. cond (nat_lt (at + 2) (length ws)) (Err (faults.UnknownWord (at + 2))) (Ok (Sample n bound))) (number_read (codes "BOUND") v (at + 1) b is)) ∙ q)

    second : (w : List ℕ) (n : ℕ) → slice_get ws at ≡ Some w → (o : Option (List ℕ)) → slice_get ws (at + 1) ≡ o → (number_or (codes "BOUND") o (at + 1) >>= λ bound. cond (nat_lt (at + 2) (length ws)) (Err (faults.UnknownWord (at + 2))) (Ok (Sample n bound))) ≡ Err f → Unsampled ws at k
    second w n here None next q = absurd (subst (Told k (length ws)) (sym (err_is (faults.Missing (codes "BOUND")) f q)) told)
    second w n here (Some v) next q = bound w v n here next (number_of v) refl q

    few : (w : List ℕ) (n : ℕ) → slice_get ws at ≡ Some w → number_of w ≡ Some n → (t : Bool) → (nat_le 1 n && nat_le n 1000) ≡ t → cond (not t) (Err (faults.BadNumber at)) (number_or (codes "BOUND") (slice_get ws (at + 1)) (at + 1) >>= λ bound. cond (nat_lt (at + 2) (length ws)) (Err (faults.UnknownWord (at + 2))) (Ok (Sample n bound))) ≡ Err f → Unsampled ws at k
    few w n here is true t q = second w n here (slice_get ws (at + 1)) refl q
    few w n here is false t q =
        let near : at < k = subst (Told k (length ws)) (sym (err_is (faults.BadNumber at) f q)) told in
        record {
          w = w;
          here = here;
          near = near;
          apart = λ us c agree s.
              let z : Some n ≡ Some s.n = sym is ∙ ap number_of (same_number us c at w s.number near agree here s.first) ∙ number_found s.number s.n s.counts in
              let y : n ≡ s.n = cc in
              true≢false (sym (subst (λ m. (nat_le 1 m && nat_le m 1000) ≡ true) (sym y) (both s.n s.few.0 s.few.1)) ∙ t);
        }
      where
        both : (m : ℕ) → 1 ≤ m → m ≤ 1000 → (nat_le 1 m && nat_le m 1000) ≡ true
        both m lo hi = rw (le-leb 1 m lo, le-leb m 1000 hi) refl

    number : (w : List ℕ) → slice_get ws at ≡ Some w → (r : Option ℕ) → number_of w ≡ r → (number_or (codes "N") (Some w) at >>= Rest) ≡ Err f → Unsampled ws at k
    number w here None is q =
        let near : at < k = subst (Told k (length ws)) (sym (err_is (faults.BadNumber at) f (sym (ap (λ r. r >>= Rest) (number_wrong (codes "N") w at is)) ∙ q))) told in
        record { w = w; here = here; near = near; apart = λ us c agree s. no_some s.n (sym is ∙ ap number_of (same_number us c at w s.number near agree here s.first) ∙ number_found s.number s.n s.counts) }
    number w here (Some n) is q = few w n here is (nat_le 1 n && nat_le n 1000) refl (sym (ap (λ r. r >>= Rest) (number_read (codes "N") w at n is)) ∙ q)

    first : (o : Option (List ℕ)) → slice_get ws at ≡ o → (number_or (codes "N") o at >>= Rest) ≡ Err f → Unsampled ws at k
    first None here q = absurd (subst (Told k (length ws)) (sym (err_is (faults.Missing (codes "N")) f q)) told)
    first (Some w) here q = number w here (number_of w) refl q

-- the operand where a fault is, and that no other words read it otherwise
record Apart (verb : Verb) (ws : List (List ℕ)) (given : Given) (at k : ℕ) : Type 0 where
  w : List ℕ
  here : slice_get ws at ≡ Some w
  near : at < k
  apart : (us : List (List ℕ)) (c : Command) → Agree k ws us → operands_at verb us (given, at) ≡ Ok c → ⊥

operands_err : (verb : Verb) (ws : List (List ℕ)) (given : Given) (at k : ℕ) (f : WordFault) → Told k (length ws) f → operands_at verb ws (given, at) ≡ Err f → Apart verb ws given at k
operands_err verbs.Resolve ws given at k f told e =
    let m = resolve_err ws given at k f told e in
    let t = word_there ws at m.first in
    record { w = t.0; here = t.1; near = let n = m.near in omega (arith, n); apart = λ us c agree q. resolve_apart ws us given at k c m agree q }
operands_err verbs.Run ws given at k f told e =
    let m = run_err ws given at k f told e in
    record { w = m.w; here = m.here; near = m.near; apart = λ us c agree q. run_apart ws us given at k c m agree q }
operands_err verbs.Sample ws given at k f told e =
    let m = sample_err ws at k f told e in
    record { w = m.w; here = m.here; near = m.near; apart = λ us c agree q. m.apart us c agree (sample_is us at c q) }

-- ---- options, one after the other

abbrev pub Whole : ℕ → Verb → List (List ℕ) → Given → ℕ → Result Command WordFault
Whole n verb ws given at = options_from n verb ws given at >>= operands_at verb ws

pub stopped : (n : ℕ) (verb : Verb) (ws : List (List ℕ)) (given : Given) (at : ℕ) → is_option (slice_get ws at) ≡ false → Whole n verb ws given at ≡ operands_at verb ws (given, at)
stopped n verb ws given at stop = ap (λ r. r >>= operands_at verb ws) (options_stop n verb ws given at stop)

pub spent : (verb : Verb) (ws : List (List ℕ)) (given : Given) (at : ℕ) → Whole zero verb ws given at ≡ operands_at verb ws (given, at)
unfolding options_from
spent verb ws given at = refl

pub went : (n : ℕ) (verb : Verb) (ws : List (List ℕ)) (given : Given) (at : ℕ) → is_option (slice_get ws at) ≡ true → (r : Result (Given × ℕ) WordFault) → used verb ws given at ≡ r → Whole (suc n) verb ws given at ≡ ((r >>= λ x. options_from n verb ws x.0 x.1) >>= operands_at verb ws)
went n verb ws given at go r is = ap (λ t. t >>= operands_at verb ws) (step n verb ws given at go ∙ ap (λ t. t >>= λ x. options_from n verb ws x.0 x.1) is)

pub option_word : (ws : List (List ℕ)) (at : ℕ) → is_option (slice_get ws at) ≡ true → (w : List ℕ) × (slice_get ws at ≡ Some w)
option_word ws at go = by (slice_get ws at) refl
  where
    by : (o : Option (List ℕ)) → slice_get ws at ≡ o → (w : List ℕ) × (slice_get ws at ≡ Some w)
    by None e = absurd (true≢false (sym go ∙ ap is_option e))
    by (Some w) e = (w, e)

-- the place of a fault is not before the place where its reading begins
bound : (n : ℕ) (verb : Verb) (ws : List (List ℕ)) (given : Given) (at k : ℕ) (f : WordFault) → Told k (length ws) f → Whole n verb ws given at ≡ Err f → at < k
bound zero verb ws given at k f told e = (operands_err verb ws given at k f told (sym (spent verb ws given at) ∙ e)).near
bound (suc n) verb ws given at k f told e = by (is_option (slice_get ws at)) refl (λ mid near. bound n verb ws mid near k f told)
  where
    Later : Type 0
    Later = (mid : Given) (near : ℕ) → Whole n verb ws mid near ≡ Err f → near < k

    read : Later → is_option (slice_get ws at) ≡ true → (w : List ℕ) → slice_get ws at ≡ Some w → (r : Result (Given × ℕ) WordFault) → used verb ws given at ≡ r → at < k
    read later go w here (Err g) is =
        let q : g ≡ f = err_is g f (sym (went n verb ws given at go (Err g) is) ∙ e) in
        (use_err (named_by verb (word_of (slice_get ws at))) ws ws given at k f (slice_get_within ws at w here) told (λ i v l h. h) (is ∙ ap (λ t. Err t) q)).0
    read later go w here (Ok x) is =
        let u = used_from verb ws given x.0 at x.1 w (at_word ws at w here) (ap (λ o. use_of (named_by verb (word_of o)) ws given at) (sym here) ∙ is) in
        let l = later x.0 x.1 (sym (went n verb ws given at go (Ok x) is) ∙ e) in
        omega (arith, l, u.further)

    by : (t : Bool) → is_option (slice_get ws at) ≡ t → Later → at < k
    by false stop later = (operands_err verb ws given at k f told (sym (stopped (suc n) verb ws given at stop) ∙ e)).near
    by true go later = let w = option_word ws at go in read later go w.0 w.1 (used verb ws given at) refl

-- words that agree are not read where the others have the fault
apart : (n m : ℕ) (verb : Verb) (ws us : List (List ℕ)) (given : Given) (at k : ℕ) (f : WordFault) (c : Command) → Told k (length ws) f → Agree k ws us → length ws < at + n → length us < at + m
    → Whole n verb ws given at ≡ Err f → Whole m verb us given at ≡ Ok c → ⊥
apart zero m verb ws us given at k f c told agree enough more e g =
    let a = operands_err verb ws given at k f told (sym (spent verb ws given at) ∙ e) in
    let less = slice_get_within ws at a.w a.here in
    absurd (omega (arith, less, enough))
apart (suc n) m verb ws us given at k f c told agree enough more e g = by (is_option (slice_get ws at)) refl (λ mid near p. apart n p verb ws us mid near k f c told agree)
  where
    Later : Type 0
    Later = (mid : Given) (near p : ℕ) → length ws < near + n → length us < near + p → Whole n verb ws mid near ≡ Err f → Whole p verb us mid near ≡ Ok c → ⊥

    others : Later → is_option (slice_get ws at) ≡ true → (w : List ℕ) → slice_get ws at ≡ Some w → slice_get us at ≡ Some w → (r : Result (Given × ℕ) WordFault) → used verb ws given at ≡ r → (p : ℕ) → length us < at + p → Whole p verb us given at ≡ Ok c → ⊥
    others later go w here there r is zero few q = let less = slice_get_within us at w there in absurd (omega (arith, less, few))
    others later go w here there (Err d) is (suc p) few q =
        let same : d ≡ f = err_is d f (sym (went n verb ws given at go (Err d) is) ∙ e) in
        let u = use_err (named_by verb (word_of (slice_get ws at))) ws us given at k f (slice_get_within ws at w here) told agree (is ∙ ap (λ t. Err t) same) in
        let v : used verb us given at ≡ Err f = ap (λ o. use_of (named_by verb (word_of o)) us given at) (there ∙ sym here) ∙ u.1 in
        absurd (err_ok f c (sym (went p verb us given at (ap is_option there ∙ sym (ap is_option here) ∙ go) (Err f) v) ∙ q))
    others later go w here there (Ok x) is (suc p) few q =
        let u = used_from verb ws given x.0 at x.1 w (at_word ws at w here) (ap (λ o. use_of (named_by verb (word_of o)) ws given at) (sym here) ∙ is) in
        let rest = sym (went n verb ws given at go (Ok x) is) ∙ e in
        let near = bound n verb ws x.0 x.1 k f told rest in
        let v : used verb us given at ≡ Ok x = ap (λ o. use_of (named_by verb (word_of o)) us given at) (there ∙ sym here) ∙ use_ok (named_by verb (word_of (slice_get ws at))) ws us given at k x agree (omega (arith, near)) is in
        later x.0 x.1 p (omega (arith, enough, u.further)) (omega (arith, few, u.further)) rest (sym (went p verb us given at (ap is_option there ∙ sym (ap is_option here) ∙ go) (Ok x) v) ∙ q)

    by : (t : Bool) → is_option (slice_get ws at) ≡ t → Later → ⊥
    by false stop later =
        let a = operands_err verb ws given at k f told (sym (stopped (suc n) verb ws given at stop) ∙ e) in
        let there = agree at a.w a.near a.here in
        a.apart us c agree (sym (stopped m verb us given at (ap is_option there ∙ sym (ap is_option a.here) ∙ stop)) ∙ g)
    by true go later =
        let w = option_word ws at go in
        let near = bound (suc n) verb ws given at k f told e in
        others later go w.0 w.1 (agree at w.0 near w.1) (used verb ws given at) refl m more g

-- ---- lines

line_apart : (ws us : List (List ℕ)) (k : ℕ) (f : WordFault) (c : Command) → Told k (length ws) f → Agree k ws us → line_read ws ≡ Err f → line_read us ≡ Ok c → ⊥
unfolding line_read
line_apart [] us k f c told agree e g = subst (Told k 0) (sym (err_is faults.NoCommand f e)) told
line_apart (w ∷ ws) [] k f c told agree e g = err_ok _ _ g
line_apart (w ∷ ws) (u ∷ us) k f c told agree e g = by (verb_of w) refl e
  where
    by : (r : Option Verb) → verb_of w ≡ r → verb_or r (w ∷ ws) ≡ Err f → ⊥
    by None is q =
        let near : 0 < k = subst (Told k (length (w ∷ ws))) (sym (err_is (faults.UnknownWord 0) f q)) told in
        let same : u ≡ w = let z : Some u ≡ Some w = agree 0 w near refl in cc in
        err_ok (faults.UnknownWord 0) c (sym (ap (λ r. verb_or r (u ∷ us)) (ap verb_of same ∙ is)) ∙ g)
    by (Some verb) is q =
        let near = bound (length (w ∷ ws)) verb (w ∷ ws) nothing 1 k f told q in
        let same : u ≡ w = let z : Some u ≡ Some w = agree 0 w (omega (arith, near)) refl in cc in
        apart (length (w ∷ ws)) (length (u ∷ us)) verb (w ∷ ws) (u ∷ us) nothing 1 k f c told agree (omega arith) (omega arith) q (sym (ap (λ r. verb_or r (u ∷ us)) (ap verb_of same ∙ is)) ∙ g)

agree_front : (k : ℕ) (ws rest : List (List ℕ)) → Agree k ws (take k ws ++ rest)
agree_front k [] rest i w near e = absurd (no_some w e)
agree_front zero (v ∷ ws) rest i w near e = absurd (omega (arith, near))
agree_front (suc k) (v ∷ ws) rest zero w near e = e
agree_front (suc k) (v ∷ ws) rest (suc i) w near e = agree_front k ws rest i w (omega (arith, near)) e

agree_all : (k : ℕ) (ws rest : List (List ℕ)) → Agree k ws (ws ++ rest)
agree_all k [] rest i w near e = absurd (no_some w e)
agree_all k (v ∷ ws) rest zero w near e = e
agree_all zero (v ∷ ws) rest (suc i) w near e = absurd (omega (arith, near))
agree_all (suc k) (v ∷ ws) rest (suc i) w near e = agree_all k ws rest i w (omega (arith, near)) e

pub of_front : (n : ℕ) (ws : List (List ℕ)) (i : ℕ) (w : List ℕ) → slice_get (take n ws) i ≡ Some w → slice_get ws i ≡ Some w
of_front zero ws i w e = absurd (no_some w e)
of_front (suc n) [] i w e = e
of_front (suc n) (v ∷ ws) zero w e = e
of_front (suc n) (v ∷ ws) (suc i) w e = of_front n ws i w e

-- how many words tell the fault, and that a longer list agrees with them
record Tells (ws us : List (List ℕ)) (f : WordFault) : Type 0 where
  k : ℕ
  told : Told k (length ws) f
  agree : Agree k ws us

at_place : (ws us : List (List ℕ)) (at : ℕ) → IsFront (take (at + 1) ws) us → Agree (at + 1) ws us
at_place ws us at front = subst (Agree (at + 1) ws) (sym front.1) (agree_front (at + 1) ws front.0)

tells : (ws us : List (List ℕ)) (f : WordFault) → IsTold f → IsFront (telling ws f) us → Tells ws us f
tells ws us faults.NoCommand is front = absurd is
tells ws us (faults.UnknownWord at) is front = record { k = at + 1; told = omega arith; agree = at_place ws us at front }
tells ws us (faults.Missing what) is front = absurd is
tells ws us (faults.Repeated option) is front = record { k = length ws; told = omega arith; agree = subst (Agree (length ws) ws) (sym front.1) (agree_all (length ws) ws front.0) }
tells ws us (faults.BadNumber at) is front = record { k = at + 1; told = omega arith; agree = at_place ws us at front }
tells ws us (faults.BadTarget at) is front = record { k = at + 1; told = omega arith; agree = at_place ws us at front }
tells ws us faults.NotBuilt is front = absurd is
tells ws us faults.NoMemory is front = absurd is

fewer_told : (k few all : ℕ) (f : WordFault) → few ≤ all → Told k all f → Told k few f
fewer_told k few all faults.NoCommand le told = told
fewer_told k few all (faults.UnknownWord at) le told = told
fewer_told k few all (faults.Missing what) le told = told
fewer_told k few all (faults.Repeated option) le told = omega (arith, le, told)
fewer_told k few all (faults.BadNumber at) le told = told
fewer_told k few all (faults.BadTarget at) le told = told
fewer_told k few all faults.NotBuilt le told = told
fewer_told k few all faults.NoMemory le told = told

pub no_line_begins : NoLineBegins
no_line_begins words f e is longer c front line = by (nat_le (length words) most_words) refl
  where
    t : Tells words longer f
    t = tells words longer f is front

    read : line_read longer ≡ Ok c
    read = line_into longer c line.command

    too_many : most_words < length words → faults.UnknownWord most_words ≡ f → ⊥
    too_many many q =
        let w = subst (λ g. IsFront (telling words g) longer) (sym q) front in
        let all : length longer ≡ length (take (most_words + 1) words ++ w.0) = ap length w.1 in
        let few = line.few in
        absurd (omega (arith, all, few, many, length-append (take (most_words + 1) words) w.0, length-take (most_words + 1) words))

    short : (g : WordFault) → line_read (take most_words words) ≡ Err g → g ≡ f → ⊥
    short g r q = line_apart (take most_words words) longer t.k f c (fewer_told t.k (length (take most_words words)) (length words) f (omega (arith, length-take most_words words)) t.told)
        (λ i w near h. t.agree i w near (of_front most_words words i w h)) (r ∙ ap (λ d. Err d) q) read

    past : most_words < length words → (r : Result Command WordFault) → line_read (take most_words words) ≡ r → past_most r ≡ Err f → ⊥
    past many (Ok d) r q = too_many many (err_is (faults.UnknownWord most_words) f q)
    past many (Err (faults.Missing what)) r q = too_many many (err_is (faults.UnknownWord most_words) f q)
    past many (Err faults.NoCommand) r q = short faults.NoCommand r (err_is faults.NoCommand f q)
    past many (Err (faults.UnknownWord at)) r q = short (faults.UnknownWord at) r (err_is (faults.UnknownWord at) f q)
    past many (Err (faults.Repeated option)) r q = short (faults.Repeated option) r (err_is (faults.Repeated option) f q)
    past many (Err (faults.BadNumber at)) r q = short (faults.BadNumber at) r (err_is (faults.BadNumber at) f q)
    past many (Err (faults.BadTarget at)) r q = short (faults.BadTarget at) r (err_is (faults.BadTarget at) f q)
    past many (Err faults.NotBuilt) r q = short faults.NotBuilt r (err_is faults.NotBuilt f q)
    past many (Err faults.NoMemory) r q = short faults.NoMemory r (err_is faults.NoMemory f q)

    by : (b : Bool) → nat_le (length words) most_words ≡ b → ⊥
    by true few = line_apart words longer t.k f c t.told t.agree (sym (few_read words (leb-true _ _ few)) ∙ e) read
    by false many = let more : most_words < length words = leb-false _ _ many in past more (line_read (take most_words words)) refl (sym (many_read words more) ∙ e)

pub no_line : NoLine
no_line words f c e line = err_ok f c (sym e ∙ few_read words line.few ∙ line_into words c line.command)
