-- Texts cut at a separator, and numbers read digit by digit.
use Rattle.std.proofs.Common.{◌≡◌, ◌≢◌, ℕ, suc, ◌+◌, ◌*◌, ◌-◌, ◌^◌, ◌<◌, ◌≤◌, ◌==◌, nat_lt, List, [], ◌∷◌, ◌++◌, length, filter, Bool, true, false, not, cond, Option, None, Some, option_map, get_or, Bor, refl, sym, ap, subst, ◌∙◌, arith}
use Rattle.std.specs.Prelude.{MatchOption, IfOk, is_some, Result, Ok, Err}
use Rattle.std.specs.Option.{unwrap_or}
use Rattle.std.specs.Str.Pattern.{RFindsChar, SplitsAroundMatch}
use Rattle.std.specs.Str.{NoCharPasses}
use Rattle.std.proofs.lemmas.Bool.{eq-eqb, ne_eqb, true≢false, le-ltb, lt-ltb, ltb-true, ltb-false}
use Rattle.std.proofs.lemmas.List.{append_assoc, take-append-drop}
use Rattle.std.proofs.lemmas.Str.Pattern.{IsSplitOnceResult, split_parts, NoCharPasses-char, drop_at_char}
use Rattle.jl_names.specs.Names.{is_empty, with_first}
use Rattle.jl_words.specs.Values.{split, path_parts, listed, spelled}
use Rattle.jl_words.specs.Reading.{parted, parted_last}

-- none of the bytes is c
abbrev pub Lacks : ℕ → List ℕ → Type 0
Lacks c bs = (i : ℕ) → i < length bs → get_or bs i 0 ≢ c

-- ---- the first separator

pub parted_none : (c : ℕ) (bs : List ℕ) → Lacks c bs → parted c bs ≡ None
unfolding parted
parted_none c [] lacks = refl
parted_none c (b ∷ bs) lacks = rw (ne_eqb b c (lacks 0 (omega arith)), parted_none c bs (λ i l. lacks (suc i) (omega (arith, l)))) refl

pub parted_some : (c : ℕ) (front back : List ℕ) → Lacks c front → parted c (front ++ c ∷ back) ≡ Some (front, back)
unfolding parted
parted_some c [] back lacks = rw (eq-eqb c c refl) refl
parted_some c (b ∷ front) back lacks = rw (ne_eqb b c (lacks 0 (omega arith)), parted_some c front back (λ i l. lacks (suc i) (omega (arith, l)))) refl

by_parts : (c : ℕ) (bs : List ℕ) (r : Option (Bor (List ℕ) × Bor (List ℕ))) → MatchOption r (Lacks c bs) (λ x. (bs ≡ x.0.now ++ (c ∷ x.1.now)) × Lacks c x.0.now)
    → option_map (λ x. (x.0.now, x.1.now)) r ≡ parted c bs
by_parts c bs None h = sym (parted_none c bs h)
by_parts c bs (Some x) h = rw h.0 (sym (parted_some c x.0.now x.1.now h.1))

-- what `split_once` gives
pub parted_by : (c : ℕ) (bs : List ℕ) (r : Option (Bor (List ℕ) × Bor (List ℕ))) → IsSplitOnceResult c bs r → c < 128 → option_map (λ x. (x.0.now, x.1.now)) r ≡ parted c bs
parted_by c bs r h low = by_parts c bs r (split_parts c bs r h low)

-- ---- the last separator

last_none : (c : ℕ) (bs : List ℕ) → Lacks c bs → parted_last c bs ≡ None
unfolding parted_last
last_none c [] lacks = refl
last_none c (b ∷ bs) lacks = rw (last_none c bs (λ i l. lacks (suc i) (omega (arith, l))), ne_eqb b c (lacks 0 (omega arith))) refl

pub last_some : (c : ℕ) (front back : List ℕ) → Lacks c back → parted_last c (front ++ c ∷ back) ≡ Some (front, back)
unfolding parted_last
last_some c [] back lacks = rw (last_none c back lacks, eq-eqb c c refl) refl
last_some c (b ∷ front) back lacks = rw (last_some c front back lacks) refl

-- what `rsplit_once` gives
pub last_by : (c : ℕ) (bs : List ℕ) (r : Option (Bor (List ℕ) × Bor (List ℕ))) → MatchOption r (RFindsChar c bs None) (λ x. SplitsAroundMatch (RFindsChar c) bs x.0.now x.1.now) → c < 128
    → option_map (λ x. (x.0.now, x.1.now)) r ≡ parted_last c bs
last_by c bs None h low = sym (last_none c bs (λ i. NoCharPasses-char c bs i h low))
last_by c bs (Some x) h low =
    let whole : bs ≡ x.0.now ++ (c ∷ x.1.now) = sym (take-append-drop h.0 bs) ∙ (λ k. sym h.3 k ++ (drop_at_char c bs h.0 h.1 h.2.1 low ∙ ap (λ l. c ∷ l) (sym h.4)) k) in
    let lacks : Lacks c x.1.now = λ i. NoCharPasses-char c x.1.now i (subst (NoCharPasses (λ d. d == c)) (sym h.4) h.2.0) low in
    rw whole (sym (last_some c x.0.now x.1.now lacks))

-- ---- parts

abbrev parts_by : ℕ → List ℕ → Option (List ℕ × List ℕ) → List (List ℕ)
parts_by c text None = text ∷ []
parts_by c text (Some x) = x.0 ∷ split c x.1

first_by : (c b : ℕ) (bs : List ℕ) (r : Option (List ℕ × List ℕ)) → with_first b (parts_by c bs r) ≡ parts_by c (b ∷ bs) (option_map (λ x. (b ∷ x.0, x.1)) r)
first_by c b bs None = refl
first_by c b bs (Some x) = refl

-- a text in parts begins with what stands before its first separator
split_by : (c : ℕ) (text : List ℕ) → split c text ≡ parts_by c text (parted c text)
unfolding split parted
split_by c [] = refl
split_by c (b ∷ bs) = by (b == c) (split_by c bs)
  where
    by : (t : Bool) → split c bs ≡ parts_by c bs (parted c bs) → cond t ([] ∷ split c bs) (with_first b (split c bs)) ≡ parts_by c (b ∷ bs) (cond t (Some ([], bs)) (option_map (λ x. (b ∷ x.0, x.1)) (parted c bs)))
    by true e = refl
    by false e = ap (with_first b) e ∙ first_by c b bs (parted c bs)

pub split_more : (c : ℕ) (text front back : List ℕ) → Some (front, back) ≡ parted c text → split c text ≡ front ∷ split c back
split_more c text front back e = split_by c text ∙ ap (parts_by c text) (sym e)

pub split_last : (c : ℕ) (text : List ℕ) → None ≡ parted c text → split c text ≡ text ∷ []
split_last c text e = split_by c text ∙ ap (parts_by c text) (sym e)

abbrev counts : List ℕ → Bool
counts p = not (is_empty p)

filter_more : (p : List ℕ) (ps : List (List ℕ)) → filter counts (p ∷ ps) ≡ filter counts (p ∷ []) ++ filter counts ps
filter_more [] ps = refl
filter_more (b ∷ p) ps = refl

pub path_more : (done more : List (List ℕ)) (rest front back : List ℕ) (total : List (List ℕ)) → Some (front, back) ≡ parted 58 rest → more ≡ done ++ filter counts (front ∷ []) → done ++ path_parts rest ≡ total → more ++ path_parts back ≡ total
path_more done more rest front back total cut grown so_far =
    let parts : path_parts rest ≡ filter counts (front ∷ []) ++ path_parts back = ap (filter counts) (split_more 58 rest front back cut) ∙ filter_more front (split 58 back) in
    ap (λ l. l ++ path_parts back) grown ∙ append_assoc done (filter counts (front ∷ [])) (path_parts back) ∙ ap (λ l. done ++ l) (sym parts) ∙ so_far

pub listed_more : (done more : List (List ℕ)) (rest front back : List ℕ) (total : List (List ℕ)) → Some (front, back) ≡ parted 44 rest → more ≡ done ++ front ∷ [] → done ++ listed rest ≡ total → more ++ listed back ≡ total
listed_more done more rest front back total cut grown so_far =
    ap (λ l. l ++ listed back) grown ∙ append_assoc done (front ∷ []) (listed back) ∙ ap (λ l. done ++ l) (sym (split_more 44 rest front back cut)) ∙ so_far

pub path_ends : {E : Type 0} (done : List (List ℕ)) (r : Result (List (List ℕ)) E) (rest : List ℕ) (total : List (List ℕ)) → None ≡ parted 58 rest → IfOk r (λ more. more ≡ done ++ filter counts (rest ∷ [])) → done ++ path_parts rest ≡ total → IfOk r (λ it. it ≡ total)
path_ends done (Ok more) rest total cut grown so_far = grown ∙ ap (λ l. done ++ filter counts l) (sym (split_last 58 rest cut)) ∙ so_far
path_ends done (Err e) rest total cut grown so_far = tt

pub listed_ends : {E : Type 0} (done : List (List ℕ)) (r : Result (List (List ℕ)) E) (rest : List ℕ) (total : List (List ℕ)) → None ≡ parted 44 rest → IfOk r (λ more. more ≡ done ++ rest ∷ []) → done ++ listed rest ≡ total → IfOk r (λ it. it ≡ total)
listed_ends done (Ok more) rest total cut grown so_far = grown ∙ ap (λ l. done ++ l) (sym (split_last 44 rest cut)) ∙ so_far
listed_ends done (Err e) rest total cut grown so_far = tt

-- ---- numbers

-- a number with digits behind it is no less
pub spelled_grows : (n : ℕ) (bs : List ℕ) → n ≤ spelled n bs
spelled_grows n [] = omega arith
spelled_grows n (b ∷ bs) = let later = spelled_grows (n * 10 + (b - 48)) bs in omega (arith, later)

-- the number that is kept where it takes at most 64 bits
abbrev pub small : ℕ → Option ℕ
small n = cond (nat_lt n (2 ^ 64)) (Some n) None

small_none : (n : ℕ) → None ≡ small n → 2 ^ 64 ≤ n
small_none n h = by (nat_lt n (2 ^ 64)) refl h
  where
    by : (t : Bool) → nat_lt n (2 ^ 64) ≡ t → None ≡ cond t (Some n) None → 2 ^ 64 ≤ n
    by true e h = absurd (true≢false (sym (ap is_some h)))
    by false e h = ltb-false n (2 ^ 64) e

-- a digit too many stays too many
pub spelled_over : (n : ℕ) (rest : List ℕ) (total : ℕ) → 1 ≤ length rest → spelled n rest ≡ total → None ≡ small (n * 10 + (get_or rest 0 0 - 48)) → None ≡ small total
spelled_over n [] total some so_far over = absurd (omega (arith, some))
spelled_over n (b ∷ bs) total some so_far over =
    let past = small_none _ over in
    let later = spelled_grows (n * 10 + (b - 48)) bs in
    rw (le-ltb total (2 ^ 64) (omega (arith, past, later, so_far))) refl

pub spelled_all : (n : ℕ) (rest : List ℕ) (total : ℕ) → length rest < 1 → n < 2 ^ 64 → spelled n rest ≡ total → Some n ≡ small total
spelled_all n [] total none fits so_far = rw (sym so_far, lt-ltb n (2 ^ 64) fits) refl
spelled_all n (b ∷ bs) total none fits so_far = absurd (omega (arith, none))

pub small_fits : (n m : ℕ) → Some m ≡ small n → m < 2 ^ 64
small_fits n m h = by (nat_lt n (2 ^ 64)) refl h
  where
    by : (t : Bool) → nat_lt n (2 ^ 64) ≡ t → Some m ≡ cond t (Some n) None → m < 2 ^ 64
    by true e h = let same : m ≡ n = ap (λ o. unwrap_or o 0) h in omega (arith, ltb-true n (2 ^ 64) e, same)
    by false e h = absurd (true≢false (ap is_some h))
