-- How many constants there are, and that what is entered in turn is each of them once.
use Rattle.std.proofs.Common.{◌≡◌, ℕ, ◌+◌, ◌<◌, ◌≤◌, Bool, true, false, ◌||◌, List, [], ◌∷◌, ◌++◌, map, take, drop, get_or, length, refl, sym, ap, ap₂, true≢false, subst, ◌∙◌, arith, inl, inr}
use Rattle.std.specs.Prelude.{◌⊎◌, Ok, Err, if◌then◌else◌}
use Rattle.std.specs.List.{list_any, flat_map}
use Rattle.std.proofs.Math.Bool.{or-false}
use Rattle.std.proofs.lemmas.Bool.{cases_Bool, cases_lt, lt-ltb, le-ltb}
use Rattle.std.proofs.lemmas.List.{take_more, take-append-drop}
use Rattle.std.proofs.lemmas.List.Concat.{flat_map-cons}
use Rattle.jl_logic.specs.Answers.{Fails}
use Rattle.jl_reading.proofs.Steps.{ok_is}
use Rattle.jl_pool.specs.declared.constant.Constant.{Constant}
use Rattle.jl_pool.specs.declared.constant.Constant.TheVariants as constants
use Rattle.jl_pool.specs.declared.constant.BuildEnd.{BuildEnd}
use Rattle.jl_pool.specs.declared.constant.BuildEnd.TheVariants as ends
use Rattle.jl_pool.specs.Builder.{is_same, text_in, has, with_constant, with_needed, fitting, build_told}
use Rattle.jl_pool.proofs.BuilderLaws.{same_is, same_self, has_push, has_new, with_there, length_with}
use Rattle.jl_modinfo.specs.Layout.{with_all, need_of}
use Rattle.jl_modinfo.specs.Writing.{Need, is_same_need, each_once}

-- ---- room

fits_or : (cs : List Constant) → (length cs < 65535) ⊎ (65535 ≤ length cs)
fits_or cs = cases_lt (length cs) 65535

pub fitting_ok : (cs : List Constant) → length cs < 65535 → fitting cs ≡ Ok cs
fitting_ok cs lt = rw (le-ltb 65534 (length cs) (omega arith)) refl

pub fitting_err : (cs : List Constant) → 65535 ≤ length cs → fitting cs ≡ Err ends.TooMany
fitting_err cs le = rw (lt-ltb 65534 (length cs) (omega arith)) refl

pub fitting_is : (cs ds : List Constant) → fitting cs ≡ Ok ds → (cs ≡ ds) × (length cs < 65535)
fitting_is cs ds e = elim (fits_or cs) [
  | inl lt ↦ (ok_is cs ds (sym (fitting_ok cs lt) ∙ e), lt)
  | inr le ↦ absurd (cc (fitting_err cs le, e))
]

pub fitting_not : (cs : List Constant) → fitting cs ≡ Err ends.TooMany → 65535 ≤ length cs
fitting_not cs e = elim (fits_or cs) [
  | inl lt ↦ absurd (cc (fitting_ok cs lt, e))
  | inr le ↦ le
]

-- ---- entering grows

grows_one : (cs : List Constant) (c : Constant) → length cs ≤ length (with_constant cs c)
grows_one cs c = let l = length_with cs c in omega (arith, l)

grows : (cs : List Constant) (c : Constant) → length cs ≤ length (with_needed cs c)
grows cs c =
    let one = grows_one cs (constants.Text (text_in c)) in
    let other = grows_one (with_constant cs (constants.Text (text_in c))) c in
    omega (arith, one, other)

pub grows_all : (xs cs : List Constant) → length cs ≤ length (with_all cs xs)
grows_all [] cs = omega arith
grows_all (x ∷ xs) cs = let one = grows cs x in let other = grows_all xs (with_needed cs x) in omega (arith, one, other)

-- ---- entering one after the other

with_all-append : (xs ys cs : List Constant) → with_all cs (xs ++ ys) ≡ with_all (with_all cs xs) ys
with_all-append [] ys cs = refl
with_all-append (x ∷ xs) ys cs = with_all-append xs ys (with_needed cs x)

taken_more : (xs : List Constant) (i : ℕ) (x : Constant) → i < length xs → x ≡ get_or xs i x → take (i + 1) xs ≡ take i xs ++ x ∷ []
taken_more xs i x lt is = take_more xs i x lt ∙ ap (λ (w : Constant). take i xs ++ w ∷ []) (sym is)

after_one : (xs : List Constant) (i : ℕ) (x : Constant) (b : List Constant) → i < length xs → x ≡ get_or xs i x → fitting (with_all [] (take i xs)) ≡ Ok b → with_all [] (take (i + 1) xs) ≡ with_needed b x
after_one xs i x b lt is so_far =
    ap (with_all []) (taken_more xs i x lt is) ∙ (with_all-append (take i xs) (x ∷ []) [] ∙ ap (λ (l : List Constant). with_needed l x) (fitting_is (with_all [] (take i xs)) b so_far).0)

pub entered_more : (xs : List Constant) (i : ℕ) (x : Constant) (b new : List Constant) → i < length xs → x ≡ get_or xs i x → fitting (with_all [] (take i xs)) ≡ Ok b
    → fitting (with_needed b x) ≡ Ok (with_needed b x) → new ≡ with_needed b x → fitting (with_all [] (take (i + 1) xs)) ≡ Ok new
entered_more xs i x b new lt is so_far fits e =
    ap fitting (after_one xs i x b lt is so_far) ∙ (fits ∙ ap (λ (l : List Constant). Ok l) (sym e))

pub entered_less : (xs : List Constant) (i : ℕ) (x : Constant) (b : List Constant) → i < length xs → x ≡ get_or xs i x → fitting (with_all [] (take i xs)) ≡ Ok b
    → fitting (with_needed b x) ≡ Err ends.TooMany → fitting (with_all [] xs) ≡ Err ends.TooMany
entered_less xs i x b lt is so_far fails =
    let now : 65535 ≤ length (with_all [] (take (i + 1) xs)) = subst (λ (l : List Constant). 65535 ≤ length l) (sym (after_one xs i x b lt is so_far)) (fitting_not (with_needed b x) fails) in
    let whole : with_all [] xs ≡ with_all (with_all [] (take (i + 1) xs)) (drop (i + 1) xs) = ap (with_all []) (sym (take-append-drop (i + 1) xs)) ∙ with_all-append (take (i + 1) xs) (drop (i + 1) xs) [] in
    let more = grows_all (drop (i + 1) xs) (with_all [] (take (i + 1) xs)) in
    fitting_err (with_all [] xs) (let w = ap length whole in omega (arith, now, more, w))

pub entered_told : (e : BuildEnd) (xs : List Constant) (i : ℕ) (x y : Constant) (b : List Constant) → i < length xs → y ≡ get_or xs i y → x ≡ y → fitting (with_all [] (take i xs)) ≡ Ok b
    → Fails build_told e (fitting (with_needed b x)) → Fails build_told e (fitting (with_all [] xs))
entered_told ends.NoMemory xs i x y b lt is copied so_far fails = tt
entered_told ends.TooMany xs i x y b lt is copied so_far fails = entered_less xs i y b lt is so_far (subst (λ (z : Constant). fitting (with_needed b z) ≡ Err ends.TooMany) copied fails)

-- ---- each of them once

abbrev pub parts : Constant → List Constant
parts (constants.Text t) = constants.Text t ∷ []
parts (constants.Class t) = constants.Text t ∷ constants.Class t ∷ []
parts (constants.Module t) = constants.Text t ∷ constants.Module t ∷ []
parts (constants.Package t) = constants.Text t ∷ constants.Package t ∷ []

abbrev with_each : List Constant → List Constant → List Constant
with_each cs [] = cs
with_each cs (x ∷ xs) = with_each (with_constant cs x) xs

with_each-append : (xs ys cs : List Constant) → with_each cs (xs ++ ys) ≡ with_each (with_each cs xs) ys
with_each-append [] ys cs = refl
with_each-append (x ∷ xs) ys cs = with_each-append xs ys (with_constant cs x)

by_parts : (cs : List Constant) (x : Constant) → with_needed cs x ≡ with_each cs (parts x)
by_parts cs (constants.Text t) = with_there (with_constant cs (constants.Text t)) (constants.Text t) (has_new cs (constants.Text t))
by_parts cs (constants.Class t) = refl
by_parts cs (constants.Module t) = refl
by_parts cs (constants.Package t) = refl

all_by_parts : (xs cs : List Constant) → with_all cs xs ≡ with_each cs (flat_map parts xs)
all_by_parts [] cs = refl
all_by_parts (x ∷ xs) cs =
    all_by_parts xs (with_needed cs x) ∙ (ap (λ (l : List Constant). with_each l (flat_map parts xs)) (by_parts cs x)
    ∙ (sym (with_each-append (parts x) (flat_map parts xs) cs) ∙ ap (with_each cs) (sym (flat_map-cons parts x xs))))

-- how many of a list are not among the old ones, each counted where it is last
abbrev fresh : List Constant → List Constant → ℕ
fresh old [] = 0
fresh old (n ∷ ns) = (if has ns n then 0 else if has old n then 0 else 1) + fresh old ns

not_back : (n m : Constant) → is_same n m ≡ false → is_same m n ≡ false
not_back n m e = elim (cases_Bool (is_same m n)) [
  | inl t ↦ absurd (true≢false (sym (same_self m) ∙ (ap (λ (x : Constant). is_same x m) (same_is m n t) ∙ e)))
  | inr f ↦ f
]

-- one more, by the tests that it meets
plus : (b c d : Bool) (f g : ℕ) → c ≡ false → d ≡ true → f ≡ g + (if b then 1 else 0)
    → (if b then 0 else if c then 0 else 1) + f ≡ ((if b then 0 else if d then 0 else 1) + g) + 1
plus true c d f g none same e = omega (arith, e)
plus false c d f g none same e = rw (none, same) (omega (arith, e))

keeps : (b c d h : Bool) (f g : ℕ) → c ≡ d → f ≡ g + (if h then 1 else 0)
    → (if b then 0 else if c then 0 else 1) + f ≡ ((if b then 0 else if d then 0 else 1) + g) + (if h then 1 else 0)
keeps b c d h f g same e = rw same (let x : ℕ = if b then 0 else if d then 0 else 1 in omega (arith, e))

-- one more behind the first, where the first is n, and where it is another
marked_same : (old : List Constant) (n m : Constant) (ms : List Constant) → has old n ≡ false → is_same n m ≡ true → fresh old ms ≡ fresh (old ++ n ∷ []) ms + (if has ms n then 1 else 0)
    → fresh old (m ∷ ms) ≡ fresh (old ++ n ∷ []) (m ∷ ms) + (if has (m ∷ ms) n then 1 else 0)
marked_same old n m ms none t e =
    let is : n ≡ m = same_is n m t in
    let old_m : has old m ≡ false = subst (λ (x : Constant). has old x ≡ false) is none in
    let new_m : has (old ++ n ∷ []) m ≡ true = has_push old n m ∙ (ap (λ (b : Bool). has old m || b) (ap (is_same m) is ∙ same_self m) ∙ ap (λ (b : Bool). b || true) old_m) in
    let e_m : fresh old ms ≡ fresh (old ++ n ∷ []) ms + (if has ms m then 1 else 0) = e ∙ ap (λ (x : Constant). fresh (old ++ n ∷ []) ms + (if has ms x then 1 else 0)) is in
    plus (has ms m) (has old m) (has (old ++ n ∷ []) m) (fresh old ms) (fresh (old ++ n ∷ []) ms) old_m new_m e_m
    ∙ ap (λ (b : Bool). fresh (old ++ n ∷ []) (m ∷ ms) + (if b || has ms n then 1 else 0)) (sym t)

marked_other : (old : List Constant) (n m : Constant) (ms : List Constant) → is_same n m ≡ false → fresh old ms ≡ fresh (old ++ n ∷ []) ms + (if has ms n then 1 else 0)
    → fresh old (m ∷ ms) ≡ fresh (old ++ n ∷ []) (m ∷ ms) + (if has (m ∷ ms) n then 1 else 0)
marked_other old n m ms f e =
    let same : has old m ≡ has (old ++ n ∷ []) m = sym (has_push old n m ∙ (ap (λ (b : Bool). has old m || b) (not_back n m f) ∙ or-false (has old m))) in
    keeps (has ms m) (has old m) (has (old ++ n ∷ []) m) (has ms n) (fresh old ms) (fresh (old ++ n ∷ []) ms) same e
    ∙ ap (λ (b : Bool). fresh (old ++ n ∷ []) (m ∷ ms) + (if b || has ms n then 1 else 0)) (sym f)

marked : (old : List Constant) (n : Constant) → has old n ≡ false → (ns : List Constant) → fresh old ns ≡ fresh (old ++ n ∷ []) ns + (if has ns n then 1 else 0)
marked old n none [] = refl
marked old n none (m ∷ ms) = elim (cases_Bool (is_same n m)) [
  | inl t ↦ marked_same old n m ms none t (marked old n none ms)
  | inr f ↦ marked_other old n m ms f (marked old n none ms)
]

if_seen : (b : Bool) → ◌≡◌ {A = ℕ} (if b then 0 else 0) 0
if_seen true = refl
if_seen false = refl

if_last : (b : Bool) (f g : ℕ) → f ≡ g + (if b then 1 else 0) → (if b then 0 else 1) + f ≡ 1 + g
if_last true f g e = omega (arith, e)
if_last false f g e = omega (arith, e)

fresh_first : (old : List Constant) (n : Constant) (ns : List Constant) → fresh old (n ∷ ns) ≡ (if has old n then 0 else 1) + fresh (with_constant old n) ns
fresh_first old n ns = elim (cases_Bool (has old n)) [
  | inl t ↦ rw t (ap (λ (k : ℕ). k + fresh old ns) (if_seen (has ns n)))
  | inr f ↦ rw f (if_last (has ns n) (fresh old ns) (fresh (old ++ n ∷ []) ns) (marked old n f ns))
]

length_each : (ns old : List Constant) → length (with_each old ns) ≡ length old + fresh old ns
length_each [] old = omega arith
length_each (n ∷ ns) old =
    let rest = length_each ns (with_constant old n) in
    let one = length_with old n in
    let first = fresh_first old n ns in
    omega (arith, rest, one, first)

same_need : (a b : Constant) → is_same_need (need_of a) (need_of b) ≡ is_same a b
same_need (constants.Text a) (constants.Text b) = refl
same_need (constants.Text a) (constants.Class b) = refl
same_need (constants.Text a) (constants.Module b) = refl
same_need (constants.Text a) (constants.Package b) = refl
same_need (constants.Class a) (constants.Text b) = refl
same_need (constants.Class a) (constants.Class b) = refl
same_need (constants.Class a) (constants.Module b) = refl
same_need (constants.Class a) (constants.Package b) = refl
same_need (constants.Module a) (constants.Text b) = refl
same_need (constants.Module a) (constants.Class b) = refl
same_need (constants.Module a) (constants.Module b) = refl
same_need (constants.Module a) (constants.Package b) = refl
same_need (constants.Package a) (constants.Text b) = refl
same_need (constants.Package a) (constants.Class b) = refl
same_need (constants.Package a) (constants.Module b) = refl
same_need (constants.Package a) (constants.Package b) = refl

any_need : (n : Constant) (ns : List Constant) → list_any (is_same_need (need_of n)) (map need_of ns) ≡ has ns n
any_need n [] = refl
any_need n (m ∷ ms) = ap₂ (λ (a b : Bool). a || b) (same_need n m) (any_need n ms)

once_more : (b : Bool) (n : Need) (l : List Need) (f : ℕ) → length l ≡ f → length (if b then l else n ∷ l) ≡ (if b then 0 else 1) + f
once_more true n l f e = omega (arith, e)
once_more false n l f e = omega (arith, e)

once_fresh : (ns : List Constant) → length (each_once (map need_of ns)) ≡ fresh [] ns
unfolding each_once
once_fresh [] = refl
once_fresh (n ∷ ns) =
    ap (λ (b : Bool). length (if b then each_once (map need_of ns) else need_of n ∷ each_once (map need_of ns))) (any_need n ns)
    ∙ once_more (has ns n) (need_of n) (each_once (map need_of ns)) (fresh [] ns) (once_fresh ns)

pub length_all : (xs : List Constant) → length (with_all [] xs) ≡ length (each_once (map need_of (flat_map parts xs)))
length_all xs = ap length (all_by_parts xs []) ∙ (length_each (flat_map parts xs) [] ∙ (let z : length {A = Constant} [] + fresh [] (flat_map parts xs) ≡ fresh [] (flat_map parts xs) = omega arith in z ∙ sym (once_fresh (flat_map parts xs))))
