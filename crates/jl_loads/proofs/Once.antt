-- Superinterfaces, each once.
use Rattle.std.proofs.Common.{◌≡◌, ◌+◌, ◌++◌, ◌||◌, ◌&&◌, ◌==◌, ℕ, zero, suc, Bool, true, false, cond, not, List, [], ◌∷◌, Option, None, Some, refl, sym, ◌∙◌, ap, ap₂, filter, length, take, drop, slice_get, eq-eqb, eqb-true, append_assoc, add-one}
use Rattle.std.specs.Option.{option_map_or}
use Rattle.std.proofs.lemmas.Grind.{flat_map-append}
use Rattle.std.proofs.lemmas.List.{append-nil}
use Rattle.std.proofs.lemmas.List.Elements.{filter-append, filter_agree}
use Rattle.jl_prim.specs.declared.numbers.ClassId.{ClassId}
use Rattle.jl_loads.specs.Ranks.{with_one, with_more, with_above}
use Rattle.jl_loads.specs.Worlds.{State, is_among, is_same, each_once, superinterfaces}

-- ---- each class once

same_number : (d c e : ClassId) → is_same c e ≡ true → is_same d e ≡ is_same d c
same_number d c e h = ap (λ (n : ℕ). d.0 == n) (sym (eqb-true c.0 e.0 h))

-- a class is there, or among those of others
without : (d c : ClassId) (es : List ClassId) → (is_same d c || is_among d (filter (λ e. not (is_same c e)) es)) ≡ (is_same d c || is_among d es)
without d c [] = refl
without d c (e ∷ es) = by (is_same c e) refl (without d c es)
  where
    or_again : (p q : Bool) (r : Bool) → (p || q) ≡ (p || r) → (p || q) ≡ (p || (p || r))
    or_again true q r h = refl
    or_again false q r h = h

    or_later : (p q r t : Bool) → (p || r) ≡ (p || t) → (p || (q || r)) ≡ (p || (q || t))
    or_later true q r t h = refl
    or_later false q r t h = ap (λ x. q || x) h

    by : (b : Bool) → is_same c e ≡ b → (is_same d c || is_among d (filter (λ e. not (is_same c e)) es)) ≡ (is_same d c || is_among d es)
        → (is_same d c || is_among d (cond (not b) (e ∷ filter (λ e. not (is_same c e)) es) (filter (λ e. not (is_same c e)) es))) ≡ (is_same d c || (is_same d e || is_among d es))
    by true h later = or_again (is_same d c) _ _ later ∙ ap (λ x. is_same d c || (x || is_among d es)) (sym (same_number d c e h))
    by false h later = or_later (is_same d c) (is_same d e) _ _ later

once_at : (d : ClassId) (cs : List ClassId) → is_among d (each_once cs) ≡ is_among d cs
unfolding each_once
once_at d [] = refl
once_at d (c ∷ cs) = without d c (each_once cs) ∙ ap (λ b. is_same d c || b) (once_at d cs)

-- ---- what passes two tests

same_turn : (c d : ClassId) → is_same c d ≡ is_same d c
same_turn c d = by (is_same c d) (is_same d c) refl refl
  where
    by : (a b : Bool) → is_same c d ≡ a → is_same d c ≡ b → a ≡ b
    by true true e f = refl
    by false false e f = refl
    by true false e f = let g : is_same d c ≡ true = eq-eqb d.0 c.0 (sym (eqb-true c.0 d.0 e)) in absurd cc
    by false true e f = let g : is_same c d ≡ true = eq-eqb c.0 d.0 (sym (eqb-true d.0 c.0 f)) in absurd cc

filter_both : (p q : ClassId → Bool) (xs : List ClassId) → filter p (filter q xs) ≡ filter (λ x. q x && p x) xs
filter_both p q [] = refl
filter_both p q (x ∷ xs) = by (q x) (filter_both p q xs)
  where
    by : (b : Bool) → filter p (filter q xs) ≡ filter (λ x. q x && p x) xs → filter p (cond b (x ∷ filter q xs) (filter q xs)) ≡ cond (b && p x) (x ∷ filter (λ x. q x && p x) xs) (filter (λ x. q x && p x) xs)
    by true later = ap (λ (l : List ClassId). cond (p x) (x ∷ l) l) later
    by false later = later

filter_true : (xs : List ClassId) → filter (λ x. true) xs ≡ xs
filter_true [] = refl
filter_true (x ∷ xs) = ap (λ (l : List ClassId). x ∷ l) (filter_true xs)

neither : (m s : Bool) → (not m && not s) ≡ not (s || m)
neither true true = refl
neither true false = refl
neither false true = refl
neither false false = refl

and_turn : (a b : Bool) → (a && b) ≡ (b && a)
and_turn true true = refl
and_turn true false = refl
and_turn false true = refl
and_turn false false = refl

-- ---- one list behind another

once_append : (us bs : List ClassId) → each_once (us ++ bs) ≡ each_once us ++ filter (λ d. not (is_among d us)) (each_once bs)
unfolding each_once
once_append [] bs = sym (filter_true (each_once bs))
once_append (a ∷ us) bs =
    ap (λ (l : List ClassId). a ∷ filter (λ d. not (is_same a d)) l) (once_append us bs)
    ∙ ap (λ (l : List ClassId). a ∷ l)
    (filter-append (λ d. not (is_same a d)) (each_once us) (filter (λ d. not (is_among d us)) (each_once bs))
    ∙ ap (λ (l : List ClassId). filter (λ d. not (is_same a d)) (each_once us) ++ l)
    (filter_both (λ d. not (is_same a d)) (λ d. not (is_among d us)) (each_once bs)
    ∙ filter_agree (λ d. not (is_among d us) && not (is_same a d)) (λ d. not (is_same d a || is_among d us))
    (λ d. ap (λ (b : Bool). not (is_among d us) && not b) (same_turn a d) ∙ neither (is_among d us) (is_same d a)) (each_once bs)))

among_alike : (us bs : List ClassId) (d : ClassId) → each_once us ≡ each_once bs → is_among d us ≡ is_among d bs
among_alike us bs d e = sym (once_at d us) ∙ ap (is_among d) e ∙ once_at d bs

-- lists of the same classes, one behind the other
pub once_alike : (us bs cs ds : List ClassId) → each_once us ≡ each_once bs → each_once cs ≡ each_once ds → each_once (us ++ cs) ≡ each_once (bs ++ ds)
once_alike us bs cs ds e f =
    once_append us cs
    ∙ ap₂ (λ (xs ys : List ClassId). xs ++ filter (λ d. not (is_among d us)) ys) e f
    ∙ ap (λ (l : List ClassId). each_once bs ++ l) (filter_agree (λ d. not (is_among d us)) (λ d. not (is_among d bs)) (λ d. ap not (among_alike us bs d e)) (each_once ds))
    ∙ sym (once_append bs ds)

once_filter : (p : ClassId → Bool) → ((x y : ClassId) → is_same x y ≡ true → p x ≡ p y) → (xs : List ClassId) → each_once (filter p xs) ≡ filter p (each_once xs)
unfolding each_once
once_filter p alike [] = refl
once_filter p alike (x ∷ xs) = by (p x) refl (once_filter p alike xs)
  where
    passes : p x ≡ false → (d : ClassId) → (not (is_same x d) && p d) ≡ p d
    passes e d = of_same (is_same x d) refl
      where
        of_same : (b : Bool) → is_same x d ≡ b → (not b && p d) ≡ p d
        of_same true f = sym (sym (alike x d f) ∙ e)
        of_same false f = refl

    by : (b : Bool) → p x ≡ b → each_once (filter p xs) ≡ filter p (each_once xs)
        → each_once (cond b (x ∷ filter p xs) (filter p xs)) ≡ cond b (x ∷ filter p (filter (λ d. not (is_same x d)) (each_once xs))) (filter p (filter (λ d. not (is_same x d)) (each_once xs)))
    by true e later =
        ap (λ (l : List ClassId). x ∷ l)
        (ap (filter (λ d. not (is_same x d))) later
        ∙ filter_both (λ d. not (is_same x d)) p (each_once xs)
        ∙ filter_agree (λ d. p d && not (is_same x d)) (λ d. not (is_same x d) && p d) (λ d. and_turn (p d) (not (is_same x d))) (each_once xs)
        ∙ sym (filter_both p (λ d. not (is_same x d)) (each_once xs)))
    by false e later =
        later ∙ sym (filter_both p (λ d. not (is_same x d)) (each_once xs) ∙ filter_agree (λ d. not (is_same x d) && p d) p (passes e) (each_once xs))

filter_again : (p : ClassId → Bool) (xs : List ClassId) → filter p (filter p xs) ≡ filter p xs
filter_again p xs = filter_both p p xs ∙ filter_agree (λ x. p x && p x) p (λ x. both (p x)) xs
  where
    both : (b : Bool) → (b && b) ≡ b
    both true = refl
    both false = refl

-- what is there once is there once
pub once_twice : (cs : List ClassId) → each_once (each_once cs) ≡ each_once cs
unfolding each_once
once_twice [] = refl
once_twice (c ∷ cs) =
    ap (λ (l : List ClassId). c ∷ filter (λ d. not (is_same c d)) l) (once_filter (λ d. not (is_same c d)) alike (each_once cs))
    ∙ ap (λ (l : List ClassId). c ∷ l) (filter_again (λ d. not (is_same c d)) (each_once (each_once cs)) ∙ ap (filter (λ d. not (is_same c d))) (once_twice cs))
  where
    alike : (x y : ClassId) → is_same x y ≡ true → not (is_same c x) ≡ not (is_same c y)
    alike x y e = ap not (sym (same_number c x y e))

-- ---- classes are added

once_one : (us : List ClassId) (b : ClassId) → each_once (us ++ b ∷ []) ≡ with_one (each_once us) b
unfolding each_once
once_one us b = once_append us (b ∷ []) ∙ by (is_among b us) (is_among b (each_once us)) (sym (once_at b us))
  where
    by : (m n : Bool) → m ≡ n → each_once us ++ cond (not m) (b ∷ []) [] ≡ cond n (each_once us) (each_once us ++ b ∷ [])
    by true true e = append-nil (each_once us)
    by false false e = refl
    by true false e = absurd cc
    by false true e = absurd cc

pub once_more : (us bs : List ClassId) → with_more (each_once us) bs ≡ each_once (us ++ bs)
unfolding with_more
once_more us [] = sym (ap each_once (append-nil us))
once_more us (b ∷ bs) = ap (λ (l : List ClassId). with_more l bs) (sym (once_one us b)) ∙ once_more (us ++ b ∷ []) bs ∙ ap each_once (append_assoc us (b ∷ []) bs)

rest_at : (xs : List ClassId) (k : ℕ) (x : ClassId) → slice_get xs k ≡ Some x → drop k xs ≡ x ∷ drop (suc k) xs
rest_at [] k x e = cc
rest_at (y ∷ ys) zero x e = let same : y ≡ x = cc in ap (λ z. z ∷ ys) same
rest_at (y ∷ ys) (suc k) x e = rest_at ys k x e

-- one of a list that is added
pub more_step : (ds list now then : List ClassId) (k : ℕ) (d : ClassId) → slice_get ds k ≡ Some d → then ≡ with_one now d → with_more now (drop k ds) ≡ with_more list ds → with_more then (drop (k + 1) ds) ≡ with_more list ds
unfolding with_more
more_step ds list now then k d here is h =
    ap₂ (λ (l : List ClassId) (n : ℕ). with_more l (drop n ds)) is (add-one k) ∙ sym (ap (with_more now) (rest_at ds k d here)) ∙ h

drop_length : (xs : List ClassId) → drop (length xs) xs ≡ []
drop_length [] = refl
drop_length (x ∷ xs) = drop_length xs

pub more_all : (ds list now : List ClassId) (k : ℕ) → k ≡ length ds → with_more now (drop k ds) ≡ with_more list ds → now ≡ with_more list ds
unfolding with_more
more_all ds list now k e h = ap (with_more now) (sym (ap (λ (n : ℕ). drop n ds) e ∙ drop_length ds)) ∙ h

-- ---- interfaces in turn

take_more : (xs : List ClassId) (k : ℕ) (x : ClassId) → slice_get xs k ≡ Some x → take (suc k) xs ≡ take k xs ++ x ∷ []
take_more [] k x e = cc
take_more (y ∷ ys) zero x e = let same : y ≡ x = cc in ap (λ z. z ∷ []) same
take_more (y ∷ ys) (suc k) x e = ap (λ (l : List ClassId). y ∷ l) (take_more ys k x e)

with_above_more : (s : State) (is : List ClassId) (k : ℕ) (i : ClassId) → slice_get is k ≡ Some i → (with_above s (take k is) ++ superinterfaces s i) ++ i ∷ [] ≡ with_above s (take (k + 1) is)
with_above_more s is k i e =
    let f : ClassId → List ClassId = λ j. superinterfaces s j ++ j ∷ [] in
    append_assoc (with_above s (take k is)) (superinterfaces s i) (i ∷ [])
    ∙ ap (λ (l : List ClassId). with_above s (take k is) ++ l) (sym (append-nil (f i)))
    ∙ sym (flat_map-append f (take k is) (i ∷ []))
    ∙ ap (with_above s) (sym (take_more is k i e))
    ∙ ap (λ (n : ℕ). with_above s (take n is)) (sym (add-one k))

pub above_step : (s : State) (is done more next : List ClassId) (k : ℕ) (i : ClassId) → slice_get is k ≡ Some i → done ≡ each_once (with_above s (take k is))
    → more ≡ with_more done (superinterfaces s i) → next ≡ with_one more i → next ≡ each_once (with_above s (take (k + 1) is))
above_step s is done more next k i here is_done is_more is_next =
    is_next
    ∙ ap (λ (l : List ClassId). with_one l i) (is_more ∙ ap (λ (l : List ClassId). with_more l (superinterfaces s i)) is_done ∙ once_more (with_above s (take k is)) (superinterfaces s i))
    ∙ sym (once_one (with_above s (take k is) ++ superinterfaces s i) i)
    ∙ ap each_once (with_above_more s is k i here)

pub above_super : (s : State) (is direct all : List ClassId) (o : Option ClassId) (d : ClassId) → direct ≡ each_once (with_above s is) → o ≡ Some d → all ≡ with_more direct (superinterfaces s d)
    → all ≡ each_once (with_above s is ++ option_map_or (superinterfaces s) o [])
above_super s is direct all o d is_direct e is_all =
    is_all ∙ ap (λ (l : List ClassId). with_more l (superinterfaces s d)) is_direct ∙ once_more (with_above s is) (superinterfaces s d)
    ∙ ap (λ (x : Option ClassId). each_once (with_above s is ++ option_map_or (superinterfaces s) x [])) (sym e)

pub above_top : (s : State) (is direct : List ClassId) (o : Option ClassId) → direct ≡ each_once (with_above s is) → o ≡ None → direct ≡ each_once (with_above s is ++ option_map_or (superinterfaces s) o [])
above_top s is direct o is_direct e =
    is_direct ∙ ap each_once (sym (append-nil (with_above s is))) ∙ ap (λ (x : Option ClassId). each_once (with_above s is ++ option_map_or (superinterfaces s) x [])) (sym e)
