-- The least of a list, one after the other, and what is missing.
use Rattle.std.proofs.Common.{◌≡◌, ◌≢◌, ◌<◌, ◌+◌, ℕ, List, [], ◌∷◌, ◌++◌, length, take, get_or, ⊎_elim, refl, sym, ◌∙◌, ap, ap₂, subst, Contains, Option, Some, None, Bool, true, false, cond, filter_map, flat_map, option_to_list, Ordering, Less, Equal, Greater, is_lt, append_assoc}
use Rattle.std.proofs.lemmas.List.{take_more, append-nil}
use Rattle.std.proofs.lemmas.Grind.{flat_map-append}
use Rattle.jl_config.specs.Located.{Scene}
use Rattle.jl_config.specs.MissingNames.{lesser, least_from, lack_cmp, root_missing, missing_at}
use Rattle.jl_logic.specs.Order.{IsLeast}
use Rattle.jl_logic.proofs.Rising.{contains_head, contains_tail, contains_cases, contains_nothing}
use Rattle.jl_config.proofs.Lists.{filter_map_step}
use Rattle.jl_config.proofs.FaultOrder.{lack_total}
use Rattle.jl_config.proofs.RisingLists.{not_below_itself, less_through}

pub least_append : (least : Option (List ℕ × Option (List ℕ))) (xs ys : List (List ℕ × Option (List ℕ))) → least_from least (xs ++ ys) ≡ least_from (least_from least xs) ys
least_append least [] ys = refl
least_append least (x ∷ xs) ys = least_append (lesser least (Some x)) xs ys

least_one : (least o : Option (List ℕ × Option (List ℕ))) → least_from least (option_to_list o) ≡ lesser least o
least_one least None = refl
least_one least (Some m) = refl

-- a loop's step over names that may be missing
pub least_step : {X : Type 0} (h : X → Option (List ℕ × Option (List ℕ))) (xs : List X) (i : ℕ) (x : X) (first old other new : Option (List ℕ × Option (List ℕ))) → i < length xs → x ≡ get_or xs i x → old ≡ least_from first (filter_map h (take i xs)) → other ≡ h x → new ≡ lesser old other → new ≡ least_from first (filter_map h (take (i + 1) xs))
least_step h xs i x first old other new lt is e f g =
    let more : filter_map h (take i xs) ++ option_to_list (h x) ≡ filter_map h (take (i + 1) xs) = filter_map_step h xs i x (filter_map h (take i xs)) (filter_map h (take i xs) ++ option_to_list (h x)) lt is refl refl in
    g ∙ ap₂ lesser e f ∙ sym (least_one (least_from first (filter_map h (take i xs))) (h x)) ∙ sym (least_append first (filter_map h (take i xs)) (option_to_list (h x))) ∙ ap (least_from first) more

-- a loop's step over the places of the set
pub least_more : (w : Scene) (ps : List ℕ) (i p : ℕ) (old new : Option (List ℕ × Option (List ℕ))) → i < length ps → p ≡ get_or ps i 0 → old ≡ least_from None (filter_map (root_missing w) w.roots ++ flat_map (missing_at w) (take i ps)) → new ≡ least_from old (missing_at w p)
    → new ≡ least_from None (filter_map (root_missing w) w.roots ++ flat_map (missing_at w) (take (i + 1) ps))
least_more w ps i p old new lt is e f =
    let more : take (i + 1) ps ≡ take i ps ++ p ∷ [] = take_more ps i 0 lt ∙ ap (λ (k : ℕ). take i ps ++ k ∷ []) (sym is) in
    let flat : flat_map (missing_at w) (take (i + 1) ps) ≡ flat_map (missing_at w) (take i ps) ++ missing_at w p =
    ap (flat_map (missing_at w)) more ∙ flat_map-append (missing_at w) (take i ps) (p ∷ []) ∙ ap (λ l. flat_map (missing_at w) (take i ps) ++ l) (append-nil (missing_at w p)) in
    let roots : List (List ℕ × Option (List ℕ)) = filter_map (root_missing w) w.roots in
    f ∙ ap (λ l. least_from l (missing_at w p)) e ∙ sym (least_append None (roots ++ flat_map (missing_at w) (take i ps)) (missing_at w p))
    ∙ ap (least_from None) (append_assoc roots (flat_map (missing_at w) (take i ps)) (missing_at w p) ∙ ap (λ l. roots ++ l) (sym flat))

-- ---- the least of a list

not_less : (o : Ordering) → is_lt o ≡ false → o ≢ Less
not_less Less e f = absurd cc
not_less Equal e f = absurd cc
not_less Greater e f = absurd cc

is_less : (o : Ordering) → is_lt o ≡ true → o ≡ Less
is_less Less e = refl
is_less Equal e = absurd cc
is_less Greater e = absurd cc

least_some : (a : List ℕ × Option (List ℕ)) (xs : List (List ℕ × Option (List ℕ))) (m : List ℕ × Option (List ℕ)) → least_from (Some a) xs ≡ Some m → IsLeast lack_cmp (Contains (a ∷ xs)) m
least_some a [] m e =
    let same : a ≡ m = cc in
    subst (IsLeast lack_cmp (Contains (a ∷ []))) same (record {
      has = contains_head a [];
      least = λ y c l. ⊎_elim (λ f. not_below_itself lack_cmp lack_total a (subst (λ v. lack_cmp v a ≡ Less) (sym f) l)) (λ k. contains_nothing y k) (contains_cases a y [] c);
    })
least_some a (x ∷ xs) m e = by (is_lt (lack_cmp x a)) refl (λ f. least_some x xs m f) (λ f. least_some a xs m f) e
  where
    by : (b : Bool) → is_lt (lack_cmp x a) ≡ b → (least_from (Some x) xs ≡ Some m → IsLeast lack_cmp (Contains (x ∷ xs)) m) → (least_from (Some a) xs ≡ Some m → IsLeast lack_cmp (Contains (a ∷ xs)) m) → least_from (cond b (Some x) (Some a)) xs ≡ Some m → IsLeast lack_cmp (Contains (a ∷ x ∷ xs)) m
    by true t h k f =
        let w = h f in
        let less : lack_cmp x a ≡ Less = is_less (lack_cmp x a) t in
        record {
          has = contains_tail a m (x ∷ xs) w.has;
          least = λ y c l. ⊎_elim
              (λ e. w.least x (contains_head x xs) (lack_total.trans x a m less (subst (λ v. lack_cmp v m ≡ Less) (sym e) l)))
              (λ k. w.least y k l)
              (contains_cases a y (x ∷ xs) c);
        }
    by false t h k f =
        let w = k f in
        record {
          has = ⊎_elim (λ e. subst (Contains (a ∷ x ∷ xs)) e (contains_head a (x ∷ xs))) (λ c. contains_tail a m (x ∷ xs) (contains_tail x m xs c)) (contains_cases a m xs w.has);
          least = λ y c l. ⊎_elim
              (λ e. w.least y (subst (Contains (a ∷ xs)) e (contains_head a xs)) l)
              (λ d. ⊎_elim
              (λ e. w.least a (contains_head a xs) (less_through lack_cmp lack_total a x m (not_less (lack_cmp x a) t) (subst (λ v. lack_cmp v m ≡ Less) (sym e) l)))
              (λ z. w.least y (contains_tail a y xs z) l)
              (contains_cases x y xs d))
              (contains_cases a y (x ∷ xs) c);
        }

never_none : {A : Type 0} (a : List ℕ × Option (List ℕ)) (xs : List (List ℕ × Option (List ℕ))) → least_from (Some a) xs ≡ None → A
never_none a [] e = absurd cc
never_none a (x ∷ xs) e = by (is_lt (lack_cmp x a)) (λ f. never_none x xs f) (λ f. never_none a xs f) e
  where
    by : {A : Type 0} (b : Bool) → (least_from (Some x) xs ≡ None → A) → (least_from (Some a) xs ≡ None → A) → least_from (cond b (Some x) (Some a)) xs ≡ None → A
    by true h k f = h f
    by false h k f = k f

pub least_of_list : (xs : List (List ℕ × Option (List ℕ))) (m : List ℕ × Option (List ℕ)) → least_from None xs ≡ Some m → IsLeast lack_cmp (Contains xs) m
least_of_list [] m e = absurd cc
least_of_list (x ∷ xs) m e = least_some x xs m e

pub least_of_none : {A : Type 0} (xs : List (List ℕ × Option (List ℕ))) (y : List ℕ × Option (List ℕ)) → least_from None xs ≡ None → Contains xs y → A
least_of_none [] y e c = contains_nothing y c
least_of_none (x ∷ xs) y e c = never_none x xs e
