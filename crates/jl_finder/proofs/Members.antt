-- Members of lists that are filtered, mapped and put in order.
use Rattle.std.proofs.Common.{◌≡◌, ◌⊎◌, ℕ, List, [], ◌∷◌, map, filter, Option, None, Some, Bool, true, false, cond, ◌||◌, nat_eq, Contains, inl, inr, ⊎_elim, refl, sym, ◌∙◌, ap, subst, true≢false, Ordering, Less, Equal, Greater}
use Rattle.std.specs.List.{filter_map, flat_map, list_any, cons_option}
use Rattle.std.specs.Ordering.{is_eq, ordering_reverse}
use Rattle.std.specs.Cmp.Lexicographic.{pointwise, nat_list_cmp_total, texts_ties}
use Rattle.std.proofs.lemmas.List.Elements.{Contains-append_left, Contains-append_right, Contains-append_cases}
use Rattle.std.proofs.lemmas.Slice.Eq.{bytes_eq-Decides}
use Rattle.jl_logic.specs.Order.{name_cmp, RisesBy}
use Rattle.jl_logic.proofs.Rising.{contains_head, contains_tail, contains_nothing, contains_cases, each_from_members, each_of_member}
use Rattle.jl_tree.specs.declared.entry.Entry.{Entry}
use Rattle.jl_finder.specs.Paths.{by_order, put_name, in_order}
use Rattle.jl_finder.specs.Folders.{put_entry, entries_in_order}

pub name_is : (a b : List ℕ) → pointwise nat_eq a b ≡ true → a ≡ b
name_is a b h = (bytes_eq-Decides a b).0 h

pub is_name : (a b : List ℕ) → a ≡ b → pointwise nat_eq a b ≡ true
is_name a b e = (bytes_eq-Decides a b).1 e

module _ {X Y : Type 0} where
  pub mapped_from : (h : X → Option Y) (xs : List X) (y : Y) → Contains (filter_map h xs) y → (x : X) × Contains xs x × (h x ≡ Some y)
  mapped_from h [] y c = contains_nothing y c
  mapped_from h (x ∷ xs) y c = by (h x) refl (mapped_from h xs y) c
    where
      by : (o : Option Y) → h x ≡ o → (Contains (filter_map h xs) y → (z : X) × Contains xs z × (h z ≡ Some y)) → Contains (cons_option o (filter_map h xs)) y → (z : X) × Contains (x ∷ xs) z × (h z ≡ Some y)
      by None e later k = let r = later k in (r.0, contains_tail x r.0 xs r.1, r.2)
      by (Some w) e later k = ⊎_elim (λ q. (x, contains_head x xs, e ∙ ap (λ t. Some t) q)) (λ m. let r = later m in (r.0, contains_tail x r.0 xs r.1, r.2)) (contains_cases w y (filter_map h xs) k)

  pub mapped_in : (h : X → Option Y) (xs : List X) (x : X) (y : Y) → Contains xs x → h x ≡ Some y → Contains (filter_map h xs) y
  mapped_in h [] x y c e = contains_nothing x c
  mapped_in h (w ∷ xs) x y c e = ⊎_elim
      (λ q. subst (λ o. Contains (cons_option o (filter_map h xs)) y) (sym (ap h q ∙ e)) (contains_head y (filter_map h xs)))
      (λ m. by (h w) (mapped_in h xs x y m e))
      (contains_cases w x xs c)
    where
      by : (o : Option Y) → Contains (filter_map h xs) y → Contains (cons_option o (filter_map h xs)) y
      by None k = k
      by (Some z) k = contains_tail z y (filter_map h xs) k

  pub map_from : (f : X → Y) (xs : List X) (y : Y) → Contains (map f xs) y → (x : X) × Contains xs x × (f x ≡ y)
  map_from f [] y c = contains_nothing y c
  map_from f (x ∷ xs) y c = ⊎_elim (λ q. (x, contains_head x xs, q)) (λ m. let r = map_from f xs y m in (r.0, contains_tail x r.0 xs r.1, r.2)) (contains_cases (f x) y (map f xs) c)

  pub map_in : (f : X → Y) (xs : List X) (x : X) → Contains xs x → Contains (map f xs) (f x)
  map_in f [] x c = contains_nothing x c
  map_in f (w ∷ xs) x c = ⊎_elim (λ q. subst (λ t. Contains (f w ∷ map f xs) (f t)) q (contains_head (f w) (map f xs))) (λ m. contains_tail (f w) (f x) (map f xs) (map_in f xs x m)) (contains_cases w x xs c)

  pub flat_from : (f : X → List Y) (xs : List X) (y : Y) → Contains (flat_map f xs) y → (x : X) × Contains xs x × Contains (f x) y
  flat_from f [] y c = contains_nothing y c
  flat_from f (x ∷ xs) y c = ⊎_elim (λ m. (x, contains_head x xs, m)) (λ m. let r = flat_from f xs y m in (r.0, contains_tail x r.0 xs r.1, r.2)) (Contains-append_cases (f x) (flat_map f xs) y c)

  pub flat_in : (f : X → List Y) (xs : List X) (x : X) (y : Y) → Contains xs x → Contains (f x) y → Contains (flat_map f xs) y
  flat_in f [] x y c m = contains_nothing x c
  flat_in f (w ∷ xs) x y c m = ⊎_elim
      (λ q. Contains-append_left (f w) (flat_map f xs) y (subst (λ t. Contains (f t) y) (sym q) m))
      (λ k. Contains-append_right (f w) (flat_map f xs) y (flat_in f xs x y k m))
      (contains_cases w x xs c)

module _ {X : Type 0} where
  pub filter_from : (p : X → Bool) (xs : List X) (x : X) → Contains (filter p xs) x → Contains xs x × (p x ≡ true)
  filter_from p [] x c = contains_nothing x c
  filter_from p (y ∷ ys) x c = by (p y) refl (filter_from p ys x) c
    where
      by : (b : Bool) → p y ≡ b → (Contains (filter p ys) x → Contains ys x × (p x ≡ true)) → Contains (cond b (y ∷ filter p ys) (filter p ys)) x → Contains (y ∷ ys) x × (p x ≡ true)
      by true e later k = ⊎_elim (λ q. (subst (Contains (y ∷ ys)) q (contains_head y ys), ap p (sym q) ∙ e)) (λ m. let r = later m in (contains_tail y x ys r.0, r.1)) (contains_cases y x (filter p ys) k)
      by false e later k = let r = later k in (contains_tail y x ys r.0, r.1)

  pub filter_in : (p : X → Bool) (xs : List X) (x : X) → Contains xs x → p x ≡ true → Contains (filter p xs) x
  filter_in p [] x c e = contains_nothing x c
  filter_in p (y ∷ ys) x c e = ⊎_elim
      (λ q. subst (λ b. Contains (cond b (y ∷ filter p ys) (filter p ys)) x) (sym (ap p q ∙ e)) (subst (Contains (y ∷ filter p ys)) q (contains_head y (filter p ys))))
      (λ m. by (p y) (filter_in p ys x m e))
      (contains_cases y x ys c)
    where
      by : (b : Bool) → Contains (filter p ys) x → Contains (cond b (y ∷ filter p ys) (filter p ys)) x
      by true k = contains_tail y x (filter p ys) k
      by false k = k

  pub any_from : (p : X → Bool) (xs : List X) → list_any p xs ≡ true → (x : X) × Contains xs x × (p x ≡ true)
  any_from p [] h = absurd (true≢false (sym h))
  any_from p (x ∷ xs) h = by (p x) refl (any_from p xs) h
    where
      by : (b : Bool) → p x ≡ b → (list_any p xs ≡ true → (y : X) × Contains xs y × (p y ≡ true)) → (b || list_any p xs) ≡ true → (y : X) × Contains (x ∷ xs) y × (p y ≡ true)
      by true e later k = (x, contains_head x xs, e)
      by false e later k = let r = later k in (r.0, contains_tail x r.0 xs r.1, r.2)

  pub any_in : (p : X → Bool) (xs : List X) (x : X) → Contains xs x → p x ≡ true → list_any p xs ≡ true
  any_in p [] x c e = contains_nothing x c
  any_in p (y ∷ ys) x c e = ⊎_elim (λ q. ap (λ b. b || list_any p ys) (ap p q ∙ e)) (λ m. by (p y) (any_in p ys x m e)) (contains_cases y x ys c)
    where
      by : (b : Bool) → list_any p ys ≡ true → (b || list_any p ys) ≡ true
      by true k = refl
      by false k = k

-- two tests that hold each where the other does
pub same_bool : (a b : Bool) → (a ≡ true → b ≡ true) → (b ≡ true → a ≡ true) → a ≡ b
same_bool true true h k = refl
same_bool true false h k = sym (h refl)
same_bool false true h k = k refl
same_bool false false h k = refl

-- ---- lists put in order

pub exact : (a b : List ℕ) → name_cmp a b ≡ Equal → a ≡ b
exact a b e = name_is a b (texts_ties a b ∙ ap is_eq e)

pub turned : (a b : List ℕ) → name_cmp a b ≡ Greater → name_cmp b a ≡ Less
turned a b e = nat_list_cmp_total.antisymm b a ∙ ap ordering_reverse e

module _ {X : Type 0} (key : X → List ℕ) (put : X → List X → List X)
    (put_nil : (x : X) → put x [] ≡ x ∷ [])
    (put_cons : (x y : X) (ys : List X) → put x (y ∷ ys) ≡ by_order (name_cmp (key x) (key y)) (x ∷ y ∷ ys) (y ∷ ys) (y ∷ put x ys)) where
  pub put_from : (x : X) (ys : List X) (z : X) → Contains (put x ys) z → (x ≡ z) ⊎ Contains ys z
  put_from x [] z c = contains_cases x z [] (subst (λ t. Contains t z) (put_nil x) c)
  put_from x (y ∷ ys) z c = by (name_cmp (key x) (key y)) (put_from x ys z) (subst (λ t. Contains t z) (put_cons x y ys) c)
    where
      by : (r : Ordering) → (Contains (put x ys) z → (x ≡ z) ⊎ Contains ys z) → Contains (by_order r (x ∷ y ∷ ys) (y ∷ ys) (y ∷ put x ys)) z → (x ≡ z) ⊎ Contains (y ∷ ys) z
      by Less later k = contains_cases x z (y ∷ ys) k
      by Equal later k = inr k
      by Greater later k = ⊎_elim (λ q. inr (subst (Contains (y ∷ ys)) q (contains_head y ys))) (λ m. ⊎_elim (λ q. inl q) (λ n. inr (contains_tail y z ys n)) (later m)) (contains_cases y z (put x ys) k)

  pub put_keeps : (x : X) (ys : List X) (z : X) → Contains ys z → Contains (put x ys) z
  put_keeps x [] z c = contains_nothing z c
  put_keeps x (y ∷ ys) z c = subst (λ t. Contains t z) (sym (put_cons x y ys)) (by (name_cmp (key x) (key y)) (put_keeps x ys z))
    where
      by : (r : Ordering) → (Contains ys z → Contains (put x ys) z) → Contains (by_order r (x ∷ y ∷ ys) (y ∷ ys) (y ∷ put x ys)) z
      by Less later = contains_tail x z (y ∷ ys) c
      by Equal later = c
      by Greater later = ⊎_elim (λ q. subst (Contains (y ∷ put x ys)) q (contains_head y (put x ys))) (λ m. contains_tail y z (put x ys) (later m)) (contains_cases y z ys c)

  pub put_has : (x : X) (ys : List X) → (z : X) × Contains (put x ys) z × (key z ≡ key x)
  put_has x [] = (x, subst (λ t. Contains t x) (sym (put_nil x)) (contains_head x []), refl)
  put_has x (y ∷ ys) = by (name_cmp (key x) (key y)) refl (put_has x ys)
    where
      at : (r : Ordering) → name_cmp (key x) (key y) ≡ r → (z : X) → Contains (by_order r (x ∷ y ∷ ys) (y ∷ ys) (y ∷ put x ys)) z → Contains (put x (y ∷ ys)) z
      at r e z c = subst (λ t. Contains t z) (sym (put_cons x y ys ∙ ap (λ o. by_order o (x ∷ y ∷ ys) (y ∷ ys) (y ∷ put x ys)) e)) c

      by : (r : Ordering) → name_cmp (key x) (key y) ≡ r → ((z : X) × Contains (put x ys) z × (key z ≡ key x)) → (z : X) × Contains (put x (y ∷ ys)) z × (key z ≡ key x)
      by Less e later = (x, at Less e x (contains_head x (y ∷ ys)), refl)
      by Equal e later = (y, at Equal e y (contains_head y ys), sym (exact (key x) (key y) e))
      by Greater e later = (later.0, at Greater e later.0 (contains_tail y later.0 (put x ys) later.1), later.2)

  pub put_rises : (x : X) (ys : List X) → RisesBy (λ a b. name_cmp (key a) (key b)) ys → RisesBy (λ a b. name_cmp (key a) (key b)) (put x ys)
  put_rises x [] up = subst (λ t. RisesBy (λ a b. name_cmp (key a) (key b)) t) (sym (put_nil x)) (tt, tt)
  put_rises x (y ∷ ys) up = subst (λ t. RisesBy (λ a b. name_cmp (key a) (key b)) t) (sym (put_cons x y ys)) (by (name_cmp (key x) (key y)) refl (put_rises x ys up.1))
    where
      less : (w : X) → Contains ys w → name_cmp (key y) (key w) ≡ Less
      less w c = each_of_member (λ v. name_cmp (key y) (key v) ≡ Less) ys w up.0 c

      by : (r : Ordering) → name_cmp (key x) (key y) ≡ r → RisesBy (λ a b. name_cmp (key a) (key b)) (put x ys) → RisesBy (λ a b. name_cmp (key a) (key b)) (by_order r (x ∷ y ∷ ys) (y ∷ ys) (y ∷ put x ys))
      by Less e later = ((e, each_from_members (λ v. name_cmp (key x) (key v) ≡ Less) ys (λ w c. nat_list_cmp_total.trans (key x) (key y) (key w) e (less w c))), up)
      by Equal e later = up
      by Greater e later = (each_from_members (λ v. name_cmp (key y) (key v) ≡ Less) (put x ys) (λ w c. ⊎_elim (λ q. ap (λ t. name_cmp (key y) (key t)) (sym q) ∙ turned (key x) (key y) e) (less w) (put_from x ys w c)), later)

  module _ (order : List X → List X) (order_nil : order [] ≡ []) (order_cons : (x : X) (xs : List X) → order (x ∷ xs) ≡ put x (order xs)) where
    pub order_from : (xs : List X) (z : X) → Contains (order xs) z → Contains xs z
    order_from [] z c = contains_nothing z (subst (λ t. Contains t z) order_nil c)
    order_from (x ∷ xs) z c = ⊎_elim (λ q. subst (Contains (x ∷ xs)) q (contains_head x xs)) (λ m. contains_tail x z xs (order_from xs z m)) (put_from x (order xs) z (subst (λ t. Contains t z) (order_cons x xs) c))

    pub order_has : (xs : List X) (x : X) → Contains xs x → (z : X) × Contains (order xs) z × (key z ≡ key x)
    order_has [] x c = contains_nothing x c
    order_has (w ∷ xs) x c = ⊎_elim
        (λ q. let r = put_has w (order xs) in (r.0, subst (λ t. Contains t r.0) (sym (order_cons w xs)) r.1, r.2 ∙ ap key q))
        (λ m. let r = order_has xs x m in (r.0, subst (λ t. Contains t r.0) (sym (order_cons w xs)) (put_keeps w (order xs) r.0 r.1), r.2))
        (contains_cases w x xs c)

    pub order_rises : (xs : List X) → RisesBy (λ a b. name_cmp (key a) (key b)) (order xs)
    order_rises [] = subst (λ t. RisesBy (λ a b. name_cmp (key a) (key b)) t) (sym order_nil) tt
    order_rises (x ∷ xs) = subst (λ t. RisesBy (λ a b. name_cmp (key a) (key b)) t) (sym (order_cons x xs)) (put_rises x (order xs) (order_rises xs))

-- ---- names in order

pn : (x : List ℕ) → put_name x [] ≡ x ∷ []
unfolding put_name
pn x = refl

pc : (x y : List ℕ) (ys : List (List ℕ)) → put_name x (y ∷ ys) ≡ by_order (name_cmp x y) (x ∷ y ∷ ys) (y ∷ ys) (y ∷ put_name x ys)
unfolding put_name
pc x y ys = refl

on : in_order [] ≡ []
unfolding in_order
on = refl

oc : (x : List ℕ) (xs : List (List ℕ)) → in_order (x ∷ xs) ≡ put_name x (in_order xs)
unfolding in_order
oc x xs = refl

pub in_order_from : (xs : List (List ℕ)) (z : List ℕ) → Contains (in_order xs) z → Contains xs z
in_order_from xs z c = order_from (λ x. x) put_name pn pc in_order on oc xs z c

pub in_order_in : (xs : List (List ℕ)) (z : List ℕ) → Contains xs z → Contains (in_order xs) z
in_order_in xs z c = let r = order_has (λ x. x) put_name pn pc in_order on oc xs z c in subst (Contains (in_order xs)) r.2 r.1

pub in_order_rises : (xs : List (List ℕ)) → RisesBy name_cmp (in_order xs)
in_order_rises xs = order_rises (λ x. x) put_name pn pc in_order on oc xs

-- ---- entries in order

en : (x : Entry) → put_entry x [] ≡ x ∷ []
unfolding put_entry
en x = refl

ec : (x y : Entry) (ys : List Entry) → put_entry x (y ∷ ys) ≡ by_order (name_cmp x.name y.name) (x ∷ y ∷ ys) (y ∷ ys) (y ∷ put_entry x ys)
unfolding put_entry
ec x y ys = refl

fn : entries_in_order [] ≡ []
unfolding entries_in_order
fn = refl

fc : (x : Entry) (xs : List Entry) → entries_in_order (x ∷ xs) ≡ put_entry x (entries_in_order xs)
unfolding entries_in_order
fc x xs = refl

pub entries_from : (xs : List Entry) (z : Entry) → Contains (entries_in_order xs) z → Contains xs z
entries_from xs z c = order_from (λ (x : Entry). x.name) put_entry en ec entries_in_order fn fc xs z c

pub entries_have : (xs : List Entry) (x : Entry) → Contains xs x → (z : Entry) × Contains (entries_in_order xs) z × (z.name ≡ x.name)
entries_have xs x c = order_has (λ (x : Entry). x.name) put_entry en ec entries_in_order fn fc xs x c

pub entries_rise : (xs : List Entry) → RisesBy (λ (a b : Entry). name_cmp a.name b.name) (entries_in_order xs)
entries_rise xs = order_rises (λ (x : Entry). x.name) put_entry en ec entries_in_order fn fc xs
