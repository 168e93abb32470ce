-- The least of a list, and a list put in order.
use Rattle.std.proofs.Common.{◌≡◌, ◌⊎◌, ◌≤◌, List, [], ◌∷◌, length, inl, inr, ⊎_elim, refl, sym, ◌∙◌, ap, subst, Contains, Ordering, Less, Equal, Greater, arith, ◌≢◌}
use Rattle.std.specs.Ordering.{ordering_reverse}
use Rattle.std.specs.Cmp.{IsTotalOrder}
use Rattle.jl_logic.specs.Order.{RisesBy, IsLeast}
use Rattle.jl_logic.proofs.Rising.{contains_head, contains_tail, contains_cases, contains_nothing, each_from_members, each_of_member, apart_from_total}
use Rattle.jl_config.proofs.Listings.{Listing}

module _ {X : Type 0} (cmp : X → X → Ordering) (total : IsTotalOrder cmp) where
  pub not_below_itself : (x : X) → cmp x x ≡ Less → ⊥
  not_below_itself x l = apart_from_total cmp total x x l l

  -- what is less than one that is no more than another is less than that
  pub less_through : (a b m : X) → cmp b a ≢ Less → cmp b m ≡ Less → cmp a m ≡ Less
  less_through a b m n h = by (cmp b a) refl
    where
      by : (r : Ordering) → cmp b a ≡ r → cmp a m ≡ Less
      by Less e = absurd (n e)
      by Equal e = sym (total.congr b a m e) ∙ h
      by Greater e = total.trans a b m (total.antisymm a b ∙ ap ordering_reverse e) h

  -- ---- the least

  lesser_of : (x : X) (xs : List X) (m : X) → IsLeast cmp (Contains xs) m → (o : Ordering) → cmp x m ≡ o → (n : X) × IsLeast cmp (Contains (x ∷ xs)) n
  lesser_of x xs m h Less e = (
    x,
    record {
      has = contains_head x xs;
      least = λ y c l. ⊎_elim (λ f. not_below_itself x (subst (λ z. cmp z x ≡ Less) (sym f) l)) (λ k. h.least y k (total.trans y x m l e)) (contains_cases x y xs c);
    },
  )
  lesser_of x xs m h Equal e = (
    m,
    record {
      has = contains_tail x m xs h.has;
      least = λ y c l. ⊎_elim (λ f. let g : cmp x m ≡ Less = subst (λ z. cmp z m ≡ Less) (sym f) l in absurd cc) (λ k. h.least y k l) (contains_cases x y xs c);
    },
  )
  lesser_of x xs m h Greater e = (
    m,
    record {
      has = contains_tail x m xs h.has;
      least = λ y c l. ⊎_elim (λ f. let g : cmp x m ≡ Less = subst (λ z. cmp z m ≡ Less) (sym f) l in absurd cc) (λ k. h.least y k l) (contains_cases x y xs c);
    },
  )

  least_of_items : (x : X) (xs : List X) → (m : X) × IsLeast cmp (Contains (x ∷ xs)) m
  least_of_items x [] = (
    x,
    record {
      has = contains_head x [];
      least = λ y c l. ⊎_elim (λ f. not_below_itself x (subst (λ z. cmp z x ≡ Less) (sym f) l)) (λ k. contains_nothing y k) (contains_cases x y [] c);
    },
  )
  least_of_items x (w ∷ xs) = let m = least_of_items w xs in lesser_of x (w ∷ xs) m.0 m.1 (cmp x m.0) refl

  -- of what has a property that is listed there is a least, or nothing has it
  pub least_or_none : (P : X → Type 0) → Listing P → ((x : X) × IsLeast cmp P x) ⊎ ((x : X) → P x → ⊥)
  least_or_none P l = by l.items l.only l.all
    where
      by : (xs : List X) → ((x : X) → Contains xs x → P x) → ((x : X) → P x → Contains xs x) → ((x : X) × IsLeast cmp P x) ⊎ ((x : X) → P x → ⊥)
      by [] only all = inr (λ x p. contains_nothing x (all x p))
      by (x ∷ xs) only all =
          let m = least_of_items x xs in
          inl (m.0, record { has = only m.0 m.1.has; least = λ y p. m.1.least y (all y p) })

  -- ---- in order

  -- a list that rises, of an item and those of another
  record Inserted (x : X) (xs : List X) : Type 0 where
    items : List X
    rise : RisesBy cmp items
    only : (y : X) → Contains items y → (x ≡ y) ⊎ Contains xs y
    all : (y : X) → (x ≡ y) ⊎ Contains xs y → Contains items y

  insert_by : (x w : X) (xs : List X) → RisesBy cmp (w ∷ xs) → (cmp x w ≡ Equal → x ≡ w) → Inserted x xs → (o : Ordering) → cmp x w ≡ o → Inserted x (w ∷ xs)
  insert_by x w xs up exact rest Less e = record {
    items = x ∷ w ∷ xs;
    rise = (each_from_members (λ y. cmp x y ≡ Less) (w ∷ xs) (λ y c. ⊎_elim (λ f. subst (λ z. cmp x z ≡ Less) f e) (λ k. total.trans x w y e (each_of_member (λ z. cmp w z ≡ Less) xs y up.0 k)) (contains_cases w y xs c)), up);
    only = λ y c. contains_cases x y (w ∷ xs) c;
    all = λ y s. ⊎_elim (λ f. subst (Contains (x ∷ w ∷ xs)) f (contains_head x (w ∷ xs))) (λ k. contains_tail x y (w ∷ xs) k) s;
  }
  insert_by x w xs up exact rest Equal e = record {
    items = w ∷ xs;
    rise = up;
    only = λ y c. inr c;
    all = λ y s. ⊎_elim (λ f. subst (Contains (w ∷ xs)) (sym (exact e) ∙ f) (contains_head w xs)) (λ k. k) s;
  }
  insert_by x w xs up exact rest Greater e =
      let back : cmp w x ≡ Less = total.antisymm w x ∙ ap ordering_reverse e in
      record {
        items = w ∷ rest.items;
        rise = (each_from_members (λ y. cmp w y ≡ Less) rest.items (λ y c. ⊎_elim (λ f. subst (λ z. cmp w z ≡ Less) f back) (λ k. each_of_member (λ z. cmp w z ≡ Less) xs y up.0 k) (rest.only y c)), rest.rise);
        only = λ y c. ⊎_elim (λ f. inr (subst (Contains (w ∷ xs)) f (contains_head w xs))) (λ k. ⊎_elim (λ f. inl f) (λ m. inr (contains_tail w y xs m)) (rest.only y k)) (contains_cases w y rest.items c);
        all = λ y s. ⊎_elim
            (λ f. contains_tail w y rest.items (rest.all y (inl f)))
            (λ k. ⊎_elim (λ f. subst (Contains (w ∷ rest.items)) f (contains_head w rest.items)) (λ m. contains_tail w y rest.items (rest.all y (inr m))) (contains_cases w y xs k))
            s;
      }

  insert_in : (x : X) (xs : List X) → RisesBy cmp xs → ((y : X) → Contains xs y → cmp x y ≡ Equal → x ≡ y) → Inserted x xs
  insert_in x [] up exact = record {
    items = x ∷ [];
    rise = (tt, tt);
    only = λ y c. contains_cases x y [] c;
    all = λ y s. ⊎_elim (λ f. subst (Contains (x ∷ [])) f (contains_head x [])) (λ k. contains_nothing y k) s;
  }
  insert_in x (w ∷ xs) up exact = insert_by x w xs up (exact w (contains_head w xs)) (insert_in x xs up.1 (λ y c. exact y (contains_tail w y xs c))) (cmp x w) refl

  -- a list that rises, of exactly what has the property
  pub record Rising (P : X → Type 0) : Type 0 where
    pub items : List X
    pub rise : RisesBy cmp items
    pub only : (x : X) → Contains items x → P x
    pub all : (x : X) → P x → Contains items x

  sorted_items : (xs : List X) → ((x y : X) → Contains xs x → Contains xs y → cmp x y ≡ Equal → x ≡ y) → Rising (Contains xs)
  sorted_items [] exact = record { items = []; rise = tt; only = λ x c. c; all = λ x c. c }
  sorted_items (w ∷ xs) exact =
      let rest = sorted_items xs (λ x y c d. exact x y (contains_tail w x xs c) (contains_tail w y xs d)) in
      let put = insert_in w rest.items rest.rise (λ y c. exact w y (contains_head w xs) (contains_tail w y xs (rest.only y c))) in
      record {
        items = put.items;
        rise = put.rise;
        only = λ x c. ⊎_elim (λ f. subst (Contains (w ∷ xs)) f (contains_head w xs)) (λ k. contains_tail w x xs (rest.only x k)) (put.only x c);
        all = λ x c. ⊎_elim (λ f. put.all x (inl f)) (λ k. put.all x (inr (rest.all x k))) (contains_cases w x xs c);
      }

  pub sorted : (P : X → Type 0) → Listing P → ((x y : X) → P x → P y → cmp x y ≡ Equal → x ≡ y) → Rising P
  sorted P l exact =
      let s = sorted_items l.items (λ x y c d. exact x y (l.only x c) (l.only y d)) in
      record { items = s.items; rise = s.rise; only = λ x c. l.only x (s.only x c); all = λ x p. s.all x (l.all x p) }

  -- ---- lengths

  -- the rest of a list that rises, within another with the same head
  rest_within : (x y : X) (xs ys : List X) → y ≡ x → RisesBy cmp (x ∷ xs) → ((z : X) → Contains (x ∷ xs) z → Contains (y ∷ ys) z) → (z : X) → Contains xs z → Contains ys z
  rest_within x y xs ys e up h z c =
      ⊎_elim
      (λ f. absurd (not_below_itself x (subst (λ v. cmp x v ≡ Less) (sym f ∙ e) (each_of_member (λ v. cmp x v ≡ Less) xs z up.0 c))))
      (λ k. k)
      (contains_cases y z ys (h z (contains_tail x z xs c)))

  -- a list that rises, within another whose head is less than its own
  past_head : (x y : X) (xs ys : List X) → Contains ys x → RisesBy cmp (x ∷ xs) → RisesBy cmp (y ∷ ys) → ((z : X) → Contains (x ∷ xs) z → Contains (y ∷ ys) z) → (z : X) → Contains (x ∷ xs) z → Contains ys z
  past_head x y xs ys k up vp h z c = ⊎_elim
      (λ e. subst (Contains ys) e k)
      (λ d. ⊎_elim
      (λ f. absurd (apart_from_total cmp total x y (subst (λ v. cmp x v ≡ Less) (sym f) (each_of_member (λ v. cmp x v ≡ Less) xs z up.0 d)) (each_of_member (λ v. cmp y v ≡ Less) ys x vp.0 k)))
      (λ g. g)
      (contains_cases y z ys (h z (contains_tail x z xs d))))
      (contains_cases x z xs c)

  longer_both : (x y : X) (xs ys : List X) → length xs ≤ length ys → length (x ∷ xs) ≤ length (y ∷ ys)
  longer_both x y xs ys n = omega arith

  longer_one : (x y : X) (xs ys : List X) → length (x ∷ xs) ≤ length ys → length (x ∷ xs) ≤ length (y ∷ ys)
  longer_one x y xs ys n = omega arith

  -- A list that rises and is within another that rises is no longer.
  pub no_longer : (xs ys : List X) → RisesBy cmp xs → RisesBy cmp ys → ((x : X) → Contains xs x → Contains ys x) → length xs ≤ length ys
  no_longer [] ys up vp h = omega arith
  no_longer (x ∷ xs) [] up vp h = contains_nothing x (h x (contains_head x xs))
  no_longer (x ∷ xs) (y ∷ ys) up vp h = ⊎_elim
      (λ e. longer_both x y xs ys (no_longer xs ys up.1 vp.1 (rest_within x y xs ys e up h)))
      (λ k. longer_one x y xs ys (no_longer (x ∷ xs) ys up vp.1 (past_head x y xs ys k up vp h)))
      (contains_cases y x ys (h x (contains_head x xs)))
