-- Lists that rise by an order, and what is least by one.
use Rattle.std.proofs.Common.{◌≡◌, ◌⊎◌, ◌<◌, ℕ, zero, suc, List, [], ◌∷◌, ◌++◌, length, get_or, inl, inr, ⊎_elim, refl, sym, ◌∙◌, ap, subst, Contains, Ordering, Less, Equal, Greater, arith}
use Rattle.std.specs.List.{AllByRecursion}
use Rattle.std.specs.Cmp.{IsTotalOrder}
use Rattle.std.specs.Ordering.{ordering_reverse}
use Rattle.std.proofs.lemmas.List.Elements.{All-from_recursion, All-contains}
use Rattle.jl_logic.specs.Order.{RisesBy, IsLeast}

module _ {X : Type 0} where
  pub contains_head : (x : X) (xs : List X) → Contains (x ∷ xs) x
  contains_head x xs = (0, omega arith, refl)

  pub contains_tail : (x y : X) (xs : List X) → Contains xs y → Contains (x ∷ xs) y
  contains_tail x y xs h = (suc h.0, omega arith, h.2)

  pub contains_nothing : {A : Type 0} (y : X) → Contains [] y → A
  contains_nothing y h = absurd (omega arith)

  pub contains_cases : (x y : X) (xs : List X) → Contains (x ∷ xs) y → (x ≡ y) ⊎ Contains xs y
  contains_cases x y xs h = by h.0 h.1 h.2
    where
      by : (k : ℕ) → k < length (x ∷ xs) → get_or (x ∷ xs) k y ≡ y → (x ≡ y) ⊎ Contains xs y
      by zero lt e = inl e
      by (suc k) lt e = inr (k, omega arith, e)

  -- what holds of each member of a list, by recursion on the list
  pub each_from_members : (P : X → Type 0) (xs : List X) → ((x : X) → Contains xs x → P x) → AllByRecursion P xs
  each_from_members P [] h = tt
  each_from_members P (x ∷ xs) h = (h x (contains_head x xs), each_from_members P xs (λ y c. h y (contains_tail x y xs c)))

  pub each_of_member : (P : X → Type 0) (xs : List X) (x : X) → AllByRecursion P xs → Contains xs x → P x
  each_of_member P xs x h c = All-contains P xs x (All-from_recursion P xs h) c

  pub each_in_append : (P : X → Type 0) (xs ys : List X) → AllByRecursion P xs → AllByRecursion P ys → AllByRecursion P (xs ++ ys)
  each_in_append P [] ys h k = k
  each_in_append P (x ∷ xs) ys h k = (h.0, each_in_append P xs ys h.1 k)

module _ {X : Type 0} (cmp : X → X → Ordering) where
  -- no two are each less than the other
  pub apart_from_total : IsTotalOrder cmp → (x y : X) → cmp x y ≡ Less → cmp y x ≡ Less → ⊥
  apart_from_total o x y h k =
      let e : cmp x y ≡ ordering_reverse (cmp y x) = o.antisymm x y in
      let w : Less ≡ ordering_reverse Less = sym h ∙ e ∙ ap ordering_reverse k in
      cc

  -- the rest of a list that rises, against the rest of another with the same members
  within_rest : (apart : (x y : X) → cmp x y ≡ Less → cmp y x ≡ Less → ⊥) (x y : X) (xs ys : List X) → x ≡ y → RisesBy cmp (x ∷ xs) → ((z : X) → Contains (x ∷ xs) z → Contains (y ∷ ys) z) → (z : X) → Contains xs z → Contains ys z
  within_rest apart x y xs ys e up h z c =
      ⊎_elim
      (λ f.
      let less : cmp x z ≡ Less = each_of_member (λ w. cmp x w ≡ Less) xs z up.0 c in
      let same : x ≡ z = e ∙ f in
      let again : cmp x x ≡ Less = subst (λ w. cmp x w ≡ Less) (sym same) less in
      absurd (apart x x again again))
      (λ k. k)
      (contains_cases y z ys (h z (contains_tail x z xs c)))

  -- Two lists that rise and have the same members are the same.
  pub same_rising : ((x y : X) → cmp x y ≡ Less → cmp y x ≡ Less → ⊥) → (xs ys : List X) → RisesBy cmp xs → RisesBy cmp ys → ((x : X) → Contains xs x → Contains ys x) → ((x : X) → Contains ys x → Contains xs x) → xs ≡ ys
  same_rising apart [] [] up vp h k = refl
  same_rising apart [] (y ∷ ys) up vp h k = contains_nothing y (k y (contains_head y ys))
  same_rising apart (x ∷ xs) [] up vp h k = contains_nothing x (h x (contains_head x xs))
  same_rising apart (x ∷ xs) (y ∷ ys) up vp h k =
      let e : x ≡ y =
      ⊎_elim (λ e. sym e) (λ a. ⊎_elim (λ e. e) (λ b. absurd (apart x y (each_of_member (λ w. cmp x w ≡ Less) xs y up.0 b) (each_of_member (λ w. cmp y w ≡ Less) ys x vp.0 a))) (contains_cases x y xs (k y (contains_head y ys))))
      (contains_cases y x ys (h x (contains_head x xs))) in
      let rest : xs ≡ ys = same_rising apart xs ys up.1 vp.1 (within_rest apart x y xs ys e up h) (within_rest apart y x ys xs (sym e) vp k) in
      cc

  -- two lists that rise, all of the first less than all of the second
  pub rises_append : (xs ys : List X) → RisesBy cmp xs → RisesBy cmp ys → AllByRecursion (λ x. AllByRecursion (λ y. cmp x y ≡ Less) ys) xs → RisesBy cmp (xs ++ ys)
  rises_append [] ys up vp h = vp
  rises_append (x ∷ xs) ys up vp h = (each_in_append (λ y. cmp x y ≡ Less) xs ys up.0 h.0, rises_append xs ys up.1 vp h.1)

  -- an item at its place between those that are less and those that are greater
  pub rises_between : IsTotalOrder cmp → (xs ys : List X) (x : X) → RisesBy cmp (xs ++ ys) → AllByRecursion (λ y. cmp y x ≡ Less) xs → AllByRecursion (λ y. cmp x y ≡ Less) ys → RisesBy cmp (xs ++ x ∷ ys)
  rises_between o [] ys x up low high = (high, up)
  rises_between o (w ∷ xs) ys x up low high =
      (each_from_members (λ y. cmp w y ≡ Less) (xs ++ x ∷ ys) (λ y c. by y (contains_append xs y c)), rises_between o xs ys x up.1 low.1 high)
    where
      contains_append : (us : List X) (y : X) → Contains (us ++ x ∷ ys) y → (x ≡ y) ⊎ Contains (us ++ ys) y
      contains_append [] y c = contains_cases x y ys c
      contains_append (u ∷ us) y c = ⊎_elim (λ e. inr (subst (Contains (u ∷ (us ++ ys))) e (contains_head u (us ++ ys)))) (λ k. ⊎_elim inl (λ m. inr (contains_tail u y (us ++ ys) m)) (contains_append us y k)) (contains_cases u y (us ++ x ∷ ys) c)

      by : (y : X) → (x ≡ y) ⊎ Contains (xs ++ ys) y → cmp w y ≡ Less
      by y s = ⊎_elim (λ e. subst (λ z. cmp w z ≡ Less) e low.0) (λ c. each_of_member (λ z. cmp w z ≡ Less) (xs ++ ys) y up.0 c) s

  -- what is least by an order that tells any two apart is one
  pub same_least : IsTotalOrder cmp → ((x y : X) → cmp x y ≡ Equal → x ≡ y) → (P : X → Type 0) (x y : X) → IsLeast cmp P x → IsLeast cmp P y → x ≡ y
  same_least o exact P x y h k = by (cmp x y) refl
    where
      by : (r : Ordering) → cmp x y ≡ r → x ≡ y
      by Less e = absurd (k.least x h.has e)
      by Equal e = exact x y e
      by Greater e =
          let f : cmp y x ≡ ordering_reverse (cmp x y) = o.antisymm y x in
          let g : cmp y x ≡ Less = f ∙ ap ordering_reverse e in
          absurd (h.least y k.has g)
