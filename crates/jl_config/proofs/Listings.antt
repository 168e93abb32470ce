-- Properties that exactly the items of a list have, and properties that are decided.
use Rattle.std.proofs.Common.{◌≡◌, ◌⊎◌, ◌<◌, ℕ, zero, suc, List, [], ◌∷◌, ◌++◌, inl, inr, ⊎_elim, refl, sym, ap, subst, Contains, Option, Some, None, Bool, true, false, IsTrue, nat_eq, arith}
use Rattle.std.specs.Cmp.Lexicographic.{pointwise, bytes_decides}
use Rattle.jl_logic.proofs.Rising.{contains_head, contains_tail, contains_cases, contains_nothing}
use Rattle.std.proofs.lemmas.List.Elements.{Contains-append_left, Contains-append_right, Contains-append_cases}

-- a list of exactly what has the property
pub record Listing {X : Type 0} (P : X → Type 0) : Type 0 where
  pub items : List X
  pub only : (x : X) → Contains items x → P x
  pub all : (x : X) → P x → Contains items x

abbrev pub Decided : Type 0 → Type 0
Decided A = A ⊎ (A → ⊥)

-- ---- what is decided

pub decided_both : (A B : Type 0) → Decided A → Decided B → Decided (A × B)
decided_both A B (inl a) (inl b) = inl (a, b)
decided_both A B (inl a) (inr m) = inr (λ c. m c.1)
decided_both A B (inr n) d = inr (λ c. n c.0)

pub decided_either : (A B : Type 0) → Decided A → Decided B → Decided (A ⊎ B)
decided_either A B (inl a) d = inl (inl a)
decided_either A B (inr n) (inl b) = inl (inr b)
decided_either A B (inr n) (inr m) = inr (λ c. ⊎_elim n m c)

pub decided_not : (A : Type 0) → Decided A → Decided (A → ⊥)
decided_not A (inl a) = inr (λ n. n a)
decided_not A (inr n) = inl n

pub decided_same : (A B : Type 0) → (A → B) → (B → A) → Decided A → Decided B
decided_same A B f g (inl a) = inl (f a)
decided_same A B f g (inr n) = inr (λ b. n (g b))

pub decided_true : (b : Bool) → Decided (IsTrue b)
decided_true true = inl refl
decided_true false = inr (λ e. absurd cc)

pub decided_name : (a b : List ℕ) → Decided (a ≡ b)
decided_name a b = decided_same (IsTrue (pointwise nat_eq a b)) (a ≡ b) (bytes_decides a b).0 (bytes_decides a b).1 (decided_true (pointwise nat_eq a b))

pub decided_number : (a b : ℕ) → Decided (a ≡ b)
decided_number zero zero = inl refl
decided_number zero (suc b) = inr (λ e. omega arith)
decided_number (suc a) zero = inr (λ e. omega arith)
decided_number (suc a) (suc b) = decided_same (a ≡ b) (suc a ≡ suc b) (λ e. ap suc e) (λ e. omega arith) (decided_number a b)

pub decided_less : (a b : ℕ) → Decided (a < b)
decided_less a zero = inr (λ h. omega arith)
decided_less zero (suc b) = inl (omega arith)
decided_less (suc a) (suc b) = decided_same (a < b) (suc a < suc b) (λ h. omega arith) (λ h. omega arith) (decided_less a b)

pub decided_none : {X : Type 0} (o : Option X) → Decided (o ≡ None)
decided_none None = inl refl
decided_none (Some x) = inr (λ e. absurd cc)

pub decided_marked : (o : Option Bool) → Decided (o ≡ Some true)
decided_marked None = inr (λ e. absurd cc)
decided_marked (Some true) = inl refl
decided_marked (Some false) = inr (λ e. absurd cc)

pub decided_contains : (names : List (List ℕ)) (name : List ℕ) → Decided (Contains names name)
decided_contains [] name = inr (λ c. contains_nothing name c)
decided_contains (n ∷ names) name =
    decided_same ((n ≡ name) ⊎ Contains names name) (Contains (n ∷ names) name)
    (λ s. ⊎_elim (λ e. subst (Contains (n ∷ names)) e (contains_head n names)) (λ c. contains_tail n name names c) s)
    (λ c. contains_cases n name names c)
    (decided_either (n ≡ name) (Contains names name) (decided_name n name) (decided_contains names name))

-- ---- listings

module _ {X : Type 0} where
  pub listing_same : (P Q : X → Type 0) → ((x : X) → P x → Q x) → ((x : X) → Q x → P x) → Listing P → Listing Q
  listing_same P Q f g l = record { items = l.items; only = λ x c. f x (l.only x c); all = λ x k. l.all x (g x k) }

  pub listing_items : (xs : List X) → Listing (Contains xs)
  listing_items xs = record { items = xs; only = λ x c. c; all = λ x c. c }

  pub listing_either : (P Q : X → Type 0) → Listing P → Listing Q → Listing (λ x. P x ⊎ Q x)
  listing_either P Q l m = record {
    items = l.items ++ m.items;
    only = λ x c. ⊎_elim (λ k. inl (l.only x k)) (λ k. inr (m.only x k)) (Contains-append_cases l.items m.items x c);
    all = λ x s. ⊎_elim (λ p. Contains-append_left l.items m.items x (l.all x p)) (λ k. Contains-append_right l.items m.items x (m.all x k)) s;
  }

  -- one item, where the condition holds
  pub listing_if : (A : Type 0) (x : X) → Decided A → Listing (λ y. A × (x ≡ y))
  listing_if A x (inl a) = record {
    items = x ∷ [];
    only = λ y c. (a, ⊎_elim (λ e. e) (λ k. contains_nothing y k) (contains_cases x y [] c));
    all = λ y k. subst (Contains (x ∷ [])) k.1 (contains_head x []);
  }
  listing_if A x (inr n) = record { items = []; only = λ y c. contains_nothing y c; all = λ y k. absurd (n k.0) }

  -- some item has the property, or none
  pub decided_some : (P : X → Type 0) → Listing P → Decided ((x : X) × P x)
  decided_some P l = by l.items l.only l.all
    where
      by : (xs : List X) → ((x : X) → Contains xs x → P x) → ((x : X) → P x → Contains xs x) → Decided ((x : X) × P x)
      by [] only all = inr (λ k. contains_nothing k.0 (all k.0 k.1))
      by (x ∷ xs) only all = inl (x, only x (contains_head x xs))

module _ {X Y : Type 0} (Q : X → Y → Type 0) where
  each_item : (xs : List X) → ((x : X) → Contains xs x → Listing (Q x)) → Listing (λ y. (x : X) × Contains xs x × Q x y)
  each_item [] k = record { items = []; only = λ y c. contains_nothing y c; all = λ y r. contains_nothing r.0 r.1 }
  each_item (x ∷ xs) k =
      let head : Listing (Q x) = k x (contains_head x xs) in
      let tail = each_item xs (λ z c. k z (contains_tail x z xs c)) in
      record {
        items = head.items ++ tail.items;
        only = λ y c. ⊎_elim (λ h. (x, contains_head x xs, head.only y h)) (λ t. let r = tail.only y t in (r.0, contains_tail x r.0 xs r.1, r.2)) (Contains-append_cases head.items tail.items y c);
        all = λ y r. ⊎_elim
            (λ e. Contains-append_left head.items tail.items y (head.all y (subst (λ z. Q z y) (sym e) r.2)))
            (λ c. Contains-append_right head.items tail.items y (tail.all y (r.0, c, r.2)))
            (contains_cases x r.0 xs r.1);
      }

  -- what stands to some item that has the property as Q says
  pub listing_each : (P : X → Type 0) → Listing P → ((x : X) → P x → Listing (Q x)) → Listing (λ y. (x : X) × P x × Q x y)
  listing_each P l k =
      listing_same (λ y. (x : X) × Contains l.items x × Q x y) (λ y. (x : X) × P x × Q x y)
      (λ y r. (r.0, l.only r.0 r.1, r.2)) (λ y r. (r.0, l.all r.0 r.1, r.2))
      (each_item l.items (λ x c. k x (l.only x c)))

module _ {X : Type 0} where
  -- of what has the one property, what has the other
  pub listing_where : (P Q : X → Type 0) → Listing P → ((x : X) → P x → Decided (Q x)) → Listing (λ x. P x × Q x)
  listing_where P Q l d =
      listing_same (λ y. (x : X) × P x × (Q x × (x ≡ y))) (λ x. P x × Q x)
      (λ y r. (subst P r.2.1 r.1, subst Q r.2.1 r.2.0)) (λ y r. (y, r.0, (r.1, refl)))
      (listing_each (λ x y. Q x × (x ≡ y)) P l (λ x p. listing_if (Q x) x (d x p)))

  pub listing_map : {Y : Type 0} (P : X → Type 0) (f : X → Y) → Listing P → Listing (λ y. (x : X) × P x × (f x ≡ y))
  listing_map P f l =
      listing_same (λ y. (x : X) × P x × (Unit {0} × (f x ≡ y))) (λ y. (x : X) × P x × (f x ≡ y))
      (λ y r. (r.0, r.1, r.2.1)) (λ y r. (r.0, r.1, (tt, r.2)))
      (listing_each (λ x y. Unit {0} × (f x ≡ y)) P l (λ x p. listing_if (Unit {0}) (f x) (inl tt)))

  -- what an optional value holds
  pub listing_option : (o : Option X) → Listing (λ x. o ≡ Some x)
  listing_option None = record { items = []; only = λ x c. contains_nothing x c; all = λ x e. absurd cc }
  listing_option (Some w) = record {
    items = w ∷ [];
    only = λ x c. ⊎_elim (λ e. ap Some e) (λ k. contains_nothing x k) (contains_cases w x [] c);
    all = λ x e. let same : w ≡ x = cc in subst (Contains (w ∷ [])) same (contains_head w []);
  }

-- the numbers below another
pub listing_below : (n : ℕ) → Listing (λ p. p < n)
listing_below zero = record { items = []; only = λ p c. contains_nothing p c; all = λ p h. absurd (omega arith) }
listing_below (suc n) =
    let rest = listing_below n in
    record {
      items = n ∷ rest.items;
      only = λ p c. ⊎_elim (λ e. omega arith) (λ k. let h = rest.only p k in omega arith) (contains_cases n p rest.items c);
      all = λ p h. ⊎_elim (λ e. subst (Contains (n ∷ rest.items)) (sym e) (contains_head n rest.items)) (λ k. contains_tail n p rest.items (rest.all p (lesser p h k))) (decided_number p n);
    }
  where
    lesser : (p : ℕ) → p < suc n → (p ≡ n → ⊥) → p < n
    lesser p h k = omega arith
