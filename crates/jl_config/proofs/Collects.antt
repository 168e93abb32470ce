-- Lists that grow by what has a property, and the least of what was collected.
use Rattle.std.proofs.Common.{◌≡◌, ◌≢◌, ◌<◌, ◌≤◌, ◌+◌, ◌⊎◌, ℕ, List, [], ◌∷◌, ◌++◌, length, take, get_or, inl, inr, ⊎_elim, refl, sym, ◌∙◌, ap, subst, Contains, Option, Some, None, Ordering, Less, Equal, Greater, arith}
use Rattle.std.specs.Option.{option_map}
use Rattle.std.specs.Ordering.{ordering_then}
use Rattle.std.proofs.lemmas.List.{take_more, take_all, get_or_default}
use Rattle.jl_logic.proofs.Rising.{contains_head, contains_nothing}
use Rattle.jl_config.specs.declared.fault.ResolveFault.{ResolveFault}
use Rattle.jl_config.specs.Collected.{Adds, Among}
use Rattle.jl_config.specs.Places.{IsLeastSome}
use Rattle.jl_config.specs.Refusals.{fault_cmp}
use Rattle.std.proofs.lemmas.List.Elements.{Contains-append_left, Contains-append_right}
use Rattle.jl_config.proofs.FaultOrder.{fault_total}
use Rattle.jl_config.proofs.RisingLists.{not_below_itself, less_through}
use Rattle.jl_config.proofs.Lists.{last_or_before, below_or_last}

module _ {X : Type 0} where
  pub adds_none : (xs : List X) (P : X → Type 0) → ((x : X) → P x → ⊥) → Adds xs xs P
  adds_none xs P none = record { keeps = λ x c. c; only = λ x c. inl c; all = λ x p. absurd (none x p) }

  pub adds_one : (old new : List X) (y : X) (P : X → Type 0) → new ≡ old ++ y ∷ [] → P y → ((x : X) → P x → y ≡ x) → Adds old new P
  adds_one old new y P e p one = subst (λ (l : List X). Adds old l P) (sym e) (record {
    keeps = λ x c. Contains-append_left old (y ∷ []) x c;
    only = λ x c. last_or_before old y x (Contains old x ⊎ P x) c inl (λ f. inr (subst P f p));
    all = λ x q. subst (Contains (old ++ y ∷ [])) (one x q) (Contains-append_right old (y ∷ []) y (contains_head y []));
  })

  -- what is added first and then
  pub adds_then : (a b c : List X) (P Q R : X → Type 0) → Adds a b P → Adds b c Q → ((x : X) → P x → R x) → ((x : X) → Q x → R x) → ((x : X) → R x → P x ⊎ Q x) → Adds a c R
  adds_then a b c P Q R f g from_p from_q into = record {
    keeps = λ x k. g.keeps x (f.keeps x k);
    only = λ x k. ⊎_elim (λ m. ⊎_elim inl (λ p. inr (from_p x p)) (f.only x m)) (λ q. inr (from_q x q)) (g.only x k);
    all = λ x r. ⊎_elim (λ p. g.keeps x (f.all x p)) (λ q. g.all x q) (into x r);
  }

  pub adds_same : (a b : List X) (P Q : X → Type 0) → Adds a b P → ((x : X) → P x → Q x) → ((x : X) → Q x → P x) → Adds a b Q
  adds_same a b P Q f from into = record {
    keeps = f.keeps;
    only = λ x c. ⊎_elim inl (λ p. inr (from x p)) (f.only x c);
    all = λ x q. f.all x (into x q);
  }

  -- a loop over numbers begins and goes on
  abbrev pub Below : (ℕ → X → Type 0) → ℕ → X → Type 0
  Below Q n x = (i : ℕ) × (i < n) × Q i x

  pub below_none : (xs : List X) (Q : ℕ → X → Type 0) (n : ℕ) → ((i : ℕ) (x : X) → i < n → Q i x → ⊥) → Adds xs xs (Below Q n)
  below_none xs Q n none = adds_none xs (Below Q n) (λ x h. none h.0 x h.1 h.2)

  pub below_more : (a b c : List X) (Q : ℕ → X → Type 0) (n : ℕ) → Adds a b (Below Q n) → Adds b c (Q n) → Adds a c (Below Q (n + 1))
  below_more a b c Q n f g = adds_then a b c (Below Q n) (Q n) (Below Q (n + 1)) f g (λ x h. (h.0, omega (arith, h.1), h.2)) (λ x q. (n, omega arith, q)) (λ x h. by x h.0 h.1 h.2 (below_or_last h.0 n h.1))
    where
      by : (x : X) (i : ℕ) → i < n + 1 → Q i x → (i < n) ⊎ (i ≡ n) → Below Q n x ⊎ Q n x
      by x i lt q (inl less) = inl (i, less, q)
      by x i lt q (inr e) = inr (subst (λ k. Q k x) e q)

  pub below_all : (a b : List X) (Q : ℕ → X → Type 0) (n : ℕ) → Adds a b (Below Q n) → ((i : ℕ) (x : X) → Q i x → i < n) → Adds a b (λ x. (i : ℕ) × Q i x)
  below_all a b Q n f within = record {
    keeps = f.keeps;
    only = λ x c. ⊎_elim inl (λ h. inr (h.0, h.2)) (f.only x c);
    all = λ x h. f.all x (h.0, within h.0 x h.1, h.1);
  }

module _ {X Y : Type 0} (P : X → Y → Type 0) where
  pub among_none : (xs : List X) (ys : List Y) → Adds ys ys (Among P (take 0 xs))
  among_none xs ys = adds_none ys (Among P []) (λ y h. contains_nothing h.0 h.1)

  pub among_first : (xs : List X) (ys : List Y) → ys ≡ [] → Adds [] ys (Among P (take 0 xs))
  among_first xs ys e = subst (λ l. Adds [] l (Among P (take 0 xs))) (sym e) (among_none xs [])

  pub among_more : (xs : List X) (i : ℕ) (x : X) (a b c : List Y) → i < length xs → x ≡ get_or xs i x → Adds a b (Among P (take i xs)) → Adds b c (P x) → Adds a c (Among P (take (i + 1) xs))
  among_more xs i x a b c lt is f g =
      let more : take i xs ++ x ∷ [] ≡ take (i + 1) xs = sym (take_more xs i x lt ∙ ap (λ w. take i xs ++ w ∷ []) (sym is)) in
      subst (λ l. Adds a c (Among P l)) more (adds_then a b c (Among P (take i xs)) (P x) (Among P (take i xs ++ x ∷ [])) f g
      (λ y h. (h.0, Contains-append_left (take i xs) (x ∷ []) h.0 h.1, h.2))
      (λ y p. (x, Contains-append_right (take i xs) (x ∷ []) x (contains_head x []), p))
      (λ y h. last_or_before (take i xs) x h.0 (Among P (take i xs) y ⊎ P x y) h.1 (λ k. inl (h.0, k, h.2)) (λ e. inr (subst (λ v. P v y) (sym e) h.2))))

  pub among_all : (xs : List X) (i : ℕ) (a b : List Y) → length xs ≤ i → Adds a b (Among P (take i xs)) → Adds a b (Among P xs)
  among_all xs i a b le f = subst (λ l. Adds a b (Among P l)) (take_all i xs le) f

-- ---- the least

-- what orders of fields end with changes nothing
pub then_equal : (o : Ordering) → ordering_then o Equal ≡ o
then_equal Less = refl
then_equal Equal = refl
then_equal Greater = refl

module _ {X : Type 0} (cmp : X → X → Ordering) (f : X → ResolveFault) (P : ResolveFault → Type 0) (xs : List X) where
  -- the least that was collected is the least refusal
  pub least_fault : (o : Option X) → IsLeastSome cmp (Contains xs) o → ((x y : X) → fault_cmp (f x) (f y) ≡ cmp x y) → ((x : X) → Contains xs x → P (f x))
      → ((g : ResolveFault) → P g → (x : X) × Contains xs x × (fault_cmp g (f x) ≢ Less)) → IsLeastSome fault_cmp P (option_map f o)
  least_fault None h order sound complete = λ g p. let x = complete g p in h x.0 x.1
  least_fault (Some m) h order sound complete = record {
    has = sound m h.has;
    least = λ g p l.
        let x = complete g p in
        let less : fault_cmp (f x.0) (f m) ≡ Less = less_through fault_cmp fault_total (f x.0) g (f m) x.2 l in
        h.least x.0 x.1 (sym (order x.0 m) ∙ less);
  }

-- a refusal is not less than itself
pub fault_not_less : (g h : ResolveFault) → g ≡ h → fault_cmp g h ≢ Less
fault_not_less g h e l = not_below_itself fault_cmp fault_total g (subst (λ k. fault_cmp g k ≡ Less) (sym e) l)

-- the item of a loop is one of the list
pub item_among : {X : Type 0} (xs : List X) (i : ℕ) (x : X) → i < length xs → x ≡ get_or xs i x → Contains xs x
item_among xs i x lt is = (i, lt, sym is)

-- a loop's step over numbers, which are read with the default 0
pub number_more : {Y : Type 0} (P : ℕ → Y → Type 0) (xs : List ℕ) (i : ℕ) (a b c : List Y) → i < length xs → Adds a b (Among P (take i xs)) → Adds b c (P (get_or xs i 0)) → Adds a c (Among P (take (i + 1) xs))
number_more P xs i a b c lt f g = among_more P xs i (get_or xs i 0) a b c lt (get_or_default xs i 0 (get_or xs i 0) lt) f g
