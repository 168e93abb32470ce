-- The part of a rising list that has a key, found by two searches.
use Rattle.std.proofs.Common.{◌≡◌, ℕ, zero, suc, ◌+◌, ◌-◌, ◌≤◌, ◌<◌, List, [], ◌∷◌, length, get_or, take, drop, filter, map, ◌++◌, append_assoc, Bool, true, false, not, ◌&&◌, if◌then◌else◌, Ordering, Less, Equal, Greater, refl, sym, ◌∙◌, ap, inl, inr, arith}
use Rattle.std.specs.Cmp.{IsTotalOrder}
use Rattle.std.specs.Ordering.{is_lt, is_le, is_eq, ordering_then, ordering_reverse}
use Rattle.std.specs.Cmp.Lexicographic.{texts_ties}
use Rattle.std.specs.List.Sorted.{IsPartitionedBy, IsPartitionPoint}
use Rattle.std.proofs.lemmas.Bool.Decides.{leb_tells}
use Rattle.std.proofs.lemmas.Cmp.{nat_list_cmp_total}
use Rattle.std.proofs.lemmas.List.Elements.{All-from_recursion}
use Rattle.jl_logic.specs.Order.{is_text, name_cmp, RisesBy}
use Rattle.jl_prim.specs.declared.declaration.Observed.{Observed}
use Rattle.jl_config.specs.declared.configuration.Read.{Read}
use Rattle.jl_config.specs.Orders.{read_cmp}
use Rattle.jl_launch.specs.Text.{module_line, module_lines, read_line}

-- ---- what two tests cut out

module _ {X : Type 0} (f : X → Bool) where
  -- what fails a test before the place i, passes it for n places, and fails it again
  pub window : (xs : List X) (i n : ℕ) → i + n ≤ length xs
      → ((k : ℕ) (d : X) → k < i → f (get_or xs k d) ≡ false)
      → ((k : ℕ) (d : X) → i ≤ k → k < i + n → f (get_or xs k d) ≡ true)
      → ((k : ℕ) (d : X) → i + n ≤ k → k < length xs → f (get_or xs k d) ≡ false)
      → take n (drop i xs) ≡ filter f xs
  window [] zero zero h low mid high = refl
  window [] zero (suc n) h low mid high = absurd (omega arith)
  window [] (suc i) n h low mid high = absurd (omega arith)
  window (x ∷ xs) (suc i) n h low mid high =
      let out : f x ≡ false = low 0 x (omega arith) in
      let rest : take n (drop i xs) ≡ filter f xs = window xs i n (omega arith) (λ k d l. low (suc k) d (omega arith)) (λ k d l m. mid (suc k) d (omega arith) (omega arith)) (λ k d l m. high (suc k) d (omega arith) (omega arith)) in
      rw out rest
  window (x ∷ xs) zero (suc n) h low mid high =
      let within : f x ≡ true = mid 0 x (omega arith) (omega arith) in
      let rest : take n xs ≡ filter f xs = window xs zero n (omega arith) (λ k d l. absurd (omega arith)) (λ k d l m. mid (suc k) d (omega arith) (omega arith)) (λ k d l m. high (suc k) d (omega arith) (omega arith)) in
      rw within (ap (λ ys. x ∷ ys) rest)
  window (x ∷ xs) zero zero h low mid high =
      let out : f x ≡ false = high 0 x (omega arith) (omega arith) in
      let rest : [] ≡ filter f xs = window xs zero zero (omega arith) (λ k d l. absurd (omega arith)) (λ k d l m. absurd (omega arith)) (λ k d l m. high (suc k) d (omega arith) (omega arith)) in
      rw out rest

-- two tests, one after the other
pub filter_twice : {X : Type 0} (p q : X → Bool) (xs : List X) → filter q (filter p xs) ≡ filter (λ x. p x && q x) xs
filter_twice p q [] = refl
filter_twice p q (x ∷ xs) = elim (p x) as (λ b. filter q (if b then x ∷ filter p xs else filter p xs) ≡ (if b && q x then x ∷ filter (λ y. p y && q y) xs else filter (λ y. p y && q y) xs)) [
  | true ↦ elim (q x) as (λ b. (if b then x ∷ filter q (filter p xs) else filter q (filter p xs)) ≡ (if b then x ∷ filter (λ y. p y && q y) xs else filter (λ y. p y && q y) xs)) [
    | true ↦ ap (λ ys. x ∷ ys) (filter_twice p q xs)
    | false ↦ filter_twice p q xs
  ]
  | false ↦ filter_twice p q xs
]

-- the line of a module and those of its other reads, added to what is printed
pub module_printed : (before after mid : List (List ℕ)) (mine reads : List Read) (o : Observed)
    → mid ≡ before ++ module_line o ∷ [] → mine ≡ filter (λ r. is_text r.reader o.declaration.name) reads
    → after ≡ mid ++ map read_line (filter (λ r. not (is_text r.name o.declaration.name)) mine)
    → after ≡ before ++ module_lines reads o
module_printed before after mid mine reads o m e f =
    f ∙ ap (λ ls. ls ++ map read_line (filter (λ r. not (is_text r.name o.declaration.name)) mine)) m
    ∙ append_assoc before (module_line o ∷ []) (map read_line (filter (λ r. not (is_text r.name o.declaration.name)) mine))
    ∙ ap (λ rs. before ++ module_line o ∷ map read_line (filter (λ r. not (is_text r.name o.declaration.name)) rs)) e
    ∙ ap (λ rs. before ++ module_line o ∷ map read_line rs) (filter_twice (λ r. is_text r.reader o.declaration.name) (λ r. not (is_text r.name o.declaration.name)) reads)

-- ---- orders

self_upto : (c : Ordering) → c ≡ ordering_reverse c → is_le c ≡ true
self_upto Less e = absurd cc
self_upto Equal e = refl
self_upto Greater e = absurd cc

equal_or_not : (c : Ordering) → is_lt c ≡ true → is_eq c ≡ false
equal_or_not Less h = refl
equal_or_not Equal h = absurd cc
equal_or_not Greater h = absurd cc

equal_or_past : (c : Ordering) → is_le c ≡ false → is_eq c ≡ false
equal_or_past Less h = absurd cc
equal_or_past Equal h = absurd cc
equal_or_past Greater h = refl

equal_between : (c : Ordering) → is_lt c ≡ false → is_le c ≡ true → is_eq c ≡ true
equal_between Less h k = absurd cc
equal_between Equal h k = refl
equal_between Greater h k = absurd cc

less_upto : (c : Ordering) → is_lt c ≡ true → is_le c ≡ true
less_upto Less h = refl
less_upto Equal h = absurd cc
less_upto Greater h = absurd cc

first_upto : (c d : Ordering) → ordering_then c d ≡ Less → is_le c ≡ true
first_upto Less d h = refl
first_upto Equal d h = refl
first_upto Greater d h = absurd cc

module _ {K : Type 0} (R : K → K → Ordering) (o : IsTotalOrder R) where
  lt_steps : (a b n : K) (x y : Ordering) → R a b ≡ x → R b n ≡ y → is_le x ≡ true → is_lt y ≡ true → is_lt (R a n) ≡ true
  lt_steps a b n Less Less e f h k = ap is_lt (o.trans a b n e f)
  lt_steps a b n Equal Less e f h k = ap is_lt (o.congr a b n e ∙ f)
  lt_steps a b n Greater Less e f h k = absurd cc
  lt_steps a b n x Equal e f h k = absurd cc
  lt_steps a b n x Greater e f h k = absurd cc

  le_steps : (a b n : K) (x y : Ordering) → R a b ≡ x → R b n ≡ y → is_le x ≡ true → is_le y ≡ true → is_le (R a n) ≡ true
  le_steps a b n Less Less e f h k = ap is_le (o.trans a b n e f)
  le_steps a b n Less Equal e f h k =
      let back : R n a ≡ ordering_reverse Less = sym (o.congr b n a f) ∙ o.antisymm b a ∙ ap ordering_reverse e in
      ap is_le (o.antisymm a n ∙ ap ordering_reverse back)
  le_steps a b n Equal y e f h k = ap is_le (o.congr a b n e ∙ f) ∙ k
  le_steps a b n Greater y e f h k = absurd cc
  le_steps a b n Less Greater e f h k = absurd cc

-- ---- reads

-- the readers do not fall
readers_rise : (rs : List Read) → RisesBy read_cmp rs → (i j : ℕ) (d : Read) → i ≤ j → j < length rs → is_le (name_cmp (get_or rs i d).reader (get_or rs j d).reader) ≡ true
readers_rise [] up i j d h k = absurd (omega arith)
readers_rise (r ∷ rs) up zero zero d h k = self_upto (name_cmp r.reader r.reader) (nat_list_cmp_total.antisymm r.reader r.reader)
readers_rise (r ∷ rs) up zero (suc j) d h k =
    first_upto (name_cmp r.reader (get_or rs j d).reader) (name_cmp r.name (get_or rs j d).name) (All-from_recursion (λ s. read_cmp r s ≡ Less) rs up.0 j d (omega arith))
readers_rise (r ∷ rs) up (suc i) zero d h k = absurd (omega arith)
readers_rise (r ∷ rs) up (suc i) (suc j) d h k = readers_rise rs up.1 i j d (omega arith) (omega arith)

module _ (name : List ℕ) where
  abbrev pub is_before : Read → Bool
  is_before r = is_lt (name_cmp r.reader name)

  abbrev pub is_upto : Read → Bool
  is_upto r = is_le (name_cmp r.reader name)

  pub parted_before : (rs : List Read) → RisesBy read_cmp rs → IsPartitionedBy is_before rs
  parted_before rs up i j d h k t =
      lt_steps name_cmp nat_list_cmp_total (get_or rs i d).reader (get_or rs j d).reader name _ _ refl refl (readers_rise rs up i j d h k) t

  pub parted_upto : (rs : List Read) → RisesBy read_cmp rs → IsPartitionedBy is_upto rs
  parted_upto rs up i j d h k t =
      le_steps name_cmp nat_list_cmp_total (get_or rs i d).reader (get_or rs j d).reader name _ _ refl refl (readers_rise rs up i j d h k) t

  -- the first search ends no later than the second
  pub ends_ordered : (rs : List Read) (i j : ℕ) → i ≤ length rs
      → IsPartitionPoint (λ r. is_before r ≡ true) (λ r. is_before r ≡ false) rs i
      → IsPartitionPoint (λ r. is_upto r ≡ true) (λ r. is_upto r ≡ false) rs j → i ≤ j
  ends_ordered [] i j h p q = omega arith
  ends_ordered (r ∷ rs) i j h p q = elim (leb_tells i j) [
    | inl within ↦ within.1
    | inr past ↦
        let low : is_before (get_or (r ∷ rs) j r) ≡ true = p.0 j r (omega arith) (omega arith) in
        let high : is_upto (get_or (r ∷ rs) j r) ≡ false = q.1 j r (omega arith) (omega arith) in
        let low_upto = less_upto (name_cmp (get_or (r ∷ rs) j r).reader name) low in
        absurd cc
  ]

  -- what stands between the ends of both searches
  pub reads_between : (rs : List Read) (i j : ℕ) → i ≤ j → j ≤ length rs
      → IsPartitionPoint (λ r. is_before r ≡ true) (λ r. is_before r ≡ false) rs i
      → IsPartitionPoint (λ r. is_upto r ≡ true) (λ r. is_upto r ≡ false) rs j
      → take (j - i) (drop i rs) ≡ filter (λ r. is_text r.reader name) rs
  reads_between rs i j h below p q =
      window (λ r. is_text r.reader name) rs i (j - i) (omega arith)
      (λ k d l. texts_ties (get_or rs k d).reader name ∙ equal_or_not (name_cmp (get_or rs k d).reader name) (p.0 k d (omega arith) l))
      (λ k d l m. texts_ties (get_or rs k d).reader name ∙ equal_between (name_cmp (get_or rs k d).reader name) (p.1 k d l (omega arith)) (q.0 k d (omega arith) (omega arith)))
      (λ k d l m. texts_ties (get_or rs k d).reader name ∙ equal_or_past (name_cmp (get_or rs k d).reader name) (q.1 k d (omega arith) m))
