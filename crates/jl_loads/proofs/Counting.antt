-- Members before a class, and those of the class.
use Rattle.std.proofs.Common.{◌≡◌, ◌<◌, ◌≤◌, ◌+◌, ◌-◌, ◌*◌, ℕ, zero, suc, List, [], ◌∷◌, length, Option, Some, map, take, slice_get, refl, sym, ◌∙◌, ap, subst, arith}
use Rattle.std.specs.List.{sum}
use Rattle.std.specs.Option.{option_map_or}
use Rattle.std.proofs.lemmas.List.Sums.{sum_by-cons}
use Rattle.std.proofs.lemmas.Option.{none-some}
use Rattle.jl_prim.specs.declared.numbers.ClassId.{ClassId}
use Rattle.jl_layer.specs.Layers.{numbered}
use Rattle.jl_loads.specs.Worlds.{State, Loaded, IsClass, class_at, fields_before, methods_before, fields_of, methods_of, all_fields, all_methods}
use Rattle.jl_loads.specs.Laws.{AreSound}
use Rattle.jl_loads.proofs.Places.{numbered_in}

-- ---- sums

cons : (k : ℕ) (ks : List ℕ) → sum (k ∷ ks) ≡ k + sum ks
cons k ks = sum_by-cons (λ x. x) k ks

module _ (f : Loaded → ℕ) where
  sum_next : (xs : List Loaded) (n : ℕ) (y : Loaded) → slice_get xs n ≡ Some y → sum (map f (take (suc n) xs)) ≡ sum (map f (take n xs)) + f y
  sum_next [] n y e = absurd (none-some y e)
  sum_next (x ∷ xs) zero y e = let same : x ≡ y = cc in ap (λ (z : Loaded). 0 + f z) same
  sum_next (x ∷ xs) (suc n) y e =
      let later : sum (map f (take (suc n) xs)) ≡ sum (map f (take n xs)) + f y = sum_next xs n y e in
      omega (arith, later, cons (f x) (map f (take (suc n) xs)), cons (f x) (map f (take n xs)))

  sum_number : (xs : List Loaded) (n : ℕ) (y : Loaded) → numbered xs n ≡ Some y → sum (map f (take n xs)) ≡ sum (map f (take (n - 1) xs)) + f y
  sum_number xs zero y e = absurd (none-some y e)
  sum_number xs (suc n) y e = let less : suc n - 1 ≡ n = omega arith in sum_next xs n y e ∙ sym (ap (λ (k : ℕ). sum (map f (take k xs)) + f y) less)

  sum_part : (xs : List Loaded) (n : ℕ) → sum (map f (take n xs)) ≤ sum (map f xs)
  sum_part [] zero = omega arith
  sum_part [] (suc n) = omega arith
  sum_part (x ∷ xs) zero = omega arith
  sum_part (x ∷ xs) (suc n) = let later : sum (map f (take n xs)) ≤ sum (map f xs) = sum_part xs n in omega (arith, later, cons (f x) (map f (take n xs)), cons (f x) (map f xs))

  sum_most : (xs : List Loaded) → ((n : ℕ) (y : Loaded) → slice_get xs n ≡ Some y → f y ≤ 65535) → sum (map f xs) ≤ 65535 * length xs
  sum_most [] h = omega arith
  sum_most (x ∷ xs) h =
      let first : f x ≤ 65535 = h 0 x refl in
      let later : sum (map f xs) ≤ 65535 * length xs = sum_most xs (λ n y e. h (suc n) y e) in
      omega (arith, first, later, cons (f x) (map f xs))

take_whole : (xs : List Loaded) → take (length xs) xs ≡ xs
take_whole [] = refl
take_whole (x ∷ xs) = ap (λ (l : List Loaded). x ∷ l) (take_whole xs)

abbrev count_fields : Loaded → ℕ
count_fields x = length x.declared.fields

abbrev count_methods : Loaded → ℕ
count_methods x = length x.declared.methods

-- ---- one class and the next

module _ (s : State) (sound : AreSound s) where
  few_fields : (n : ℕ) (y : Loaded) → slice_get s.classes n ≡ Some y → count_fields y ≤ 65535
  few_fields n y e = let lt : length y.declared.fields < 65536 = (sound.tables (record { 0 = suc n }) y e).fields in omega (arith, lt)

  few_methods : (n : ℕ) (y : Loaded) → slice_get s.classes n ≡ Some y → count_methods y ≤ 65535
  few_methods n y e = let lt : length y.declared.methods < 65536 = (sound.tables (record { 0 = suc n }) y e).methods in omega (arith, lt)

  -- all numbers fit in four bytes
  pub fields_fit : all_fields s < 4294967296
  fields_fit = let most : sum (map count_fields s.classes) ≤ 65535 * length s.classes = sum_most count_fields s.classes few_fields in omega (arith, most, sound.few)

  pub methods_fit : all_methods s < 4294967296
  methods_fit = let most : sum (map count_methods s.classes) ≤ 65535 * length s.classes = sum_most count_methods s.classes few_methods in omega (arith, most, sound.few)

module _ (s : State) (c : ClassId) (there : IsClass s c) where
  fields_next : sum (map count_fields (take c.0 s.classes)) ≡ fields_before s c + length (fields_of s c)
  fields_next =
      let r = numbered_in s.classes c.0 there.0 there.1 in
      sum_number count_fields s.classes c.0 r.0 r.1 ∙ ap (λ (o : Option Loaded). fields_before s c + length (option_map_or (λ (x : Loaded). x.declared.fields) o [])) (sym r.1)

  methods_next : sum (map count_methods (take c.0 s.classes)) ≡ methods_before s c + length (methods_of s c)
  methods_next =
      let r = numbered_in s.classes c.0 there.0 there.1 in
      sum_number count_methods s.classes c.0 r.0 r.1 ∙ ap (λ (o : Option Loaded). methods_before s c + length (option_map_or (λ (x : Loaded). x.declared.methods) o [])) (sym r.1)

  -- the members of a class are among all
  pub fields_among : fields_before s c + length (fields_of s c) ≤ all_fields s
  fields_among = subst (λ (n : ℕ). n ≤ all_fields s) fields_next (sum_part count_fields s.classes c.0)

  pub methods_among : methods_before s c + length (methods_of s c) ≤ all_methods s
  methods_among = subst (λ (n : ℕ). n ≤ all_methods s) methods_next (sum_part count_methods s.classes c.0)

  -- the members before the next class
  pub fields_past : fields_before s (record { 0 = c.0 + 1 }) ≡ fields_before s c + length (fields_of s c)
  fields_past = let n : c.0 + 1 - 1 ≡ c.0 = omega arith in ap (λ (k : ℕ). sum (map count_fields (take k s.classes))) n ∙ fields_next

  pub methods_past : methods_before s (record { 0 = c.0 + 1 }) ≡ methods_before s c + length (methods_of s c)
  methods_past = let n : c.0 + 1 - 1 ≡ c.0 = omega arith in ap (λ (k : ℕ). sum (map count_methods (take k s.classes))) n ∙ methods_next

  -- and those up to the last class are all
  pub fields_whole : c.0 ≡ length s.classes → all_fields s ≡ fields_before s c + length (fields_of s c)
  fields_whole e = ap (λ (l : List Loaded). sum (map count_fields l)) (sym (take_whole s.classes)) ∙ ap (λ (k : ℕ). sum (map count_fields (take k s.classes))) (sym e) ∙ fields_next

  pub methods_whole : c.0 ≡ length s.classes → all_methods s ≡ methods_before s c + length (methods_of s c)
  methods_whole e = ap (λ (l : List Loaded). sum (map count_methods l)) (sym (take_whole s.classes)) ∙ ap (λ (k : ℕ). sum (map count_methods (take k s.classes))) (sym e) ∙ methods_next

-- the members of a class that is there
pub field_total : (s : State) (c : ClassId) (x : Loaded) (n : ℕ) → class_at s c ≡ Some x → n ≡ length x.declared.fields → n ≡ length (fields_of s c)
field_total s c x n at is = is ∙ sym (ap (λ (o : Option Loaded). length (option_map_or (λ (y : Loaded). y.declared.fields) o [])) at)

pub method_total : (s : State) (c : ClassId) (x : Loaded) (n : ℕ) → class_at s c ≡ Some x → n ≡ length x.declared.methods → n ≡ length (methods_of s c)
method_total s c x n at is = is ∙ sym (ap (λ (o : Option Loaded). length (option_map_or (λ (y : Loaded). y.declared.methods) o [])) at)

pub no_fields : (s : State) → length s.classes ≡ 0 → all_fields s ≡ 0
no_fields s e = by s.classes e
  where
    by : (xs : List Loaded) → length xs ≡ 0 → sum (map count_fields xs) ≡ 0
    by [] h = refl
    by (x ∷ xs) h = absurd (omega (arith, h))

pub no_methods : (s : State) → length s.classes ≡ 0 → all_methods s ≡ 0
no_methods s e = by s.classes e
  where
    by : (xs : List Loaded) → length xs ≡ 0 → sum (map count_methods xs) ≡ 0
    by [] h = refl
    by (x ∷ xs) h = absurd (omega (arith, h))

-- ---- a number between two classes

-- as many stand before the one class at most, and more before the other
pub record AreAround (before : ClassId → ℕ) (s : State) (f low high : ℕ) : Type 0 where
  pub first : 0 < low
  pub apart : low < high
  pub last : high ≤ length s.classes + 1
  pub from : before (record { 0 = low }) ≤ f
  pub to : f < before (record { 0 = high })

pub around_low : (before : ClassId → ℕ) (s : State) (f low high middle : ℕ) → low < middle → middle < high → before (record { 0 = middle }) ≤ f → AreAround before s f low high → AreAround before s f middle high
around_low before s f low high middle gt lt le a = record { first = omega (arith, gt); apart = lt; last = a.last; from = le; to = a.to }

pub around_high : (before : ClassId → ℕ) (s : State) (f low high middle : ℕ) → low < middle → middle < high → f < before (record { 0 = middle }) → AreAround before s f low high → AreAround before s f low middle
around_high before s f low high middle gt lt past a = let le = a.last in record { first = a.first; apart = gt; last = omega (arith, lt, le); from = a.from; to = past }

pub around_fields : (s : State) (f : ℕ) → f < all_fields s → AreAround (fields_before s) s f 1 (length s.classes + 1)
around_fields s f lt =
    let more : 0 < length s.classes = some s.classes lt in
    record { first = omega arith; apart = omega (arith, more); last = omega arith; from = omega arith; to = subst (λ (n : ℕ). f < n) (sym (whole s.classes)) lt }
  where
    whole : (xs : List Loaded) → sum (map count_fields (take (length xs + 1 - 1) xs)) ≡ sum (map count_fields xs)
    whole xs = let n : length xs + 1 - 1 ≡ length xs = omega arith in ap (λ (k : ℕ). sum (map count_fields (take k xs))) n ∙ ap (λ (l : List Loaded). sum (map count_fields l)) (take_whole xs)

    some : (xs : List Loaded) → f < sum (map count_fields xs) → 0 < length xs
    some [] h = absurd (omega (arith, h))
    some (x ∷ xs) h = omega arith

pub around_methods : (s : State) (f : ℕ) → f < all_methods s → AreAround (methods_before s) s f 1 (length s.classes + 1)
around_methods s f lt =
    let more : 0 < length s.classes = some s.classes lt in
    record { first = omega arith; apart = omega (arith, more); last = omega arith; from = omega arith; to = subst (λ (n : ℕ). f < n) (sym (whole s.classes)) lt }
  where
    whole : (xs : List Loaded) → sum (map count_methods (take (length xs + 1 - 1) xs)) ≡ sum (map count_methods xs)
    whole xs = let n : length xs + 1 - 1 ≡ length xs = omega arith in ap (λ (k : ℕ). sum (map count_methods (take k xs))) n ∙ ap (λ (l : List Loaded). sum (map count_methods l)) (take_whole xs)

    some : (xs : List Loaded) → f < sum (map count_methods xs) → 0 < length xs
    some [] h = absurd (omega (arith, h))
    some (x ∷ xs) h = omega arith

-- where the two are neighbours, the number is one of the first
pub around_class : (before : ClassId → ℕ) (s : State) (f low high : ℕ) → AreAround before s f low high → IsClass s (record { 0 = low })
around_class before s f low high a = let gt = a.first in let lt = a.apart in let le = a.last in (gt, omega (arith, lt, le))

pub past_fields : (s : State) (f low high : ℕ) → high ≤ low + 1 → AreAround (fields_before s) s f low high → f < fields_before s (record { 0 = low }) + length (fields_of s (record { 0 = low }))
past_fields s f low high near a =
    let lt = a.apart in
    let next : high ≡ low + 1 = omega (arith, near, lt) in
    subst (λ (n : ℕ). f < n) (ap (λ (n : ℕ). fields_before s (record { 0 = n })) next ∙ fields_past s (record { 0 = low }) (around_class (fields_before s) s f low high a)) a.to

pub past_methods : (s : State) (f low high : ℕ) → high ≤ low + 1 → AreAround (methods_before s) s f low high → f < methods_before s (record { 0 = low }) + length (methods_of s (record { 0 = low }))
past_methods s f low high near a =
    let lt = a.apart in
    let next : high ≡ low + 1 = omega (arith, near, lt) in
    subst (λ (n : ℕ). f < n) (ap (λ (n : ℕ). methods_before s (record { 0 = n })) next ∙ methods_past s (record { 0 = low }) (around_class (methods_before s) s f low high a)) a.to
