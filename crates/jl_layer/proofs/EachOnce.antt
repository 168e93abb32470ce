-- A search among the layers above one meets the same where each stands once (`ModuleLayer.findModule`).
use Rattle.std.proofs.Common.{◌≡◌, ◌||◌, List, [], ◌∷◌, ◌++◌, Option, Some, None, Bool, true, false, true≢false, if◌then◌else◌, eqb-true, eq-eqb, refl, sym, ◌∙◌, ap}
use Rattle.std.specs.List.{list_any}
use Rattle.std.specs.Option.{option_or}
use Rattle.jl_prim.specs.declared.numbers.LayerId.{LayerId}
use Rattle.jl_layer.specs.Layers.{first_given}
use Rattle.jl_layer.specs.Lines.{is_layer, with_layer, joined}
use Rattle.jl_layer.proofs.Added.{same_layer}

-- ---- options, one behind the other

or_none : {X : Type 0} (o : Option X) → option_or o None ≡ o
or_none None = refl
or_none (Some x) = refl

or_again : {X : Type 0} (o p : Option X) → option_or (option_or o p) o ≡ option_or o p
or_again None p = or_none p
or_again (Some x) p = refl

or_assoc : {X : Type 0} (o p r : Option X) → option_or (option_or o p) r ≡ option_or o (option_or p r)
or_assoc None p r = refl
or_assoc (Some x) p r = refl

-- ---- which layers are among some

any_append : (f : LayerId → Bool) (xs ys : List LayerId) → list_any f xs ≡ true → list_any f (xs ++ ys) ≡ true
any_append f [] ys e = absurd (true≢false (sym e))
any_append f (x ∷ xs) ys e = by (f x) e (any_append f xs ys)
  where
    by : (b : Bool) → (b || list_any f xs) ≡ true → (list_any f xs ≡ true → list_any f (xs ++ ys) ≡ true) → (b || list_any f (xs ++ ys)) ≡ true
    by true i more = refl
    by false i more = more i

any_last : (f : LayerId → Bool) (xs : List LayerId) (y : LayerId) → f y ≡ true → list_any f (xs ++ y ∷ []) ≡ true
any_last f [] y e = ap (λ (b : Bool). b || false) e
any_last f (x ∷ xs) y e = by (f x) (any_last f xs y e)
  where
    by : (b : Bool) → list_any f (xs ++ y ∷ []) ≡ true → (b || list_any f (xs ++ y ∷ [])) ≡ true
    by true i = refl
    by false i = i

pub with_itself : (ls : List LayerId) (k : LayerId) → list_any (is_layer k) (with_layer ls k) ≡ true
with_itself ls k = by (list_any (is_layer k) ls) refl
  where
    by : (b : Bool) → list_any (is_layer k) ls ≡ b → list_any (is_layer k) (if b then ls else ls ++ k ∷ []) ≡ true
    by true e = e
    by false e = any_last (is_layer k) ls k (eq-eqb k.0 k.0 refl)

with_known : (ls : List LayerId) (j k : LayerId) → list_any (is_layer k) ls ≡ true → list_any (is_layer k) (with_layer ls j) ≡ true
with_known ls j k e = by (list_any (is_layer j) ls)
  where
    by : (b : Bool) → list_any (is_layer k) (if b then ls else ls ++ j ∷ []) ≡ true
    by true = e
    by false = any_append (is_layer k) ls (j ∷ []) e

joined_known : (ls ks : List LayerId) (k : LayerId) → list_any (is_layer k) ls ≡ true → list_any (is_layer k) (joined ls ks) ≡ true
joined_known ls [] k e = e
joined_known ls (j ∷ ks) k e = joined_known (with_layer ls j) ks k (with_known ls j k e)

joined_has : (ls ks : List LayerId) (k : LayerId) → list_any (is_layer k) ks ≡ true → list_any (is_layer k) (joined ls ks) ≡ true
joined_has ls [] k e = absurd (true≢false (sym e))
joined_has ls (j ∷ ks) k e = by (is_layer k j) refl e (joined_has (with_layer ls j) ks k)
  where
    by : (b : Bool) → is_layer k j ≡ b → (b || list_any (is_layer k) ks) ≡ true → (list_any (is_layer k) ks ≡ true → list_any (is_layer k) (joined (with_layer ls j) ks) ≡ true) → list_any (is_layer k) (joined (with_layer ls j) ks) ≡ true
    by true i f more =
        let same : j ≡ k = same_layer j k (eqb-true j.0 k.0 i) in
        joined_known (with_layer ls j) ks k (ap (λ (x : LayerId). list_any (is_layer x) (with_layer ls j)) (sym same) ∙ with_itself ls j)
    by false i f more = more f

-- ---- joining

pub joined_append : (ls xs ys : List LayerId) → joined ls (xs ++ ys) ≡ joined (joined ls xs) ys
joined_append ls [] ys = refl
joined_append ls (x ∷ xs) ys = joined_append (with_layer ls x) xs ys

joined_with : (ls ms : List LayerId) (k : LayerId) → joined ls (with_layer ms k) ≡ with_layer (joined ls ms) k
joined_with ls ms k = by (list_any (is_layer k) ms) refl
  where
    by : (b : Bool) → list_any (is_layer k) ms ≡ b → joined ls (if b then ms else ms ++ k ∷ []) ≡ with_layer (joined ls ms) k
    by true e = sym (ap (λ (b : Bool). if b then joined ls ms else joined ls ms ++ k ∷ []) (joined_has ls ms k e))
    by false e = joined_append ls ms (k ∷ [])

-- what stands once already is joined alike
pub joined_once : (ls ms ks : List LayerId) → joined ls (joined ms ks) ≡ joined (joined ls ms) ks
joined_once ls ms [] = refl
joined_once ls ms (k ∷ ks) = joined_once ls (with_layer ms k) ks ∙ ap (λ (x : List LayerId). joined x ks) (joined_with ls ms k)

-- ---- what is met first

module _ {Y : Type 0} (f : LayerId → Option Y) where
  pub first_append : (ls ks : List LayerId) → first_given f (ls ++ ks) ≡ option_or (first_given f ls) (first_given f ks)
  first_append [] ks = refl
  first_append (l ∷ ls) ks = ap (option_or (f l)) (first_append ls ks) ∙ sym (or_assoc (f l) (first_given f ls) (first_given f ks))

  first_known : (ls : List LayerId) (k : LayerId) → list_any (is_layer k) ls ≡ true → option_or (first_given f ls) (f k) ≡ first_given f ls
  first_known [] k e = absurd (true≢false (sym e))
  first_known (l ∷ ls) k e = by (is_layer k l) refl e (first_known ls k)
    where
      by : (b : Bool) → is_layer k l ≡ b → (b || list_any (is_layer k) ls) ≡ true → (list_any (is_layer k) ls ≡ true → option_or (first_given f ls) (f k) ≡ first_given f ls)
          → option_or (option_or (f l) (first_given f ls)) (f k) ≡ option_or (f l) (first_given f ls)
      by true i g more =
          let same : k ≡ l = sym (same_layer l k (eqb-true l.0 k.0 i)) in
          ap (λ (x : LayerId). option_or (option_or (f l) (first_given f ls)) (f x)) same ∙ or_again (f l) (first_given f ls)
      by false i g more = or_assoc (f l) (first_given f ls) (f k) ∙ ap (option_or (f l)) (more g)

  first_with : (ls : List LayerId) (k : LayerId) → first_given f (with_layer ls k) ≡ option_or (first_given f ls) (f k)
  first_with ls k = by (list_any (is_layer k) ls) refl
    where
      by : (b : Bool) → list_any (is_layer k) ls ≡ b → first_given f (if b then ls else ls ++ k ∷ []) ≡ option_or (first_given f ls) (f k)
      by true e = sym (first_known ls k e)
      by false e = first_append ls (k ∷ []) ∙ ap (option_or (first_given f ls)) (or_none (f k))

  pub first_joined : (ls ks : List LayerId) → first_given f (joined ls ks) ≡ option_or (first_given f ls) (first_given f ks)
  first_joined ls [] = sym (or_none (first_given f ls))
  first_joined ls (k ∷ ks) =
      first_joined (with_layer ls k) ks
      ∙ ap (λ (o : Option Y). option_or o (first_given f ks)) (first_with ls k)
      ∙ or_assoc (first_given f ls) (f k) (first_given f ks)
