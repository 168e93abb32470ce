-- A class and its superclasses, one by one.
use Rattle.std.proofs.Common.{◌≡◌, ◌+◌, ◌-◌, ◌<◌, ◌≤◌, ◌++◌, ◌&&◌, Bool, true, false, nat_lt, nat_le, length, slice_get, ℕ, zero, suc, List, [], ◌∷◌, drop, map, sum, Option, Some, None, refl, sym, ◌∙◌, ap, arith}
use Rattle.std.proofs.lemmas.List.Sums.{sum_by-cons}
use Rattle.std.proofs.lemmas.Option.{none-some, same_Some, slice_get_within}
use Rattle.std.proofs.lemmas.Bool.{true≢false, lt-ltb, le-leb}
use Rattle.std.specs.Option.{option_map_or}
use Rattle.jl_layer.specs.Layers.{numbered}
use Rattle.jl_heap.specs.declared.value.Kind.{Kind}
use Rattle.jl_loads.specs.Worlds.{Loaded, class_at}
use Rattle.jl_objops.specs.Types.{has_class}
use Rattle.jl_objops.specs.Fields.{declared, hidden, own_kinds}
use Rattle.std.proofs.lemmas.List.{append_assoc, append-nil}
use Rattle.jl_prim.specs.declared.numbers.ClassId.{ClassId}
use Rattle.jl_loads.specs.Worlds.{State, line_by, line_of, super_of}

pub none_of : {X : Type 0} (o : Option X) → ((x : X) → o ≡ Some x → ⊥) → o ≡ None
none_of None h = refl
none_of (Some x) h = absurd (h x refl)

-- no class is left
pub line_ended : (w : State) (n : ℕ) (o : Option ClassId) → n ≡ 0 → line_by n w o ≡ []
unfolding line_by
line_ended w zero None e = refl
line_ended w zero (Some c) e = refl
line_ended w (suc n) o e = absurd (omega (arith, e))

pub line_none : (w : State) (n : ℕ) (o : Option ClassId) → o ≡ None → line_by n w o ≡ []
unfolding line_by
line_none w zero None e = refl
line_none w (suc n) None e = refl
line_none w n (Some c) e = absurd (none-some c (sym e))

-- one class, and the others
pub line_next : (w : State) (n : ℕ) (o : Option ClassId) (c : ClassId) → o ≡ Some c → 0 < n → line_by n w o ≡ c ∷ line_by (n - 1) w (super_of w c)
unfolding line_by
line_next w zero o c e lt = absurd (omega (arith, lt))
line_next w (suc n) None c e lt = absurd (none-some c e)
line_next w (suc n) (Some d) c e lt =
    let less : suc n - 1 ≡ n = omega arith in
    ap (λ (k : ClassId). k ∷ line_by n w (super_of w k)) (same_Some d c e) ∙ ap (λ (m : ℕ). c ∷ line_by m w (super_of w c)) (sym less)

-- the superclasses of a class
pub line_above : (w : State) (c : ClassId) → 0 < c.0 → drop 1 (line_of w c) ≡ line_by (c.0 - 1) w (super_of w c)
line_above w c lt = ap (drop 1) (line_next w c.0 (Some c) c refl lt)

-- two lists that are added one behind the other
pub both_added : {X : Type 0} (xs ys zs : List X) → (xs ++ ys) ++ zs ≡ xs ++ (ys ++ zs)
both_added xs ys zs = append_assoc xs ys zs

module _ (f : ClassId → ℕ) (w : State) where
  pub sum_ended : (n : ℕ) (o : Option ClassId) → n ≡ 0 → sum (map f (line_by n w o)) ≡ 0
  sum_ended n o e = ap (λ (l : List ClassId). sum (map f l)) (line_ended w n o e)

  pub sum_none : (n : ℕ) (o : Option ClassId) → o ≡ None → sum (map f (line_by n w o)) ≡ 0
  sum_none n o e = ap (λ (l : List ClassId). sum (map f l)) (line_none w n o e)

  pub sum_next : (n : ℕ) (o : Option ClassId) (c : ClassId) → o ≡ Some c → 0 < n → sum (map f (line_by n w o)) ≡ f c + sum (map f (line_by (n - 1) w (super_of w c)))
  sum_next n o c e lt = ap (λ (l : List ClassId). sum (map f l)) (line_next w n o c e lt) ∙ sum_by-cons (λ (m : ℕ). m) (f c) (map f (line_by (n - 1) w (super_of w c)))

-- a list to which the classes of a line are added one by one
module _ (w : State) (xs : List ClassId) where
  pub added_next : (n : ℕ) (o : Option ClassId) (c : ClassId) → o ≡ Some c → 0 < n → (xs ++ c ∷ []) ++ line_by (n - 1) w (super_of w c) ≡ xs ++ line_by n w o
  added_next n o c e lt = append_assoc xs (c ∷ []) (line_by (n - 1) w (super_of w c)) ∙ ap (λ (l : List ClassId). xs ++ l) (sym (line_next w n o c e lt))

both_true : (a b n : ℕ) → a < b → b ≤ n → (nat_lt a b && nat_le b n) ≡ true
both_true a b n lt le = ap (λ (x : Bool). x && nat_le b n) (lt-ltb a b lt) ∙ le-leb b n le

-- a class that is not there has no name and declares nothing
absent : {X : Type 0} (xs : List X) (n : ℕ) → (nat_lt 0 n && nat_le n (length xs)) ≡ false → numbered xs n ≡ None
absent xs zero e = refl
absent xs (suc n) e = by (slice_get xs n) refl
  where
    by : (o : Option _) → slice_get xs n ≡ o → slice_get xs n ≡ None
    by None i = i
    by (Some x) i =
        let lt : n < length xs = slice_get_within xs n x i in
        absurd (true≢false (sym (both_true 0 (suc n) (length xs) (omega arith) (omega (arith, lt))) ∙ e))

pub no_kinds : (w : State) (c : ClassId) (ks : List Kind) → has_class w c ≡ false → ks ++ own_kinds w c ≡ ks
no_kinds w c ks e =
    let none : class_at w c ≡ None = absent w.classes c.0 e in
    ap (λ (o : Option Loaded). ks ++ (hidden (option_map_or (λ (x : Loaded). x.declared.name) o []) ++ declared (option_map_or (λ (x : Loaded). x.declared.fields) o []))) none ∙ append-nil ks
