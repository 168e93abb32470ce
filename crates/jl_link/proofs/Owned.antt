-- The owner of a member by its number.
use Rattle.std.proofs.Common.{◌≡◌, ◌<◌, ◌≤◌, ◌+◌, ◌-◌, ℕ, zero, suc, List, [], ◌∷◌, length, map, take, sum, slice_get, Bool, true, false, cond, Option, Some, None, nat_lt, refl, sym, ◌∙◌, ap, subst, arith}
use Rattle.std.specs.Option.{option_map_or}
use Rattle.std.proofs.lemmas.Bool.{lt-ltb, ltb-true, false≢true}
use Rattle.std.proofs.lemmas.List.Sums.{sum_by-cons}
use Rattle.std.proofs.lemmas.Option.{none-some, same_Some}
use Rattle.jl_prim.specs.declared.numbers.ClassId.{ClassId}
use Rattle.jl_prim.specs.declared.numbers.FieldId.{FieldId}
use Rattle.jl_prim.specs.declared.numbers.MethodId.{MethodId}
use Rattle.jl_layer.specs.Layers.{numbered}
use Rattle.jl_loads.specs.Worlds.{State, Loaded, IsFieldOf, IsMethodOf, fields_of, methods_of}
use Rattle.jl_link.specs.Owners.{owner_in, field_owner, method_owner}
use Rattle.jl_layer.proofs.Listed.{numbered_in}

abbrev class : ℕ → ClassId
class n = record { 0 = n }

before : (count : Loaded → ℕ) (y : Loaded) (ys : List Loaded) (j : ℕ) → sum (map count (take (suc j) (y ∷ ys))) ≡ count y + sum (map count (take j ys))
before count y ys j = sum_by-cons (λ (m : ℕ). m) (count y) (map count (take j ys))

module _ (count : Loaded → ℕ) where
  owned : (xs : List Loaded) (k j at n : ℕ) (x : Loaded) → slice_get xs j ≡ Some x → at < count x → n ≡ sum (map count (take j xs)) + at → owner_in count (class k) xs n ≡ Some (class (k + j), at)
  unfolding owner_in
  owned [] k j at n x e lt is = absurd (none-some x e)
  owned (y ∷ ys) k zero at n x e lt is =
      let same : n ≡ at = omega (arith, is) in
      let less : n < count y = subst (λ (z : Loaded). n < count z) (sym (same_Some y x e)) (subst (λ (m : ℕ). m < count x) (sym same) lt) in
      by (nat_lt n (count y)) (lt-ltb n (count y) less)
    where
      by : (b : Bool) → b ≡ true → cond b (Some (class k, n)) (owner_in count (class (k + 1)) ys (n - count y)) ≡ Some (class (k + 0), at)
      by true i = let none : k ≡ k + 0 = omega arith in ap (λ (m : ℕ). Some (class k, m)) same ∙ ap (λ (m : ℕ). Some (class m, at)) none
        where
          same : n ≡ at
          same = omega (arith, is)
      by false i = absurd (false≢true i)
  owned (y ∷ ys) k (suc j) at n x e lt is = by (nat_lt n (count y)) refl (owned ys (k + 1) j at (n - count y) x e lt (omega (arith, is, before count y ys j)))
    where
      next : k + 1 + j ≡ k + suc j
      next = omega arith

      by : (b : Bool) → nat_lt n (count y) ≡ b → owner_in count (class (k + 1)) ys (n - count y) ≡ Some (class (k + 1 + j), at)
          → cond b (Some (class k, n)) (owner_in count (class (k + 1)) ys (n - count y)) ≡ Some (class (k + suc j), at)
      by true i h = let less : n < count y = ltb-true n (count y) i in absurd (omega (arith, is, before count y ys j, less))
      by false i h = h ∙ ap (λ (m : ℕ). Some (class m, at)) next

  owned_at : (xs : List Loaded) (n at : ℕ) (x : Loaded) → numbered xs n ≡ Some x → at < count x → owner_in count (class 1) xs (sum (map count (take (n - 1) xs)) + at) ≡ Some (class n, at)
  owned_at xs zero at x e lt = absurd (none-some x e)
  owned_at xs (suc n) at x e lt = let less : suc n - 1 ≡ n = omega arith in owned xs 1 n at _ x e lt (ap (λ (m : ℕ). sum (map count (take m xs)) + at) less) ∙ ap (λ (m : ℕ). Some (class m, at)) (let one : 1 + n ≡ suc n = omega arith in one)

pub field_owned : (s : State) (f : FieldId) (c : ClassId) (at : ℕ) → IsFieldOf s f c at → field_owner s f ≡ Some (c, at)
field_owned s f c at h =
    let x = numbered_in s.classes c.0 h.class.0 h.class.1 in
    let lt : at < length x.0.declared.fields = subst (λ (o : Option Loaded). at < length (option_map_or (λ (z : Loaded). z.declared.fields) o [])) x.1 h.within in
    subst (λ (g : FieldId). field_owner s g ≡ Some (c, at)) h.number (owned_at (λ (z : Loaded). length z.declared.fields) s.classes c.0 at x.0 x.1 lt)

pub method_owned : (s : State) (m : MethodId) (c : ClassId) (at : ℕ) → IsMethodOf s m c at → method_owner s m ≡ Some (c, at)
method_owned s m c at h =
    let x = numbered_in s.classes c.0 h.class.0 h.class.1 in
    let lt : at < length x.0.declared.methods = subst (λ (o : Option Loaded). at < length (option_map_or (λ (z : Loaded). z.declared.methods) o [])) x.1 h.within in
    subst (λ (g : MethodId). method_owner s g ≡ Some (c, at)) h.number (owned_at (λ (z : Loaded). length z.declared.methods) s.classes c.0 at x.0 x.1 lt)

pub field_owned_by : (s : State) (f : FieldId) (p : ClassId × ℕ) → IsFieldOf s f p.0 p.1 → field_owner s f ≡ Some p
field_owned_by s f (c, at) h = field_owned s f c at h

pub method_owned_by : (s : State) (m : MethodId) (p : ClassId × ℕ) → IsMethodOf s m p.0 p.1 → method_owner s m ≡ Some p
method_owned_by s m (c, at) h = method_owned s m c at h
