-- A number of a member is that of one member.
use Rattle.std.proofs.Common.{◌≡◌, ◌<◌, ◌+◌, ◌-◌, ℕ, zero, suc, List, [], length, map, take, Option, Some, sym, ◌∙◌, ap, subst, arith, sum}
use Rattle.std.specs.Option.{option_map_or}
use Rattle.jl_prim.specs.declared.numbers.ClassId.{ClassId}
use Rattle.jl_prim.specs.declared.numbers.FieldId.{FieldId}
use Rattle.jl_prim.specs.declared.numbers.MethodId.{MethodId}
use Rattle.jl_layer.specs.Layers.{numbered}
use Rattle.jl_loads.specs.Worlds.{State, Loaded, IsFieldOf, IsMethodOf}
use Rattle.jl_loads.specs.Laws.{NumbersNameOneMember}
use Rattle.jl_loads.proofs.Entries.{one_place}
use Rattle.jl_loads.proofs.Places.{numbered_in}

less_one : (n : ℕ) → suc n - 1 ≡ n
less_one n = omega arith

-- places are numbers less one
one_number : (g : Loaded → ℕ) (xs : List Loaded) (m n : ℕ) (x y : Loaded) (a b : ℕ) → 0 < m → 0 < n → numbered xs m ≡ Some x → numbered xs n ≡ Some y → a < g x → b < g y
    → sum (map g (take (m - 1) xs)) + a ≡ sum (map g (take (n - 1) xs)) + b → (m ≡ n) × (a ≡ b)
one_number g xs zero n x y a b pos more e f lt less same = absurd (omega arith)
one_number g xs (suc m) zero x y a b pos more e f lt less same = absurd (omega arith)
one_number g xs (suc m) (suc n) x y a b pos more e f lt less same =
    let before : (k : ℕ) → sum (map g (take (suc k - 1) xs)) ≡ sum (map g (take k xs)) = λ k. ap (λ (i : ℕ). sum (map g (take i xs))) (less_one k) in
    let r = one_place g xs m n x y a b e f lt less (ap (λ (i : ℕ). i + a) (sym (before m)) ∙ same ∙ ap (λ (i : ℕ). i + b) (before n)) in
    (ap suc r.0, r.1)

same_class : (c d : ClassId) → c.0 ≡ d.0 → c ≡ d
same_class c d e = ap (λ (n : ℕ). let k : ClassId = record { 0 = n } in k) e

one_field : (s : State) (f : FieldId) (c d : ClassId) (at bt : ℕ) → IsFieldOf s f c at → IsFieldOf s f d bt → (c ≡ d) × (at ≡ bt)
one_field s f c d at bt h k =
    let x = numbered_in s.classes c.0 h.class.0 h.class.1 in
    let y = numbered_in s.classes d.0 k.class.0 k.class.1 in
    let lt : at < length x.0.declared.fields = subst (λ (o : Option Loaded). at < length (option_map_or (λ (z : Loaded). z.declared.fields) o [])) x.1 h.within in
    let less : bt < length y.0.declared.fields = subst (λ (o : Option Loaded). bt < length (option_map_or (λ (z : Loaded). z.declared.fields) o [])) y.1 k.within in
    let r = one_number (λ (z : Loaded). length z.declared.fields) s.classes c.0 d.0 x.0 y.0 at bt h.class.0 k.class.0 x.1 y.1 lt less (ap (λ (i : FieldId). i.0) (h.number ∙ sym k.number)) in
    (same_class c d r.0, r.1)

one_method : (s : State) (m : MethodId) (c d : ClassId) (at bt : ℕ) → IsMethodOf s m c at → IsMethodOf s m d bt → (c ≡ d) × (at ≡ bt)
one_method s m c d at bt h k =
    let x = numbered_in s.classes c.0 h.class.0 h.class.1 in
    let y = numbered_in s.classes d.0 k.class.0 k.class.1 in
    let lt : at < length x.0.declared.methods = subst (λ (o : Option Loaded). at < length (option_map_or (λ (z : Loaded). z.declared.methods) o [])) x.1 h.within in
    let less : bt < length y.0.declared.methods = subst (λ (o : Option Loaded). bt < length (option_map_or (λ (z : Loaded). z.declared.methods) o [])) y.1 k.within in
    let r = one_number (λ (z : Loaded). length z.declared.methods) s.classes c.0 d.0 x.0 y.0 at bt h.class.0 k.class.0 x.1 y.1 lt less (ap (λ (i : MethodId). i.0) (h.number ∙ sym k.number)) in
    (same_class c d r.0, r.1)

pub numbers_lem : NumbersNameOneMember
numbers_lem = record { fields = one_field; methods = one_method }
