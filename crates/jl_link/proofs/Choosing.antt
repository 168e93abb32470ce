-- Choosing the method that is called.
use Rattle.std.proofs.Common.{◌≡◌, ◌+◌, ◌&&◌, ◌||◌, ℕ, zero, suc, Option, Some, None, Bool, true, false, not, Result, refl, sym, ◌∙◌, ap, ap₂, subst, arith}
use Rattle.std.specs.Prelude.{IfSome}
use Rattle.std.specs.List.{list_any}
use Rattle.std.proofs.lemmas.Option.{none-some}
use Rattle.jl_prim.specs.declared.numbers.ClassId.{ClassId}
use Rattle.jl_prim.specs.declared.numbers.MethodId.{MethodId}
use Rattle.jl_class.specs.Classes.{Class}
use Rattle.jl_class.specs.Meaning.{is_interface}
use Rattle.jl_access.specs.Verdicts.{is_one_package}
use Rattle.jl_loads.specs.Worlds.{State, Loaded, IsClass, class_at, super_of, place_of, is_subtype, line_by}
use Rattle.jl_loads.specs.declared.end.LinkEnd.{LinkEnd}
use Rattle.jl_loads.specs.Ends.{Leaves}
use Rattle.jl_link.specs.declared.member.Member.{Member}
use Rattle.jl_link.specs.Members.{Wanted, is_inherited}
use Rattle.jl_link.specs.Selection.{implements, in_one_package, both_in_one_package, is_seen_from, has_way, overrides_by, select}
use Rattle.jl_link.proofs.Looking.{class_in}

-- ---- one package

both_are : (o p : Option Loaded) (r : Bool) (x y : Loaded) → o ≡ Some x → p ≡ Some y → r ≡ is_one_package (place_of x) (place_of y) → r ≡ both_in_one_package o p
both_are o p r x y e f h = h ∙ sym (ap₂ both_in_one_package e f)

pub one_package_is : (s : State) (c d : ClassId) (r : Bool) → IsClass s c → IsClass s d
    → ((x y : Loaded) → class_at s c ≡ Some x → class_at s d ≡ Some y → r ≡ is_one_package (place_of x) (place_of y)) → r ≡ in_one_package s c d
one_package_is s c d r there here h =
    let x = class_in s c there in
    let y = class_in s d here in
    both_are (class_at s c) (class_at s d) r x.0 y.0 x.1 y.1 (h x.0 y.0 x.1 y.1)

pub no_package : (s : State) (c d : ClassId) → class_at s c ≡ None → in_one_package s c d ≡ false
no_package s c d e = ap (λ (o : Option Loaded). both_in_one_package o (class_at s d)) e

none_of : (o : Option Loaded) → both_in_one_package o None ≡ false
none_of None = refl
none_of (Some x) = refl

pub no_package_either : (s : State) (c d : ClassId) → class_at s d ≡ None → in_one_package s c d ≡ false
no_package_either s c d e = ap (both_in_one_package (class_at s c)) e ∙ none_of (class_at s c)

-- ---- the class that declares the method

given_by : (s : State) (c : ClassId) (m : Member) (o : Option Loaded) (x : Loaded) (d : Class) → o ≡ Some x → IfSome o (λ (x : Loaded). d ≡ x.declared) → (not (is_interface d.flags) || is_subtype s c m.owner) ≡ implements s c m o
given_by s c m None x d e h = absurd (none-some x e)
given_by s c m (Some y) x d e h = ap (λ (k : Class). not (is_interface k.flags) || is_subtype s c m.owner) h

pub implements_is : (s : State) (c : ClassId) (m : Member) (d : Class) → IsClass s m.owner → IfSome (class_at s m.owner) (λ (x : Loaded). d ≡ x.declared) → (not (is_interface d.flags) || is_subtype s c m.owner) ≡ implements s c m (class_at s m.owner)
implements_is s c m d there h = let r = class_in s m.owner there in given_by s c m (class_at s m.owner) r.0 d r.1 h

-- ---- overriding

overrides_suc : (n : ℕ) (s : State) (w : Wanted) (b a : Member) → overrides_by (suc n) s w b a ≡ (is_inherited b.flags && (is_seen_from s a b.owner || has_way (overrides_by n s w) s w b a))
unfolding overrides_by
overrides_suc n s w b a = refl

pub overrides_step : (m n : ℕ) (s : State) (w : Wanted) (b a : Member) → m ≡ n + 1 → overrides_by m s w b a ≡ (is_inherited b.flags && (is_seen_from s a b.owner || has_way (overrides_by n s w) s w b a))
overrides_step m n s w b a e = let deep : m ≡ suc n = omega (arith, e) in ap (λ (k : ℕ). overrides_by k s w b a) deep ∙ overrides_suc n s w b a

pub overrides_nothing : (m : ℕ) (s : State) (w : Wanted) (b a : Member) → m ≡ 0 → overrides_by m s w b a ≡ false
unfolding overrides_by
overrides_nothing m s w b a e = ap (λ (k : ℕ). overrides_by k s w b a) e

and_true : (a b : Bool) → a ≡ true → (a && b) ≡ b
and_true a b e = ap (λ (x : Bool). x && b) e

pub overrides_not : (m : ℕ) (s : State) (w : Wanted) (b a : Member) → is_inherited b.flags ≡ false → overrides_by m s w b a ≡ false
overrides_not zero s w b a e = overrides_nothing 0 s w b a refl
overrides_not (suc n) s w b a e = overrides_suc n s w b a ∙ ap (λ (x : Bool). x && (is_seen_from s a b.owner || has_way (overrides_by n s w) s w b a)) e

pub overrides_seen : (m n : ℕ) (s : State) (w : Wanted) (b a : Member) → m ≡ n + 1 → is_inherited b.flags ≡ true → is_seen_from s a b.owner ≡ true → overrides_by m s w b a ≡ true
overrides_seen m n s w b a deep e f =
    overrides_step m n s w b a deep ∙ and_true (is_inherited b.flags) (is_seen_from s a b.owner || has_way (overrides_by n s w) s w b a) e
    ∙ ap (λ (x : Bool). x || has_way (overrides_by n s w) s w b a) f

pub overrides_far : (m n : ℕ) (s : State) (w : Wanted) (b a : Member) → m ≡ n + 1 → is_inherited b.flags ≡ true → is_seen_from s a b.owner ≡ false → overrides_by m s w b a ≡ has_way (overrides_by n s w) s w b a
overrides_far m n s w b a deep e f =
    overrides_step m n s w b a deep ∙ and_true (is_inherited b.flags) (is_seen_from s a b.owner || has_way (overrides_by n s w) s w b a) e
    ∙ ap (λ (x : Bool). x || has_way (overrides_by n s w) s w b a) f

-- ---- a class and its superclasses

module _ (p : ClassId → Bool) (s : State) where
  pub any_nothing : (m : ℕ) (o : Option ClassId) → m ≡ 0 → list_any p (line_by m s o) ≡ false
  unfolding line_by
  any_nothing m None e = ap (λ (k : ℕ). list_any p (line_by k s None)) e
  any_nothing m (Some c) e = ap (λ (k : ℕ). list_any p (line_by k s (Some c))) e

  any_top : (m : ℕ) → list_any p (line_by m s None) ≡ false
  unfolding line_by
  any_top zero = refl
  any_top (suc n) = refl

  pub any_ends : (m : ℕ) (o : Option ClassId) → o ≡ None → list_any p (line_by m s o) ≡ false
  any_ends m o e = ap (λ (o : Option ClassId). list_any p (line_by m s o)) e ∙ any_top m

  any_suc : (n : ℕ) (c : ClassId) → list_any p (line_by (suc n) s (Some c)) ≡ (p c || list_any p (line_by n s (super_of s c)))
  unfolding line_by
  any_suc n c = refl

  pub any_at : (m n : ℕ) (o : Option ClassId) (c : ClassId) → o ≡ Some c → m ≡ n + 1 → list_any p (line_by m s o) ≡ (p c || list_any p (line_by n s (super_of s c)))
  any_at m n o c is deep = let deeper : m ≡ suc n = omega (arith, deep) in ap₂ (λ (k : ℕ) (o : Option ClassId). list_any p (line_by k s o)) deeper is ∙ any_suc n c

  pub any_found : (m n : ℕ) (o : Option ClassId) (c : ClassId) → o ≡ Some c → m ≡ n + 1 → p c ≡ true → list_any p (line_by m s o) ≡ true
  any_found m n o c is deep e = any_at m n o c is deep ∙ ap (λ (b : Bool). b || list_any p (line_by n s (super_of s c))) e

  pub any_goes : (m n : ℕ) (o : Option ClassId) (c : ClassId) → o ≡ Some c → m ≡ n + 1 → p c ≡ false → list_any p (line_by m s o) ≡ list_any p (line_by n s (super_of s c))
  any_goes m n o c is deep e = any_at m n o c is deep ∙ ap (λ (b : Bool). b || list_any p (line_by n s (super_of s c))) e

-- ---- the owner of a method

pub same_answer : (s : State) (class c d : ClassId) (at bt : ℕ) (r : Result MethodId LinkEnd) → (c ≡ d) × (at ≡ bt) → Leaves (select s class c at) r s → Leaves (select s class d bt) r s
same_answer s class c d at bt r e h = subst (λ (k : ClassId). Leaves (select s class k bt) r s) e.0 (subst (λ (n : ℕ). Leaves (select s class c n) r s) e.1 h)
