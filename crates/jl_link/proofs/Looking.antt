-- What a look-up finds is there, and a field is found in as many steps as the number of the class.
use Rattle.std.proofs.Common.{◌≡◌, ◌+◌, ◌-◌, ◌<◌, ◌≤◌, ◌⊎◌, ℕ, zero, suc, List, [], ◌∷◌, length, option_map, slice_get, Option, Some, None, inl, inr, refl, sym, ◌∙◌, ap, ap₂, subst, arith}
use Rattle.std.specs.Prelude.{Contains, IfSome}
use Rattle.std.specs.List.{position}
use Rattle.std.specs.Option.{option_map_or, option_and_then, option_or}
use Rattle.std.proofs.lemmas.Option.{none-some, same_Some, slice_get_within}
use Rattle.jl_logic.proofs.Rising.{contains_head, contains_tail, contains_nothing}
use Rattle.jl_prim.specs.declared.numbers.ClassId.{ClassId}
use Rattle.jl_class.specs.Classes.{Class}
use Rattle.jl_class.specs.declared.member.FieldDecl.{FieldDecl}
use Rattle.jl_class.specs.declared.member.MethodDecl.{MethodDecl}
use Rattle.jl_layer.specs.Layers.{numbered}
use Rattle.jl_loads.specs.Worlds.{State, Loaded, IsClass, class_at, super_of, interfaces_of, line_by}
use Rattle.jl_loads.specs.Laws.{AreSound}
use Rattle.jl_link.specs.declared.member.Member.{Member}
use Rattle.jl_link.specs.Members.{Wanted, IsFieldThere, IsMethodThere, first_given, is_field, field_at, field_in, own_field, field_by, field_of, is_method, method_at, method_in, own_method}

-- ---- optional values

module _ {X : Type 0} where
  pub or_some : (a b : Option X) (x : X) → option_or a b ≡ Some x → (a ≡ Some x) ⊎ (b ≡ Some x)
  or_some None b x e = inr e
  or_some (Some y) b x e = inl e

  pub numbered_there : (xs : List X) (n : ℕ) (x : X) → numbered xs n ≡ Some x → (0 < n) × (n ≤ length xs)
  numbered_there xs zero x e = absurd (none-some x e)
  numbered_there xs (suc n) x e = let lt : n < length xs = slice_get_within xs n x e in (omega arith, omega arith)

  slice_get_in : (xs : List X) (n : ℕ) → n < length xs → (x : X) × (slice_get xs n ≡ Some x)
  slice_get_in [] n lt = absurd (omega arith)
  slice_get_in (x ∷ xs) zero lt = (x, refl)
  slice_get_in (x ∷ xs) (suc n) lt = slice_get_in xs n (omega arith)

module _ {X Y : Type 0} where
  pub then_some : (f : X → Option Y) (o : Option X) (y : Y) → option_and_then f o ≡ Some y → (x : X) × (o ≡ Some x) × (f x ≡ Some y)
  then_some f None y e = absurd (none-some y e)
  then_some f (Some x) y e = (x, refl, e)

  pub map_some : (f : X → Y) (o : Option X) (y : Y) → option_map f o ≡ Some y → (x : X) × (o ≡ Some x) × (f x ≡ y)
  map_some f None y e = absurd (none-some y e)
  map_some f (Some x) y e = (x, refl, same_Some (f x) y e)

  pub first_some : (f : X → Option Y) (xs : List X) (y : Y) → first_given f xs ≡ Some y → (x : X) × (f x ≡ Some y)
  first_some f [] y e = absurd (none-some y e)
  first_some f (x ∷ xs) y e = elim (or_some (f x) (first_given f xs) y e) [
    | inl i ↦ (x, i)
    | inr i ↦ first_some f xs y i
  ]

  pub then_alike : (f g : X → Option Y) (o : Option X) → ((x : X) → o ≡ Some x → f x ≡ g x) → option_and_then f o ≡ option_and_then g o
  then_alike f g None h = refl
  then_alike f g (Some x) h = h x refl

  pub first_alike : (f g : X → Option Y) (xs : List X) → ((x : X) → Contains xs x → f x ≡ g x) → first_given f xs ≡ first_given g xs
  first_alike f g [] h = refl
  first_alike f g (x ∷ xs) h = ap₂ option_or (h x (contains_head x xs)) (first_alike f g xs (λ y c. h y (contains_tail x y xs c)))

-- ---- a class and its superclasses

module _ (f : ClassId → Option Member) (s : State) where
  pub line_nothing : (m : ℕ) (o : Option ClassId) → m ≡ 0 → first_given f (line_by m s o) ≡ None
  unfolding line_by
  line_nothing m None e = ap (λ (k : ℕ). first_given f (line_by k s None)) e
  line_nothing m (Some c) e = ap (λ (k : ℕ). first_given f (line_by k s (Some c))) e

  line_top : (m : ℕ) → first_given f (line_by m s None) ≡ None
  unfolding line_by
  line_top zero = refl
  line_top (suc n) = refl

  -- no class is left
  pub line_ends : (m : ℕ) (o : Option ClassId) → o ≡ None → first_given f (line_by m s o) ≡ None
  line_ends m o e = ap (λ (o : Option ClassId). first_given f (line_by m s o)) e ∙ line_top m

  line_suc : (n : ℕ) (c : ClassId) → first_given f (line_by (suc n) s (Some c)) ≡ option_or (f c) (first_given f (line_by n s (super_of s c)))
  unfolding line_by
  line_suc n c = refl

  -- the class at hand, and those above it
  pub line_at : (m n : ℕ) (o : Option ClassId) (c : ClassId) → o ≡ Some c → m ≡ n + 1 → first_given f (line_by m s o) ≡ option_or (f c) (first_given f (line_by n s (super_of s c)))
  line_at m n o c is deep =
      let deeper : m ≡ suc n = omega (arith, deep) in
      ap₂ (λ (k : ℕ) (o : Option ClassId). first_given f (line_by k s o)) deeper is ∙ line_suc n c

  pub line_found : (m n : ℕ) (o : Option ClassId) (c : ClassId) (x : Member) → o ≡ Some c → m ≡ n + 1 → f c ≡ Some x → first_given f (line_by m s o) ≡ Some x
  line_found m n o c x is deep e = line_at m n o c is deep ∙ ap (λ (a : Option Member). option_or a (first_given f (line_by n s (super_of s c)))) e

  pub line_goes : (m n : ℕ) (o : Option ClassId) (c : ClassId) → o ≡ Some c → m ≡ n + 1 → f c ≡ None → first_given f (line_by m s o) ≡ first_given f (line_by n s (super_of s c))
  line_goes m n o c is deep e = line_at m n o c is deep ∙ ap (λ (a : Option Member). option_or a (first_given f (line_by n s (super_of s c)))) e

-- ---- what a class declares

pub class_in : (s : State) (c : ClassId) → IsClass s c → (x : Loaded) × (class_at s c ≡ Some x)
class_in s c there =
    let lt : c.0 - 1 < length s.classes = omega (arith, there.0, there.1) in
    let deep : c.0 ≡ suc (c.0 - 1) = omega (arith, there.0) in
    let r = slice_get_in s.classes (c.0 - 1) lt in
    (r.0, ap (numbered s.classes) deep ∙ r.1)

given_by : {Y : Type 0} (o : Option Loaded) (d : Class) (f : Class → Option Y) (x : Loaded) → o ≡ Some x → IfSome o (λ (x : Loaded). d ≡ x.declared) → f d ≡ option_and_then (λ (x : Loaded). f x.declared) o
given_by None d f x e h = absurd (none-some x e)
given_by (Some y) d f x e h = ap f h

pub own_field_is : (s : State) (w : Wanted) (c : ClassId) (d : Class) → IsClass s c → IfSome (class_at s c) (λ (x : Loaded). d ≡ x.declared) → field_in w c d.fields ≡ own_field s w c
own_field_is s w c d there h = let r = class_in s c there in given_by (class_at s c) d (λ (k : Class). field_in w c k.fields) r.0 r.1 h

pub own_method_is : (s : State) (w : Wanted) (c : ClassId) (d : Class) → IsClass s c → IfSome (class_at s c) (λ (x : Loaded). d ≡ x.declared) → method_in w c d.methods ≡ own_method s w c
own_method_is s w c d there h = let r = class_in s c there in given_by (class_at s c) d (λ (k : Class). method_in w c k.methods) r.0 r.1 h

-- ---- what is found is there

pub own_field_there : (s : State) (w : Wanted) (c : ClassId) (m : Member) → own_field s w c ≡ Some m → IsFieldThere s m
own_field_there s w c m e =
    let r = then_some (λ (x : Loaded). field_in w c x.declared.fields) (class_at s c) m e in
    let p = then_some (field_at c r.0.declared.fields) (position (is_field w) r.0.declared.fields) m r.2 in
    let f = map_some (λ (f : FieldDecl). let m : Member = record { owner = c; at = p.0; flags = f.flags } in m) (slice_get r.0.declared.fields p.0) m p.2 in
    let lt : p.0 < length r.0.declared.fields = slice_get_within r.0.declared.fields p.0 f.0 f.1 in
    subst (IsFieldThere s) f.2 (record {
      class = numbered_there s.classes c.0 r.0 r.1;
      at = subst (λ (o : Option Loaded). p.0 < length (option_map_or (λ (x : Loaded). x.declared.fields) o [])) (sym r.1) lt;
    })

pub own_method_there : (s : State) (w : Wanted) (c : ClassId) (m : Member) → own_method s w c ≡ Some m → IsMethodThere s m
own_method_there s w c m e =
    let r = then_some (λ (x : Loaded). method_in w c x.declared.methods) (class_at s c) m e in
    let p = then_some (method_at c r.0.declared.methods) (position (is_method w) r.0.declared.methods) m r.2 in
    let f = map_some (λ (f : MethodDecl). let m : Member = record { owner = c; at = p.0; flags = f.flags } in m) (slice_get r.0.declared.methods p.0) m p.2 in
    let lt : p.0 < length r.0.declared.methods = slice_get_within r.0.declared.methods p.0 f.0 f.1 in
    subst (IsMethodThere s) f.2 (record {
      class = numbered_there s.classes c.0 r.0 r.1;
      at = subst (λ (o : Option Loaded). p.0 < length (option_map_or (λ (x : Loaded). x.declared.methods) o [])) (sym r.1) lt;
    })

field_by_there : (n : ℕ) (s : State) (w : Wanted) (c : ClassId) (m : Member) → field_by n s w c ≡ Some m → IsFieldThere s m
unfolding field_by
field_by_there zero s w c m e = absurd (none-some m e)
field_by_there (suc n) s w c m e = elim (or_some (own_field s w c) (option_or (first_given (field_by n s w) (interfaces_of s c)) (option_and_then (field_by n s w) (super_of s c))) m e) [
  | inl i ↦ own_field_there s w c m i
  | inr i ↦ elim (or_some (first_given (field_by n s w) (interfaces_of s c)) (option_and_then (field_by n s w) (super_of s c)) m i) [
    | inl j ↦ let r = first_some (field_by n s w) (interfaces_of s c) m j in field_by_there n s w r.0 m r.1
    | inr j ↦ let r = then_some (field_by n s w) (super_of s c) m j in field_by_there n s w r.0 m r.2
  ]
]

pub field_there : (s : State) (w : Wanted) (c : ClassId) (m : Member) → field_of s c w ≡ Some m → IsFieldThere s m
field_there s w c m e = field_by_there c.0 s w c m e

-- ---- the number of a class is enough of steps

module _ (s : State) (w : Wanted) where
  field_suc : (n : ℕ) (c : ClassId) → field_by (suc n) s w c ≡ option_or (own_field s w c) (option_or (first_given (field_by n s w) (interfaces_of s c)) (option_and_then (field_by n s w) (super_of s c)))
  unfolding field_by
  field_suc n c = refl

  field_absent : (n : ℕ) (c : ClassId) → class_at s c ≡ None → field_by n s w c ≡ None
  unfolding field_by
  field_absent zero c e = refl
  field_absent (suc n) c e =
      ap (λ (o : Option Loaded). option_or (option_and_then (λ (x : Loaded). field_in w c x.declared.fields) o)
      (option_or (first_given (field_by n s w) (option_map_or (λ (x : Loaded). x.interfaces) o [])) (option_and_then (field_by n s w) (option_and_then (λ (x : Loaded). x.super) o)))) e

  field_nowhere : (n : ℕ) (c : ClassId) → c.0 ≡ 0 → field_by n s w c ≡ None
  field_nowhere n c e = field_absent n c (ap (numbered s.classes) e)

  module _ (sound : AreSound s) where
    pub interface_in : (c d : ClassId) (o : Option Loaded) → class_at s c ≡ o → Contains (option_map_or (λ (x : Loaded). x.interfaces) o []) d → (0 < d.0) × (d.0 < c.0) × (d.0 ≤ length s.classes)
    interface_in c d None e h = contains_nothing d h
    interface_in c d (Some x) e h =
        let k = (sound.classes c x e).interfaces d h in
        let t = numbered_there s.classes c.0 x e in
        (k.0, k.1, omega (arith, k.1, t.1))

    pub super_in : (c d : ClassId) (o : Option Loaded) → class_at s c ≡ o → option_and_then (λ (x : Loaded). x.super) o ≡ Some d → (0 < d.0) × (d.0 < c.0) × (d.0 ≤ length s.classes)
    super_in c d None e h = absurd (none-some d h)
    super_in c d (Some x) e h =
        let k = (sound.classes c x e).super d h in
        let t = numbered_there s.classes c.0 x e in
        (k.0, k.1, omega (arith, k.1, t.1))

    field_alike : (n m : ℕ) (c : ClassId) → c.0 ≤ n → c.0 ≤ m → field_by n s w c ≡ field_by m s w c
    field_alike zero m c l k = let e : c.0 ≡ 0 = omega (arith, l) in field_nowhere zero c e ∙ sym (field_nowhere m c e)
    field_alike (suc n) zero c l k = let e : c.0 ≡ 0 = omega (arith, k) in field_nowhere (suc n) c e ∙ sym (field_nowhere zero c e)
    field_alike (suc n) (suc m) c l k =
        field_suc n c
        ∙ ap₂ (λ (a b : Option Member). option_or (own_field s w c) (option_or a b))
        (first_alike (field_by n s w) (field_by m s w) (interfaces_of s c)
        (λ d h. let below = interface_in c d (class_at s c) refl h in field_alike n m d (omega (arith, below.1, l)) (omega (arith, below.1, k))))
        (then_alike (field_by n s w) (field_by m s w) (super_of s c)
        (λ d e. let below = super_in c d (class_at s c) refl e in field_alike n m d (omega (arith, below.1, l)) (omega (arith, below.1, k))))
        ∙ sym (field_suc m c)

    -- a class has its own field, or that of a superinterface, or that of the superclass
    pub field_step : (c : ClassId) → IsClass s c → field_of s c w ≡ option_or (own_field s w c) (option_or (first_given (λ d. field_of s d w) (interfaces_of s c)) (option_and_then (λ d. field_of s d w) (super_of s c)))
    field_step c there =
        let deep : c.0 ≡ suc (c.0 - 1) = omega (arith, there.0) in
        ap (λ (n : ℕ). field_by n s w c) deep ∙ field_suc (c.0 - 1) c
        ∙ ap₂ (λ (a b : Option Member). option_or (own_field s w c) (option_or a b))
        (first_alike (field_by (c.0 - 1) s w) (λ d. field_of s d w) (interfaces_of s c)
        (λ d h. let below = interface_in c d (class_at s c) refl h in field_alike (c.0 - 1) d.0 d (omega (arith, below.1)) (omega arith)))
        (then_alike (field_by (c.0 - 1) s w) (λ d. field_of s d w) (super_of s c)
        (λ d e. let below = super_in c d (class_at s c) refl e in field_alike (c.0 - 1) d.0 d (omega (arith, below.1)) (omega arith)))
