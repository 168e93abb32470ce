-- Members that were found are found again in any later state.
use Rattle.std.proofs.Common.{◌≡◌, ◌&&◌, ℕ, zero, suc, List, [], ◌∷◌, ◌++◌, ◌||◌, filter, Option, Some, None, Bool, true, false, not, cond, is_some, ⊎_elim, refl, sym, ◌∙◌, ap, ap₂, subst, arith}
use Rattle.std.specs.Prelude.{Contains}
use Rattle.std.specs.List.{flat_map, list_any, position}
use Rattle.std.specs.Option.{option_map_or, option_and_then, option_or}
use Rattle.std.proofs.lemmas.Option.{none-some, same_Some}
use Rattle.std.proofs.lemmas.List.Elements.{Contains-append_cases}
use Rattle.jl_logic.proofs.Rising.{contains_head, contains_tail, contains_cases, contains_nothing}
use Rattle.jl_prim.specs.declared.numbers.ClassId.{ClassId}
use Rattle.jl_layer.proofs.Listed.{numbered_in, flat_map_from, flat_map_alike}
use Rattle.jl_loads.specs.Worlds.{State, Loaded, IsClass, super_of, interfaces_of, line_by, line_of, each_once, above_by, superinterfaces, is_same, is_among, is_subclass, is_subtype}
use Rattle.jl_loads.specs.Laws.{AreSound}
use Rattle.jl_class.specs.Meaning.{is_abstract}
use Rattle.jl_link.specs.declared.member.Member.{Member}
use Rattle.jl_link.specs.Members.{Wanted, first_given, is_field, field_at, own_field, field_by, is_method, method_at, own_method, only_if, is_inherited, is_shared, offered, offering, is_refined, most_specific, is_default, defaults, only_one, from_interfaces, class_method, object_method, interface_method}
use Rattle.jl_link.specs.Laws.{Onward}
use Rattle.jl_link.proofs.Onwards.{class_stays}
use Rattle.jl_link.specs.declared.kind.MemberKind.{MemberKind}
use Rattle.jl_link.specs.declared.kind.MemberKind.TheVariants.{FieldEntry, MethodEntry, InterfaceMethodEntry}
use Rattle.jl_link.specs.References.{member_in}

-- ---- lists

module _ {X : Type 0} where
  filter_from : (p : X → Bool) (xs : List X) (x : X) → Contains (filter p xs) x → Contains xs x
  filter_from p [] x c = c
  filter_from p (y ∷ ys) x c = by (p y) c (filter_from p ys x)
    where
      by : (b : Bool) → Contains (cond b (y ∷ filter p ys) (filter p ys)) x → (Contains (filter p ys) x → Contains ys x) → Contains (y ∷ ys) x
      by true c more = ⊎_elim (λ (e : y ≡ x). subst (Contains (y ∷ ys)) e (contains_head y ys)) (λ d. contains_tail y x ys (more d)) (contains_cases y x (filter p ys) c)
      by false c more = contains_tail y x ys (more c)

  filter_alike : (p q : X → Bool) (xs : List X) → ((x : X) → Contains xs x → p x ≡ q x) → filter p xs ≡ filter q xs
  filter_alike p q [] h = refl
  filter_alike p q (x ∷ xs) h =
      ap₂ (λ (b : Bool) (l : List X). cond b (x ∷ l) l) (h x (contains_head x xs)) (filter_alike p q xs (λ y c. h y (contains_tail x y xs c)))

  any_alike : (p q : X → Bool) (xs : List X) → ((x : X) → Contains xs x → p x ≡ q x) → list_any p xs ≡ list_any q xs
  any_alike p q [] h = refl
  any_alike p q (x ∷ xs) h = ap₂ (λ (b c : Bool). b || c) (h x (contains_head x xs)) (any_alike p q xs (λ y c. h y (contains_tail x y xs c)))

  pub given_alike : {Y : Type 0} (p q : X → Option Y) (xs : List X) → ((x : X) → Contains xs x → p x ≡ q x) → first_given p xs ≡ first_given q xs
  given_alike p q [] h = refl
  given_alike p q (x ∷ xs) h = ap₂ (λ a b. option_or a b) (h x (contains_head x xs)) (given_alike p q xs (λ y c. h y (contains_tail x y xs c)))

  then_alike : {Y : Type 0} (p q : X → Option Y) (o : Option X) → ((x : X) → o ≡ Some x → p x ≡ q x) → option_and_then p o ≡ option_and_then q o
  then_alike p q None h = refl
  then_alike p q (Some x) h = h x refl

  only_from : (xs : List X) (x : X) → only_one xs ≡ Some x → Contains xs x
  only_from [] x e = absurd (none-some x e)
  only_from (y ∷ []) x e = subst (Contains (y ∷ [])) (same_Some y x e) (contains_head y [])
  only_from (y ∷ z ∷ zs) x e = absurd (none-some x e)

once_from : (cs : List ClassId) (x : ClassId) → Contains (each_once cs) x → Contains cs x
unfolding each_once
once_from [] x h = h
once_from (c ∷ cs) x h =
    ⊎_elim (λ (e : c ≡ x). subst (Contains (c ∷ cs)) e (contains_head c cs))
    (λ k. contains_tail c x cs (once_from cs x (filter_from (λ d. not (is_same c d)) (each_once cs) x k)))
    (contains_cases c x (filter (λ d. not (is_same c d)) (each_once cs)) h)

-- ---- supertypes are there

module _ (f : State) (sound : AreSound f) where
  pub super_there : (c d : ClassId) → IsClass f c → super_of f c ≡ Some d → IsClass f d
  super_there c d there e =
      let r = numbered_in f.classes c.0 there.0 there.1 in
      let k = (sound.classes c r.0 r.1).super d (sym (ap (option_and_then (λ (x : Loaded). x.super)) r.1) ∙ e) in
      (k.0, omega (arith, k.1, there.1))

  pub interface_there : (c d : ClassId) → IsClass f c → Contains (interfaces_of f c) d → IsClass f d
  interface_there c d there h =
      let r = numbered_in f.classes c.0 there.0 there.1 in
      let k = (sound.classes c r.0 r.1).interfaces d (subst (λ (o : Option Loaded). Contains (option_map_or (λ (x : Loaded). x.interfaces) o []) d) r.1 h) in
      (k.0, omega (arith, k.1, there.1))

  line_there : (n : ℕ) (o : Option ClassId) → ((c : ClassId) → o ≡ Some c → IsClass f c) → (x : ClassId) → Contains (line_by n f o) x → IsClass f x
  unfolding line_by
  line_there zero None there x h = contains_nothing x h
  line_there (suc n) None there x h = contains_nothing x h
  line_there zero (Some c) there x h = contains_nothing x h
  line_there (suc n) (Some c) there x h =
      ⊎_elim (λ (e : c ≡ x). subst (IsClass f) e (there c refl))
      (λ k. line_there n (super_of f c) (λ d e. super_there c d (there c refl) e) x k)
      (contains_cases c x (line_by n f (super_of f c)) h)

  above_there : (n : ℕ) (c : ClassId) → IsClass f c → (x : ClassId) → Contains (above_by n f c) x → IsClass f x
  unfolding above_by
  above_there zero c there x h = contains_nothing x h
  above_there (suc n) c there x h =
      ⊎_elim
      (λ k. let r = flat_map_from (λ i. above_by n f i ++ i ∷ []) (interfaces_of f c) x k in
      let at : IsClass f r.0 = interface_there c r.0 there r.1 in
      ⊎_elim (λ m. above_there n r.0 at x m) (λ m. ⊎_elim (λ (e : r.0 ≡ x). subst (IsClass f) e at) (λ none. contains_nothing x none) (contains_cases r.0 x [] m)) (Contains-append_cases (above_by n f r.0) (r.0 ∷ []) x r.2))
      (λ k. of_super (super_of f c) refl (λ d at m. above_there n d at x m) k)
      (Contains-append_cases (flat_map (λ i. above_by n f i ++ i ∷ []) (interfaces_of f c)) (option_map_or (above_by n f) (super_of f c) []) x h)
    where
      of_super : (o : Option ClassId) → super_of f c ≡ o → ((d : ClassId) → IsClass f d → Contains (above_by n f d) x → IsClass f x) → Contains (option_map_or (above_by n f) o []) x → IsClass f x
      of_super None e further k = contains_nothing x k
      of_super (Some d) e further k = further d (super_there c d there e) k

  pub superinterface_there : (c : ClassId) → IsClass f c → (x : ClassId) → Contains (superinterfaces f c) x → IsClass f x
  superinterface_there c there x h = above_there c.0 c there x (once_from (above_by c.0 f c) x h)

  pub in_line_there : (c : ClassId) → IsClass f c → (x : ClassId) → Contains (line_of f c) x → IsClass f x
  in_line_there c there x h = line_there c.0 (Some c) (λ d e. subst (IsClass f) (same_Some c d e) there) x h

-- ---- supertypes stay

module _ (f g : State) (sound : AreSound f) (more : Onward f g) where
  pub super_kept : (c : ClassId) → IsClass f c → super_of g c ≡ super_of f c
  super_kept c there = ap (option_and_then (λ (x : Loaded). x.super)) (class_stays f g more c there)

  pub direct_kept : (c : ClassId) → IsClass f c → interfaces_of g c ≡ interfaces_of f c
  direct_kept c there = ap (λ (o : Option Loaded). option_map_or (λ (x : Loaded). x.interfaces) o []) (class_stays f g more c there)

  line_by_kept : (n : ℕ) (o : Option ClassId) → ((c : ClassId) → o ≡ Some c → IsClass f c) → line_by n g o ≡ line_by n f o
  unfolding line_by
  line_by_kept zero None there = refl
  line_by_kept (suc n) None there = refl
  line_by_kept zero (Some c) there = refl
  line_by_kept (suc n) (Some c) there =
      ap (λ (o : Option ClassId). c ∷ line_by n g o) (super_kept c (there c refl))
      ∙ ap (λ (cs : List ClassId). c ∷ cs) (line_by_kept n (super_of f c) (λ d e. super_there f sound c d (there c refl) e))

  pub line_kept : (c : ClassId) → IsClass f c → line_of g c ≡ line_of f c
  line_kept c there = line_by_kept c.0 (Some c) (λ d e. subst (IsClass f) (same_Some c d e) there)

  or_kept : (p q : ClassId → List ClassId) (o : Option ClassId) → ((d : ClassId) → o ≡ Some d → p d ≡ q d) → option_map_or p o [] ≡ option_map_or q o []
  or_kept p q None h = refl
  or_kept p q (Some d) h = h d refl

  above_kept : (n : ℕ) (c : ClassId) → IsClass f c → above_by n g c ≡ above_by n f c
  unfolding above_by
  above_kept zero c there = refl
  above_kept (suc n) c there =
      ap₂ (λ (is : List ClassId) (o : Option ClassId). flat_map (λ i. above_by n g i ++ i ∷ []) is ++ option_map_or (above_by n g) o []) (direct_kept c there) (super_kept c there)
      ∙ ap₂ (λ (u v : List ClassId). u ++ v)
      (flat_map_alike (λ i. above_by n g i ++ i ∷ []) (λ i. above_by n f i ++ i ∷ []) (interfaces_of f c)
      (λ i h. ap (λ (u : List ClassId). u ++ i ∷ []) (above_kept n i (interface_there f sound c i there h))))
      (or_kept (above_by n g) (above_by n f) (super_of f c) (λ d e. above_kept n d (super_there f sound c d there e)))

  pub superinterfaces_kept : (c : ClassId) → IsClass f c → superinterfaces g c ≡ superinterfaces f c
  superinterfaces_kept c there = ap each_once (above_kept c.0 c there)

  pub subclass_kept : (c d : ClassId) → IsClass f c → is_subclass g c d ≡ is_subclass f c d
  subclass_kept c d there = ap (is_among d) (line_kept c there)

  pub subtype_kept : (c d : ClassId) → IsClass f c → is_subtype g c d ≡ is_subtype f c d
  subtype_kept c d there = ap₂ (λ (a b : Bool). a || b) (subclass_kept c d there) (ap (is_among d) (superinterfaces_kept c there))

-- ---- members

module _ (f g : State) (sound : AreSound f) (more : Onward f g) (w : Wanted) where
  field_kept : (c : ClassId) → IsClass f c → own_field g w c ≡ own_field f w c
  field_kept c there = ap (option_and_then (λ (x : Loaded). option_and_then (field_at c x.declared.fields) (position (is_field w) x.declared.fields))) (class_stays f g more c there)

  field_by_kept : (n : ℕ) (c : ClassId) → IsClass f c → field_by n g w c ≡ field_by n f w c
  unfolding field_by
  field_by_kept zero c there = refl
  field_by_kept (suc n) c there =
      ap₂ (λ a b. option_or a b) (field_kept c there)
      (ap₂ (λ a b. option_or a b)
      (ap (first_given (field_by n g w)) (direct_kept f g sound more c there)
      ∙ given_alike (field_by n g w) (field_by n f w) (interfaces_of f c) (λ i h. field_by_kept n i (interface_there f sound c i there h)))
      (ap (option_and_then (field_by n g w)) (super_kept f g sound more c there)
      ∙ then_alike (field_by n g w) (field_by n f w) (super_of f c) (λ d e. field_by_kept n d (super_there f sound c d there e))))

  method_kept : (c : ClassId) → IsClass f c → own_method g w c ≡ own_method f w c
  method_kept c there = ap (option_and_then (λ (x : Loaded). option_and_then (method_at c x.declared.methods) (position (is_method w) x.declared.methods))) (class_stays f g more c there)

  offered_kept : (c : ClassId) → IsClass f c → offered g w c ≡ offered f w c
  offered_kept c there = ap (option_and_then (only_if is_inherited)) (method_kept c there)

  offering_kept : (c : ClassId) → IsClass f c → offering g c w ≡ offering f c w
  offering_kept c there =
      ap (filter (λ i. is_some (offered g w i))) (superinterfaces_kept f g sound more c there)
      ∙ filter_alike (λ i. is_some (offered g w i)) (λ i. is_some (offered f w i)) (superinterfaces f c)
      (λ i h. ap (λ (o : Option Member). is_some o) (offered_kept i (superinterface_there f sound c there i h)))

  offering_there : (c : ClassId) → IsClass f c → (i : ClassId) → Contains (offering f c w) i → IsClass f i
  offering_there c there i h = superinterface_there f sound c there i (filter_from (λ j. is_some (offered f w j)) (superinterfaces f c) i h)

  refined_kept : (is : List ClassId) (i : ClassId) → ((j : ClassId) → Contains is j → IsClass f j) → is_refined g is i ≡ is_refined f is i
  refined_kept is i there =
      any_alike (λ j. not (is_same i j) && is_subtype g j i) (λ j. not (is_same i j) && is_subtype f j i) is
      (λ j h. ap (λ (b : Bool). not (is_same i j) && b) (subtype_kept f g sound more j i (there j h)))

  specific_kept : (c : ClassId) → IsClass f c → most_specific g c w ≡ most_specific f c w
  specific_kept c there =
      ap (λ (is : List ClassId). filter (λ i. not (is_refined g is i)) is) (offering_kept c there)
      ∙ filter_alike (λ i. not (is_refined g (offering f c w) i)) (λ i. not (is_refined f (offering f c w) i)) (offering f c w)
      (λ i h. ap not (refined_kept (offering f c w) i (offering_there c there)))

  specific_there : (c : ClassId) → IsClass f c → (i : ClassId) → Contains (most_specific f c w) i → IsClass f i
  specific_there c there i h = offering_there c there i (filter_from (λ j. not (is_refined f (offering f c w) j)) (offering f c w) i h)

  defaults_kept : (c : ClassId) → IsClass f c → defaults g c w ≡ defaults f c w
  defaults_kept c there =
      ap (filter (is_default g w)) (specific_kept c there)
      ∙ filter_alike (is_default g w) (is_default f w) (most_specific f c w)
      (λ i h. ap (λ (o : Option Member). option_map_or (λ (m : Member). not (is_abstract m.flags)) o false) (offered_kept i (specific_there c there i h)))

  defaults_there : (c : ClassId) → IsClass f c → (i : ClassId) → Contains (defaults f c w) i → IsClass f i
  defaults_there c there i h = specific_there c there i (filter_from (is_default f w) (most_specific f c w) i h)

  interfaces_kept : (c : ClassId) → IsClass f c → from_interfaces g c w ≡ from_interfaces f c w
  interfaces_kept c there =
      ap₂ (λ a b. option_or a b)
      (ap (λ (is : List ClassId). option_and_then (offered g w) (only_one is)) (defaults_kept c there)
      ∙ then_alike (offered g w) (offered f w) (only_one (defaults f c w)) (λ i e. offered_kept i (defaults_there c there i (only_from (defaults f c w) i e))))
      (ap (first_given (offered g w)) (superinterfaces_kept f g sound more c there)
      ∙ given_alike (offered g w) (offered f w) (superinterfaces f c) (λ i h. offered_kept i (superinterface_there f sound c there i h)))

  class_method_kept : (c : ClassId) → IsClass f c → class_method g c w ≡ class_method f c w
  class_method_kept c there =
      ap₂ (λ a b. option_or a b)
      (ap (first_given (own_method g w)) (line_kept f g sound more c there)
      ∙ given_alike (own_method g w) (own_method f w) (line_of f c) (λ d h. method_kept d (in_line_there f sound c there d h)))
      (interfaces_kept c there)

  object_kept : (c : ClassId) → IsClass f c → object_method g c w ≡ object_method f c w
  object_kept c there =
      ap (option_and_then (λ o. option_and_then (only_if is_shared) (own_method g w o))) (super_kept f g sound more c there)
      ∙ then_alike (λ o. option_and_then (only_if is_shared) (own_method g w o)) (λ o. option_and_then (only_if is_shared) (own_method f w o)) (super_of f c)
      (λ d e. ap (option_and_then (only_if is_shared)) (method_kept d (super_there f sound c d there e)))

  interface_method_kept : (c : ClassId) → IsClass f c → interface_method g c w ≡ interface_method f c w
  interface_method_kept c there =
      ap₂ (λ a b. option_or a b) (method_kept c there) (ap₂ (λ a b. option_or a b) (object_kept c there) (interfaces_kept c there))

  pub member_kept : (kind : MemberKind) (c : ClassId) → IsClass f c → member_in kind g c w ≡ member_in kind f c w
  member_kept FieldEntry c there = field_by_kept c.0 c there
  member_kept MethodEntry c there = class_method_kept c there
  member_kept InterfaceMethodEntry c there = interface_method_kept c there
