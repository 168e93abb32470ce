-- What is there does not move: classes, their supertypes and the numbers of their members, in any later state.
use Rattle.std.proofs.Common.{◌≡◌, ◌+◌, ◌-◌, ◌||◌, ℕ, zero, suc, List, [], ◌∷◌, ◌++◌, length, map, take, option_map, Option, Some, None, Bool, true, refl, sym, ◌∙◌, ap, ap₂, subst, arith}
use Rattle.std.specs.Prelude.{Contains}
use Rattle.std.specs.List.{position_from, flat_map, sum}
use Rattle.std.specs.Option.{option_map_or, option_and_then}
use Rattle.std.proofs.lemmas.Option.{none-some, same_Some}
use Rattle.jl_prim.specs.declared.numbers.ClassId.{ClassId}
use Rattle.jl_prim.specs.declared.numbers.FieldId.{FieldId}
use Rattle.jl_prim.specs.declared.numbers.MethodId.{MethodId}
use Rattle.jl_prim.specs.declared.numbers.LoaderId.{LoaderId}
use Rattle.jl_layer.specs.Layers.{numbered}
use Rattle.jl_layer.specs.Laws as over
use Rattle.jl_loads.specs.Worlds.{State, Loaded, is_among, class_at, IsClass, is_named, defined, super_of, interfaces_of, line_by, line_of, each_once, above_by, superinterfaces, is_subclass, is_subtype, field_id, method_id}
use Rattle.jl_loads.specs.Laws.{AreSound, Grows, ClassesStay}
use Rattle.jl_loads.proofs.Places.{numbered_there, numbered_in, numbered_kept, front_long, take_kept, place_found, place_front, flat_map_alike}
use Rattle.jl_loads.proofs.GoingOn.{grows_filled, grows_layered, grows_within, grows_onward, within_noted, within_same}
use Rattle.jl_loads.proofs.Remembered.{kept_front}

-- ---- within one state

-- the class with a number
abbrev pub number_class : ℕ → ClassId
number_class n = record { 0 = n }

-- a number that was defined is one of a class with the loader and the name
pub defined_there : (s : State) (l : LoaderId) (name : List ℕ) (c : ClassId) → defined s l name ≡ Some c → (x : Loaded) × (class_at s c ≡ Some x) × (is_named l name x ≡ true)
defined_there s l name c e = by (position_from (is_named l name) 1 s.classes) refl e
  where
    by : (o : Option ℕ) → position_from (is_named l name) 1 s.classes ≡ o → option_map number_class o ≡ Some c → (x : Loaded) × (class_at s c ≡ Some x) × (is_named l name x ≡ true)
    by None i f = absurd (none-some c f)
    by (Some p) i f =
        let r = place_found (is_named l name) s.classes p i in
        let same : number_class p ≡ c = same_Some (number_class p) c f in
        (r.0, ap (λ (d : ClassId). numbered s.classes d.0) (sym same) ∙ r.1, r.2)

pub class_there : (s : State) (c : ClassId) (x : Loaded) → class_at s c ≡ Some x → IsClass s c
class_there s c x e = numbered_there s.classes c.0 x e

module _ (f : State) (sound : AreSound f) where
  super_there : (c d : ClassId) → IsClass f c → super_of f c ≡ Some d → IsClass f d
  super_there c d there e =
      let r = numbered_in f.classes c.0 there.0 there.1 in
      let k = (sound.classes c r.0 r.1).super d (sym (ap (option_and_then (λ (x : Loaded). x.super)) r.1) ∙ e) in
      (k.0, omega (arith, k.1, there.1))

  interface_there : (c d : ClassId) → IsClass f c → Contains (interfaces_of f c) d → IsClass f d
  interface_there c d there h =
      let r = numbered_in f.classes c.0 there.0 there.1 in
      let k = (sound.classes c r.0 r.1).interfaces d (subst (λ (o : Option Loaded). Contains (option_map_or (λ (x : Loaded). x.interfaces) o []) d) r.1 h) in
      (k.0, omega (arith, k.1, there.1))

-- ---- from one state to a later one

module _ (f g : State) (more : Grows f g) where
  pub still_class : (c : ClassId) → IsClass f c → IsClass g c
  still_class c there = let le = front_long f.classes g.classes more.classes in (there.0, omega (arith, there.1))

  pub class_kept : (c : ClassId) → IsClass f c → class_at g c ≡ class_at f c
  class_kept c there = numbered_kept f.classes g.classes c.0 more.classes there.1

  pub defined_kept : (l : LoaderId) (name : List ℕ) (c : ClassId) → defined f l name ≡ Some c → defined g l name ≡ Some c
  defined_kept l name c e = by (position_from (is_named l name) 1 f.classes) refl e
    where
      by : (o : Option ℕ) → position_from (is_named l name) 1 f.classes ≡ o → option_map number_class o ≡ Some c → defined g l name ≡ Some c
      by None i h = absurd (none-some c h)
      by (Some p) i h = ap (option_map number_class) (place_front (is_named l name) f.classes g.classes p more.classes i) ∙ h

  pub super_kept : (c : ClassId) → IsClass f c → super_of g c ≡ super_of f c
  super_kept c there = ap (option_and_then (λ (x : Loaded). x.super)) (class_kept c there)

  pub interfaces_kept : (c : ClassId) → IsClass f c → interfaces_of g c ≡ interfaces_of f c
  interfaces_kept c there = ap (λ (o : Option Loaded). option_map_or (λ (x : Loaded). x.interfaces) o []) (class_kept c there)

  before_kept : (c : ClassId) → IsClass f c → take (c.0 - 1) g.classes ≡ take (c.0 - 1) f.classes
  before_kept c there = take_kept f.classes g.classes (c.0 - 1) more.classes (omega (arith, there.1))

  pub field_kept : (c : ClassId) (at : ℕ) → IsClass f c → field_id g c at ≡ field_id f c at
  field_kept c at there = ap (λ (xs : List Loaded). let i : FieldId = record { 0 = sum (map (λ (x : Loaded). length x.declared.fields) xs) + at } in i) (before_kept c there)

  pub method_kept : (c : ClassId) (at : ℕ) → IsClass f c → method_id g c at ≡ method_id f c at
  method_kept c at there = ap (λ (xs : List Loaded). let i : MethodId = record { 0 = sum (map (λ (x : Loaded). length x.declared.methods) xs) + at } in i) (before_kept c there)

  module _ (sound : AreSound f) where
    line_by_kept : (n : ℕ) (o : Option ClassId) → ((c : ClassId) → o ≡ Some c → IsClass f c) → line_by n g o ≡ line_by n f o
    unfolding line_by
    line_by_kept zero None there = refl
    line_by_kept (suc n) None there = refl
    line_by_kept zero (Some c) there = refl
    line_by_kept (suc n) (Some c) there =
        ap (λ (o : Option ClassId). c ∷ line_by n g o) (super_kept c (there c refl))
        ∙ ap (λ (cs : List ClassId). c ∷ cs) (line_by_kept n (super_of f c) (λ d e. super_there f sound c d (there c refl) e))

    pub line_kept : (c : ClassId) → IsClass f c → line_of g c ≡ line_of f c
    line_kept c there = line_by_kept c.0 (Some c) (λ d e. subst (IsClass f) (same_Some c d e) there)

    or_kept : (p q : ClassId → List ClassId) (o : Option ClassId) → ((d : ClassId) → o ≡ Some d → p d ≡ q d) → option_map_or p o [] ≡ option_map_or q o []
    or_kept p q None h = refl
    or_kept p q (Some d) h = h d refl

    above_kept : (n : ℕ) (c : ClassId) → IsClass f c → above_by n g c ≡ above_by n f c
    unfolding above_by
    above_kept zero c there = refl
    above_kept (suc n) c there =
        ap₂ (λ (is : List ClassId) (o : Option ClassId). flat_map (λ i. above_by n g i ++ i ∷ []) is ++ option_map_or (above_by n g) o []) (interfaces_kept c there) (super_kept c there)
        ∙ ap₂ (λ (u v : List ClassId). u ++ v)
        (flat_map_alike (λ i. above_by n g i ++ i ∷ []) (λ i. above_by n f i ++ i ∷ []) (interfaces_of f c)
        (λ i h. ap (λ (u : List ClassId). u ++ i ∷ []) (above_kept n i (interface_there f sound c i there h))))
        (or_kept (above_by n g) (above_by n f) (super_of f c) (λ d e. above_kept n d (super_there f sound c d there e)))

    pub superinterfaces_kept : (c : ClassId) → IsClass f c → superinterfaces g c ≡ superinterfaces f c
    superinterfaces_kept c there = ap each_once (above_kept c.0 c there)

    pub subclass_kept : (c d : ClassId) → IsClass f c → is_subclass g c d ≡ is_subclass f c d
    subclass_kept c d there = ap (is_among d) (line_kept c there)

    pub subtype_kept : (c d : ClassId) → IsClass f c → is_subtype g c d ≡ is_subtype f c d
    subtype_kept c d there = ap₂ (λ (a b : Bool). a || b) (subclass_kept c d there) (ap (is_among d) (superinterfaces_kept c there))

pub classes_stay_lem : over.LayersStay → ClassesStay
classes_stay_lem stay = record {
  same = λ f. grows_within f f (within_same f);
  onward = grows_onward stay;
  within = grows_within;
  noted = within_noted;
  filled = grows_filled;
  layered = grows_layered;
  classes = λ f g c more there. class_kept f g more c there;
  names = λ f g l name c more e. defined_kept f g more l name c e;
  supers = λ f g c more there. super_kept f g more c there;
  interfaces = λ f g c more there. interfaces_kept f g more c there;
  lines = λ f g c sound more there. line_kept f g more sound c there;
  superinterfaces = λ f g c sound more there. superinterfaces_kept f g more sound c there;
  subclasses = λ f g c d sound more there. subclass_kept f g more sound c d there;
  subtypes = λ f g c d sound more there. subtype_kept f g more sound c d there;
  fields = λ f g c at more there. field_kept f g more c at there;
  methods = λ f g c at more there. method_kept f g more c at there;
  slots = λ f g more. more.slots;
  kept = λ f g path what more e. kept_front f g path what more.kept e;
}
