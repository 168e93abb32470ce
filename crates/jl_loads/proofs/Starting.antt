-- Classes of java.base are new where each stands behind its supertypes and has a name of its own.
use Rattle.std.proofs.Common.{◌≡◌, ◌∙◌, ap, ap₂, subst, sym, refl, ℕ, Bool, true, false, cond, List, [], ◌∷◌, length, map, option_map, Option, Some, None, inl, inr, ◌&&◌, ◌||◌}
use Rattle.std.specs.Prelude.{Contains, IfSome}
use Rattle.std.specs.List.{list_all}
use Rattle.std.specs.Option.{option_map_or, option_or}
use Rattle.std.specs.Cmp.Lexicographic.{bytes_decides}
use Rattle.std.proofs.lemmas.Option.{same_Some, none-some}
use Rattle.jl_logic.specs.Order.{is_text}
use Rattle.jl_logic.proofs.Rising.{contains_head, contains_tail, contains_nothing, contains_cases}
use Rattle.jl_prim.specs.declared.numbers.ClassId.{ClassId}
use Rattle.jl_class.specs.Classes.{Class}
use Rattle.jl_class.specs.Tables.{AreTables}
use Rattle.jl_layer.specs.Layers as layers
use Rattle.jl_layer.specs.Layers.{IsModule}
use Rattle.jl_loads.specs.Worlds.{State, IsClass, bare, class_number, defined, is_named, with_class}
use Rattle.jl_loads.specs.Laws.{IsNew}
use Rattle.jl_loads.specs.Beginning.{IsBegin, base_class, base_of, class_named, is_name_among, stand_in_order, stands_behind}
use Rattle.jl_loads.specs.Starting.{base_loader, IsBegun, MayBegin, MayFollow}
use Rattle.jl_loads.proofs.Defined.{defined_more, defined_there}
use Rattle.jl_loads.proofs.Placed.{named_parts, is_so_named}

-- ---- lists

both : (a b : Bool) → (a && b) ≡ true → (a ≡ true) × (b ≡ true)
both true b e = (refl, e)
both false b e = absurd cc

all_of : (f : List ℕ → Bool) (xs : List (List ℕ)) (x : List ℕ) → list_all f xs ≡ true → Contains xs x → f x ≡ true
all_of f [] x h k = contains_nothing x k
all_of f (y ∷ ys) x h k =
    let r = both (f y) (list_all f ys) h in
    elim (contains_cases y x ys k) [ inl e ↦ ap f (sym e) ∙ r.0 | inr j ↦ all_of f ys x r.1 j ]

-- a name of one of these classes
named_in : (cs : List Class) (c : Class) → Contains cs c → Contains (map (λ (d : Class). d.name) cs) c.name
named_in [] c k = contains_nothing c k
named_in (d ∷ ds) c k = elim (contains_cases d c ds k) [
  | inl e ↦ subst (λ (x : Class). Contains (map (λ (y : Class). y.name) (d ∷ ds)) x.name) e (contains_head d.name (map (λ (y : Class). y.name) ds))
  | inr j ↦ contains_tail d.name c.name (map (λ (y : Class). y.name) ds) (named_in ds c j)
]

-- each of the results is that of one
result_of : (f : List ℕ → ClassId) (names : List (List ℕ)) (d : ClassId) → Contains (map f names) d → (name : List ℕ) × Contains names name × (f name ≡ d)
result_of f [] d k = contains_nothing d k
result_of f (n ∷ ns) d k = elim (contains_cases (f n) d (map f ns) k) [
  | inl e ↦ (n, contains_head n ns, e)
  | inr j ↦ let r = result_of f ns d j in (r.0, contains_tail n r.0 ns r.1, r.2)
]

-- ---- the first of the classes

module _ (s : State) (c : Class) (cs : List Class) (h : MayFollow s (c ∷ cs)) where
  in_order : (stands_behind h.before c ≡ true) × (stand_in_order (c.name ∷ h.before) cs ≡ true)
  unfolding stand_in_order
  in_order = both (stands_behind h.before c) (stand_in_order (c.name ∷ h.before) cs) h.order

  supers_first : (option_map_or (λ (name : List ℕ). is_name_among name h.before) c.super_name true ≡ true) × (list_all (λ (name : List ℕ). is_name_among name h.before) c.interfaces ≡ true)
  supers_first = both (option_map_or (λ (name : List ℕ). is_name_among name h.before) c.super_name true) (list_all (λ (name : List ℕ). is_name_among name h.before) c.interfaces) in_order.0

  pub may_begin : MayBegin s c
  may_begin = record {
    super = λ name e. h.there name (sym (ap (λ (o : Option (List ℕ)). option_map_or (λ (n : List ℕ). is_name_among n h.before) o true) e) ∙ supers_first.0);
    interfaces = λ name k. h.there name (all_of (λ (n : List ℕ). is_name_among n h.before) c.interfaces name supers_first.1 k);
    fresh = h.fresh c (contains_head c cs);
  }

  last : Option ClassId
  last = Some (class_number (length s.classes))

  -- the class is found by its name
  found_last : (name : List ℕ) → name ≡ c.name → IsBegun (with_class (base_class s c) s) name
  found_last name e = (
    class_number (length s.classes),
    defined_more s (base_class s c) (base_loader s) name
        ∙ ap₂ (λ (o : Option ClassId) (b : Bool). option_or o (cond b (Some (class_number (length s.classes))) None)) (ap (defined s (base_loader s)) e ∙ may_begin.fresh)
        (is_so_named (base_loader s) name (base_class s c) refl (sym e)),
  )

  -- and what was there still is
  found_before : (name : List ℕ) → IsBegun s name → IsBegun (with_class (base_class s c) s) name
  found_before name k =
      (k.0, defined_more s (base_class s c) (base_loader s) name ∙ ap (λ (o : Option ClassId). option_or o (cond (is_named (base_loader s) name (base_class s c)) (Some (class_number (length s.classes))) None)) k.1)

  still_there : (name : List ℕ) → is_name_among name (c.name ∷ h.before) ≡ true → IsBegun (with_class (base_class s c) s) name
  still_there name w = by (is_text name c.name) refl w
    where
      by : (b : Bool) → is_text name c.name ≡ b → (b || is_name_among name h.before) ≡ true → IsBegun (with_class (base_class s c) s) name
      by true e v = found_last name ((bytes_decides name c.name).0 e)
      by false e v = found_before name (h.there name v)

  still_fresh : (d : Class) → Contains cs d → defined (with_class (base_class s c) s) (base_loader s) d.name ≡ None
  still_fresh d k =
      defined_more s (base_class s c) (base_loader s) d.name
      ∙ ap₂ (λ (o : Option ClassId) (b : Bool). option_or o (cond b (Some (class_number (length s.classes))) None)) (h.fresh d (contains_tail c d cs k)) (by (is_named (base_loader s) d.name (base_class s c)) refl)
    where
      by : (b : Bool) → is_named (base_loader s) d.name (base_class s c) ≡ b → b ≡ false
      by false e = refl
      by true e =
          let same : c.name ≡ d.name = (named_parts (base_loader s) d.name (base_class s c) e).1 in
          absurd (h.apart.0 (subst (Contains (map (λ (x : Class). x.name) cs)) (sym same) (named_in cs d k)))

  pub may_follow : MayFollow (with_class (base_class s c) s) cs
  may_follow = record { before = c.name ∷ h.before; order = in_order.1; apart = h.apart.1; there = still_there; fresh = still_fresh }

-- ---- at the start

pub may_start : (l : layers.State) (packages : List (List ℕ)) (cs : List Class) → IsBegin packages cs → MayFollow (bare l) cs
may_start l packages cs h = record { before = []; order = h.order; apart = h.apart; there = λ name e. absurd cc; fresh = λ c k. refl }

-- the next one is defined
pub may_go_on : (s t : State) (c : Class) (cs ds : List Class) → cs ≡ c ∷ ds → t ≡ with_class (base_class s c) s → MayFollow s cs → MayFollow t ds
may_go_on s t c cs ds e more h = subst (λ (u : State). MayFollow u ds) (sym more) (may_follow s c ds (subst (MayFollow s) e h))

pub may_begin_first : (s : State) (c : Class) (cs ds : List Class) → cs ≡ c ∷ ds → MayFollow s cs → MayBegin s c
may_begin_first s c cs ds e h = may_begin s c ds (subst (MayFollow s) e h)

-- ---- a class that may begin is new

begun_there : (s : State) (name : List ℕ) → IsBegun s name → IsClass s (class_named s (base_loader s) name)
begun_there s name k = by (defined s (base_loader s) name) k.1 (defined_there s (base_loader s) name)
  where
    by : (o : Option ClassId) → o ≡ Some k.0 → IfSome o (IsClass s) → IsClass s (option_map_or (λ (c : ClassId). c) o (record { 0 = 0 }))
    by None e h = absurd (none-some k.0 e)
    by (Some d) e h = h

super_named : (s : State) (o : Option (List ℕ)) (d : ClassId) → ((name : List ℕ) → o ≡ Some name → IsBegun s name) → option_map (class_named s (base_loader s)) o ≡ Some d → IsClass s d
super_named s None d h e = absurd (none-some d e)
super_named s (Some name) d h e = subst (IsClass s) (same_Some (class_named s (base_loader s) name) d e) (begun_there s name (h name refl))

pub base_is_new : (s : State) (c : Class) → MayBegin s c → IsModule s.layers (base_of s) → AreTables c → IsNew s (base_class s c)
base_is_new s c h home tables = record {
  super = λ d e. super_named s c.super_name d h.super e;
  interfaces = λ d k. let r = result_of (class_named s (base_loader s)) c.interfaces d k in subst (IsClass s) r.2 (begun_there s r.0 (h.interfaces r.0 r.1));
  home = home;
  loader = refl;
  fresh = h.fresh;
  tables = tables;
}
