-- Modules of layers stay in the order of their names when a layer comes (`ModuleLayer`).
use Rattle.std.proofs.Common.{◌≡◌, ◌+◌, ℕ, suc, List, [], ◌∷◌, ◌++◌, length, length-append, map, slice_get, refl, sym, ◌∙◌, ap, ap₂, subst, Some, option_map, Less, arith}
use Rattle.std.specs.Prelude.{Contains}
use Rattle.std.specs.List.{AllByRecursion}
use Rattle.std.proofs.lemmas.List.Elements.{All-append, All-nil, All-cons, All-contains}
use Rattle.jl_logic.specs.Order.{name_cmp, RisesBy}
use Rattle.jl_logic.proofs.Rising.{contains_head, contains_tail, each_of_member, each_from_members}
use Rattle.jl_prim.specs.declared.numbers.LayerId.{LayerId}
use Rattle.jl_prim.specs.declared.numbers.ModuleId.{ModuleId}
use Rattle.jl_prim.specs.declared.declaration.Observed.{Observed}
use Rattle.jl_config.specs.Located.{name_of}
use Rattle.jl_config.specs.Orders.{module_cmp}
use Rattle.jl_layer.specs.declared.layer.Layer.{Layer}
use Rattle.jl_layer.specs.declared.layer.Member.{Member}
use Rattle.jl_layer.specs.declared.layer.Mode.{Mode}
use Rattle.jl_layer.specs.Defining.{members, module_numbers}
use Rattle.jl_layer.specs.Orderly.{name_in, name_at, IsWithin, AreInOrder, AreOrderly}
use Rattle.jl_layer.proofs.Listed.{all_of, numbered_before, numbered_behind, row_from}
use Rattle.jl_layer.proofs.Added.{members_at, members_long, with_loader, loader_place}

module _ {X : Type 0} where
  rises_alike : (f g : X → List ℕ) (xs : List X) → ((x : X) → Contains xs x → f x ≡ g x) → RisesBy (λ a b. name_cmp (f a) (f b)) xs → RisesBy (λ a b. name_cmp (g a) (g b)) xs
  rises_alike f g [] h up = tt
  rises_alike f g (x ∷ xs) h up = (
    each_from_members (λ y. name_cmp (g x) (g y) ≡ Less) xs (λ y c. sym (ap₂ name_cmp (h x (contains_head x xs)) (h y (contains_tail x y xs c))) ∙ each_of_member (λ y. name_cmp (f x) (f y) ≡ Less) xs y up.0 c),
    rises_alike f g xs (λ y c. h y (contains_tail x y xs c)) up.1,
  )

  each_mapped : (f : X → List ℕ) (n : List ℕ) (xs : List X) → AllByRecursion (λ m. name_cmp n m ≡ Less) (map f xs) → AllByRecursion (λ x. name_cmp n (f x) ≡ Less) xs
  each_mapped f n [] h = tt
  each_mapped f n (x ∷ xs) h = (h.0, each_mapped f n xs h.1)

  rises_by_names : (f : X → List ℕ) (xs : List X) → RisesBy name_cmp (map f xs) → RisesBy (λ a b. name_cmp (f a) (f b)) xs
  rises_by_names f [] up = tt
  rises_by_names f (x ∷ xs) up = (each_mapped f (f x) xs up.0, rises_by_names f xs up.1)

  mapped_each : (f : X → List ℕ) (n : List ℕ) (xs : List X) → AllByRecursion (λ x. name_cmp n (f x) ≡ Less) xs → AllByRecursion (λ m. name_cmp n m ≡ Less) (map f xs)
  mapped_each f n [] h = tt
  mapped_each f n (x ∷ xs) h = (h.0, mapped_each f n xs h.1)

  names_rise : (f : X → List ℕ) (xs : List X) → RisesBy (λ a b. name_cmp (f a) (f b)) xs → RisesBy name_cmp (map f xs)
  names_rise f [] up = tt
  names_rise f (x ∷ xs) up = (mapped_each f (f x) xs up.0, names_rise f xs up.1)

-- ---- modules that are there

kept_in_order : (ms more : List Member) (ns : List ModuleId) → AreInOrder ms ns → AreInOrder (ms ++ more) ns
kept_in_order ms more ns h = record {
  there = all_of (IsWithin (length (ms ++ more))) ns (λ m c. let w : IsWithin (length ms) m = All-contains (IsWithin (length ms)) ns m h.there c in (w.0, omega (arith, w.1, length-append ms more)));
  rise =
      rises_alike (name_at ms) (name_at (ms ++ more)) ns
      (λ m c. let w : IsWithin (length ms) m = All-contains (IsWithin (length ms)) ns m h.there c in sym (ap name_in (numbered_before ms more m.0 w.1))) h.rise;
}

-- ---- modules that come

names_by_place : (all : List Member) (a : ℕ) (os : List Observed) → ((i : ℕ) (o : Observed) (m : ModuleId) → slice_get os i ≡ Some o → m.0 ≡ a + i → name_at all m ≡ name_of o) → map (name_at all) (module_numbers a (length os)) ≡ map name_of os
names_by_place all a [] h = refl
names_by_place all a (o ∷ os) h =
    ap₂ (λ (n : List ℕ) (ns : List (List ℕ)). n ∷ ns) (h 0 o (record { 0 = a }) refl (omega arith))
    (names_by_place all (a + 1) os (λ i p m e f. h (suc i) p m e (omega (arith, f))))

module _ (ms : List Member) (mode : Mode) (layer : LayerId) (n : ℕ) (os : List Observed) where
  new_name : (i : ℕ) (o : Observed) (m : ModuleId) → slice_get os i ≡ Some o → m.0 ≡ length ms + 1 + i → name_at (ms ++ members mode layer n os) m ≡ name_of o
  new_name i o m e f =
      ap name_in (numbered_behind ms (members mode layer n os) m.0 i (omega (arith, f)) ∙ members_at mode layer n i os ∙ ap (option_map (with_loader layer (n + loader_place mode i))) e)

  new_in_order : RisesBy module_cmp os → AreInOrder (ms ++ members mode layer n os) (module_numbers (length ms + 1) (length os))
  new_in_order up =
      let all : List Member = ms ++ members mode layer n os in
      let number : ℕ → ModuleId = λ k. record { 0 = k } in
      record {
        there = all_of (IsWithin (length all)) (module_numbers (length ms + 1) (length os))
            (λ m c. let r = row_from number (length ms + 1) (length os) m c in
            let e : m.0 ≡ length ms + 1 + r.0 = ap (λ (x : ModuleId). x.0) r.2 in
            (omega arith, omega (arith, e, r.1, length-append ms (members mode layer n os), members_long mode layer n os)));
        rise = rises_by_names (name_at all) (module_numbers (length ms + 1) (length os))
            (subst (RisesBy name_cmp) (sym (names_by_place all (length ms + 1) os new_name)) (names_rise name_of os up));
      }

  pub still_orderly : (layers : List Layer) (l : Layer) → AreOrderly layers ms → RisesBy module_cmp os → l.modules ≡ module_numbers (length ms + 1) (length os) → AreOrderly (layers ++ l ∷ []) (ms ++ members mode layer n os)
  still_orderly layers l h up e =
      let all : List Member = ms ++ members mode layer n os in
      All-append (λ (k : Layer). AreInOrder all k.modules) layers (l ∷ [])
      (all_of (λ (k : Layer). AreInOrder all k.modules) layers (λ k c. kept_in_order ms (members mode layer n os) k.modules (All-contains (λ (j : Layer). AreInOrder ms j.modules) layers k h c)))
      (All-cons (λ (k : Layer). AreInOrder all k.modules) l [] (subst (AreInOrder all) (sym e) (new_in_order up)) (All-nil _))
