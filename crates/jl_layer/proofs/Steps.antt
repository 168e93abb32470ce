-- The steps of loops over lists.
use Rattle.std.proofs.Common.{◌≡◌, ◌<◌, ◌+◌, ℕ, zero, suc, List, [], ◌∷◌, ◌++◌, length, map, take, get_or, refl, sym, ◌∙◌, ap, ap₂, Option, Some, None, append_assoc, add-one, arith}
use Rattle.std.specs.List.{filter_map, flat_map, range_with_len, cons_option}
use Rattle.std.specs.Option.{option_to_list}
use Rattle.std.proofs.lemmas.List.{take_more, append-nil, map-append}
use Rattle.std.proofs.lemmas.Grind.{flat_map-append}
use Rattle.std.proofs.lemmas.List.Elements.{filter_map-append}
use Rattle.jl_prim.specs.declared.numbers.ModuleId.{ModuleId}
use Rattle.jl_layer.specs.Defining.{with_module, module_numbers}

module _ {X Y : Type 0} (h : X → Option Y) where
  -- a loop's step, where the result grew by what the item at i gives
  pub filter_map_step : (xs : List X) (i : ℕ) (x : X) (old new : List Y) → i < length xs → x ≡ get_or xs i x → old ≡ filter_map h (take i xs) → new ≡ old ++ option_to_list (h x) → new ≡ filter_map h (take (i + 1) xs)
  filter_map_step xs i x old new lt is e f =
      let more : take (i + 1) xs ≡ take i xs ++ x ∷ [] = take_more xs i x lt ∙ ap (λ w. take i xs ++ w ∷ []) (sym is) in
      f ∙ ap₂ (λ l r. l ++ r) e (sym (alone (h x))) ∙ sym (filter_map-append h (take i xs) (x ∷ [])) ∙ sym (ap (filter_map h) more)
    where
      alone : (o : Option Y) → cons_option o [] ≡ option_to_list o
      alone None = refl
      alone (Some y) = refl

pub flat_map_push : {X Y : Type 0} (f : X → List Y) (xs : List X) (x : X) → flat_map f (xs ++ x ∷ []) ≡ flat_map f xs ++ f x
flat_map_push f xs x = flat_map-append f xs (x ∷ []) ∙ ap (λ l. flat_map f xs ++ l) (append-nil (f x))

pub take_step : {X : Type 0} (xs : List X) (i : ℕ) (d : X) → i < length xs → take i xs ++ get_or xs i d ∷ [] ≡ take (i + 1) xs
take_step xs i d lt = sym (take_more xs i d lt)

pub map_alike : {X Y : Type 0} (f g : X → Y) → ((x : X) → f x ≡ g x) → (xs : List X) → map f xs ≡ map g xs
map_alike f g h [] = refl
map_alike f g h (x ∷ xs) = ap₂ (λ y ys. y ∷ ys) (h x) (map_alike f g h xs)

-- packages of a module that come behind others
pub modules_behind : (m : ModuleId) (xs ys : List (List ℕ)) (pairs old new : List (List ℕ × ModuleId)) → old ≡ pairs ++ with_module m xs → new ≡ old ++ with_module m ys → new ≡ pairs ++ with_module m (xs ++ ys)
modules_behind m xs ys pairs old new e f =
    f ∙ ap (λ l. l ++ with_module m ys) e ∙ append_assoc pairs (with_module m xs) (with_module m ys) ∙ ap (λ l. pairs ++ l) (sym (map-append (λ (p : List ℕ). (p, m)) xs ys))

range_more : (a n : ℕ) → range_with_len a (suc n) ≡ range_with_len a n ++ (a + n) ∷ []
range_more a zero = let e : a ≡ a + 0 = omega arith in ap (λ (k : ℕ). k ∷ []) e
range_more a (suc n) = let e : a + 1 + n ≡ a + suc n = omega arith in ap (λ l. a ∷ l) (range_more (a + 1) n ∙ ap (λ (k : ℕ). range_with_len (a + 1) n ++ k ∷ []) e)

pub numbers_more : (a n : ℕ) → module_numbers a n ++ record { 0 = a + n } ∷ [] ≡ module_numbers a (n + 1)
numbers_more a n =
    let number : ℕ → ModuleId = λ k. record { 0 = k } in
    sym (ap (module_numbers a) (add-one n) ∙ ap (map number) (range_more a n) ∙ map-append number (range_with_len a n) ((a + n) ∷ []))

-- what a map gives of items that come behind others
pub mapped_behind : {X Y : Type 0} (f : X → Y) (xs ys : List X) (first old new : List Y) → old ≡ first ++ map f xs → new ≡ old ++ map f ys → new ≡ first ++ map f (xs ++ ys)
mapped_behind f xs ys first old new e g =
    g ∙ ap (λ l. l ++ map f ys) e ∙ append_assoc first (map f xs) (map f ys) ∙ ap (λ l. first ++ l) (sym (map-append f xs ys))

-- a loop's step, where the result grew by what the item at i makes
pub flat_map_step : {X Y : Type 0} (f : X → List Y) (xs : List X) (i : ℕ) (x : X) (old new : List Y) → i < length xs → x ≡ get_or xs i x → old ≡ flat_map f (take i xs) → new ≡ old ++ f x → new ≡ flat_map f (take (i + 1) xs)
flat_map_step f xs i x old new lt is e g =
    let more : take (i + 1) xs ≡ take i xs ++ x ∷ [] = take_more xs i x lt ∙ ap (λ w. take i xs ++ w ∷ []) (sym is) in
    g ∙ ap (λ l. l ++ f x) e ∙ sym (flat_map_push f (take i xs) x) ∙ sym (ap (flat_map f) more)
