-- Items of lists that are mapped, filtered and joined, and modules in the order of their names.
use Rattle.std.proofs.Common.{◌≡◌, ℕ, List, [], ◌∷◌, map, ⊎_elim, refl, sym, ◌∙◌, ap, subst, Contains, All, Option, Some, None, Bool, true, false, cond, filter, filter_map, Less}
use Rattle.std.specs.List.{flat_map, cons_option}
use Rattle.std.specs.Ordering.{is_eq}
use Rattle.std.specs.Cmp.Lexicographic.{bytes_decides, texts_ties}
use Rattle.std.proofs.lemmas.List.Elements.{All-from_recursion, Contains-append_cases}
use Rattle.jl_logic.specs.Order.{is_text, name_cmp, RisesBy}
use Rattle.jl_logic.proofs.Rising.{contains_head, contains_tail, contains_cases, contains_nothing, each_from_members, each_of_member}
use Rattle.jl_prim.specs.declared.declaration.Observed.{Observed}
use Rattle.jl_config.specs.Located.{name_of}
use Rattle.jl_config.specs.Orders.{module_cmp}

pub all_of : {X : Type 0} (P : X → Type 0) (xs : List X) → ((x : X) → Contains xs x → P x) → All P xs
all_of P xs h = All-from_recursion P xs (each_from_members P xs h)

module _ {X Y : Type 0} (f : X → Y) where
  pub from_map : (xs : List X) (y : Y) → Contains (map f xs) y → (x : X) × Contains xs x × (f x ≡ y)
  from_map [] y c = contains_nothing y c
  from_map (w ∷ xs) y c = ⊎_elim (λ e. (w, contains_head w xs, e)) (λ k. let r = from_map xs y k in (r.0, contains_tail w r.0 xs r.1, r.2)) (contains_cases (f w) y (map f xs) c)

module _ {X Y : Type 0} (f : X → List Y) where
  pub from_flat_map : (xs : List X) (y : Y) → Contains (flat_map f xs) y → (x : X) × Contains xs x × Contains (f x) y
  from_flat_map [] y c = contains_nothing y c
  from_flat_map (w ∷ xs) y c = ⊎_elim (λ k. (w, contains_head w xs, k)) (λ k. let r = from_flat_map xs y k in (r.0, contains_tail w r.0 xs r.1, r.2)) (Contains-append_cases (f w) (flat_map f xs) y c)

module _ {X Y : Type 0} (h : X → Option Y) where
  pub from_filter_map : (xs : List X) (y : Y) → Contains (filter_map h xs) y → (x : X) × Contains xs x × (h x ≡ Some y)
  from_filter_map [] y c = contains_nothing y c
  from_filter_map (w ∷ xs) y c = by (λ k. let r = from_filter_map xs y k in (r.0, contains_tail w r.0 xs r.1, r.2)) (h w) refl c
    where
      by : (Contains (filter_map h xs) y → (x : X) × Contains (w ∷ xs) x × (h x ≡ Some y)) → (o : Option Y) → h w ≡ o → Contains (cons_option o (filter_map h xs)) y → (x : X) × Contains (w ∷ xs) x × (h x ≡ Some y)
      by more None e k = more k
      by more (Some z) e k = ⊎_elim (λ f. (w, contains_head w xs, e ∙ ap Some f)) more (contains_cases z y (filter_map h xs) k)

module _ {X : Type 0} (test : X → Bool) where
  pub from_filter : (xs : List X) (x : X) → Contains (filter test xs) x → Contains xs x × (test x ≡ true)
  from_filter [] x c = contains_nothing x c
  from_filter (w ∷ xs) x c = by (λ k. let r = from_filter xs x k in (contains_tail w x xs r.0, r.1)) (test w) refl c
    where
      by : (Contains (filter test xs) x → Contains (w ∷ xs) x × (test x ≡ true)) → (b : Bool) → test w ≡ b → Contains (cond b (w ∷ filter test xs) (filter test xs)) x → Contains (w ∷ xs) x × (test x ≡ true)
      by more false e k = more k
      by more true e k = ⊎_elim (λ f. (subst (Contains (w ∷ xs)) f (contains_head w xs), subst (λ (v : X). test v ≡ true) f e)) more (contains_cases w x (filter test xs) k)

-- ---- names

pub text_is : (a b : List ℕ) → is_text a b ≡ true → a ≡ b
text_is a b e = (bytes_decides a b).0 e

pub text_differs : (a b : List ℕ) → is_text a b ≡ false → a ≡ b → ⊥
text_differs a b e f = let g : is_text a b ≡ true = (bytes_decides a b).1 f in absurd cc

less_differs : (a b : List ℕ) → name_cmp a b ≡ Less → a ≡ b → ⊥
less_differs a b e = text_differs a b (texts_ties a b ∙ ap is_eq e)

-- in a list in the order of names a name stands once
pub one_named : (os : List Observed) (a b : Observed) → RisesBy module_cmp os → Contains os a → Contains os b → name_of a ≡ name_of b → a ≡ b
one_named [] a b up c d e = contains_nothing a c
one_named (o ∷ os) a b up c d e =
    ⊎_elim
    (λ i. ⊎_elim (λ j. sym i ∙ j) (λ k. absurd (less_differs (name_of o) (name_of b) (later b k) (ap name_of i ∙ e))) (contains_cases o b os d))
    (λ h. ⊎_elim (λ j. absurd (less_differs (name_of o) (name_of a) (later a h) (ap name_of j ∙ sym e))) (λ k. one_named os a b up.1 h k e) (contains_cases o b os d))
    (contains_cases o a os c)
  where
    later : (x : Observed) → Contains os x → module_cmp o x ≡ Less
    later x k = each_of_member (λ y. module_cmp o y ≡ Less) os x up.0 k
