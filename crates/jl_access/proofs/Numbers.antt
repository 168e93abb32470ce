-- Texts that are kept once, and their numbers.
use Rattle.std.proofs.Common.{◌≡◌, ◌<◌, ℕ, zero, suc, List, [], ◌∷◌, ◌++◌, map, slice_get, Bool, true, false, ◌==◌, Some, None, refl, sym, ◌∙◌, ap, subst, true≢false, if◌then◌else◌, cond, option_map}
use Rattle.std.specs.List.{list_any, find, IsDistinct}
use Rattle.std.specs.Cmp.Lexicographic.{bytes_decides}
use Rattle.std.proofs.lemmas.Bool.{eq-eqb, eqb-true}
use Rattle.std.proofs.lemmas.List.{map-append, append-nil, length-map}
use Rattle.std.proofs.lemmas.Option.{slice_get-map}
use Rattle.indexmap.specs.IndexSet.{insert_key}
use Rattle.jl_logic.specs.Lists.{IsFront}
use Rattle.jl_logic.specs.Order.{is_text}
use Rattle.jl_access.specs.Kept.{text_in, text_at, IsNumberOf, same_items}
use Rattle.jl_access.proofs.Lists.{both_ways, not_true, place_of, each_at, any_place}

module _ {V : Type 0} (items : V → List ℕ) where
  pub text_of_place : (keys : List V) (n : ℕ) (a : V) → slice_get keys n ≡ Some a → text_at (map items keys) n ≡ items a
  text_of_place keys n a e = ap text_in (slice_get-map items keys n ∙ ap (option_map items) e)

  unlike : (a b : V) → same_items items a b ≡ false → items a ≡ items b → ⊥
  unlike a b h e = true≢false (sym ((bytes_decides (items a) (items b)).1 e) ∙ h)

  pub unique_place : (keys : List V) (m n : ℕ) (a b : V) → IsDistinct (same_items items) keys → slice_get keys m ≡ Some a → slice_get keys n ≡ Some b → items a ≡ items b → m ≡ n
  unfolding IsDistinct
  unique_place [] m n a b d e f same = absurd cc
  unique_place (x ∷ xs) zero zero a b d e f same = refl
  unique_place (x ∷ xs) zero (suc n) a b d e f same =
      let g : x ≡ a = cc in
      absurd (unlike x b (each_at (λ y. same_items items x y ≡ false) xs n b d.0 f) (ap items g ∙ same))
  unique_place (x ∷ xs) (suc m) zero a b d e f same =
      let g : x ≡ b = cc in
      absurd (unlike x a (each_at (λ y. same_items items x y ≡ false) xs m a d.0 e) (ap items g ∙ sym same))
  unique_place (x ∷ xs) (suc m) (suc n) a b d e f same = ap suc (unique_place xs m n a b d.1 e f same)

  pub number_found : (keys : List V) (t : List ℕ) (n : ℕ) (a : V) → IsDistinct (same_items items) keys → slice_get keys n ≡ Some a → items a ≡ t → IsNumberOf (map items keys) t (Some n)
  number_found keys t n a d e f m lt =
      let at = place_of keys m (subst (λ l. m < l) (length-map keys items) lt) in
      let text = text_of_place keys m at.0 at.1 in
      both_ways (is_text (text_at (map items keys) m) t) (m == n)
      (λ h. eq-eqb m n (unique_place keys m n at.0 a d at.1 e (sym text ∙ (bytes_decides (text_at (map items keys) m) t).0 h ∙ sym f)))
      (λ h. (bytes_decides (text_at (map items keys) m) t).1 (ap (text_at (map items keys)) (eqb-true m n h) ∙ text_of_place keys n a e ∙ f))

  find_passes : (p : V → Bool) (keys : List V) (k : V) → Some k ≡ find p keys → p k ≡ true
  find_passes p [] k e = absurd cc
  find_passes p (x ∷ xs) k e = by (λ f. find_passes p xs k f) (p x) refl
    where
      by : (Some k ≡ find p xs → p k ≡ true) → (b : Bool) → p x ≡ b → p k ≡ true
      by rest true h = let f : Some k ≡ Some x = e ∙ ap (λ c. cond c (Some x) (find p xs)) h in let g : k ≡ x = cc in ap p g ∙ h
      by rest false h = rest (e ∙ ap (λ c. cond c (Some x) (find p xs)) h)

  -- the text of a key that was found
  pub found_text : (keys : List V) (t : List ℕ) (k : V) → Some k ≡ find (λ v. is_text t (items v)) keys → items k ≡ t
  found_text keys t k e = sym ((bytes_decides t (items k)).0 (find_passes (λ v. is_text t (items v)) keys k e))

  pub number_missing : (keys : List V) (t : List ℕ) → list_any (λ k. is_text t (items k)) keys ≡ false → IsNumberOf (map items keys) t None
  number_missing keys t none m lt =
      let at = place_of keys m (subst (λ l. m < l) (length-map keys items) lt) in
      let text = text_of_place keys m at.0 at.1 in
      not_true (is_text (text_at (map items keys) m) t)
      (λ h. true≢false (sym (any_place (λ k. is_text t (items k)) keys m at.0 at.1 ((bytes_decides t (items at.0)).1 (sym ((bytes_decides (text_at (map items keys) m) t).0 h) ∙ text))) ∙ none))

  -- what is taken in stands at its number
  pub taken_in : (keys : List V) (n : ℕ) (v : V) → (k : V) × (slice_get keys n ≡ Some k) × (same_items items v k ≡ true) → slice_get (map items keys) n ≡ Some (items v)
  taken_in keys n v s = slice_get-map items keys n ∙ ap (option_map items) s.1 ∙ ap Some (sym ((bytes_decides (items v) (items s.0)).0 s.2))

  -- and the others stay
  pub taken_behind : (keys new : List V) (v : V) → new ≡ insert_key (same_items items) keys v → IsFront (map items keys) (map items new)
  taken_behind keys new v e = by (list_any (same_items items v) keys) refl
    where
      by : (b : Bool) → list_any (same_items items v) keys ≡ b → IsFront (map items keys) (map items new)
      by true h = ([], ap (map items) (e ∙ ap (λ b. if b then keys else keys ++ v ∷ []) h) ∙ sym (append-nil (map items keys)))
      by false h = (items v ∷ [], ap (map items) (e ∙ ap (λ b. if b then keys else keys ++ v ∷ []) h) ∙ map-append items keys (v ∷ []))
