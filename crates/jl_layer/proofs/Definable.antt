-- A layer that may be defined, and the state in which it is placed (`ModuleLayer.defineModules`).
use Rattle.std.proofs.Common.{◌≡◌, ◌≢◌, ◌⊎◌, ◌<◌, ◌≤◌, ◌+◌, ℕ, List, [], ◌∷◌, length, map, inl, inr, ⊎_elim, refl, sym, ap, ap₂, subst, arith}
use Rattle.std.specs.Prelude.{Contains}
use Rattle.std.proofs.lemmas.Bool.{cases_eq}
use Rattle.jl_prim.specs.declared.numbers.ModuleId.{ModuleId}
use Rattle.jl_prim.specs.declared.numbers.LayerId.{LayerId}
use Rattle.jl_prim.specs.declared.numbers.ConfigId.{ConfigId}
use Rattle.jl_prim.specs.Limits.{most_modules}
use Rattle.jl_config.specs.Configurations.{Configuration}
use Rattle.jl_config.specs.Located.{configuration_of}
use Rattle.jl_layer.specs.declared.layer.Layer.{Layer}
use Rattle.jl_layer.specs.Layers.{State, layer_at, IsLayer, IsConfiguration, IsModule}
use Rattle.jl_layer.specs.Defining.{Asked, asked_modules, next_layer, new_numbers}
use Rattle.jl_layer.specs.Refusals.{IsOverlap, IsSplit}
use Rattle.jl_layer.proofs.Growing.{AreLaidOut, layer_kept}
use Rattle.jl_layer.proofs.Added.{IsPlaced, extends_placed, modules_long, new_layer_at, layer_cases, numbers_from}

-- What the conditions of a definition say, with no refusal.
pub record IsDefinable (s : State) (q : Asked) : Type 0 where
  pub known : IsConfiguration s q.config
  pub parents : (p : LayerId) → Contains q.parents p → IsLayer s p
  pub configs : map (λ (p : LayerId). (layer_at s p).config) q.parents ≡ (configuration_of s.configurations q.config).parents
  pub whole : (p one other : List ℕ) → IsOverlap s q p one other → ⊥
  pub joint : (p one other : List ℕ) → IsSplit s q p one other → ⊥
  pub few_modules : length s.modules + length (asked_modules s q) ≤ most_modules
  pub few_layers : length s.layers < most_modules

-- ---- lists of numbers are the same or not

pub same_configs : (xs ys : List ConfigId) → (xs ≡ ys) ⊎ (xs ≢ ys)
same_configs [] [] = inl refl
same_configs [] (y ∷ ys) = inr (λ e. absurd cc)
same_configs (x ∷ xs) [] = inr (λ e. absurd cc)
same_configs (x ∷ xs) (y ∷ ys) = by (cases_eq x.0 y.0) (same_configs xs ys)
  where
    by : (x.0 ≡ y.0) ⊎ (x.0 ≡ y.0 → ⊥) → (xs ≡ ys) ⊎ (xs ≢ ys) → (x ∷ xs ≡ y ∷ ys) ⊎ (x ∷ xs ≢ y ∷ ys)
    by (inl e) (inl f) = inl (ap₂ (λ (k : ℕ) (l : List ConfigId). let c : ConfigId = record { 0 = k } in c ∷ l) e f)
    by (inl e) (inr n) = inr (λ f. n (let g : xs ≡ ys = cc in g))
    by (inr n) r = inr (λ f. n (ap (λ (c : ConfigId). c.0) (let g : x ≡ y = cc in g)))

-- what is not refused is so
pub same_unless : (xs ys : List ConfigId) → (xs ≢ ys → ⊥) → xs ≡ ys
same_unless xs ys h = ⊎_elim (λ e. e) (λ n. absurd (h n)) (same_configs xs ys)

-- ---- where the layer is placed

module _ (old s : State) (q : Asked) (order : AreLaidOut old) (definable : IsDefinable old q) (placed : IsPlaced old q s) where
  still_config : (c : ConfigId) → IsConfiguration old c → IsConfiguration s c
  still_config c there = let e : length s.configurations ≡ length old.configurations = ap (λ (gs : List Configuration). length gs) placed.configurations in omega arith

  kept : (l : LayerId) → IsLayer old l → layer_at s l ≡ layer_at old l
  kept l there = layer_kept old s order (extends_placed old s q placed) l there

  known : (l : LayerId) → IsLayer old l ⊎ (l ≡ next_layer old) → IsConfiguration s (layer_at s l).config
  known l (inl there) = subst (λ (x : Layer). IsConfiguration s x.config) (sym (kept l there)) (still_config (layer_at old l).config (order.known l there))
  known l (inr e) =
      subst (λ (k : LayerId). IsConfiguration s (layer_at s k).config) (sym e)
      (subst (λ (x : Layer). IsConfiguration s x.config) (sym (new_layer_at old s q placed)) (still_config q.config definable.known))

  below : (l p : LayerId) → IsLayer old l ⊎ (l ≡ next_layer old) → Contains (layer_at s l).parents p → p.0 < l.0
  below l p (inl there) c = order.below l p there (subst (λ (x : Layer). Contains x.parents p) (kept l there) c)
  below l p (inr e) c =
      let at : Contains q.parents p = subst (λ (x : Layer). Contains x.parents p) (new_layer_at old s q placed) (subst (λ (k : LayerId). Contains (layer_at s k).parents p) e c) in
      let low : p.0 ≤ length old.layers = definable.parents p at in
      let is : l.0 ≡ length old.layers + 1 = ap (λ (k : LayerId). k.0) e in
      omega arith

  inside : (l : LayerId) (m : ModuleId) → IsLayer old l ⊎ (l ≡ next_layer old) → Contains (layer_at s l).modules m → IsModule s m
  inside l m (inl there) c =
      let at = order.inside l m there (subst (λ (x : Layer). Contains x.modules m) (kept l there) c) in
      let long : length s.modules ≡ length old.modules + length (asked_modules old q) = modules_long old s q placed in
      (at.0, omega (arith, at.1))
  inside l m (inr e) c =
      let at : Contains (new_numbers old q) m = subst (λ (x : Layer). Contains x.modules m) (new_layer_at old s q placed) (subst (λ (k : LayerId). Contains (layer_at s k).modules m) e c) in
      let r = numbers_from old s q placed m at in
      let long : length s.modules ≡ length old.modules + length (asked_modules old q) = modules_long old s q placed in
      (omega (arith, r.2), omega (arith, r.1, r.2))

  pub laid_placed : AreLaidOut s
  laid_placed = record {
    known = λ l there. known l (layer_cases old s q placed l there);
    below = λ l p there c. below l p (layer_cases old s q placed l there) c;
    inside = λ l m there c. inside l m (layer_cases old s q placed l there) c;
  }
