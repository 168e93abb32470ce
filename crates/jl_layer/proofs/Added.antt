-- The modules and the loaders that a new layer adds (`ModuleLayer.defineModules`).
use Rattle.std.proofs.Common.{◌≡◌, ◌⊎◌, ◌<◌, ◌≤◌, ◌+◌, ◌-◌, ℕ, zero, suc, List, [], ◌∷◌, ◌++◌, length, length-append, get_or, slice_get, map, Option, Some, None, option_map, inl, inr, ⊎_elim, refl, sym, ◌∙◌, ap, subst, append-nil, arith}
use Rattle.std.specs.Prelude.{Contains}
use Rattle.std.proofs.lemmas.Bool.{cases_lt}
use Rattle.std.proofs.lemmas.List.{get_or_push, length_push}
use Rattle.std.proofs.lemmas.Option.{none-some, same_Some, slice_get-map}
use Rattle.jl_prim.specs.declared.numbers.ModuleId.{ModuleId}
use Rattle.jl_prim.specs.declared.numbers.LayerId.{LayerId}
use Rattle.jl_prim.specs.declared.numbers.LoaderId.{LoaderId}
use Rattle.jl_prim.specs.declared.declaration.Observed.{Observed}
use Rattle.jl_config.specs.Configurations.{Configuration}
use Rattle.jl_config.specs.Located.{configuration_of}
use Rattle.jl_loaders.specs.Loaders as delegation
use Rattle.jl_layer.specs.declared.layer.Layer.{Layer}
use Rattle.jl_layer.specs.declared.layer.Member.{Member}
use Rattle.jl_layer.specs.declared.layer.Mode.{Mode}
use Rattle.jl_layer.specs.declared.layer.Mode.TheVariants.{One, Many}
use Rattle.jl_layer.specs.Layers.{State, empty_layer, layer_at, configuration_at, member_of, numbered, IsLayer}
use Rattle.jl_layer.specs.Defining.{Asked, asked_modules, next_layer, next_loader, members, new_members, new_numbers, loader_count, new_loaders, new_layer}
use Rattle.jl_layer.proofs.Listed.{numbered_behind, numbered_before, row_at, row_into, row_from}
use Rattle.jl_layer.proofs.Growing.{Extends, member_there}

-- ---- numbers

pub same_module : (a b : ModuleId) → a.0 ≡ b.0 → a ≡ b
same_module a b e = ap (λ (k : ℕ). let x : ModuleId = record { 0 = k } in x) e

pub same_layer : (a b : LayerId) → a.0 ≡ b.0 → a ≡ b
same_layer a b e = ap (λ (k : ℕ). let x : LayerId = record { 0 = k } in x) e

pub same_loader : (a b : LoaderId) → a.0 ≡ b.0 → a ≡ b
same_loader a b e = ap (λ (k : ℕ). let x : LoaderId = record { 0 = k } in x) e

-- loaders are numbered as other items are
pub loader_numbered : (ls : List delegation.Parts) (n : ℕ) → delegation.numbered ls n ≡ numbered ls n
loader_numbered ls zero = refl
loader_numbered ls (suc n) = refl

-- ---- the module at a place

abbrev module_id : ℕ → ModuleId
module_id n = record { 0 = n }

abbrev loader_id : ℕ → LoaderId
loader_id n = record { 0 = n }

-- which of the new loaders is that of the module at a place
abbrev pub loader_place : Mode → ℕ → ℕ
loader_place One i = 0
loader_place Many i = i

-- a module with a loader
abbrev pub with_loader : LayerId → ℕ → Observed → Member
with_loader layer k o = record { layer = layer; loader = record { 0 = k }; observed = o }

pub members_at : (mode : Mode) (layer : LayerId) (n i : ℕ) (os : List Observed) → slice_get (members mode layer n os) i ≡ option_map (with_loader layer (n + loader_place mode i)) (slice_get os i)
unfolding members
members_at One layer n i [] = refl
members_at Many layer n i [] = refl
members_at One layer n zero (o ∷ os) = let e : n ≡ n + 0 = omega arith in ap (λ (k : ℕ). Some (with_loader layer k o)) e
members_at Many layer n zero (o ∷ os) = let e : n ≡ n + 0 = omega arith in ap (λ (k : ℕ). Some (with_loader layer k o)) e
members_at One layer n (suc i) (o ∷ os) = members_at One layer n i os
members_at Many layer n (suc i) (o ∷ os) =
    let e : n + 1 + i ≡ n + suc i = omega arith in members_at Many layer (n + 1) i os ∙ ap (λ (k : ℕ). option_map (with_loader layer k) (slice_get os i)) e

pub members_long : (mode : Mode) (layer : LayerId) (n : ℕ) (os : List Observed) → length (members mode layer n os) ≡ length os
unfolding members
members_long One layer n [] = refl
members_long Many layer n [] = refl
members_long One layer n (o ∷ os) = ap suc (members_long One layer n os)
members_long Many layer n (o ∷ os) = ap suc (members_long Many layer (n + 1) os)

pub place_counted : (mode : Mode) (os : List Observed) (i : ℕ) → i < length os → loader_place mode i < loader_count mode os
place_counted One [] i lt = absurd (omega arith)
place_counted Many [] i lt = absurd (omega arith)
place_counted One (o ∷ os) i lt = omega arith
place_counted Many (o ∷ os) i lt = omega arith

-- each new loader is that of a module
pub counted_place : (mode : Mode) (os : List Observed) (j : ℕ) → j < loader_count mode os → (j < length os) × (loader_place mode j ≡ j)
counted_place One [] j lt = absurd (omega arith)
counted_place Many [] j lt = absurd (omega arith)
counted_place One (o ∷ os) j lt = (omega arith, omega arith)
counted_place Many (o ∷ os) j lt = (omega arith, refl)

pub counted_few : (mode : Mode) (os : List Observed) → loader_count mode os ≤ length os
counted_few One [] = omega arith
counted_few Many [] = omega arith
counted_few One (o ∷ os) = omega arith
counted_few Many (o ∷ os) = omega arith

-- ---- a state with the layer

-- the configurations, layers and modules of the state in which the layer is placed
pub record IsPlaced (old : State) (q : Asked) (s : State) : Type 0 where
  pub configurations : s.configurations ≡ old.configurations
  pub layers : s.layers ≡ old.layers ++ new_layer old q ∷ []
  pub modules : s.modules ≡ old.modules ++ new_members old q

-- the module is the new one at a place
pub record IsNew (old : State) (q : Asked) (m : ModuleId) (x : Member) : Type 0 where
  pub place : ℕ
  pub observed : Observed
  pub there : slice_get (asked_modules old q) place ≡ Some observed
  pub number : m.0 ≡ length old.modules + place + 1
  pub is : x ≡ with_loader (next_layer old) (next_loader old + loader_place q.mode place) observed

module _ (old s : State) (q : Asked) (placed : IsPlaced old q s) where
  pub extends_placed : Extends old s
  extends_placed = record {
    configurations = ([], placed.configurations ∙ sym (append-nil old.configurations));
    layers = (new_layer old q ∷ [], placed.layers);
    modules = (new_members old q, placed.modules);
  }

  pub layers_long : length s.layers ≡ length old.layers + 1
  layers_long = ap (λ (ls : List Layer). length ls) placed.layers ∙ length_push old.layers (new_layer old q)

  pub modules_long : length s.modules ≡ length old.modules + length (asked_modules old q)
  modules_long =
      let e : length s.modules ≡ length (old.modules ++ new_members old q) = ap (λ (xs : List Member). length xs) placed.modules in
      let f : length (new_members old q) ≡ length (asked_modules old q) = members_long q.mode (next_layer old) (next_loader old) (asked_modules old q) in
      omega (arith, e, f, length-append old.modules (new_members old q))

  pub new_layer_at : layer_at s (next_layer old) ≡ new_layer old q
  new_layer_at =
      ap (λ (ls : List Layer). get_or (empty_layer ∷ ls) (length old.layers + 1) empty_layer) placed.layers
      ∙ get_or_push (empty_layer ∷ old.layers) (new_layer old q) empty_layer (length old.layers + 1) (omega arith)

  pub new_configuration : configuration_at s (next_layer old) ≡ configuration_of old.configurations q.config
  new_configuration =
      ap (λ (x : Layer). configuration_of s.configurations x.config) new_layer_at
      ∙ ap (λ (gs : List Configuration). configuration_of gs q.config) placed.configurations

  -- a layer is an old one, or the new one
  pub layer_cases : (l : LayerId) → IsLayer s l → IsLayer old l ⊎ (l ≡ next_layer old)
  layer_cases l there =
      ⊎_elim (λ lt. inl (in_old lt)) (λ ge. inr (same_layer l (next_layer old) (at_end ge))) (cases_lt l.0 (length old.layers + 1))
    where
      in_old : l.0 < length old.layers + 1 → l.0 ≤ length old.layers
      in_old lt = omega arith

      at_end : length old.layers + 1 ≤ l.0 → l.0 ≡ length old.layers + 1
      at_end ge = omega (arith, layers_long)

  behind : (m : ModuleId) (i : ℕ) → m.0 ≡ length old.modules + i + 1 → member_of s m ≡ option_map (with_loader (next_layer old) (next_loader old + loader_place q.mode i)) (slice_get (asked_modules old q) i)
  behind m i e =
      ap (λ (xs : List Member). numbered xs m.0) placed.modules
      ∙ numbered_behind old.modules (new_members old q) m.0 i e
      ∙ members_at q.mode (next_layer old) (next_loader old) i (asked_modules old q)

  pub new_member : (m : ModuleId) (i : ℕ) (o : Observed) → m.0 ≡ length old.modules + i + 1 → slice_get (asked_modules old q) i ≡ Some o → member_of s m ≡ Some (with_loader (next_layer old) (next_loader old + loader_place q.mode i) o)
  new_member m i o e h = behind m i e ∙ ap (option_map (with_loader (next_layer old) (next_loader old + loader_place q.mode i))) h

  -- a module is an old one, or a new one
  pub member_cases : (m : ModuleId) (x : Member) → member_of s m ≡ Some x → (member_of old m ≡ Some x) ⊎ IsNew old q m x
  member_cases m x e =
      ⊎_elim (λ (lt : m.0 < length old.modules + 1). inl (sym (ap (λ (xs : List Member). numbered xs m.0) placed.modules ∙ numbered_before old.modules (new_members old q) m.0 (omega arith)) ∙ e))
      (λ (ge : length old.modules + 1 ≤ m.0). inr (late (m.0 - (length old.modules + 1)) (omega arith))) (cases_lt m.0 (length old.modules + 1))
    where
      late : (i : ℕ) → m.0 ≡ length old.modules + i + 1 → IsNew old q m x
      late i n = by (slice_get (asked_modules old q) i) refl
        where
          by : (o : Option Observed) → slice_get (asked_modules old q) i ≡ o → IsNew old q m x
          by None h =
              absurd (none-some x (sym (behind m i n ∙ ap (option_map (with_loader (next_layer old) (next_loader old + loader_place q.mode i))) h) ∙ e))
          by (Some o) h =
              record { place = i; observed = o; there = h; number = n; is = same_Some x (with_loader (next_layer old) (next_loader old + loader_place q.mode i) o) (sym e ∙ new_member m i o n h) }

  -- ---- numbers of modules

  pub numbers_from : (m : ModuleId) → Contains (new_numbers old q) m → (i : ℕ) × (i < length (asked_modules old q)) × (m.0 ≡ length old.modules + i + 1)
  numbers_from m c =
      let r = row_from module_id (length old.modules + 1) (length (asked_modules old q)) m c in
      let e : m.0 ≡ length old.modules + 1 + r.0 = ap (λ (x : ModuleId). x.0) r.2 in
      (r.0, r.1, omega arith)

  pub numbers_into : (m : ModuleId) (i : ℕ) → i < length (asked_modules old q) → m.0 ≡ length old.modules + i + 1 → Contains (new_numbers old q) m
  numbers_into m i lt e =
      subst (Contains (new_numbers old q)) (same_module (module_id (length old.modules + 1 + i)) m (omega arith)) (row_into module_id (length old.modules + 1) (length (asked_modules old q)) i lt)

  -- a module of the new layer is new
  pub new_in_layer : (m : ModuleId) (x : Member) → Contains (layer_at s (next_layer old)).modules m → member_of s m ≡ Some x → IsNew old q m x
  new_in_layer m x c e =
      let r = numbers_from m (subst (λ (y : Layer). Contains y.modules m) new_layer_at c) in
      cases r.0 r.2 (member_cases m x e)
    where
      cases : (i : ℕ) → m.0 ≡ length old.modules + i + 1 → (member_of old m ≡ Some x) ⊎ IsNew old q m x → IsNew old q m x
      cases i n (inl k) = let there = member_there old m x k in absurd (omega (arith, there.1))
      cases i n (inr a) = a

-- ---- loaders

-- the parts of the new loader at a place
pub new_parts : (old : State) (q : Asked) (ls : List delegation.Parts) (make : LoaderId → delegation.Parts) (l : LoaderId) (j : ℕ)
    → ls ≡ old.loaders.loaders ++ map make (new_loaders old q) → j < loader_count q.mode (asked_modules old q) → l.0 ≡ next_loader old + j → delegation.numbered ls l.0 ≡ Some (make l)
new_parts old q ls make l j is lt e =
    loader_numbered ls l.0
    ∙ ap (λ (xs : List delegation.Parts). numbered xs l.0) is
    ∙ numbered_behind old.loaders.loaders (map make (new_loaders old q)) l.0 j (omega arith)
    ∙ slice_get-map make (new_loaders old q) j
    ∙ ap (option_map make) (row_at loader_id (next_loader old) (loader_count q.mode (asked_modules old q)) j lt)
    ∙ ap (λ (x : LoaderId). Some (make x)) (same_loader (loader_id (next_loader old + j)) l (sym e))
