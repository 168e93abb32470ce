-- What a definition makes of layers that are sound (`ModuleLayer.defineModules`).
use Rattle.std.proofs.Common.{◌≡◌, ◌⊎◌, ◌<◌, ◌≤◌, ◌+◌, ◌-◌, ℕ, suc, List, [], ◌∷◌, ◌++◌, length, length-append, map, get_or, Option, Some, option_map, inl, inr, refl, sym, ◌∙◌, ap, subst, All, append-nil, arith}
use Rattle.std.specs.Prelude.{Contains}
use Rattle.std.proofs.lemmas.Bool.{cases_lt}
use Rattle.std.proofs.lemmas.List.{length-map, map-append, same_lists, get_or-map}
use Rattle.std.proofs.lemmas.List.Elements.{Contains-append_left, Contains-append_right}
use Rattle.std.proofs.lemmas.List.FromFn.{length-map-range_with_len, get_or-map-range_with_len}
use Rattle.std.proofs.lemmas.Option.{get_or_from_slice_get, slice_get_within}
use Rattle.jl_logic.specs.Order.{RisesBy}
use Rattle.jl_prim.specs.declared.numbers.ModuleId.{ModuleId}
use Rattle.jl_prim.specs.declared.numbers.LayerId.{LayerId}
use Rattle.jl_prim.specs.declared.numbers.LoaderId.{LoaderId}
use Rattle.jl_prim.specs.declared.declaration.Observed.{Observed}
use Rattle.jl_config.specs.Configurations.{Configuration}
use Rattle.jl_config.specs.Orders.{module_cmp}
use Rattle.jl_loaders.specs.Loaders as delegation
use Rattle.jl_access.specs.Facts as access
use Rattle.jl_access.specs.declared.statement.Statement.{Statement}
use Rattle.jl_layer.specs.declared.layer.Layer.{Layer}
use Rattle.jl_layer.specs.declared.layer.Member.{Member}
use Rattle.jl_layer.specs.Layers.{State, layer_at, configuration_at, member_of, IsLayer}
use Rattle.jl_layer.specs.Meaning.{statements_of}
use Rattle.jl_layer.specs.Defining.{Asked, asked_modules, next_layer, next_loader, new_members, new_numbers, loader_count, new_loaders, new_layer, placed, parts_of, declared_module, IsDefined}
use Rattle.jl_layer.specs.Keeping.{AreKept}
use Rattle.jl_layer.specs.Laws.{Grows}
use Rattle.jl_layer.specs.Sound.{IsSoundLayer, HasBase, AreSound}
use Rattle.jl_layer.proofs.Listed.{all_of, map_alike, numbered_in}
use Rattle.jl_layer.proofs.Growing.{AreLaidOut, Extends, laid_out, still_layer, layer_kept, still_member, statements_kept, parts_kept}
use Rattle.jl_layer.proofs.Added.{IsPlaced, IsNew, same_loader, loader_place, with_loader, place_counted, counted_few, counted_place, extends_placed, layers_long, modules_long, new_layer_at, new_configuration, layer_cases, new_member, member_cases, numbers_from, numbers_into, new_in_layer, new_parts}
use Rattle.jl_layer.proofs.Definable.{IsDefinable, laid_placed}
use Rattle.jl_layer.proofs.StillSound.{layer_still}
use Rattle.jl_layer.proofs.OwnApart.{apart_loaders}
use Rattle.jl_layer.proofs.Apartness.{apart_placed}

abbrev module_id : ℕ → ModuleId
module_id n = record { 0 = n }

-- what each module number stands for
abbrev seen_by : State → ModuleId → Option Observed
seen_by s m = option_map (λ (x : Member). x.observed) (member_of s m)

-- ---- growth

-- a definition lets all lists grow
pub defined_grows : (old new : State) (q : Asked) → IsDefined old q new → (old.loaders.loaders ≡ []) ⊎ (new.loaders.base ≡ old.loaders.base) → Grows old new
defined_grows old new q defined base = record {
  configurations = ([], defined.configurations ∙ sym (append-nil old.configurations));
  layers = (new_layer old q ∷ [], defined.layers);
  modules = (new_members old q, defined.modules);
  loaders = record { loaders = (map (parts_of (placed old q) (next_layer old)) (new_loaders old q), defined.loaders); base = base };
  facts = record { modules = (map declared_module (new_members old q), defined.facts); statements = (statements_of (placed old q) (next_layer old), defined.statements) };
}

-- ---- the new layer

module _ (old new : State) (q : Asked) (sound : AreSound old) (definable : IsDefinable old q) (defined : IsDefined old q new) where
  pub is_placed : IsPlaced old q new
  is_placed = record { configurations = defined.configurations; layers = defined.layers; modules = defined.modules }

  order : AreLaidOut old
  order = laid_out old sound

  order_new : AreLaidOut new
  order_new = laid_placed old new q order definable is_placed

  order_placed : AreLaidOut (placed old q)
  order_placed = laid_placed old (placed old q) q order definable (record { configurations = refl; layers = refl; modules = refl })

  more : Extends old new
  more = extends_placed old new q is_placed

  same : Extends (placed old q) new
  same = record {
    configurations = ([], defined.configurations ∙ sym (append-nil old.configurations));
    layers = ([], defined.layers ∙ sym (append-nil (placed old q).layers));
    modules = ([], defined.modules ∙ sym (append-nil (placed old q).modules));
  }

  here : IsLayer new (next_layer old)
  here = omega (arith, layers_long old new q is_placed)

  here_placed : IsLayer (placed old q) (next_layer old)
  here_placed = omega (arith, layers_long old (placed old q) q (record { configurations = refl; layers = refl; modules = refl }))

  at : layer_at new (next_layer old) ≡ new_layer old q
  at = new_layer_at old new q is_placed

  configured : (configuration_at new (next_layer old)).modules ≡ asked_modules old q
  configured = ap (λ (g : Configuration). g.modules) (new_configuration old new q is_placed)

  observed_at : (k : ℕ) (d : Option Observed) → k < length (asked_modules old q) → get_or (map (seen_by new) (new_numbers old q)) k d ≡ get_or (map Some (asked_modules old q)) k d
  observed_at k d lt =
      let o = numbered_in (asked_modules old q) (suc k) (omega arith) (omega arith) in
      let count = length (asked_modules old q) in
      let m : ModuleId = module_id (length old.modules + 1 + k) in
      get_or-map (seen_by new) (new_numbers old q) k m d (omega (arith, length-map-range_with_len module_id (length old.modules + 1) count))
      ∙ ap (seen_by new) (get_or-map-range_with_len module_id (length old.modules + 1) count k (length old.modules + 1 + k) m lt refl)
      ∙ ap (option_map (λ (x : Member). x.observed)) (new_member old new q is_placed m k o.0 (omega arith) o.1)
      ∙ sym (get_or-map Some (asked_modules old q) k o.0 d lt ∙ ap Some (get_or_from_slice_get (asked_modules old q) k o.0 o.0 o.1))

  observed_new : map (seen_by new) (new_numbers old q) ≡ map Some (asked_modules old q)
  observed_new =
      let long : length (map (seen_by new) (new_numbers old q)) ≡ length (asked_modules old q) =
      length-map (new_numbers old q) (seen_by new) ∙ length-map-range_with_len module_id (length old.modules + 1) (length (asked_modules old q)) in
      same_lists (map (seen_by new) (new_numbers old q)) (map Some (asked_modules old q)) (long ∙ sym (length-map (asked_modules old q) Some)) (λ k d lt. observed_at k d (omega arith))

  layer_of_new : (m : ModuleId) → Contains (layer_at new (next_layer old)).modules m → option_map (λ (x : Member). x.layer) (member_of new m) ≡ Some (next_layer old)
  layer_of_new m c =
      let r = numbers_from old new q is_placed m (subst (λ (y : Layer). Contains y.modules m) at c) in
      let o = numbered_in (asked_modules old q) (suc r.0) (omega arith) (omega (arith, r.1)) in
      ap (option_map (λ (x : Member). x.layer)) (new_member old new q is_placed m r.0 o.0 r.2 o.1)

  place_within : (m : ModuleId) (x : Member) (a : IsNew old q m x) → a.place < length (asked_modules old q)
  place_within m x a = slice_get_within (asked_modules old q) a.place a.observed a.there

  loader_of_new : (m : ModuleId) (x : Member) → Contains (layer_at new (next_layer old)).modules m → member_of new m ≡ Some x → delegation.numbered new.loaders.loaders x.loader.0 ≡ Some (parts_of new (next_layer old) x.loader)
  loader_of_new m x c e =
      let a = new_in_layer old new q is_placed m x c e in
      new_parts old q new.loaders.loaders (parts_of (placed old q) (next_layer old)) x.loader (loader_place q.mode a.place) defined.loaders
      (place_counted q.mode (asked_modules old q) a.place (place_within m x a)) (ap (λ (z : Member). z.loader.0) a.is)
      ∙ ap Some (sym (parts_kept (placed old q) new order_placed same (next_layer old) x.loader here_placed))

  new_sound : IsSoundLayer new (next_layer old)
  new_sound = record {
    known = order_new.known (next_layer old) here;
    below = all_of (λ (p : LayerId). p.0 < (next_layer old).0) (layer_at new (next_layer old)).parents (λ p c. order_new.below (next_layer old) p here c);
    configs =
        ap (λ (x : Layer). map (λ (p : LayerId). (layer_at new p).config) x.parents) at
        ∙ map_alike (λ (p : LayerId). (layer_at new p).config) (λ (p : LayerId). (layer_at old p).config) q.parents
        (λ p c. ap (λ (x : Layer). x.config) (layer_kept old new order more p (definable.parents p c)))
        ∙ definable.configs ∙ sym (ap (λ (g : Configuration). g.parents) (new_configuration old new q is_placed));
    observed = ap (λ (x : Layer). map (seen_by new) x.modules) at ∙ observed_new ∙ sym (ap (λ (os : List Observed). map Some os) configured);
    inside = all_of (λ (m : ModuleId). option_map (λ (x : Member). x.layer) (member_of new m) ≡ Some (next_layer old)) (layer_at new (next_layer old)).modules layer_of_new;
    loaders = loader_of_new;
  }

  -- ---- modules and loaders

  member_of_layer : (m : ModuleId) (x : Member) → (member_of old m ≡ Some x) ⊎ IsNew old q m x → (0 < x.layer.0) × IsLayer new x.layer × Contains (layer_at new x.layer).modules m
  member_of_layer m x (inl e) =
      let r = sound.members m x e in
      (r.0, still_layer old new order more x.layer r.1, subst (λ (y : Layer). Contains y.modules m) (sym (layer_kept old new order more x.layer r.1)) r.2)
  member_of_layer m x (inr a) =
      let into : Contains (new_numbers old q) m = numbers_into old new q is_placed m a.place (place_within m x a) a.number in
      let first : 0 < length old.layers + 1 = omega arith in
      subst (λ (z : Member). (0 < z.layer.0) × IsLayer new z.layer × Contains (layer_at new z.layer).modules m) (sym a.is)
      (first, here, subst (λ (y : Layer). Contains y.modules m) (sym at) into)

  one_layer : (m n : ModuleId) (x y : Member) → (member_of old m ≡ Some x) ⊎ IsNew old q m x → (member_of old n ≡ Some y) ⊎ IsNew old q n y → x.loader ≡ y.loader → x.layer ≡ y.layer
  one_layer m n x y (inl e) (inl f) i = sound.one_layer m n x y e f i
  one_layer m n x y (inl e) (inr b) i = absurd (apart_loaders old new q sound definable is_placed m n x y y.loader e b i refl)
  one_layer m n x y (inr a) (inl f) i = absurd (apart_loaders old new q sound definable is_placed n m y x x.loader f a (sym i) refl)
  one_layer m n x y (inr a) (inr b) i = ap (λ (z : Member). z.layer) a.is ∙ sym (ap (λ (z : Member). z.layer) b.is)

  loaders_long : length new.loaders.loaders ≡ length old.loaders.loaders + loader_count q.mode (asked_modules old q)
  loaders_long =
      let parts = parts_of (placed old q) (next_layer old) in
      let e : length new.loaders.loaders ≡ length (old.loaders.loaders ++ map parts (new_loaders old q)) = ap (λ (ls : List delegation.Parts). length ls) defined.loaders in
      let f : length (map parts (new_loaders old q)) ≡ length (new_loaders old q) = length-map (new_loaders old q) parts in
      let g : length (new_loaders old q) ≡ loader_count q.mode (asked_modules old q) =
      length-map-range_with_len (λ (n : ℕ). let l : LoaderId = record { 0 = n } in l) (next_loader old) (loader_count q.mode (asked_modules old q)) in
      omega (arith, e, f, g, length-append old.loaders.loaders (map parts (new_loaders old q)))

  used_old : (l : LoaderId) → delegation.IsLoader old.loaders l → (m : ModuleId) × (x : Member) × (member_of new m ≡ Some x) × (x.loader ≡ l)
  used_old l there = let r = sound.used l there in (r.0, r.1, still_member old new order more r.0 r.1 r.2, r.3)

  used_new : (l : LoaderId) (j : ℕ) → l.0 ≡ next_loader old + j → j < loader_count q.mode (asked_modules old q) → (m : ModuleId) × (x : Member) × (member_of new m ≡ Some x) × (x.loader ≡ l)
  used_new l j e lt =
      let place = counted_place q.mode (asked_modules old q) j lt in
      let o = numbered_in (asked_modules old q) (suc j) (omega arith) (omega (arith, place.0)) in
      let m : ModuleId = module_id (length old.modules + j + 1) in
      let x : Member = with_loader (next_layer old) (next_loader old + loader_place q.mode j) o.0 in
      (m, x, new_member old new q is_placed m j o.0 refl o.1, same_loader x.loader l (omega (arith, place.1)))

  used : (l : LoaderId) → delegation.IsLoader new.loaders l → (m : ModuleId) × (x : Member) × (member_of new m ≡ Some x) × (x.loader ≡ l)
  used l there = cases (cases_lt (length old.loaders.loaders) l.0)
    where
      cases : (length old.loaders.loaders < l.0) ⊎ (l.0 ≤ length old.loaders.loaders) → (m : ModuleId) × (x : Member) × (member_of new m ≡ Some x) × (x.loader ≡ l)
      cases (inl gt) = used_new l (l.0 - (length old.loaders.loaders + 1)) (omega arith) (omega (arith, there.1, loaders_long))
      cases (inr le) = used_old l (there.0, le)

  -- ---- facts

  facts_declared : new.facts.modules ≡ map declared_module new.modules
  facts_declared =
      defined.facts
      ∙ ap (λ (ds : List access.Declared). ds ++ map declared_module (new_members old q)) sound.facts.modules
      ∙ sym (map-append declared_module old.modules (new_members old q))
      ∙ ap (map declared_module) (sym defined.modules)

  stated : (l : LayerId) (x : Statement) → IsLayer old l ⊎ (l ≡ next_layer old) → Contains (statements_of new l) x → Contains new.facts.statements x
  stated l x (inl there) c =
      let old_one = sound.facts.statements l x there (subst (λ (xs : List Statement). Contains xs x) (statements_kept old new order more l there) c) in
      subst (λ (xs : List Statement). Contains xs x) (sym defined.statements) (Contains-append_left old.facts.statements (statements_of (placed old q) (next_layer old)) x old_one)
  stated l x (inr e) c =
      let of_new : Contains (statements_of new (next_layer old)) x = subst (λ (k : LayerId). Contains (statements_of new k) x) e c in
      let new_one = subst (λ (xs : List Statement). Contains xs x) (statements_kept (placed old q) new order_placed same (next_layer old) here_placed) of_new in
      subst (λ (xs : List Statement). Contains xs x) (sym defined.statements) (Contains-append_right old.facts.statements (statements_of (placed old q) (next_layer old)) x new_one)

  -- ---- together

  layers : (l : LayerId) → 0 < l.0 → IsLayer old l ⊎ (l ≡ next_layer old) → IsSoundLayer new l
  layers l lt (inl there) = layer_still old new sound more (map (parts_of (placed old q) (next_layer old)) (new_loaders old q), defined.loaders) l lt there
  layers l lt (inr e) = subst (IsSoundLayer new) (sym e) new_sound

  -- Layers are sound with the new one, where java.base is known.
  pub sound_defined : HasBase new new.layers → AreSound new
  sound_defined base = record {
    kept = subst (λ (gs : List Configuration). AreKept [] gs) (sym defined.configurations) sound.kept;
    rise = subst (λ (gs : List Configuration). All (λ (g : Configuration). RisesBy module_cmp g.modules) gs) (sym defined.configurations) sound.rise;
    layers = λ l lt there. layers l lt (layer_cases old new q is_placed l there);
    members = λ m x e. member_of_layer m x (member_cases old new q is_placed m x e);
    one_layer = λ m n x y e f i. one_layer m n x y (member_cases old new q is_placed m x e) (member_cases old new q is_placed n y f) i;
    used = used;
    apart = apart_placed old new q sound definable is_placed;
    few_modules = omega (arith, definable.few_modules, modules_long old new q is_placed);
    few_layers = omega (arith, definable.few_layers, layers_long old new q is_placed);
    few_loaders = omega (arith, sound.few_loaders, loaders_long, modules_long old new q is_placed, counted_few q.mode (asked_modules old q));
    base = base;
    facts = record { modules = facts_declared; statements = λ l x there c. stated l x (layer_cases old new q is_placed l there) c };
  }
