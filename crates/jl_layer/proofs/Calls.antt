-- Layers stay sound, and grow, by each call that changes them (`ModuleLayer`).
use Rattle.std.proofs.Common.{◌≡◌, ◌<◌, ◌≤◌, ◌+◌, ℕ, zero, suc, List, [], ◌∷◌, length, map, find, Option, Some, None, Bool, true, false, true≢false, cond, codes, inl, inr, ⊎_elim, refl, sym, ◌∙◌, ap, subst, All, append-nil, arith}
use Rattle.std.specs.Prelude.{Contains}
use Rattle.std.specs.Option.{option_map_or}
use Rattle.std.specs.Cmp.Lexicographic.{bytes_decides}
use Rattle.std.proofs.lemmas.Bool.{cases_lt}
use Rattle.std.proofs.lemmas.List.Elements.{All-contains, All-push}
use Rattle.std.proofs.lemmas.List.{nil_from_length}
use Rattle.std.proofs.lemmas.Option.{slice_get_within}
use Rattle.jl_logic.specs.Lists.{IsFront}
use Rattle.jl_logic.specs.Order.{is_text, RisesBy}
use Rattle.jl_logic.proofs.Rising.{contains_nothing, contains_cases}
use Rattle.jl_prim.specs.Limits.{most_modules}
use Rattle.jl_prim.specs.declared.numbers.ModuleId.{ModuleId}
use Rattle.jl_prim.specs.declared.numbers.LayerId.{LayerId}
use Rattle.jl_prim.specs.declared.numbers.ConfigId.{ConfigId}
use Rattle.jl_prim.specs.declared.declaration.Observed.{Observed}
use Rattle.jl_config.specs.Configurations.{Configuration}
use Rattle.jl_config.specs.Located.{configuration_of, name_of}
use Rattle.jl_config.specs.Orders.{module_cmp}
use Rattle.jl_loaders.specs.Loaders as delegation
use Rattle.jl_access.specs.declared.statement.Statement.{Statement}
use Rattle.jl_layer.specs.declared.fault.LayerFault.{LayerFault}
use Rattle.jl_layer.specs.declared.fault.LayerFault.TheVariants.{ParentMismatch, Overlap, Split, TooMany}
use Rattle.jl_layer.specs.declared.layer.Layer.{Layer}
use Rattle.jl_layer.specs.declared.layer.Member.{Member}
use Rattle.jl_layer.specs.Layers.{State, layer_at, member_of, declaration_of, has_name, named_in, IsLayer, IsConfiguration}
use Rattle.jl_layer.specs.Meaning.{meant_above, statements_of}
use Rattle.jl_layer.specs.Leads.{boot_layer}
use Rattle.jl_layer.specs.Defining.{Asked, boot, asked_modules, next_layer, next_loader, declared_module, IsDefined, IsAsBefore}
use Rattle.jl_layer.specs.Refusals.{Applies, AppliesToBoot}
use Rattle.jl_layer.specs.Keeping.{IsKeepable, AreKept}
use Rattle.jl_layer.specs.Changes.{with_configuration}
use Rattle.jl_layer.specs.Laws.{Grows}
use Rattle.jl_layer.specs.Sound.{HasBase, AreSound}
use Rattle.jl_layer.proofs.Listed.{place_of, find_from, numbered_in}
use Rattle.jl_layer.proofs.Growing.{laid_out, layer_zero, member_there, named_there, meant_from, nothing_stated}
use Rattle.jl_layer.proofs.KeptBehind.{kept_nothing, kept_of, kept_more, configuration_zero}
use Rattle.jl_layer.proofs.Added.{same_layer, same_loader, extends_placed, layers_long, new_member, new_layer_at, numbers_into}
use Rattle.jl_layer.proofs.Definable.{IsDefinable, same_unless, laid_placed}
use Rattle.jl_layer.proofs.NewReads.{named_new}
use Rattle.jl_layer.proofs.OwnApart.{one_loader}
use Rattle.jl_layer.proofs.Bases.{IsBase, base_there, base_kept, has_base}
use Rattle.jl_layer.proofs.StillSound.{sound_grown}
use Rattle.jl_layer.proofs.Defined.{is_placed, sound_defined, defined_grows}

-- ---- `define`

-- where no refusal applies the layer may be defined
pub definable_by : (s : State) (q : Asked) → IsConfiguration s q.config → All (IsLayer s) q.parents → ((f : LayerFault) → Applies s q f → ⊥) → IsDefinable s q
definable_by s q known parents none = record {
  known = known;
  parents = λ p c. All-contains (IsLayer s) q.parents p parents c;
  configs = same_unless (map (λ (p : LayerId). (layer_at s p).config) q.parents) (configuration_of s.configurations q.config).parents (λ n. none ParentMismatch n);
  whole = λ p one other h. none (Overlap p one other) h;
  joint = λ p one other h. none (Split p one other) h;
  few_modules = ⊎_elim (λ lt. absurd (none TooMany (inl lt))) (λ le. le) (cases_lt most_modules (length s.modules + length (asked_modules s q)));
  few_layers = ⊎_elim (λ lt. lt) (λ le. absurd (none TooMany (inr le))) (cases_lt (length s.layers) most_modules);
}

pub defined_sound : (old new : State) (q : Asked) → AreSound old → 0 < length old.layers → IsConfiguration old q.config → All (IsLayer old) q.parents
    → ((f : LayerFault) → Applies old q f → ⊥) → IsDefined old q new → new.loaders.base ≡ old.loaders.base → AreSound new
defined_sound old new q sound lt known parents none defined same =
    let definable = definable_by old q known parents none in
    let b = base_there old lt sound.base in
    let more = extends_placed old new q (is_placed old new q sound definable defined) in
    sound_defined old new q sound definable defined
    (has_base new b.0 b.1 (omega (arith, layers_long old new q (is_placed old new q sound definable defined))) (base_kept old new (laid_out old sound) more b.0 b.1 lt same b.2))

-- ---- `define_boot`

module _ (old : State) (c : ConfigId) (sound : AreSound old) (first : old.layers ≡ []) where
  no_layers : length old.layers ≡ 0
  no_layers = ap (λ (ls : List Layer). length ls) first

  pub no_modules : length old.modules ≡ 0
  no_modules = by (length old.modules) refl
    where
      by : (n : ℕ) → length old.modules ≡ n → length old.modules ≡ 0
      by zero e = e
      by (suc n) e =
          let m : ModuleId = record { 0 = 1 } in
          let x = numbered_in old.modules 1 (omega arith) (omega arith) in
          let at = sound.members m x.0 x.1 in
          absurd (omega (arith, at.0, at.1, no_layers))

  pub no_loaders : length old.loaders.loaders ≡ 0
  no_loaders = omega (arith, sound.few_loaders, no_modules)

  nothing_meant : (n : ConfigId) (name : List ℕ) (m : ModuleId) → meant_above old (boot c).parents n name ≡ Some m → ⊥
  nothing_meant n name m e =
      let r = meant_from old (laid_out old sound) (boot c).parents n name m (λ p k. zero_there p k) e in
      let zeroth : r.0.0 ≡ 0 = omega (arith, r.2, no_layers) in
      contains_nothing m (subst (λ (x : Layer). Contains x.modules m) (layer_zero old r.0 zeroth) (find_from (has_name old name) (layer_at old r.0).modules m r.4).0)
    where
      zero_there : (p : LayerId) → Contains (boot c).parents p → IsLayer old p
      zero_there p k = elim (contains_cases (record { 0 = 0 }) p [] k) [ inl e ↦ subst (IsLayer old) e (omega arith) | inr d ↦ contains_nothing p d ]

  few : IsConfiguration old c → length (asked_modules old (boot c)) ≤ most_modules
  few known = by c.0 refl
    where
      by : (n : ℕ) → c.0 ≡ n → length (asked_modules old (boot c)) ≤ most_modules
      by zero e = omega (arith, ap (λ (g : Configuration). length g.modules) (configuration_zero old.configurations c e))
      by (suc n) e = let g = kept_of old.configurations c sound.kept (omega arith) known in g.2.few_modules

  pub boot_definable : IsConfiguration old c → (configuration_of old.configurations c).parents ≡ record { 0 = 0 } ∷ [] → ((f : LayerFault) → AppliesToBoot old (boot c) f → ⊥) → IsDefinable old (boot c)
  boot_definable known parents none = record {
    known = known;
    parents = λ p k. elim (contains_cases (record { 0 = 0 }) p [] k) [ inl e ↦ subst (IsLayer old) e (omega arith) | inr d ↦ contains_nothing p d ];
    configs = sym parents;
    whole = λ p one other h. none (Overlap p one other) h;
    joint = λ p one other h. nothing_meant h.3.1.config h.3.1.name h.3.2 h.3.7;
    few_modules = omega (arith, no_modules, few known);
    few_layers = omega (arith, no_layers);
  }

-- a search finds one where there is one
found : {X : Type 0} (f : X → Bool) (xs : List X) (x : X) → Contains xs x → f x ≡ true → (y : X) × (find f xs ≡ Some y)
found {X} f [] x c e = contains_nothing x c
found {X} f (z ∷ zs) x c e = by (f z) refl (found f zs x)
  where
    by : (b : Bool) → f z ≡ b → (Contains zs x → f x ≡ true → (y : X) × (find f zs ≡ Some y)) → (y : X) × (cond b (Some z) (find f zs) ≡ Some y)
    by true i more = (z, refl)
    by false i more = elim (contains_cases z x zs c) [ inl same ↦ absurd (true≢false (sym e ∙ ap f (sym same) ∙ i)) | inr d ↦ more d e ]

module _ (old new : State) (c : ConfigId) (sound : AreSound old) (first : old.layers ≡ []) (definable : IsDefinable old (boot c)) (defined : IsDefined old (boot c) new)
    (o : Observed) (inside : Contains (asked_modules old (boot c)) o) (base_name : name_of o ≡ codes "java.base") where
  boot_is : boot_layer ≡ next_layer old
  boot_is = same_layer boot_layer (next_layer old) (omega (arith, no_layers old c sound first))

  -- java.base is a module of the boot layer
  base_found : (m : ModuleId) × (named_in new boot_layer (codes "java.base") ≡ Some m)
  base_found =
      let at = place_of (asked_modules old (boot c)) o inside in
      let placed = is_placed old new (boot c) sound definable defined in
      let m : ModuleId = record { 0 = length old.modules + at.0 + 1 } in
      let there : Contains (layer_at new (next_layer old)).modules m =
      subst (λ (x : Layer). Contains x.modules m) (sym (new_layer_at old new (boot c) placed)) (numbers_into old new (boot c) placed m at.0 (slice_get_within (asked_modules old (boot c)) at.0 o at.1) refl) in
      let named : has_name new (codes "java.base") m ≡ true =
      ap (λ (x : Option Member). option_map_or (λ (y : Member). is_text (declaration_of y).name (codes "java.base")) x false) (new_member old new (boot c) placed m at.0 o refl at.1)
      ∙ (bytes_decides (name_of o) (codes "java.base")).1 base_name in
      let r = found (has_name new (codes "java.base")) (layer_at new (next_layer old)).modules m there named in
      (r.0, ap (λ (l : LayerId). named_in new l (codes "java.base")) boot_is ∙ r.1)

  boot_base : new.loaders.base ≡ named_in new boot_layer (codes "java.base") → (m : ModuleId) × (x : Member) × IsBase new m x
  boot_base is =
      let b = base_found in
      let placed = is_placed old new (boot c) sound definable defined in
      let order = laid_placed old new (boot c) (laid_out old sound) definable placed in
      let at : IsLayer new boot_layer = omega (arith, layers_long old new (boot c) placed) in
      let there = named_there new order boot_layer (codes "java.base") b.0 at b.1 in
      let x = numbered_in new.modules b.0.0 there.0 there.1 in
      let fresh = named_new old new (boot c) sound definable placed (codes "java.base") b.0 x.0 (sym (ap (λ (l : LayerId). named_in new l (codes "java.base")) boot_is) ∙ b.1) x.1 in
      let one : x.0.loader.0 ≡ next_loader old = one_loader old new (boot c) sound definable placed b.0 x.0 refl fresh in
      (b.0, x.0, record { base = is ∙ b.1; named = b.1; member = x.1; first = same_loader x.0.loader (record { 0 = 1 }) (omega (arith, one, no_loaders old c sound first)) })

  pub sound_boot : new.loaders.base ≡ named_in new boot_layer (codes "java.base") → AreSound new
  sound_boot is =
      let b = boot_base is in
      sound_defined old new (boot c) sound definable defined (has_base new b.0 b.1 (omega (arith, layers_long old new (boot c) (is_placed old new (boot c) sound definable defined))) b.2)

pub boot_sound : (old new : State) (c : ConfigId) → AreSound old → old.layers ≡ [] → IsConfiguration old c
    → (o : Observed) × Contains (configuration_of old.configurations c).modules o × (name_of o ≡ codes "java.base")
    → (configuration_of old.configurations c).parents ≡ record { 0 = 0 } ∷ []
    → ((f : LayerFault) → AppliesToBoot old (boot c) f → ⊥) → IsDefined old (boot c) new → new.loaders.base ≡ named_in new boot_layer (codes "java.base") → AreSound new
boot_sound old new c sound first known (o, inside, name) parents none defined base = sound_boot old new c sound first (boot_definable old c sound first known parents none) defined o inside name base

-- with the first layer there were no loaders
pub boot_grows : (old new : State) (c : ConfigId) → AreSound old → old.layers ≡ [] → IsDefined old (boot c) new → Grows old new
boot_grows old new c sound first defined = defined_grows old new (boot c) defined (inl (nil_from_length old.loaders.loaders (no_loaders old c sound first)))

pub define_grows : (old new : State) (q : Asked) → IsDefined old q new → new.loaders.base ≡ old.loaders.base → Grows old new
define_grows old new q defined base = defined_grows old new q defined (inr base)

-- ---- `keep`

pub kept_sound : (f : State) (g : Configuration) → AreSound f → IsKeepable f.configurations g → RisesBy module_cmp g.modules → AreSound (with_configuration g f)
kept_sound f g sound keepable rises =
    sound_grown f (with_configuration g f) sound (kept_more [] f.configurations g sound.kept keepable) (All-push (λ (c : Configuration). RisesBy module_cmp c.modules) f.configurations g sound.rise rises)
    (g ∷ [], refl) refl refl refl refl refl ([], sym (append-nil f.facts.statements))

pub kept_grows : (f : State) (g : Configuration) → Grows f (with_configuration g f)
kept_grows f g = record {
  configurations = (g ∷ [], refl);
  layers = ([], sym (append-nil f.layers));
  modules = ([], sym (append-nil f.modules));
  loaders = record { loaders = ([], sym (append-nil f.loaders.loaders)); base = inr refl };
  facts = record { modules = ([], sym (append-nil f.facts.modules)); statements = ([], sym (append-nil f.facts.statements)) };
}

-- ---- the same layers

-- Layers that stay the same but for room, constraints and statements that come.
pub record IsAlike (f g : State) : Type 0 where
  pub configurations : g.configurations ≡ f.configurations
  pub layers : g.layers ≡ f.layers
  pub modules : g.modules ≡ f.modules
  pub loaders : g.loaders.loaders ≡ f.loaders.loaders
  pub base : g.loaders.base ≡ f.loaders.base
  pub declared : g.facts.modules ≡ f.facts.modules
  pub statements : IsFront f.facts.statements g.facts.statements

pub alike_sound : (f g : State) → IsAlike f g → AreSound f → AreSound g
alike_sound f g same sound =
    sound_grown f g sound (subst (λ (cs : List Configuration). AreKept [] cs) (sym same.configurations) sound.kept)
    (subst (λ (cs : List Configuration). All (λ (c : Configuration). RisesBy module_cmp c.modules) cs) (sym same.configurations) sound.rise)
    ([], same.configurations ∙ sym (append-nil f.configurations)) same.layers same.modules same.loaders same.base same.declared same.statements

pub alike_grows : (f g : State) → IsAlike f g → Grows f g
alike_grows f g same = record {
  configurations = ([], same.configurations ∙ sym (append-nil f.configurations));
  layers = ([], same.layers ∙ sym (append-nil f.layers));
  modules = ([], same.modules ∙ sym (append-nil f.modules));
  loaders = record { loaders = ([], same.loaders ∙ sym (append-nil f.loaders.loaders)); base = inr same.base };
  facts = record { modules = ([], same.declared ∙ sym (append-nil f.facts.modules)); statements = same.statements };
}

-- what a refused call leaves
pub before_alike : (f g : State) → IsAsBefore f g → IsAlike f g
before_alike f g same = record {
  configurations = same.configurations;
  layers = same.layers;
  modules = same.modules;
  loaders = same.loaders;
  base = same.base;
  declared = same.facts.modules;
  statements = ([], same.facts.statements ∙ sym (append-nil f.facts.statements));
}

-- ---- `new`

-- where there is nothing
pub nothing_sound : (s : State) → s.configurations ≡ [] → s.layers ≡ [] → s.modules ≡ [] → s.loaders.loaders ≡ [] → s.loaders.base ≡ None → s.facts.modules ≡ [] → AreSound s
nothing_sound s configurations layers modules loaders base declared = record {
  kept = subst (λ (cs : List Configuration). AreKept [] cs) (sym configurations) none_kept;
  rise = subst (λ (cs : List Configuration). All (λ (c : Configuration). RisesBy module_cmp c.modules) cs) (sym configurations) (λ k d lt. absurd (omega arith));
  layers = λ l lt there. absurd (omega (arith, no_layer));
  members = λ m x e. absurd (no_member m x e);
  one_layer = λ m n x y e f i. absurd (no_member m x e);
  used = λ l there. absurd (omega (arith, there.0, there.1, no_loader));
  apart = λ l p. record { own = λ m n h k. absurd (no_member m h.0 h.1); seen = λ m n none h k. absurd (no_member h.0 h.1 h.3) };
  few_modules = omega (arith, no_module);
  few_layers = omega (arith, no_layer);
  few_loaders = omega (arith, no_loader);
  base = subst (HasBase s) (sym layers) base;
  facts = record { modules = declared ∙ sym (ap (map declared_module) modules); statements = λ l x there c. absurd (no_statement l x (omega (arith, no_layer)) c) };
}
  where
    none_kept : AreKept [] []
    none_kept = kept_nothing []

    no_layer : length s.layers ≡ 0
    no_layer = ap (λ (xs : List Layer). length xs) layers

    no_module : length s.modules ≡ 0
    no_module = ap (λ (xs : List Member). length xs) modules

    no_loader : length s.loaders.loaders ≡ 0
    no_loader = ap (λ (xs : List delegation.Parts). length xs) loaders

    no_member : (m : ModuleId) (x : Member) → member_of s m ≡ Some x → ⊥
    no_member m x e = let there = member_there s m x e in omega (arith, there.0, there.1, no_module)

    no_statement : (l : LayerId) (x : Statement) → l.0 ≡ 0 → Contains (statements_of s l) x → ⊥
    no_statement l x e c = contains_nothing x (subst (λ (xs : List Statement). Contains xs x) (nothing_stated s l e) c)
