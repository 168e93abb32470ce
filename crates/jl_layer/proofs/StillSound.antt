-- What was sound goes on to be when more comes behind it (`ModuleLayer`).
use Rattle.std.proofs.Common.{◌≡◌, ◌<◌, ◌≤◌, ℕ, List, [], length, map, Option, Some, option_map, sym, ◌∙◌, ap, subst, All, append-nil, arith}
use Rattle.std.specs.Prelude.{Contains}
use Rattle.std.proofs.lemmas.List.Elements.{All-contains, Contains-append_left}
use Rattle.std.proofs.lemmas.Option.{same_Some}
use Rattle.jl_logic.specs.Lists.{IsFront}
use Rattle.jl_logic.specs.Order.{RisesBy}
use Rattle.jl_prim.specs.declared.numbers.ModuleId.{ModuleId}
use Rattle.jl_prim.specs.declared.numbers.LayerId.{LayerId}
use Rattle.jl_prim.specs.declared.numbers.LoaderId.{LoaderId}
use Rattle.jl_prim.specs.declared.declaration.Observed.{Observed}
use Rattle.jl_config.specs.Configurations.{Configuration}
use Rattle.jl_config.specs.Orders.{module_cmp}
use Rattle.jl_loaders.specs.Loaders as delegation
use Rattle.jl_access.specs.declared.statement.Statement.{Statement}
use Rattle.jl_layer.specs.declared.layer.Layer.{Layer}
use Rattle.jl_layer.specs.declared.layer.Member.{Member}
use Rattle.jl_layer.specs.Layers.{State, layer_at, configuration_at, member_of, numbered, declaration_of, IsLayer, IsConfiguration}
use Rattle.jl_layer.specs.Meaning.{reads_of, exported_to, statements_of}
use Rattle.jl_layer.specs.Leads.{HasOwn, Sees, NoModule}
use Rattle.jl_layer.specs.Defining.{declared_module, parts_of}
use Rattle.jl_layer.specs.Keeping.{AreKept}
use Rattle.jl_layer.specs.Sound.{IsSoundLayer, AreSound}
use Rattle.jl_layer.proofs.Listed.{all_of, map_alike, map_into, map_from, numbered_kept, numbered_there, front_long}
use Rattle.jl_layer.proofs.Growing.{AreLaidOut, Extends, laid_out, parent_there, reads_there, still_layer, layer_kept, configuration_kept, member_kept, still_member, reads_kept, statements_kept, parts_kept}
use Rattle.jl_layer.proofs.Added.{loader_numbered}
use Rattle.jl_layer.proofs.Bases.{base_still}
use Rattle.jl_layer.proofs.KeptBehind.{exports_among, exported_held}

-- ---- within one state

-- a module of a layer is one of its configuration
pub observed_in : (s : State) (l : LayerId) (m : ModuleId) (x : Member) → IsSoundLayer s l → Contains (layer_at s l).modules m → member_of s m ≡ Some x → Contains (configuration_at s l).modules x.observed
observed_in s l m x layer c e =
    let seen = λ (n : ModuleId). option_map (λ (y : Member). y.observed) (member_of s n) in
    let here : Contains (map seen (layer_at s l).modules) (seen m) = map_into seen (layer_at s l).modules m c in
    let some : Contains (map Some (configuration_at s l).modules) (Some x.observed) =
    subst (Contains (map Some (configuration_at s l).modules)) (ap (option_map (λ (y : Member). y.observed)) e) (subst (λ (os : List (Option Observed)). Contains os (seen m)) layer.observed here) in
    let r = map_from Some (configuration_at s l).modules (Some x.observed) some in
    subst (Contains (configuration_at s l).modules) (same_Some r.0 x.observed r.2) r.1

-- what a module exports it has
pub has_exported : (s : State) (m : ModuleId) (x : Member) (name p : List ℕ) → AreSound s → member_of s m ≡ Some x → Contains (exported_to (declaration_of x) name) p → Contains (declaration_of x).packages p
has_exported s m x name p sound e c =
    let at = sound.members m x e in
    let layer = sound.layers x.layer at.0 at.1 in
    exported_held (declaration_of x) name p (exports_among s.configurations (layer_at s x.layer).config x.observed sound.kept layer.known (observed_in s x.layer m x layer at.2 e)) c

-- the loader of a module has the parts that its layer gives it
pub parts_of_loader : (s : State) (m : ModuleId) (x : Member) → AreSound s → member_of s m ≡ Some x → delegation.numbered s.loaders.loaders x.loader.0 ≡ Some (parts_of s x.layer x.loader)
parts_of_loader s m x sound e = let at = sound.members m x e in (sound.layers x.layer at.0 at.1).loaders m x at.2 e

-- the loader of a module is there
pub loader_there : (s : State) (m : ModuleId) (x : Member) → AreSound s → member_of s m ≡ Some x → delegation.IsLoader s.loaders x.loader
loader_there s m x sound e =
    numbered_there s.loaders.loaders x.loader.0 (parts_of s x.layer x.loader) (sym (loader_numbered s.loaders.loaders x.loader.0) ∙ parts_of_loader s m x sound e)

-- ---- from one state to a later one

module _ (f g : State) (sound : AreSound f) (more : Extends f g) where
  order : AreLaidOut f
  order = laid_out f sound

  pub layer_still : IsFront f.loaders.loaders g.loaders.loaders → (l : LayerId) → 0 < l.0 → IsLayer f l → IsSoundLayer g l
  layer_still front l lt there = record {
    known = subst (λ (x : Layer). IsConfiguration g x.config) (sym kept) (still (layer_at f l).config.0 layer.known);
    below = subst (λ (x : Layer). All (λ (p : LayerId). p.0 < l.0) x.parents) (sym kept) layer.below;
    configs =
        ap (λ (x : Layer). map (λ (p : LayerId). (layer_at g p).config) x.parents) kept
        ∙ map_alike (λ (p : LayerId). (layer_at g p).config) (λ (p : LayerId). (layer_at f p).config) (layer_at f l).parents
        (λ p c. ap (λ (x : Layer). x.config) (layer_kept f g order more p (parent_there f order l p there c)))
        ∙ layer.configs ∙ sym (ap (λ (c : Configuration). c.parents) configured);
    observed =
        ap (λ (x : Layer). map (λ (m : ModuleId). option_map (λ (y : Member). y.observed) (member_of g m)) x.modules) kept
        ∙ map_alike (λ (m : ModuleId). option_map (λ (y : Member). y.observed) (member_of g m)) (λ (m : ModuleId). option_map (λ (y : Member). y.observed) (member_of f m)) (layer_at f l).modules
        (λ m c. ap (option_map (λ (y : Member). y.observed)) (member_kept f g order more m (order.inside l m there c)))
        ∙ layer.observed ∙ sym (ap (λ (c : Configuration). map Some c.modules) configured);
    inside = all_of (λ (m : ModuleId). option_map (λ (y : Member). y.layer) (member_of g m) ≡ Some l) (layer_at g l).modules (λ m c. in_layer m (here m c));
    loaders = λ m x c e. parts m x (here m c) (sym (member_kept f g order more m (order.inside l m there (here m c))) ∙ e);
  }
    where
      layer : IsSoundLayer f l
      layer = sound.layers l lt there

      kept : layer_at g l ≡ layer_at f l
      kept = layer_kept f g order more l there

      configured : configuration_at g l ≡ configuration_at f l
      configured = configuration_kept f g order more l there

      still : (c : ℕ) → c ≤ length f.configurations → c ≤ length g.configurations
      still c le = let long = front_long f.configurations g.configurations more.configurations in omega arith

      here : (m : ModuleId) → Contains (layer_at g l).modules m → Contains (layer_at f l).modules m
      here m c = subst (λ (x : Layer). Contains x.modules m) kept c

      in_layer : (m : ModuleId) → Contains (layer_at f l).modules m → option_map (λ (y : Member). y.layer) (member_of g m) ≡ Some l
      in_layer m c =
          ap (option_map (λ (y : Member). y.layer)) (member_kept f g order more m (order.inside l m there c))
          ∙ All-contains (λ (n : ModuleId). option_map (λ (y : Member). y.layer) (member_of f n) ≡ Some l) (layer_at f l).modules m layer.inside c

      parts : (m : ModuleId) (x : Member) → Contains (layer_at f l).modules m → member_of f m ≡ Some x → delegation.numbered g.loaders.loaders x.loader.0 ≡ Some (parts_of g l x.loader)
      parts m x c e =
          let old = layer.loaders m x c e in
          let at = numbered_there f.loaders.loaders x.loader.0 (parts_of f l x.loader) (sym (loader_numbered f.loaders.loaders x.loader.0) ∙ old) in
          loader_numbered g.loaders.loaders x.loader.0
          ∙ numbered_kept f.loaders.loaders g.loaders.loaders x.loader.0 front at.1
          ∙ sym (loader_numbered f.loaders.loaders x.loader.0)
          ∙ old
          ∙ ap Some (sym (parts_kept f g order more l x.loader there))

  pub own_up : (l : LoaderId) (p : List ℕ) (m : ModuleId) → HasOwn f l p m → HasOwn g l p m
  own_up l p m (x, e, i, c) = (x, still_member f g order more m x e, i, c)

  pub none_down : (l : LoaderId) (p : List ℕ) → NoModule (HasOwn g l p) → NoModule (HasOwn f l p)
  none_down l p none m h = none m (own_up l p m h)

  -- what a module that was there sees it saw
  pub sees_down : (l : LoaderId) (p : List ℕ) (a m : ModuleId) (x y : Member) → member_of f a ≡ Some x → x.loader ≡ l → Contains (reads_of g x.layer) (a, m) → member_of g m ≡ Some y
      → Contains (exported_to (declaration_of y) (declaration_of x).name) p → Sees f l p m
  sees_down l p a m x y e i c k d =
      let at = sound.members a x e in
      let read : Contains (reads_of f x.layer) (a, m) = subst (λ (rs : List (ModuleId × ModuleId)). Contains rs (a, m)) (reads_kept f g order more x.layer at.1) c in
      let there = reads_there f order x.layer a m at.1 read in
      (a, x, y, e, i, read, sym (member_kept f g order more m there.1) ∙ k, d)

-- ---- the same layers and modules

module _ (f g : State) (sound : AreSound f)
    (kept : AreKept [] g.configurations) (rise : All (λ (c : Configuration). RisesBy module_cmp c.modules) g.configurations) (configurations : IsFront f.configurations g.configurations)
    (layers : g.layers ≡ f.layers) (modules : g.modules ≡ f.modules) (loaders : g.loaders.loaders ≡ f.loaders.loaders) (base : g.loaders.base ≡ f.loaders.base)
    (declared : g.facts.modules ≡ f.facts.modules) (statements : IsFront f.facts.statements g.facts.statements) where
  laid : AreLaidOut f
  laid = laid_out f sound

  wider : Extends f g
  wider = record {
    configurations = configurations;
    layers = ([], layers ∙ sym (append-nil f.layers));
    modules = ([], modules ∙ sym (append-nil f.modules));
  }

  layer_back : (l : LayerId) → IsLayer g l → IsLayer f l
  layer_back l there = omega (arith, ap (λ (ls : List Layer). length ls) layers)

  member_back : (m : ModuleId) (x : Member) → member_of g m ≡ Some x → member_of f m ≡ Some x
  member_back m x e = sym (ap (λ (xs : List Member). numbered xs m.0) modules) ∙ e

  own_back : (l : LoaderId) (p : List ℕ) (m : ModuleId) → HasOwn g l p m → HasOwn f l p m
  own_back l p m (x, e, i, c) = (x, member_back m x e, i, c)

  sees_back : (l : LoaderId) (p : List ℕ) (m : ModuleId) → Sees g l p m → Sees f l p m
  sees_back l p m (a, x, y, e, i, c, k, d) = sees_down f g sound wider l p a m x y (member_back a x e) i c k d

  still_members : (m : ModuleId) (x : Member) → member_of g m ≡ Some x → (0 < x.layer.0) × IsLayer g x.layer × Contains (layer_at g x.layer).modules m
  still_members m x e =
      let r = sound.members m x (member_back m x e) in
      (r.0, still_layer f g laid wider x.layer r.1, subst (λ (y : Layer). Contains y.modules m) (sym (layer_kept f g laid wider x.layer r.1)) r.2)

  stated : (l : LayerId) (x : Statement) → IsLayer g l → Contains (statements_of g l) x → Contains g.facts.statements x
  stated l x there c =
      let here = layer_back l there in
      let old = sound.facts.statements l x here (subst (λ (xs : List Statement). Contains xs x) (statements_kept f g laid wider l here) c) in
      subst (λ (xs : List Statement). Contains xs x) (sym statements.1) (Contains-append_left f.facts.statements statements.0 x old)

  -- Layers and modules that are sound go on to be when configurations that may be kept, constraints and statements come.
  pub sound_grown : AreSound g
  sound_grown = record {
    kept = kept;
    rise = rise;
    layers = λ l lt there. layer_still f g sound wider ([], loaders ∙ sym (append-nil f.loaders.loaders)) l lt (layer_back l there);
    members = still_members;
    one_layer = λ m n x y e k i. sound.one_layer m n x y (member_back m x e) (member_back n y k) i;
    used = λ l there. let r = sound.used l (there.0, omega (arith, there.1, ap (λ (ls : List delegation.Parts). length ls) loaders)) in (r.0, r.1, still_member f g laid wider r.0 r.1 r.2, r.3);
    apart = λ l p. record {
      own = λ m n h k. (sound.apart l p).own m n (own_back l p m h) (own_back l p n k);
      seen = λ m n none h k. (sound.apart l p).seen m n (none_down f g sound wider l p none) (sees_back l p m h) (sees_back l p n k);
    };
    few_modules = omega (arith, sound.few_modules, ap (λ (xs : List Member). length xs) modules);
    few_layers = omega (arith, sound.few_layers, ap (λ (ls : List Layer). length ls) layers);
    few_loaders = omega (arith, sound.few_loaders, ap (λ (xs : List Member). length xs) modules, ap (λ (ls : List delegation.Parts). length ls) loaders);
    base = base_still f g laid wider layers base sound.base;
    facts = record {
      modules = declared ∙ sound.facts.modules ∙ ap (map declared_module) (sym modules);
      statements = stated;
    };
  }
