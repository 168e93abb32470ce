-- What a new layer adds fits behind what there is (`ModuleLayer.defineModules`).
use Rattle.std.proofs.Common.{◌≡◌, ◌≤◌, ◌+◌, ℕ, List, [], ◌++◌, length, map, refl, sym, ◌∙◌, ap, ap₂, subst, All, arith}
use Rattle.std.specs.Prelude.{Contains}
use Rattle.std.proofs.lemmas.List.{length-map, map-append, drop_at}
use Rattle.std.proofs.lemmas.List.Elements.{All-weaker}
use Rattle.std.proofs.lemmas.List.FromFn.{length-map-range_with_len}
use Rattle.jl_prim.specs.Limits.{most_modules}
use Rattle.jl_prim.specs.declared.numbers.LoaderId.{LoaderId}
use Rattle.jl_prim.specs.declared.declaration.ParentLoader.{ParentLoader}
use Rattle.jl_prim.specs.declared.declaration.ParentLoader.TheVariants.{Null, Loader}
use Rattle.jl_loaders.specs.Loaders as delegation
use Rattle.jl_access.specs.Facts as access
use Rattle.jl_access.specs.declared.statement.Statement.{Statement}
use Rattle.jl_layer.specs.declared.layer.Layer.{Layer}
use Rattle.jl_layer.specs.declared.layer.Member.{Member}
use Rattle.jl_layer.specs.declared.placing.Added.{Added}
use Rattle.jl_layer.specs.Layers.{State, IsConfiguration}
use Rattle.jl_layer.specs.Meaning.{statements_of}
use Rattle.jl_layer.specs.Defining.{Asked, asked_modules, next_layer, next_loader, new_members, new_loaders, loader_count, placed, parts_of, declared_module, IsAsBefore}
use Rattle.jl_layer.specs.Orderly.{AreOrderly}
use Rattle.jl_layer.specs.Placing.{outlined, IsStatableIn, IsAddedBy, IsFitting}
use Rattle.jl_layer.specs.Sound.{AreSound}
use Rattle.jl_layer.proofs.Listed.{all_of, map_from}
use Rattle.jl_layer.proofs.Added.{IsPlaced, counted_few, members_long, new_layer_at}
use Rattle.jl_layer.proofs.Statable.{orderly_inside, new_declared, statements_statable}

-- a parent that is there stays it
parent_still : (f g : delegation.State) (p : ParentLoader) → length g.loaders ≡ length f.loaders → delegation.ParentExists f p → delegation.ParentExists g p
parent_still f g Null e there = tt
parent_still f g (Loader l) e there = (there.0, omega (arith, there.1))

-- it depends on loaders and on the modules of facts alone
pub fits_based : (a : Added) (s t : State) → IsFitting a s → t.loaders.loaders ≡ s.loaders.loaders → t.facts.modules ≡ s.facts.modules → IsFitting a t
fits_based a s t h loaders modules =
    let long : length t.loaders.loaders ≡ length s.loaders.loaders = ap (λ (ls : List delegation.Parts). length ls) loaders in
    record {
      parents =
          All-weaker (λ (p : delegation.Parts). delegation.ParentExists s.loaders p.parent) (λ (p : delegation.Parts). delegation.ParentExists t.loaders p.parent) (λ p there. parent_still s.loaders t.loaders p.parent long there) a.loaders.items h.parents;
      numbers = omega (arith, h.numbers);
      modules = omega (arith, h.modules, ap (λ (ds : List access.Declared). length ds) modules);
      statements = subst (λ (ds : List access.Declared). All (IsStatableIn (ds ++ map outlined a.modules.items)) a.statements.items) (sym modules) h.statements;
    }

module _ (old s : State) (q : Asked) (a : Added) (sound : AreSound old) (orderly : AreOrderly s.layers s.modules) (known : IsConfiguration old q.config)
    (parent : delegation.ParentExists old.loaders q.parent_loader) (few : length old.modules + length (asked_modules old q) ≤ most_modules) (same : IsAsBefore (placed old q) s) (added : IsAddedBy old q a) where
  abbrev P : State
  P = placed old q

  is_placed : IsPlaced old q P
  is_placed = record { configurations = refl; layers = refl; modules = refl }

  -- ---- loaders

  parent_there : (p : delegation.Parts) → Contains a.loaders.items p → delegation.ParentExists s.loaders p.parent
  parent_there p c =
      let r = map_from (parts_of P (next_layer old)) (new_loaders old q) p (subst (λ (ls : List delegation.Parts). Contains ls p) added.loaders c) in
      let is : p.parent ≡ q.parent_loader = ap (λ (k : delegation.Parts). k.parent) (sym r.2) ∙ ap (λ (x : Layer). x.parent_loader) (new_layer_at old P q is_placed) in
      subst (delegation.ParentExists s.loaders) (sym is) (parent_still old.loaders s.loaders q.parent_loader (ap (λ (ls : List delegation.Parts). length ls) same.loaders) parent)

  loaders_long : length a.loaders.items ≡ loader_count q.mode (asked_modules old q)
  loaders_long =
      ap (λ (ls : List delegation.Parts). length ls) added.loaders
      ∙ length-map (new_loaders old q) (parts_of P (next_layer old))
      ∙ length-map-range_with_len (λ (n : ℕ). let l : LoaderId = record { 0 = n } in l) (next_loader old) (loader_count q.mode (asked_modules old q))

  numbers_fit : length s.loaders.loaders + length a.loaders.items ≤ 4294967295
  numbers_fit =
      let long : length s.loaders.loaders ≡ length old.loaders.loaders = ap (λ (ls : List delegation.Parts). length ls) same.loaders in
      omega (arith, loaders_long, counted_few q.mode (asked_modules old q), sound.few_loaders)

  -- ---- modules

  outlines_are : map outlined a.modules.items ≡ map declared_module (new_members old q)
  outlines_are = added.modules ∙ ap (map declared_module) (drop_at old.modules (new_members old q) (length old.modules) refl)

  facts_are : s.facts.modules ≡ map declared_module old.modules
  facts_are = same.facts.modules ∙ sound.facts.modules

  modules_fit : length s.facts.modules + length a.modules.items ≤ 4294967295
  modules_fit =
      let before : length s.facts.modules ≡ length old.modules = ap (λ (ds : List access.Declared). length ds) facts_are ∙ length-map old.modules declared_module in
      let more : length a.modules.items ≡ length (asked_modules old q) =
      sym (length-map a.modules.items outlined)
      ∙ ap (λ (ds : List access.Declared). length ds) outlines_are
      ∙ length-map (new_members old q) declared_module
      ∙ members_long q.mode (next_layer old) (next_loader old) (asked_modules old q) in
      omega arith

  -- ---- statements

  all_modules : s.facts.modules ++ map outlined a.modules.items ≡ map declared_module P.modules
  all_modules = ap₂ (λ (x y : List access.Declared). x ++ y) facts_are outlines_are ∙ sym (map-append declared_module old.modules (new_members old q))

  abbrev Known : access.State
  Known = record { modules = s.facts.modules ++ map outlined a.modules.items; statements = []; spare_modules = 0; spare_statements = 0 }

  stated : All (IsStatableIn (s.facts.modules ++ map outlined a.modules.items)) (statements_of P (next_layer old))
  stated =
      let here : AreOrderly P.layers P.modules = subst (λ (ls : List Layer). AreOrderly ls P.modules) same.layers (subst (λ (ms : List Member). AreOrderly s.layers ms) same.modules orderly) in
      statements_statable P Known (orderly_inside P here) all_modules (next_layer old) (new_declared old P q is_placed sound.kept known)

  -- What the layer adds fits.
  pub fits : IsFitting a s
  fits = record {
    parents = all_of (λ (p : delegation.Parts). delegation.ParentExists s.loaders p.parent) a.loaders.items parent_there;
    numbers = numbers_fit;
    modules = modules_fit;
    statements = subst (λ (xs : List Statement). All (IsStatableIn (s.facts.modules ++ map outlined a.modules.items)) xs) (sym added.statements) stated;
  }
