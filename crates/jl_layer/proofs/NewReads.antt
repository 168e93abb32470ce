-- What the modules of a new layer read (`ModuleLayer.defineModules`).
use Rattle.std.proofs.Common.{◌≡◌, ◌≢◌, ◌⊎◌, ℕ, List, Some, Bool, true, false, if◌then◌else◌, inl, inr, eqb-true, refl, sym, ◌∙◌, ap, subst}
use Rattle.std.specs.Prelude.{Contains}
use Rattle.std.proofs.lemmas.Bool.{eqb-false}
use Rattle.jl_prim.specs.declared.numbers.ModuleId.{ModuleId}
use Rattle.jl_prim.specs.declared.numbers.ConfigId.{ConfigId}
use Rattle.jl_config.specs.declared.configuration.Read.{Read}
use Rattle.jl_config.specs.Configurations.{Configuration}
use Rattle.jl_config.specs.Located.{configuration_of, is_numbered}
use Rattle.jl_layer.specs.declared.layer.Layer.{Layer}
use Rattle.jl_layer.specs.declared.layer.Member.{Member}
use Rattle.jl_layer.specs.Layers.{State, layer_at, member_of, declaration_of, has_name, named_in}
use Rattle.jl_layer.specs.Meaning.{meant_above, read_module, reads_of, exported_to}
use Rattle.jl_layer.specs.Defining.{Asked, asked_modules, next_layer}
use Rattle.jl_layer.specs.Keeping.{IsAbove, ReadsModule, AreAmong}
use Rattle.jl_layer.specs.Sound.{AreSound}
use Rattle.jl_layer.proofs.Listed.{at_place, find_from}
use Rattle.jl_layer.proofs.Growing.{AreLaidOut, Extends, laid_out, meant_there, meant_kept, member_kept, reads_from, named_name}
use Rattle.jl_layer.proofs.KeptBehind.{kept_id, same_config, exported_held, exports_among}
use Rattle.jl_layer.proofs.Added.{IsPlaced, IsNew, extends_placed, new_layer_at, new_configuration, new_in_layer}
use Rattle.jl_layer.proofs.Definable.{IsDefinable, laid_placed}
use Rattle.jl_layer.proofs.Meant.{meant_is}

-- the configuration that is asked for
abbrev pub asked_configuration : State → Asked → Configuration
asked_configuration s q = configuration_of s.configurations q.config

module _ (old s : State) (q : Asked) (sound : AreSound old) (definable : IsDefinable old q) (placed : IsPlaced old q s) where
  order : AreLaidOut old
  order = laid_out old sound

  order_s : AreLaidOut s
  order_s = laid_placed old s q order definable placed

  more : Extends old s
  more = extends_placed old s q placed

  pub new_read : (a m : ModuleId) (x : Member) → IsNew old q a x → member_of s a ≡ Some x → Contains (reads_of s x.layer) (a, m)
      → (r : Read) × Contains (asked_configuration old q).reads r × (r.reader ≡ (declaration_of x).name) × (named_in s (next_layer old) r.reader ≡ Some a) × (read_module s (next_layer old) r ≡ Some m)
  new_read a m x new e c =
      let r = reads_from s order_s (next_layer old) a m (subst (λ (z : Member). Contains (reads_of s z.layer) (a, m)) new.is c) in (
        r.0,
        subst (λ (g : Configuration). Contains g.reads r.0) (new_configuration old s q placed) r.1,
        sym (named_name s (next_layer old) r.0.reader a x r.2 e),
        r.2,
        r.3,
      )

  -- it is of the layer, or above it
  pub read_cases : (r : Read) (m : ModuleId) → read_module s (next_layer old) r ≡ Some m
      → ((r.config ≡ q.config) × (named_in s (next_layer old) r.name ≡ Some m)) ⊎ ((r.config ≢ q.config) × (meant_above old q.parents r.config r.name ≡ Some m))
  read_cases r m e =
      by (is_numbered r.config q.config) refl
      (sym (ap (λ (x : Layer). if is_numbered r.config x.config then named_in s (next_layer old) r.name else meant_above s x.parents r.config r.name) (new_layer_at old s q placed)) ∙ e)
    where
      by : (b : Bool) → is_numbered r.config q.config ≡ b → (if b then named_in s (next_layer old) r.name else meant_above s q.parents r.config r.name) ≡ Some m
          → ((r.config ≡ q.config) × (named_in s (next_layer old) r.name ≡ Some m)) ⊎ ((r.config ≢ q.config) × (meant_above old q.parents r.config r.name ≡ Some m))
      by true i h = inl (same_config r.config q.config (eqb-true r.config.0 q.config.0 i), h)
      by false i h =
          inr ((λ f. eqb-false r.config.0 q.config.0 i (ap (λ (c : ConfigId). c.0) f)), sym (meant_kept old s order more q.parents r.config r.name definable.parents) ∙ h)

  -- a module that is found in the layer is new
  pub named_new : (name : List ℕ) (m : ModuleId) (y : Member) → named_in s (next_layer old) name ≡ Some m → member_of s m ≡ Some y → IsNew old q m y
  named_new name m y e f = new_in_layer old s q placed m y (find_from (has_name s name) (layer_at s (next_layer old)).modules m e).0 f

  -- a module that is meant above the layer was there
  pub meant_old : (r : Read) (m : ModuleId) (y : Member) → meant_above old q.parents r.config r.name ≡ Some m → member_of s m ≡ Some y → member_of old m ≡ Some y
  meant_old r m y e f = sym (member_kept old s order more m (meant_there old order q.parents r.config r.name m definable.parents e)) ∙ f

  pub new_exported : (m : ModuleId) (y : Member) (name p : List ℕ) → IsNew old q m y → Contains (exported_to (declaration_of y) name) p → Contains (declaration_of y).packages p
  new_exported m y name p new c =
      exported_held (declaration_of y) name p
      (subst (λ (z : Member). AreAmong (declaration_of z).packages (declaration_of z).exports) (sym new.is)
      (exports_among old.configurations q.config new.observed sound.kept definable.known (at_place (asked_modules old q) new.place new.observed new.there))) c

  pub target_read : (r : Read) (m : ModuleId) (y : Member) → read_module s (next_layer old) r ≡ Some m → member_of s m ≡ Some y → ReadsModule old.configurations (asked_configuration old q) r y.observed
  target_read r m y e f = cases (read_cases r m e)
    where
      cases : ((r.config ≡ q.config) × (named_in s (next_layer old) r.name ≡ Some m)) ⊎ ((r.config ≢ q.config) × (meant_above old q.parents r.config r.name ≡ Some m))
          → ReadsModule old.configurations (asked_configuration old q) r y.observed
      cases (inl (i, named)) =
          let new = named_new r.name m y named f in
          let here : Contains (asked_configuration old q).modules y.observed = subst (λ (z : Member). Contains (asked_configuration old q).modules z.observed) (sym new.is) (at_place (asked_modules old q) new.place new.observed new.there) in
          inl (i ∙ sym (kept_id old.configurations q.config sound.kept definable.known), (here, named_name s (next_layer old) r.name m y named f))
      cases (inr (ne, meant)) =
          let a = meant_is old sound q.parents r.config r.name m y definable.parents meant (meant_old r m y meant f) in
          inr (subst (λ (cs : List ConfigId). IsAbove old.configurations cs r.config) definable.configs a.0, a.1)
