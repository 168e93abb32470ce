-- Which module a configuration means above some layers (`ModuleLayer`, `Configuration`).
use Rattle.std.proofs.Common.{◌≡◌, ◌+◌, ℕ, zero, suc, List, ◌∷◌, length, map, Some, inl, inr, eqb-true, refl, sym, ◌∙◌, ap, subst, arith}
use Rattle.std.specs.Prelude.{Contains}
use Rattle.jl_logic.proofs.Rising.{contains_nothing, contains_cases}
use Rattle.jl_prim.specs.declared.numbers.ModuleId.{ModuleId}
use Rattle.jl_prim.specs.declared.numbers.LayerId.{LayerId}
use Rattle.jl_prim.specs.declared.numbers.ConfigId.{ConfigId}
use Rattle.jl_config.specs.Located.{configuration_of}
use Rattle.jl_layer.specs.declared.layer.Layer.{Layer}
use Rattle.jl_layer.specs.declared.layer.Member.{Member}
use Rattle.jl_layer.specs.Layers.{State, layer_at, configuration_at, member_of, has_name, line, IsLayer}
use Rattle.jl_layer.specs.Meaning.{meant_above}
use Rattle.jl_layer.specs.Keeping.{IsAboveBy, IsAbove, HasModule}
use Rattle.jl_layer.specs.Sound.{AreSound}
use Rattle.jl_layer.proofs.Listed.{flat_map_from, find_from, map_into}
use Rattle.jl_layer.proofs.Growing.{layer_zero, laid_out, parent_there, meant_from, named_name}
use Rattle.jl_layer.proofs.KeptBehind.{same_config}
use Rattle.jl_layer.proofs.StillSound.{observed_in}

module _ (s : State) (sound : AreSound s) where
  abbrev config_of : LayerId → ConfigId
  config_of l = (layer_at s l).config

  -- parents of a layer have the configurations that its own has as parents
  parents_configs : (l : LayerId) → IsLayer s l → map config_of (layer_at s l).parents ≡ (configuration_at s l).parents
  parents_configs l there = by l.0 refl
    where
      by : (k : ℕ) → l.0 ≡ k → map config_of (layer_at s l).parents ≡ (configuration_at s l).parents
      by zero e =
          ap (λ (x : Layer). map config_of x.parents) (layer_zero s l e)
          ∙ sym (ap (λ (x : Layer). (configuration_of s.configurations x.config).parents) (layer_zero s l e))
      by (suc k) e = (sound.layers l (omega arith) there).configs

  -- a layer in a line has a configuration above those of the layers at its start
  line_config : (n : ℕ) (ls : List LayerId) (k : LayerId) → ((p : LayerId) → Contains ls p → IsLayer s p) → Contains (line n s ls) k → IsAbove s.configurations (map config_of ls) (config_of k)
  unfolding line
  line_config zero ls k there c = contains_nothing k c
  line_config (suc n) ls k there c =
      let r = flat_map_from (λ (l : LayerId). l ∷ line n s (layer_at s l).parents) ls k c in
      elim (contains_cases r.0 k (line n s (layer_at s r.0).parents) r.2) [
        | inl e ↦ (0, subst (λ (l : LayerId). Contains (map config_of ls) (config_of l)) e (map_into config_of ls r.0 r.1))
        | inr d ↦
            let a = line_config n (layer_at s r.0).parents k (λ p i. parent_there s (laid_out s sound) r.0 p (there r.0 r.1) i) d in (
              suc a.0,
              (
                config_of r.0,
                map_into config_of ls r.0 r.1,
                subst (λ (cs : List ConfigId). IsAboveBy a.0 s.configurations cs (config_of k)) (parents_configs r.0 (there r.0 r.1)) a.1,
              ),
            )
      ]

  -- what is meant above some layers is the module of a configuration above theirs
  pub meant_is : (ls : List LayerId) (c : ConfigId) (name : List ℕ) (m : ModuleId) (x : Member) → ((p : LayerId) → Contains ls p → IsLayer s p) → meant_above s ls c name ≡ Some m → member_of s m ≡ Some x
      → IsAbove s.configurations (map config_of ls) c × HasModule (configuration_of s.configurations c) name x.observed
  meant_is ls c name m x there e f =
      let r = meant_from s (laid_out s sound) ls c name m there e in
      let is : config_of r.0 ≡ c = same_config (config_of r.0) c (eqb-true (config_of r.0).0 c.0 r.3) in
      let at = (find_from (has_name s name) (layer_at s r.0).modules m r.4).0 in
      let held : Contains (configuration_at s r.0).modules x.observed = inside r.0 r.2 at in (
        subst (IsAbove s.configurations (map config_of ls)) is (line_config (length s.layers + 1) ls r.0 there r.1),
        (subst (λ (d : ConfigId). Contains (configuration_of s.configurations d).modules x.observed) is held, named_name s r.0 name m x r.4 f),
      )
    where
      inside : (k : LayerId) → IsLayer s k → Contains (layer_at s k).modules m → Contains (configuration_at s k).modules x.observed
      inside k here at = by k.0 refl
        where
          by : (n : ℕ) → k.0 ≡ n → Contains (configuration_at s k).modules x.observed
          by zero e = contains_nothing m (subst (λ (y : Layer). Contains y.modules m) (layer_zero s k e) at)
          by (suc n) e = observed_in s k m x (sound.layers k (omega arith) here) at f
