-- java.base, from the boot layer on (`ModuleLayer.boot`).
use Rattle.std.proofs.Common.{◌≡◌, ◌<◌, List, [], ◌∷◌, length, Some, codes, refl, sym, ◌∙◌, ap, subst, arith}
use Rattle.jl_prim.specs.declared.numbers.ModuleId.{ModuleId}
use Rattle.jl_layer.specs.declared.layer.Layer.{Layer}
use Rattle.jl_layer.specs.declared.layer.Member.{Member}
use Rattle.jl_layer.specs.Layers.{State, member_of, named_in}
use Rattle.jl_layer.specs.Leads.{boot_layer}
use Rattle.jl_layer.specs.Sound.{HasBase}
use Rattle.jl_layer.proofs.Growing.{AreLaidOut, Extends, named_kept, still_member}

-- java.base of the boot layer is known, and its loader is the first
pub record IsBase (s : State) (m : ModuleId) (x : Member) : Type 0 where
  pub base : s.loaders.base ≡ Some m
  pub named : named_in s boot_layer (codes "java.base") ≡ Some m
  pub member : member_of s m ≡ Some x
  pub first : x.loader ≡ record { 0 = 1 }

-- with the boot layer there is a java.base
pub base_there : (s : State) → 0 < length s.layers → HasBase s s.layers → (m : ModuleId) × (x : Member) × IsBase s m x
base_there s lt h = by s.layers refl h
  where
    by : (ls : List Layer) → s.layers ≡ ls → HasBase s ls → (m : ModuleId) × (x : Member) × IsBase s m x
    by [] e h = absurd (omega (arith, ap (λ (ls : List Layer). length ls) e))
    by (l ∷ ls) e h = (h.0, h.1, record { base = h.2; named = h.3; member = h.4; first = h.5 })

pub has_base : (s : State) (m : ModuleId) (x : Member) → 0 < length s.layers → IsBase s m x → HasBase s s.layers
has_base s m x lt h = by s.layers refl
  where
    by : (ls : List Layer) → s.layers ≡ ls → HasBase s ls
    by [] e = absurd (omega (arith, ap (λ (ls : List Layer). length ls) e))
    by (l ∷ ls) e = (m, x, h.base, h.named, h.member, h.first)

module _ (f g : State) (order : AreLaidOut f) (more : Extends f g) where
  -- java.base stays it
  pub base_kept : (m : ModuleId) (x : Member) → 0 < length f.layers → g.loaders.base ≡ f.loaders.base → IsBase f m x → IsBase g m x
  base_kept m x lt same h = record {
    base = same ∙ h.base;
    named = named_kept f g order more boot_layer (codes "java.base") (omega arith) ∙ h.named;
    member = still_member f g order more m x h.member;
    first = h.first;
  }

  pub base_still : g.layers ≡ f.layers → g.loaders.base ≡ f.loaders.base → HasBase f f.layers → HasBase g g.layers
  base_still layers same h = by f.layers refl h
    where
      by : (ls : List Layer) → f.layers ≡ ls → HasBase f ls → HasBase g g.layers
      by [] e k = subst (HasBase g) (sym (layers ∙ e)) (same ∙ k)
      by (l ∷ ls) e k =
          let b = base_kept k.0 k.1 (omega (arith, ap (λ (xs : List Layer). length xs) e)) same (record { base = k.2; named = k.3; member = k.4; first = k.5 }) in
          subst (HasBase g) (sym (layers ∙ e)) (k.0, k.1, b.base, b.named, b.member, b.first)
