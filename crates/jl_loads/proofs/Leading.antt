-- Names are led to modules that are there, and where they are led stays.
use Rattle.std.proofs.Common.{◌≡◌, ◌<◌, ◌≤◌, ◌==◌, ℕ, zero, suc, List, [], ◌∷◌, length, Option, Some, None, Bool, true, false, if◌then◌else◌, inl, inr, refl, sym, ◌∙◌, ap, subst}
use Rattle.std.specs.Option.{option_or}
use Rattle.std.proofs.lemmas.Option.{none-some, same_Some}
use Rattle.jl_names.specs.Names.{package_of}
use Rattle.jl_prim.specs.declared.numbers.LoaderId.{LoaderId}
use Rattle.jl_prim.specs.declared.numbers.ModuleId.{ModuleId}
use Rattle.jl_prim.specs.declared.declaration.ParentLoader.{ParentLoader}
use Rattle.jl_prim.specs.declared.declaration.ParentLoader.TheVariants.{Null, Loader}
use Rattle.jl_loaders.specs.Loaders as delegation
use Rattle.jl_layer.specs.declared.layer.Layer.{Layer}
use Rattle.jl_layer.specs.declared.layer.Member.{Member}
use Rattle.jl_layer.specs.Layers.{State, IsModule, member_of}
use Rattle.jl_layer.specs.Leads.{LeadsBy}
use Rattle.jl_layer.specs.Laws.{LeadsByLayers}
use Rattle.jl_layer.specs.Sound.{AreSound, HasBase}
use Rattle.jl_loads.proofs.Places.{numbered_there}

module _ (s : State) where
  member_there : (m : ModuleId) (x : Member) → member_of s m ≡ Some x → IsModule s m
  member_there m x e = numbered_there s.modules m.0 x e

  -- what declarations lead to is there
  declared_there : (n : ℕ) (q : ParentLoader) (p : List ℕ) (m : ModuleId) → LeadsBy n s q p m → IsModule s m
  declared_there zero Null p m h = member_there m h.0 h.2
  declared_there (suc n) Null p m h = member_there m h.0 h.2
  declared_there zero (Loader l) p m h = absurd h
  declared_there (suc n) (Loader l) p m (inl own) = member_there m own.0 own.1
  declared_there (suc n) (Loader l) p m (inr (inl seen)) = let see = seen.1 in member_there m see.2 see.6
  declared_there (suc n) (Loader l) p m (inr (inr above)) = let up = above.2 in declared_there n up.0 p m up.2

  same_base : (b : Option ModuleId) (o : Option ModuleId) (m : ModuleId) → delegation.if_same b o ≡ Some m → b ≡ Some m
  same_base None o m e = absurd (none-some m e)
  same_base (Some b) None m e = absurd (none-some m e)
  same_base (Some b) (Some n) m e = by (b.0 == n.0) e
    where
      by : (t : Bool) → (if t then Some b else None) ≡ Some m → Some b ≡ Some m
      by true f = f
      by false f = absurd (none-some m f)

  base_there : (ls : List Layer) (m : ModuleId) → HasBase s ls → s.loaders.base ≡ Some m → IsModule s m
  base_there [] m h e = absurd (none-some m (sym h ∙ e))
  base_there (l ∷ ls) m h e =
      let same : h.0 ≡ m = same_Some h.0 m (sym h.2 ∙ e) in
      subst (IsModule s) same (member_there h.0 h.1 h.4)

  -- a loader that is not there leads to java.base alone
  absent_lead : (n : ℕ) (l : LoaderId) (p : List ℕ) (m : ModuleId) → delegation.numbered s.loaders.loaders l.0 ≡ None → delegation.lead_by n s.loaders (Loader l) p ≡ Some m → s.loaders.base ≡ Some m
  unfolding delegation.lead_by
  absent_lead zero l p m none e = absurd (none-some m e)
  absent_lead (suc n) l p m none e =
      let f = sym (ap (λ (o : Option delegation.Parts). option_or (delegation.had_by o p) (delegation.lead_by n s.loaders (delegation.parent_in o) p)) none) ∙ e in
      null_lead n f
    where
      null_lead : (k : ℕ) → delegation.lead_by k s.loaders Null p ≡ Some m → s.loaders.base ≡ Some m
      null_lead zero h = same_base s.loaders.base (delegation.had_by (delegation.numbered s.loaders.loaders 1) p) m h
      null_lead (suc k) h = same_base s.loaders.base (delegation.had_by (delegation.numbered s.loaders.loaders 1) p) m h

  pub parts_there : (ls : List delegation.Parts) (n : ℕ) (x : delegation.Parts) → delegation.numbered ls n ≡ Some x → (0 < n) × (n ≤ length ls)
  parts_there ls zero x e = absurd (none-some x e)
  parts_there ls (suc n) x e = numbered_there ls (suc n) x e

  -- a module to which a loader leads a name is there
  pub lead_there : AreSound s → LeadsByLayers s → (l : LoaderId) (name : List ℕ) (m : ModuleId) → delegation.lead s.loaders l name ≡ Some m → IsModule s m
  lead_there sound leads l name m e = by (delegation.numbered s.loaders.loaders l.0) refl
    where
      by : (o : Option delegation.Parts) → delegation.numbered s.loaders.loaders l.0 ≡ o → IsModule s m
      by None i = base_there s.layers m sound.base (absent_lead l.0 l (package_of name) m i e)
      by (Some x) i = let r = (leads l name m (parts_there s.loaders.loaders l.0 x i)).0 e in declared_there r.0 (Loader l) (package_of name) m r.1
