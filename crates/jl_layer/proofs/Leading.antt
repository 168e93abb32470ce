-- A loader leads where the declarations of the layers and what their modules read lead (JVMS 5.3; `ModuleLayer`).
use Rattle.std.proofs.Common.{◌≡◌, ◌≤◌, ◌==◌, ℕ, zero, suc, List, ◌∷◌, length, find, Option, Some, None, Bool, true, false, if◌then◌else◌, codes, inl, inr, eqb-true, eq-eqb, refl, sym, ◌∙◌, ap, ap₂, subst, arith}
use Rattle.std.specs.Prelude.{Contains, ⊤}
use Rattle.std.specs.Option.{option_or}
use Rattle.std.proofs.lemmas.List.{get_or_past, nil_from_length}
use Rattle.std.proofs.lemmas.Option.{none-some, same_Some}
use Rattle.jl_names.specs.Names.{package_of}
use Rattle.jl_prim.specs.declared.numbers.ModuleId.{ModuleId}
use Rattle.jl_prim.specs.declared.numbers.LayerId.{LayerId}
use Rattle.jl_prim.specs.declared.numbers.LoaderId.{LoaderId}
use Rattle.jl_prim.specs.declared.declaration.ParentLoader.{ParentLoader}
use Rattle.jl_prim.specs.declared.declaration.ParentLoader.TheVariants.{Null, Loader}
use Rattle.jl_loaders.specs.Loaders.{lead_by}
use Rattle.jl_loaders.specs.Loaders as delegation
use Rattle.jl_loaders.specs.Laws.{ParentsBelow}
use Rattle.jl_layer.specs.declared.layer.Layer.{Layer}
use Rattle.jl_layer.specs.declared.layer.Member.{Member}
use Rattle.jl_layer.specs.Layers.{State, empty_layer, layer_at, member_of, declaration_of, has_name}
use Rattle.jl_layer.specs.Leads.{HasOwn, NoModule, IsInBase, IsParent, LeadsBy, boot_layer}
use Rattle.jl_layer.specs.Defining.{parts_of}
use Rattle.jl_layer.specs.Laws.{LeadsByLayers}
use Rattle.jl_layer.specs.Sound.{HasBase, AreSound}
use Rattle.jl_layer.proofs.Added.{same_module}
use Rattle.jl_layer.proofs.Bases.{IsBase, base_there}
use Rattle.jl_layer.proofs.StillSound.{has_exported}
use Rattle.jl_layer.proofs.Given.{IsLoaderOf, loader_layer, given_own, own_given, given_seen, seen_given, no_own, no_seen, none_given, none_seen}

module _ (s : State) (sound : AreSound s) (p : List ℕ) where
  -- ---- java.base

  -- what a loader has for a package has the package
  module_has : (l : LoaderId) (k : LayerId) (m : ModuleId) → IsLoaderOf s l k → delegation.module_for (parts_of s k l) p ≡ Some m → (x : Member) × (member_of s m ≡ Some x) × Contains (declaration_of x).packages p
  module_has l k m of e = by (delegation.given_for p (parts_of s k l).own) refl e
    where
      by : (o : Option ModuleId) → delegation.given_for p (parts_of s k l).own ≡ o → option_or o (delegation.given_for p (parts_of s k l).seen) ≡ Some m → (x : Member) × (member_of s m ≡ Some x) × Contains (declaration_of x).packages p
      by (Some n) i f = let h = given_own s sound l k of p m (i ∙ f) in (h.0, h.1, h.3)
      by None i f = let h = given_seen s sound l k of p m f in (h.2, h.6, has_exported s m h.2 (declaration_of h.1).name p sound h.6 h.7)

  same_from : (b m : ModuleId) (o : Option ModuleId) → delegation.if_same (Some b) o ≡ Some m → (b ≡ m) × (o ≡ Some m)
  same_from b m None e = absurd (none-some m e)
  same_from b m (Some n) e = by (b.0 == n.0) refl e
    where
      by : (t : Bool) → (b.0 == n.0) ≡ t → (if t then Some b else None) ≡ Some m → (b ≡ m) × (Some n ≡ Some m)
      by true i f = let is : b ≡ m = same_Some b m f in (is, ap Some (sym (same_module b n (eqb-true b.0 n.0 i)) ∙ is))
      by false i f = absurd (none-some m f)

  -- the loader of java.base is the first
  first_loader : (m : ModuleId) (x : Member) → IsBase s m x → IsLoaderOf s (record { 0 = 1 }) x.layer
  first_loader m x base = subst (λ (l : LoaderId). IsLoaderOf s l x.layer) base.first (loader_layer s m x sound base.member)

  base_led : (m : ModuleId) → delegation.base_lead s.loaders p ≡ Some m → IsInBase s p m
  base_led m e = by (length s.layers) refl
    where
      of_base : (b : ModuleId) (x : Member) → IsBase s b x → IsInBase s p m
      of_base b x base =
          let of = first_loader b x base in
          let is : delegation.if_same (Some b) (delegation.module_for (parts_of s x.layer (record { 0 = 1 })) p) ≡ Some m =
          sym (ap₂ (λ (o : Option ModuleId) (y : Option delegation.Parts). delegation.if_same o (delegation.had_by y p)) base.base of.there) ∙ e in
          let r = same_from b m (delegation.module_for (parts_of s x.layer (record { 0 = 1 })) p) is in
          let h = module_has (record { 0 = 1 }) x.layer m of r.1 in
          (h.0, base.named ∙ ap Some r.0, h.1, h.2)

      by : (n : ℕ) → length s.layers ≡ n → IsInBase s p m
      by zero i =
          let none : s.loaders.base ≡ None = subst (HasBase s) (nil_from_length s.layers i) sound.base in
          absurd (none-some m (sym (ap (λ (o : Option ModuleId). delegation.if_same o (delegation.had_by (delegation.numbered s.loaders.loaders 1) p)) none) ∙ e))
      by (suc n) i = let b = base_there s (omega arith) sound.base in of_base b.0 b.1 b.2

  led_base : (m : ModuleId) → IsInBase s p m → delegation.base_lead s.loaders p ≡ Some m
  led_base m (x, named, e, c) = by (length s.layers) refl
    where
      of_base : (b : ModuleId) (z : Member) → IsBase s b z → delegation.base_lead s.loaders p ≡ Some m
      of_base b z base =
          let is : b ≡ m = same_Some b m (sym base.named ∙ named) in
          let one : x ≡ z = same_Some x z (sym e ∙ ap (member_of s) (sym is) ∙ base.member) in
          let of = first_loader b z base in
          let own : delegation.given_for p (parts_of s z.layer (record { 0 = 1 })).own ≡ Some m = own_given s sound (record { 0 = 1 }) z.layer of p m (x, e, ap (λ (y : Member). y.loader) one ∙ base.first, c) in
          ap₂ (λ (o : Option ModuleId) (y : Option delegation.Parts). delegation.if_same o (delegation.had_by y p)) (base.base ∙ ap Some is) of.there
          ∙ ap (λ (o : Option ModuleId). delegation.if_same (Some m) (option_or o (delegation.given_for p (parts_of s z.layer (record { 0 = 1 })).seen))) own
          ∙ ap (λ (b : Bool). if b then Some m else None) (eq-eqb m.0 m.0 refl)

      by : (n : ℕ) → length s.layers ≡ n → delegation.base_lead s.loaders p ≡ Some m
      by zero i =
          let nothing : layer_at s boot_layer ≡ empty_layer = get_or_past (empty_layer ∷ s.layers) 1 empty_layer (omega arith) in
          absurd (none-some m (sym (ap (λ (y : Layer). find (has_name s (codes "java.base")) y.modules) nothing) ∙ named))
      by (suc n) i = let b = base_there s (omega arith) sound.base in of_base b.0 b.1 b.2

  -- ---- loaders

  module _ (below : ParentsBelow s.loaders.loaders) where
    layer_of : (l : LoaderId) → delegation.IsLoader s.loaders l → (k : LayerId) × IsLoaderOf s l k
    layer_of l there =
        let r = sound.used l there in
        (r.1.layer, subst (λ (n : LoaderId). IsLoaderOf s n r.1.layer) r.3 (loader_layer s r.0 r.1 sound r.2))

    parent_there : (l : LoaderId) (k : LayerId) → delegation.IsLoader s.loaders l → IsLoaderOf s l k → delegation.ParentExists s.loaders (layer_at s k).parent_loader
    parent_there l k there of = by (layer_at s k).parent_loader refl
      where
        by : (q : ParentLoader) → (layer_at s k).parent_loader ≡ q → delegation.ParentExists s.loaders q
        by Null e = tt
        by (Loader r) e = let low = below l.0 (parts_of s k l) r of.there e in (low.0, omega (arith, low.1, there.1))

    parent_is : (l : LoaderId) (k : LayerId) (q : ParentLoader) → IsLoaderOf s l k → IsParent s l q → q ≡ (layer_at s k).parent_loader
    parent_is l k q of (m, x, e, i, is) = is ∙ ap (λ (n : LayerId). (layer_at s n).parent_loader) (of.only m x e i)

    is_parent : (l : LoaderId) (k : LayerId) → IsLoaderOf s l k → IsParent s l (layer_at s k).parent_loader
    is_parent l k of =
        let u = of.used in
        (u.0, u.1, u.2, u.3, ap (λ (n : LayerId). (layer_at s n).parent_loader) (sym (of.only u.0 u.1 u.2 u.3)))

    step : (n : ℕ) (l : LoaderId) (k : LayerId) → IsLoaderOf s l k
        → lead_by (suc n) s.loaders (Loader l) p ≡ option_or (delegation.module_for (parts_of s k l) p) (lead_by n s.loaders (layer_at s k).parent_loader p)
    unfolding lead_by
    step n l k of = ap (λ (o : Option delegation.Parts). option_or (delegation.had_by o p) (lead_by n s.loaders (delegation.parent_in o) p)) of.there

    -- what a loader leads to, it leads to by declarations
    led : (n : ℕ) (q : ParentLoader) (m : ModuleId) → delegation.ParentExists s.loaders q → lead_by n s.loaders q p ≡ Some m → LeadsBy n s q p m
    unfolding lead_by
    led zero Null m there e = base_led m e
    led (suc n) Null m there e = base_led m e
    led zero (Loader l) m there e = absurd (none-some m e)
    led (suc n) (Loader l) m there e =
        let r = layer_of l there in
        own l r.0 r.1 (delegation.given_for p (parts_of s r.0 l).own) refl (sym (step n l r.0 r.1) ∙ e)
        (led n (layer_at s r.0).parent_loader m (parent_there l r.0 there r.1))
      where
        seen : (l : LoaderId) (k : LayerId) → IsLoaderOf s l k → NoModule (HasOwn s l p) → (o : Option ModuleId) → delegation.given_for p (parts_of s k l).seen ≡ o
            → option_or o (lead_by n s.loaders (layer_at s k).parent_loader p) ≡ Some m → (lead_by n s.loaders (layer_at s k).parent_loader p ≡ Some m → LeadsBy n s (layer_at s k).parent_loader p m)
            → LeadsBy (suc n) s (Loader l) p m
        seen l k of none (Some x) i f more = inr (inl (none, given_seen s sound l k of p m (i ∙ f)))
        seen l k of none None i f more = inr (inr (none, no_seen s sound l k of p none i, ((layer_at s k).parent_loader, is_parent l k of, more f)))

        own : (l : LoaderId) (k : LayerId) → IsLoaderOf s l k → (o : Option ModuleId) → delegation.given_for p (parts_of s k l).own ≡ o
            → option_or (option_or o (delegation.given_for p (parts_of s k l).seen)) (lead_by n s.loaders (layer_at s k).parent_loader p) ≡ Some m
            → (lead_by n s.loaders (layer_at s k).parent_loader p ≡ Some m → LeadsBy n s (layer_at s k).parent_loader p m) → LeadsBy (suc n) s (Loader l) p m
        own l k of (Some x) i f more = inl (given_own s sound l k of p m (i ∙ f))
        own l k of None i f more = seen l k of (no_own s sound l k of p i) (delegation.given_for p (parts_of s k l).seen) refl f more

    -- what it leads to by declarations, it leads to
    leads : (n : ℕ) (q : ParentLoader) (m : ModuleId) → delegation.ParentExists s.loaders q → LeadsBy n s q p m → lead_by n s.loaders q p ≡ Some m
    unfolding lead_by
    leads zero Null m there h = led_base m h
    leads (suc n) Null m there h = led_base m h
    leads zero (Loader l) m there h = absurd h
    leads (suc n) (Loader l) m there (inl own) =
        let r = layer_of l there in
        step n l r.0 r.1
        ∙ ap (λ (o : Option ModuleId). option_or (option_or o (delegation.given_for p (parts_of s r.0 l).seen)) (lead_by n s.loaders (layer_at s r.0).parent_loader p)) (own_given s sound l r.0 r.1 p m own)
    leads (suc n) (Loader l) m there (inr (inl (none, seen))) =
        let r = layer_of l there in
        step n l r.0 r.1
        ∙ ap₂ (λ (o u : Option ModuleId). option_or (option_or o u) (lead_by n s.loaders (layer_at s r.0).parent_loader p)) (none_given s sound l r.0 r.1 p none) (seen_given s sound l r.0 r.1 p m none seen)
    leads (suc n) (Loader l) m there (inr (inr (none, unseen, (q, is, h)))) =
        let r = layer_of l there in
        let same : q ≡ (layer_at s r.0).parent_loader = parent_is l r.0 q r.1 is in
        step n l r.0 r.1
        ∙ ap₂ (λ (o u : Option ModuleId). option_or (option_or o u) (lead_by n s.loaders (layer_at s r.0).parent_loader p)) (none_given s sound l r.0 r.1 p none) (none_seen s sound l r.0 r.1 p unseen)
        ∙ ap (λ (x : ParentLoader). lead_by n s.loaders x p) (sym same)
        ∙ leads n q m (subst (delegation.ParentExists s.loaders) (sym same) (parent_there l r.0 there r.1)) h

    -- ---- any number of loaders above is enough that is not less than that of the loader

    abbrev IsEnough : ℕ → ParentLoader → Type 0
    IsEnough n Null = ⊤
    IsEnough n (Loader l) = l.0 ≤ n

    parent_enough : (l : LoaderId) (k : LayerId) (n : ℕ) → IsLoaderOf s l k → l.0 ≤ suc n → IsEnough n (layer_at s k).parent_loader
    parent_enough l k n of le = by (layer_at s k).parent_loader refl
      where
        by : (q : ParentLoader) → (layer_at s k).parent_loader ≡ q → IsEnough n q
        by Null e = tt
        by (Loader r) e = let low = below l.0 (parts_of s k l) r of.there e in omega (arith, low.1)

    refit : (n k : ℕ) (q : ParentLoader) (m : ModuleId) → delegation.ParentExists s.loaders q → IsEnough k q → LeadsBy n s q p m → LeadsBy k s q p m
    refit zero zero Null m there enough h = h
    refit zero (suc k) Null m there enough h = h
    refit (suc n) zero Null m there enough h = h
    refit (suc n) (suc k) Null m there enough h = h
    refit zero k (Loader l) m there enough h = absurd h
    refit (suc n) zero (Loader l) m there enough h = absurd (omega (arith, there.0))
    refit (suc n) (suc k) (Loader l) m there enough (inl own) = inl own
    refit (suc n) (suc k) (Loader l) m there enough (inr (inl seen)) = inr (inl seen)
    refit (suc n) (suc k) (Loader l) m there enough (inr (inr (none, unseen, (q, is, h)))) =
        let r = layer_of l there in
        let same : (layer_at s r.0).parent_loader ≡ q = sym (parent_is l r.0 q r.1 is) in
        inr
        (inr
        (none, unseen, (q, is, refit n k q m (subst (delegation.ParentExists s.loaders) same (parent_there l r.0 there r.1)) (subst (IsEnough k) same (parent_enough l r.0 k r.1 enough)) h)))

pub leads_by_layers_lem : (s : State) → AreSound s → ParentsBelow s.loaders.loaders → LeadsByLayers s
leads_by_layers_lem s sound below = λ l name m there. (
  (λ e. (l.0, led s sound (package_of name) below l.0 (Loader l) m there e)),
  (λ h. leads s sound (package_of name) below l.0 (Loader l) m there (refit s sound (package_of name) below h.0 l.0 (Loader l) m there (omega arith) h.1)),
)
