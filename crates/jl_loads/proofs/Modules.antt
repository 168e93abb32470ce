-- Modules and loaders that are there.
use Rattle.std.proofs.Common.{◌≡◌, ℕ, zero, suc, ◌<◌, ◌≤◌, List, [], ◌∷◌, length, Option, None, Some, Bool, refl, sym, subst, ap, ◌∙◌, arith, inl, inr}
use Rattle.std.specs.Prelude.{slice_get, IfSome}
use Rattle.jl_prim.specs.declared.numbers.ClassId.{ClassId}
use Rattle.jl_prim.specs.declared.numbers.ModuleId.{ModuleId}
use Rattle.jl_prim.specs.declared.numbers.LoaderId.{LoaderId}
use Rattle.jl_prim.specs.declared.declaration.ParentLoader.{ParentLoader}
use Rattle.jl_prim.specs.declared.declaration.ParentLoader.TheVariants.{Null, Loader}
use Rattle.jl_loaders.specs.Loaders as delegation
use Rattle.jl_access.specs.Facts as access
use Rattle.jl_access.specs.declared.verdict.Place.{Place}
use Rattle.jl_access.specs.declared.verdict.Verdict.{Verdict}
use Rattle.jl_access.specs.Verdicts.{class_verdict}
use Rattle.jl_layer.specs.declared.layer.Member.{Member}
use Rattle.jl_layer.specs.Layers.{State, IsModule, member_of, numbered}
use Rattle.jl_layer.specs.Leads.{LeadsBy}
use Rattle.jl_layer.specs.Laws.{LeadsByLayers}
use Rattle.jl_layer.specs.Sound.{AreSound}
use Rattle.jl_loads.specs.declared.class_key.ClassKey.{ClassKey}
use Rattle.jl_loads.specs.Worlds as worlds
use Rattle.jl_loads.specs.Worlds.{Loaded, class_at}
use Rattle.jl_loads.specs.declared.rank.Rank.{Rank}
use Rattle.jl_loads.specs.Whole.{IsWhole}

-- ---- items by their numbers

within : {X : Type 0} (xs : List X) (k : ℕ) (x : X) → slice_get xs k ≡ Some x → k < length xs
within [] k x e = cc
within (y ∷ ys) zero x e = omega arith
within (y ∷ ys) (suc k) x e = let later = within ys k x e in omega arith

numbered_there : {X : Type 0} (xs : List X) (n : ℕ) (x : X) → numbered xs n ≡ Some x → (0 < n) × (n ≤ length xs)
numbered_there xs zero x e = cc
numbered_there xs (suc n) x e = let later = within xs n x e in (omega arith, omega arith)

found : {X : Type 0} (xs : List X) (k : ℕ) → k < length xs → (x : X) × (slice_get xs k ≡ Some x)
found [] k h = absurd (omega arith)
found (x ∷ xs) zero h = (x, refl)
found (x ∷ xs) (suc k) h = found xs k (omega arith)

found_numbered : {X : Type 0} (xs : List X) (n : ℕ) → 0 < n → n ≤ length xs → (x : X) × (numbered xs n ≡ Some x)
found_numbered xs zero h k = absurd (omega arith)
found_numbered xs (suc n) h k = found xs n (omega arith)

pub member_there : (s : State) (m : ModuleId) (x : Member) → member_of s m ≡ Some x → IsModule s m
member_there s m x e = numbered_there s.modules m.0 x e

pub has_member : (s : State) (m : ModuleId) → IsModule s m → (x : Member) × (member_of s m ≡ Some x)
has_member s m h = found_numbered s.modules m.0 h.0 h.1

-- ---- leads

leads_module : (n : ℕ) (s : State) (parent : ParentLoader) (p : List ℕ) (m : ModuleId) → LeadsBy n s parent p m → IsModule s m
leads_module n s Null p m (x, named, there, has) = member_there s m x there
leads_module zero s (Loader l) p m h = absurd h
leads_module (suc n) s (Loader l) p m (inl (x, there, of, has)) = member_there s m x there
leads_module (suc n) s (Loader l) p m (inr (inl (none, (a, x, y, first, of, reads, there, exports)))) = member_there s m y there
leads_module (suc n) s (Loader l) p m (inr (inr (none, unseen, (parent, is_parent, leads)))) = leads_module n s parent p m leads

lead_there : (s : State) (l : LoaderId) (name : List ℕ) (m : ModuleId) → LeadsByLayers s → delegation.IsLoader s.loaders l → delegation.lead s.loaders l name ≡ Some m → IsModule s m
lead_there s l name m leads there e = let by = (leads l name m there).0 e in leads_module by.0 s (Loader l) _ m by.1

leads_there_at : (s : State) (l : LoaderId) (name : List ℕ) (o : Option ModuleId) → LeadsByLayers s → delegation.IsLoader s.loaders l → o ≡ delegation.lead s.loaders l name → IfSome o (IsModule s)
leads_there_at s l name None leads there e = tt
leads_there_at s l name (Some m) leads there e = lead_there s l name m leads there (sym e)

pub leads_there : (s t : State) (l : LoaderId) (name : List ℕ) (o : Option ModuleId) → s ≡ t → LeadsByLayers s → delegation.IsLoader t.loaders l → o ≡ delegation.lead s.loaders l name → IfSome o (IsModule t)
leads_there s t l name o e leads there is =
    subst (λ w. IfSome o (IsModule w)) e (leads_there_at s l name o leads (subst (λ w. delegation.IsLoader w.loaders l) (sym e) there) is)

-- ---- loaders of modules

loader_there : (s : State) (m : ModuleId) (x : Member) → AreSound s → member_of s m ≡ Some x → delegation.IsLoader s.loaders x.loader
loader_there s m x sound e =
    let at = sound.members m x e in
    numbered_there s.loaders.loaders x.loader.0 _ ((sound.layers x.layer at.0 at.1).loaders m x at.2 e)

loader_of_there_at : (s : State) (m : ModuleId) (l : LoaderId) → AreSound s → IsModule s m → IfSome (member_of s m) (λ x. l ≡ x.loader) → delegation.IsLoader s.loaders l
loader_of_there_at s m l sound there is =
    let x = has_member s m there in
    let same : l ≡ x.0.loader = subst (λ o. IfSome o (λ x. l ≡ x.loader)) x.1 is in
    subst (delegation.IsLoader s.loaders) (sym same) (loader_there s m x.0 sound x.1)

pub loader_of_there : (s t : State) (m : ModuleId) (l : LoaderId) → s ≡ t → AreSound s → IsModule t m → IfSome (member_of s m) (λ x. l ≡ x.loader) → delegation.IsLoader t.loaders l
loader_of_there s t m l e sound there is =
    subst (λ w. delegation.IsLoader w.loaders l) e (loader_of_there_at s m l sound (subst (λ w. IsModule w m) (sym e) there) is)

-- ---- classes

-- what is kept beside a state
pub whole_at : {ranks : List Rank} (entries : List (ClassKey × ClassId)) (base : ModuleId) (s t : worlds.State) → s ≡ t → IsWhole entries ranks base s → IsWhole entries ranks base t
whole_at entries base s t e w = subst (IsWhole entries _ base) e w

-- ---- verdicts

pub verdict_at : (v : Verdict) (f g : access.State) (a b x y : Place) (p q : Bool) → v ≡ class_verdict f a x p → f ≡ g → a ≡ b → x ≡ y → p ≡ q → v ≡ class_verdict g b y q
verdict_at v f g a b x y p q e facts from to public =
    e ∙ ap (λ h. class_verdict h a x p) facts ∙ ap (λ h. class_verdict g h x p) from ∙ ap (λ h. class_verdict g b h p) to ∙ ap (λ h. class_verdict g b y h) public
