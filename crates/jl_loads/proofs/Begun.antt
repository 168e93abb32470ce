-- What a world begins with, class by class.
use Rattle.std.proofs.Common.{◌≡◌, ◌<◌, ◌+◌, ◌++◌, ℕ, suc, Bool, true, false, List, [], ◌∷◌, length, Option, None, Some, codes, refl, sym, ◌∙◌, ap, subst, cond, arith, nat_lt, map, option_map, Result, Ok, Err}
use Rattle.std.proofs.lemmas.Option.{none-some}
use Rattle.std.specs.Prelude.{OnOk}
use Rattle.std.specs.Option.{option_or}
use Rattle.jl_prim.specs.declared.numbers.ClassId.{ClassId}
use Rattle.jl_prim.specs.declared.numbers.LayerId.{LayerId}
use Rattle.jl_prim.specs.declared.numbers.LoaderId.{LoaderId}
use Rattle.jl_prim.specs.declared.numbers.ModuleId.{ModuleId}
use Rattle.jl_class.specs.Classes.{Class}
use Rattle.jl_layer.specs.declared.layer.Layer.{Layer}
use Rattle.jl_layer.specs.Layers as layers
use Rattle.jl_layer.specs.Layers.{find_module, first_given, layer_at, line, named_in}
use Rattle.jl_layer.specs.Leads.{boot_layer}
use Rattle.jl_layer.specs.Sound.{AreSound, HasBase}
use Rattle.jl_loads.specs.Worlds.{State, Loaded, Thrown, loader_of_module, with_class}
use Rattle.jl_loads.specs.Loading.{define, most_classes, under, unlinked}
use Rattle.jl_loads.specs.Outcomes.{Outcome}
use Rattle.jl_loads.specs.Beginning.{base_class, base_of, begun_by, class_named, named_under}

-- one class of the list is defined
pub begun_step : (s t u : State) (c : Class) (cs ds : List Class) → cs ≡ c ∷ ds → t ≡ with_class (base_class s c) s → begun_by s cs ≡ u → begun_by t ds ≡ u
unfolding begun_by
begun_step s t u c cs ds e more h = ap (λ w. begun_by w ds) more ∙ ap (begun_by s) (sym e) ∙ h

-- all are
pub begun_done : (s u : State) (cs : List Class) → length cs ≡ 0 → begun_by s cs ≡ u → s ≡ u
unfolding begun_by
begun_done s u [] none h = h
begun_done s u (c ∷ cs) none h = absurd (omega (arith))

-- ---- one class

abbrev answer : State → ClassId → Outcome ClassId
answer t d = (t, Ok d)

not_both : (r : Result ClassId Thrown) (e : Thrown) (d : ClassId) → r ≡ Err e → r ≡ Ok d → ⊥
not_both r e d a b = cc

ok_state : (b : Bool) (s t : State) (c : Loaded) (k d : ClassId) (e : Thrown) → cond b (answer (with_class c s) k) (s, Err e) ≡ answer t d → t ≡ with_class c s
ok_state true s t c k d e h = sym (ap (λ (o : Outcome ClassId). o.0) h)
ok_state false s t c k d e h = absurd (not_both (Err e) e d refl (ap (λ (o : Outcome ClassId). o.1) h))

-- what is defined stands behind the others
pub defined_behind : (s t : State) (c : Loaded) (d : ClassId) → define s c ≡ (t, Ok d) → t ≡ with_class c s
defined_behind s t c d h = ok_state (nat_lt (length s.classes) most_classes) s t c _ d _ h

-- a class of java.base by its parts
pub base_class_by : (s : State) (c : Class) (home : ModuleId) (l : LoaderId) (new made : Loaded) (super : Option ClassId) (interfaces : List ClassId)
    → home ≡ base_of s → l ≡ loader_of_module s home → new ≡ unlinked l home c → super ≡ option_map (class_named s l) c.super_name → interfaces ≡ map (class_named s l) c.interfaces
    → made ≡ under new super interfaces → made ≡ base_class s c
base_class_by s c home l new made super interfaces of_home of_loader is_new of_super of_interfaces is_made =
    is_made ∙ ap (λ (n : Loaded). under n super interfaces) is_new ∙ ap (λ (x : Option ClassId). under (unlinked l home c) x interfaces) of_super
    ∙ ap (under (unlinked l home c) (option_map (class_named s l) c.super_name)) of_interfaces
    ∙ ap (λ (k : LoaderId). under (unlinked k home c) (option_map (class_named s k) c.super_name) (map (class_named s k) c.interfaces)) of_loader
    ∙ ap (λ (m : ModuleId). named_under s (unlinked (loader_of_module s m) m c)) of_home

-- ---- answers

pub on_ok : {X E : Type 0} (r : Result X E) (x : X) (P : Type 0) → r ≡ Ok x → P → OnOk r P
on_ok r x P e p = subst (λ q. OnOk q P) (sym e) p

pub on_err : {X E : Type 0} (r : Result X E) (x : E) (P : Type 0) → r ≡ Err x → OnOk r P
on_err r x P e = subst (λ q. OnOk q P) (sym e) tt

-- ---- java.base is that of the boot layer

first_at : (n : ℕ) (s : layers.State) (l : LayerId) (name : List ℕ) (m : ModuleId) → named_in s l name ≡ Some m → first_given (λ (k : LayerId). named_in s k name) (line (suc n) s (l ∷ [])) ≡ Some m
unfolding line
first_at n s l name m e = ap (λ (o : Option ModuleId). option_or o (first_given (λ (k : LayerId). named_in s k name) (line n s (layer_at s l).parents ++ []))) e

found_first : (s : layers.State) (l : LayerId) (name : List ℕ) (m : ModuleId) → named_in s l name ≡ Some m → find_module s l name ≡ Some m
found_first s l name m e =
    let deep : length s.layers + 1 ≡ suc (length s.layers) = omega (arith) in
    ap (λ (n : ℕ). first_given (λ (k : LayerId). named_in s k name) (line n s (l ∷ []))) deep ∙ first_at (length s.layers) s l name m e

boot_base : (s : layers.State) (ls : List Layer) → 0 < length ls → HasBase s ls → (m : ModuleId) × (s.loaders.base ≡ Some m) × (named_in s boot_layer (codes "java.base") ≡ Some m)
boot_base s [] lt h = absurd (omega (arith))
boot_base s (l ∷ ls) lt h = (h.0, h.2, h.3)

-- the module that is found is java.base
pub base_found : (s : layers.State) (name : List ℕ) (o : Option ModuleId) → AreSound s → 0 < length s.layers → name ≡ codes "java.base" → o ≡ find_module s boot_layer name → s.loaders.base ≡ o
base_found s name o sound lt is e =
    let b = boot_base s s.layers lt sound.base in
    b.1 ∙ sym (e ∙ ap (find_module s boot_layer) is ∙ found_first s boot_layer (codes "java.base") b.0 b.2)

-- and there is one
pub base_is_there : (s : layers.State) → AreSound s → 0 < length s.layers → s.loaders.base ≡ None → ⊥
base_is_there s sound lt e = let b = boot_base s s.layers lt sound.base in none-some b.0 (sym e ∙ b.1)
