-- What is loaded stays sound, whatever is noted, defined, or laid under it.
use Rattle.std.proofs.Common.{◌≡◌, [], length, Option, Some, Bool, true, false, refl, sym, ◌∙◌, ap, subst, if◌then◌else◌, Ok, Err, codes, arith, None}
use Rattle.std.specs.Prelude.{nat_lt, IfSome}
use Rattle.std.specs.Option.{option_map_or}
use Rattle.std.proofs.lemmas.Bool.{ltb-true}
use Rattle.jl_logic.proofs.Rising.{contains_nothing}
use Rattle.jl_prim.specs.declared.numbers.ClassId.{ClassId}
use Rattle.jl_prim.specs.declared.numbers.ModuleId.{ModuleId}
use Rattle.jl_prim.specs.declared.error_kind.ErrorKind.TheVariants as errors
use Rattle.jl_loaders.specs.Loaders.{IsLoader}
use Rattle.jl_layer.specs.declared.layer.Member.{Member}
use Rattle.jl_layer.specs.Layers as layers
use Rattle.jl_layer.specs.Laws as over
use Rattle.jl_layer.specs.Sound as layering
use Rattle.jl_loads.specs.Worlds.{State, Loaded, bare, with_layers, with_class, class_at, class_number, IsClass}
use Rattle.jl_loads.specs.Outcomes.{Outcome, error}
use Rattle.jl_loads.specs.Loading.{define, most_classes}
use Rattle.jl_loads.specs.Laws.{AreSound, IsSoundClass, IsNew, AreLaid, SoundStays}
use Rattle.jl_loads.proofs.Places.{numbered_in, numbered_there, numbered_kept, front_long}
use Rattle.jl_loads.proofs.Leading.{parts_there}
use Rattle.jl_loads.proofs.Placed.{sound_with}
use Rattle.jl_loads.proofs.Beside.{sound_filled, sound_kept, sound_noted}

pub sound_start : (l : layers.State) → AreLaid l → AreSound (bare l)
sound_start l h = record {
  modules = h.modules;
  loaders = h.loaders;
  leads = h.leads;
  classes = λ c x e. nothing c x e;
  once = λ c d x y e f n i. nothing c x e;
  few = omega arith;
  tables = λ c x e. nothing c x e;
  rows = refl;
  read = tt;
  files = λ f c there e. contains_nothing f there;
}
  where
    nothing : {A : Type 0} (c : ClassId) (x : Loaded) → layers.numbered {X = Loaded} [] c.0 ≡ Some x → A
    nothing c x e = let r = numbered_there {X = Loaded} [] c.0 x e in absurd (omega (arith, r.0, r.1))

pub sound_defined : (s : State) (c : Loaded) → AreSound s → IsNew s c → AreSound (define s c).0
sound_defined s c h new = by (nat_lt (length s.classes) most_classes) refl
  where
    by : (b : Bool) → nat_lt (length s.classes) most_classes ≡ b
        → AreSound (let o : Outcome ClassId = if b then (with_class c s, Ok (class_number (length s.classes))) else (s, Err (error errors.OutOfMemoryError (codes "classes"))) in o.0)
    by true e = sound_with s c (record { super = new.super; interfaces = new.interfaces; home = λ _. new.home; loader = new.loader; fresh = new.fresh; tables = λ _. new.tables }) (ltb-true (length s.classes) most_classes e) h
    by false e = h

pub sound_layered : (s : State) (l : layers.State) → AreSound s → over.Grows s.layers l → AreLaid l → AreSound (with_layers l s)
sound_layered s l h more laid = record {
  modules = laid.modules;
  loaders = laid.loaders;
  leads = laid.leads;
  classes = λ c x e. of_class x c (h.classes c x e);
  once = h.once;
  few = h.few;
  tables = h.tables;
  rows = h.rows;
  read = h.read;
  files = h.files;
}
  where
    of_class : (x : Loaded) (c : ClassId) → IsSoundClass s c x → IsSoundClass (with_layers l s) c x
    of_class x c k = record {
      super = k.super;
      interfaces = k.interfaces;
      home = let le = front_long s.layers.modules l.modules more.modules in (k.home.0, omega (arith, k.home.1));
      loader = k.loader ∙ sym (ap (λ (o : Option Member). option_map_or (λ (y : Member). y.loader) o (record { 0 = 0 })) (numbered_kept s.layers.modules l.modules x.home.0 more.modules k.home.1));
    }

-- the loader of a module is there
pub module_loader : (l : layers.State) (m : ModuleId) (y : Member) → layering.AreSound l → layers.member_of l m ≡ Some y → IsLoader l.loaders y.loader
module_loader l m y h e =
    let in_layer = h.members m y e in
    parts_there l l.loaders.loaders y.loader.0 _ ((h.layers y.layer in_layer.0 in_layer.1).loaders m y in_layer.2 e)

pub class_loader : (s : State) (c : ClassId) (x : Loaded) → AreSound s → class_at s c ≡ Some x → IsLoader s.layers.loaders x.loader
class_loader s c x h e =
    let k = h.classes c x e in
    let r = numbered_in s.layers.modules x.home.0 k.home.0 k.home.1 in
    let same : x.loader ≡ r.0.loader = k.loader ∙ ap (λ (o : Option Member). option_map_or (λ (y : Member). y.loader) o (record { 0 = 0 })) r.1 in
    subst (IsLoader s.layers.loaders) (sym same) (module_loader s.layers x.home r.0 h.modules r.1)

-- the superclass of a class is there
pub super_there : (s : State) (c : ClassId) (x : Loaded) (o : Option ClassId) → AreSound s → class_at s c ≡ Some x → o ≡ x.super → IfSome o (IsClass s)
super_there s c x None h e is = tt
super_there s c x (Some d) h e is =
    let k = (h.classes c x e).super d (sym is) in
    let there = numbered_there s.classes c.0 x e in
    (k.0, omega (arith, k.1, there.1))

pub sound_stays_lem : SoundStays
sound_stays_lem = record {
  starts = sound_start;
  noted = λ s key step h. sound_noted s key step h;
  defined = sound_defined;
  filled = sound_filled;
  kept = λ s path what h new. sound_kept s path what new h;
  layered = sound_layered;
  loaders = class_loader;
}
