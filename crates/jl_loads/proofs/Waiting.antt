-- Classes that wait for their supertypes: they are not defined meanwhile, and are new where they are defined.
use Rattle.std.proofs.Common.{◌≡◌, ◌∙◌, ◌≤◌, ℕ, sym, ap, ap₂, subst, List, [], ◌∷◌, ◌++◌, Option, None, Some, true, false, Result, Ok, Err, IfOk, OnOk, inl, inr, arith, length}
use Rattle.std.proofs.Math.Nat.{eq-or-lt_of_le}
use Rattle.std.proofs.lemmas.Option.{none-some, same_Some}
use Rattle.std.proofs.lemmas.List.Elements.{Contains-push_cases}
use Rattle.std.specs.Prelude.{Contains}
use Rattle.std.specs.Option.{option_map_or}
use Rattle.jl_prim.specs.declared.numbers.ClassId.{ClassId}
use Rattle.jl_prim.specs.declared.numbers.LoaderId.{LoaderId}
use Rattle.jl_prim.specs.declared.numbers.ModuleId.{ModuleId}
use Rattle.jl_logic.specs.Counts.{Rose}
use Rattle.jl_loaders.specs.Loaders.{lead}
use Rattle.jl_layer.specs.declared.layer.Member.{Member}
use Rattle.jl_layer.specs.Layers as layers
use Rattle.jl_layer.specs.Layers.{IsModule}
use Rattle.jl_loads.specs.declared.class_key.ClassKey.{ClassKey}
use Rattle.jl_loads.specs.declared.end.LinkEnd.{LinkEnd}
use Rattle.jl_loads.specs.Ends.{Asks, Leaves}
use Rattle.jl_loads.specs.Laws.{IsNew, IsLoadedAs}
use Rattle.jl_loads.specs.Loading.{define, is_waiting, under}
use Rattle.jl_loads.specs.Outcomes.{Outcome}
use Rattle.jl_loads.specs.Steps.{IsUnlinked, StayFree}
use Rattle.jl_loads.specs.Worlds.{State, Loaded, IsClass, Keeps, defined, loader_of_module}
use Rattle.jl_loads.proofs.Found.{wait_too, waits_itself}
use Rattle.jl_loads.proofs.Placed.{IsNewIfSound, define_yields}
use Rattle.jl_loads.proofs.Places.{front_long}
use Rattle.jl_loads.proofs.Remembered.{asks_onward}

-- calls in a row ask for what each asks for
pub asks_on : (f g h : State) (a b c : Option (List (List ℕ))) → Keeps f g → Keeps g h → Asks f g a b → Asks g h b c → Asks f h a c
asks_on f g h a b c one two x y = asks_onward f g h a b c one.kept two.kept x y

-- ---- what is there, and what is not

pub class_kept : (s t : State) (c : ClassId) → Keeps s t → IsClass s c → IsClass t c
class_kept s t c keeps h = let long : length s.classes ≤ length t.classes = front_long s.classes t.classes keeps.classes in (h.0, omega (arith, h.1))

pub defined_same : (s t : State) (l : LoaderId) (name : List ℕ) → t.classes ≡ s.classes → defined t l name ≡ defined s l name
defined_same s t l name e = ap (λ (cs : List Loaded). let w : State = record { layers = s.layers; classes = cs; report = s.report; slots = s.slots; kept = s.kept } in defined w l name) e

loader_kept : (s t : State) (m : ModuleId) → t.layers ≡ s.layers → loader_of_module t m ≡ loader_of_module s m
loader_kept s t m e = ap (λ (x : layers.State). option_map_or (λ (y : Member). y.loader) (layers.member_of x m) (record { 0 = 0 })) e

pub free_on : (ws : List ClassKey) (s t u : State) → StayFree ws s t → StayFree ws t u → StayFree ws s u
free_on ws s t u a b l name w e = b l name w (a l name w e)

pub free_same : (ws : List ClassKey) (s t : State) → t.classes ≡ s.classes → StayFree ws s t
free_same ws s t same l name w e = defined_same s t l name same ∙ e

pub on_ok_any : {X E P : Type 0} (r : Result X E) → P → OnOk r P
on_ok_any (Ok x) p = p
on_ok_any (Err e) p = tt

pub accepted_there : (t u : State) (c : ClassId) (r : Result ClassId LinkEnd) → IsClass t c → Keeps t u → IfOk r (λ d. d ≡ c) → IfOk r (IsClass u)
accepted_there t u c (Ok d) there keeps same = subst (IsClass u) (sym same) (class_kept t u c keeps there)
accepted_there t u c (Err e) there keeps same = tt

pub some_there : (s : State) (c : ClassId) → IsClass s c → (d : ClassId) → Some c ≡ Some d → IsClass s d
some_there s c h d e = subst (IsClass s) (same_Some c d e) h

pub none_there : (s : State) (d : ClassId) → None ≡ Some d → IsClass s d
none_there s d e = absurd (none-some d e)

pub more_there : (s t : State) (cs more : List ClassId) (c : ClassId) → Keeps s t → ((d : ClassId) → Contains cs d → IsClass s d) → IsClass t c → more ≡ cs ++ c ∷ [] → (d : ClassId) → Contains more d → IsClass t d
more_there s t cs more c keeps all there is d h = elim (Contains-push_cases cs c d (subst (λ l. Contains l d) is h)) [
  | inl before ↦ class_kept s t d keeps (all d before)
  | inr last ↦ subst (IsClass t) last there
]

-- ---- a class that is made

pub made_waits : (ws us : List ClassKey) (key k : ClassKey) → us ≡ ws ++ k ∷ [] → k ≡ key → is_waiting key.loader key.name us ≡ true
made_waits ws us key k is same = ap (is_waiting key.loader key.name) (is ∙ ap (λ (x : ClassKey). ws ++ x ∷ []) same) ∙ waits_itself ws key.loader key.name

pub made_free : (ws us : List ClassKey) (key k : ClassKey) (s t u : State) → t.classes ≡ s.classes → us ≡ ws ++ k ∷ [] → k ≡ key → is_waiting key.loader key.name ws ≡ false
    → ((before : List ClassKey) → us ≡ before ++ key ∷ [] → is_waiting key.loader key.name before ≡ false → StayFree before t u) → StayFree ws s u
made_free ws us key k s t u same is one free h l name w e =
    h ws (is ∙ ap (λ (x : ClassKey). ws ++ x ∷ []) one) free l name w (defined_same s t l name same ∙ e)

if_sound : (s : State) (c : Loaded) → IsNew s c → IsNewIfSound s c
if_sound s c new = record { super = new.super; interfaces = new.interfaces; home = λ _. new.home; loader = new.loader; fresh = new.fresh; tables = λ _. new.tables }

-- a class whose supertypes are loaded is new
pub linked_new : (s t u : State) (key : ClassKey) (new class : Loaded) (super : Option ClassId) (is : List ClassId) (ws : List ClassKey) → IsUnlinked s key new → Keeps s t → Keeps t u
    → is_waiting key.loader key.name ws ≡ true → defined s key.loader key.name ≡ None → StayFree ws s t → StayFree ws t u
    → ((d : ClassId) → super ≡ Some d → IsClass t d) → ((d : ClassId) → Contains is d → IsClass u d) → class ≡ under new super is → IsNew u class
linked_new s t u key new class super is ws h a b waits fresh free more sup these same = subst (IsNew u) (sym same) (record {
  super = λ d e. class_kept t u d b (sup d e);
  interfaces = these;
  home = subst (λ (l : layers.State). IsModule l new.home) (sym (b.layers ∙ a.layers)) h.home;
  loader = h.owner ∙ sym (loader_kept s u new.home (b.layers ∙ a.layers));
  fresh = sym (ap₂ (λ (l : LoaderId) (n : List ℕ). defined u l n) h.loader h.name) ∙ more key.loader key.name waits (free key.loader key.name waits fresh);
  tables = h.tables;
})

-- and defines none of those that wait
pub linked_free : (s t u v : State) (key : ClassKey) (class : Loaded) (r : Result ClassId LinkEnd) (ws : List ClassKey) → IsNew u class → key.loader ≡ class.loader → key.name ≡ class.declared.name
    → StayFree ws s t → StayFree ws t u → Leaves (define u class) r v
    → OnOk r ((before : List ClassKey) → ws ≡ before ++ key ∷ [] → is_waiting key.loader key.name before ≡ false → StayFree before s v)
linked_free s t u v key class (Err e) ws new loader named free more h = tt
linked_free s t u v key class (Ok d) ws new loader named free more h = λ before is apart l name w e.
    let not : is_waiting class.loader class.declared.name before ≡ false = sym (ap₂ (λ (k : LoaderId) (n : List ℕ). is_waiting k n before) loader named) ∙ apart in
    let too : is_waiting l name ws ≡ true = ap (is_waiting l name) is ∙ wait_too before key.loader key.name l name w in
    let yields = define_yields u class (if_sound u class new) [] before not in
    subst (λ (o : Outcome ClassId). defined o.0 l name ≡ None) h (yields.follows.free l name w (more l name too (free l name too e)))

pub linked_found : (v : State) (key : ClassKey) (class : Loaded) (r : Result ClassId LinkEnd) → key.loader ≡ class.loader → key.name ≡ class.declared.name
    → IfOk r (λ c. defined v class.loader class.declared.name ≡ Some c) → IfOk r (λ c. defined v key.loader key.name ≡ Some c)
linked_found v key class (Err e) loader named h = h
linked_found v key class (Ok c) loader named h = ap₂ (λ (l : LoaderId) (n : List ℕ). defined v l n) loader named ∙ h

pub found_by_key : (s u : State) (key : ClassKey) (m : ModuleId) (name : List ℕ) (r : Result ClassId LinkEnd) → Keeps s u → key.loader ≡ loader_of_module s m → key.name ≡ name
    → IfOk r (λ c. defined u key.loader key.name ≡ Some c) → IfOk r (λ c. defined u (loader_of_module u m) name ≡ Some c)
found_by_key s u key m name (Err e) keeps owner named h = h
found_by_key s u key m name (Ok c) keeps owner named h = ap₂ (λ (l : LoaderId) (n : List ℕ). defined u l n) (loader_kept s u m keeps.layers ∙ sym owner) (sym named) ∙ h

pub found_led : (s u : State) (l : LoaderId) (m : ModuleId) (name : List ℕ) (r : Result ClassId LinkEnd) → Keeps s u → Some m ≡ lead s.layers.loaders l name
    → IfOk r (λ c. defined u (loader_of_module u m) name ≡ Some c) → IfOk r (λ c. IsLoadedAs u l name c)
found_led s u l m name (Err e) keeps led h = h
found_led s u l m name (Ok c) keeps led h = (m, ap (λ (x : layers.State). lead x.loaders l name) keeps.layers ∙ sym led, h)

-- ---- faults

pub rose_on : (a b d : ℕ) → a ≤ b → b ≤ d → Rose b d → Rose a d
rose_on a b d first next (inl h) = inl (omega arith)
rose_on a b d first next (inr h) = elim (eq-or-lt_of_le first) [
  | inl same ↦ inr (same ∙ h)
  | inr less ↦ inl (omega arith)
]
