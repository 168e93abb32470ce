-- The class of a name, for the class that names it: what loading and access leave.
use Rattle.std.proofs.Common.{◌≡◌, ◌∙◌, sym, ap, subst, refl, Ok, Err, Result, List, [], ◌++◌, Option, None, Some, Bool, true, false, option_map, arith}
use Rattle.std.specs.Prelude.{ℕ, length}
use Rattle.std.proofs.lemmas.List.{append-nil}
use Rattle.std.proofs.lemmas.Option.{none-some, same_Some}
use Rattle.jl_logic.specs.Lists.{IsFront}
use Rattle.jl_prim.specs.declared.numbers.ClassId.{ClassId}
use Rattle.jl_prim.specs.declared.numbers.LoaderId.{LoaderId}
use Rattle.jl_prim.specs.declared.numbers.ModuleId.{ModuleId}
use Rattle.jl_tree.specs.Files.{File}
use Rattle.jl_access.specs.declared.verdict.Verdict.{Verdict}
use Rattle.jl_access.specs.declared.verdict.Verdict.TheVariants.{Granted, Denied}
use Rattle.jl_access.specs.declared.report.NoteKind.{NoteKind}
use Rattle.jl_access.specs.declared.report.NoteKind.TheVariants as kinds
use Rattle.jl_access.specs.Reports.{is_due}
use Rattle.jl_access.specs.Verdicts.{class_verdict}
use Rattle.jl_class.specs.Meaning.{is_public}
use Rattle.jl_names.specs.Dots.{dotted}
use Rattle.jl_layer.specs.declared.layer.Member.{Member}
use Rattle.jl_layer.specs.Layers as layers
use Rattle.jl_layer.specs.Layers.{numbered, member_of}
use Rattle.jl_loaders.specs.Loaders.{lead}
use Rattle.std.specs.List.{position_from}
use Rattle.std.specs.Option.{option_map_or}
use Rattle.jl_layer.proofs.Listed.{numbered_in, numbered_kept}
use Rattle.jl_loads.specs.declared.end.LinkEnd.{LinkEnd}
use Rattle.jl_loads.specs.declared.end.LinkEnd.TheVariants as ends
use Rattle.jl_loads.specs.Ends.{Asks, Leaves, Tells}
use Rattle.jl_loads.specs.Laws.{IsLoadedAs, ReadOnce}
use Rattle.jl_loads.specs.Loading.{load, access, checked, with_check}
use Rattle.jl_loads.specs.Outcomes.{Outcome, and_then}
use Rattle.jl_loads.specs.Worlds.{State, Loaded, Thrown, Keeps, IsClass, class_at, place_of, defined, is_named, loader_of_module}
use Rattle.std.specs.Prelude.{IfOk}
use Rattle.std.specs.Prelude.{nat_le, ◌&&◌, if◌then◌else◌}
use Rattle.std.specs.Str.{IsUtf8}
use Rattle.std.proofs.lemmas.Str.{IsUtf8-between}
use Rattle.jl_names.specs.declared.types.BaseType.{BaseType}
use Rattle.jl_names.specs.declared.types.BaseType.TheVariants as BaseTypes
use Rattle.jl_names.specs.declared.types.BaseType.TheVariants.{Prim}
use Rattle.jl_names.specs.declared.types.FieldType.{FieldType}
use Rattle.jl_names.specs.Descriptors.{descriptor_read, class_in, base_class, piece, between, StandsType}
use Rattle.jl_link.specs.Imposing.{IsPiece, IsBaseCut}
use Rattle.jl_link.proofs.Cuts.{field_cut}
use Rattle.jl_loads.specs.declared.slot.Target.{Target}
use Rattle.jl_loads.specs.declared.slot.Target.TheVariants as targets
use Rattle.jl_link.specs.References.{accessed, class_by_name, class_by_text, array_of, is_array}
use Rattle.jl_link.specs.Standing.{Reaches, NamesTarget, IsArrayOf}

-- ---- ends

-- an end is the end of what follows too
pub leaves_end : {X Y : Type 0} (o : Outcome X) (next : State → X → Outcome Y) (e : LinkEnd) (s : State) → Leaves o (Err e) s → Leaves (and_then o next) (Err e) s
leaves_end o next (ends.Throws k m) s h = ap (λ p. and_then p next) h
leaves_end o next ends.ReadFault s h = tt
leaves_end o next ends.NoMemory s h = tt

-- and a value goes on
pub leaves_next : {X Y : Type 0} (o : Outcome X) (next : State → X → Outcome Y) (x : X) (s t : State) (r : Result Y LinkEnd) → o ≡ (s, Ok x) → Leaves (next s x) r t → Leaves (and_then o next) r t
leaves_next o next x s t r e h = subst (λ p. Leaves (and_then p next) r t) (sym e) h

-- an error
pub leaves_error : {X : Type 0} (o : Outcome X) (e : LinkEnd) (t : Thrown) (s : State) → o ≡ (s, Err t) → Tells e t → Leaves o (Err e) s
leaves_error o (ends.Throws k m) t s at h = at ∙ ap (λ u. (s, Err u)) h
leaves_error o ends.ReadFault t s at h = tt
leaves_error o ends.NoMemory t s at h = tt

-- ---- classes that are there

pub class_there : (s : State) (c : ClassId) → IsClass s c → (x : Loaded) × (class_at s c ≡ Some x)
class_there s c h = numbered_in s.classes c.0 h.0 h.1

pub class_kept : (s t : State) (c : ClassId) (x : Loaded) → Keeps s t → IsClass s c → class_at s c ≡ Some x → class_at t c ≡ Some x
class_kept s t c x k h e = numbered_kept s.classes t.classes c.0 k.classes h.1 ∙ e

-- ---- asking

asked_none : (a : Option (List (List ℕ))) → a ≡ option_map (λ ps. ps ++ []) a
asked_none None = refl
asked_none (Some ps) = ap Some (sym (append-nil ps))

-- nothing more is asked for
asks_still : (f g : State) (a : Option (List (List ℕ))) → Asks f g a a
asks_still f g a = record {
  more = [];
  asked = asked_none a;
  once = tt;
  fresh = λ path c. absurd (omega (arith, c.1));
  kept = λ path c. absurd (omega (arith, c.1));
}

pub asks_kept : ReadOnce → (f g h : State) (a b : Option (List (List ℕ))) → IsFront f.kept g.kept → IsFront g.kept h.kept → Asks f g a b → Asks f h a b
asks_kept law f g h a b k l x = law.onward f g h a b b k l x (asks_still g h b)

pub asks_later : ReadOnce → (f g h : State) (a b : Option (List (List ℕ))) → Keeps f g → Keeps g h → Asks f g a b → Asks f h a b
asks_later law f g h a b k l x = asks_kept law f g h a b k.kept l.kept x

-- ---- access

record IsLet (t u : State) (from to : Loaded) : Type 0 where
  pub layers : u.layers ≡ t.layers
  pub classes : u.classes ≡ t.classes
  pub granted : class_verdict t.layers.facts (place_of from) (place_of to) (is_public to.declared.flags) ≡ Granted

err_ok : {X E : Type 0} (e : E) (x : X) (r : Result X E) → r ≡ Err e → r ≡ Ok x → ⊥
err_ok e x r i j = cc

checked_lets : (at : ℕ) (from to : Loaded) (kind : NoteKind) (what : List ℕ) (t u : State) (v : Verdict) → checked at from to kind what t v ≡ (u, Ok tt) → (u.layers ≡ t.layers) × (u.classes ≡ t.classes) × (v ≡ Granted)
checked_lets at from to kind what t u (Denied rule) e = absurd (err_ok _ tt _ refl (ap (λ (o : Outcome Unit). o.1) e))
checked_lets at from to kind what t u Granted e = by (is_due from.home to.home) refl where
  by : (b : Bool) → is_due from.home to.home ≡ b → (u.layers ≡ t.layers) × (u.classes ≡ t.classes) × (Granted ≡ Granted)
  by true d = let i : u ≡ with_check at from to kind Granted t = ap (λ (o : Outcome Unit). o.0) (sym e) in (ap (λ (s : State). s.layers) i ∙ rw d refl, ap (λ (s : State). s.classes) i ∙ rw d refl, refl)
  by false d = let i : u ≡ with_check at from to kind Granted t = ap (λ (o : Outcome Unit). o.0) (sym e) in (ap (λ (s : State). s.layers) i ∙ rw d refl, ap (λ (s : State). s.classes) i ∙ rw d refl, refl)

access_lets : (at : ℕ) (t u : State) (from to : Loaded) → access at t from to ≡ (u, Ok tt) → IsLet t u from to
access_lets at t u from to e =
    let i = checked_lets at from to kinds.Class (dotted to.declared.name) t u (class_verdict t.layers.facts (place_of from) (place_of to) (is_public to.declared.flags)) e in
    record { layers = i.0; classes = i.1; granted = i.2 }

-- what was loaded and is accessed is reached
pub reached : (at : ℕ) (t u : State) (from to : Loaded) (name : List ℕ) (c : ClassId) → IsLoadedAs t from.loader name c → class_at t c ≡ Some to → access at t from to ≡ (u, Ok tt) → Reaches u from name c
reached at t u from to name c loaded there e =
    let i = access_lets at t u from to e in
    record {
      loaded = (loaded.0, ap (λ (l : layers.State). lead l.loaders from.loader name) i.layers ∙ loaded.1, by_module loaded.0 ∙ loaded.2);
      to = to;
      class = ap (λ (cs : List Loaded). numbered cs c.0) i.classes ∙ there;
      granted = ap (λ (l : layers.State). class_verdict l.facts (place_of from) (place_of to) (is_public to.declared.flags)) i.layers ∙ i.granted;
    }
  where
    by_module : (m : ModuleId) → defined u (loader_of_module u m) name ≡ defined t (loader_of_module t m) name
    by_module m = let i = access_lets at t u from to e in ap (λ (cs : List Loaded). option_map (λ n. record { 0 = n }) (position_from (is_named (loader_of_module u m) name) 1 cs)) i.classes
        ∙ ap (λ (l : layers.State). defined t (option_map_or (λ (x : Member). x.loader) (member_of l m) (record { 0 = 0 })) name) i.layers

-- ---- the class of a name

module _ (files : List File) (at : ℕ) (s : State) (from : Loaded) (name : List ℕ) where
  pub class_end : (l : LoaderId) (e : LinkEnd) (t : State) → l ≡ from.loader → Leaves (load files at s l name) (Err e) t → Leaves (class_by_name files at s from name) (Err e) t
  class_end l e t i h = leaves_end (load files at s from.loader name) (λ t c. accessed at t from c (class_at t c)) e t (subst (λ (k : LoaderId). Leaves (load files at s k name) (Err e) t) i h)

  pub class_next : (l : LoaderId) (c : ClassId) (t u : State) (to : Loaded) (r : Result ClassId LinkEnd) → l ≡ from.loader → load files at s l name ≡ (t, Ok c) → class_at t c ≡ Some to
      → Leaves (and_then (access at t from to) (λ v x. (v, Ok c))) r u → Leaves (class_by_name files at s from name) r u
  class_next l c t u to r i h there a =
      leaves_next (load files at s from.loader name) (λ t c. accessed at t from c (class_at t c)) c t u r (subst (λ (k : LoaderId). load files at s k name ≡ (t, Ok c)) i h)
      (subst (λ (o : Option Loaded). Leaves (accessed at t from c o) r u) (sym there) a)

  pub class_barred : (l : LoaderId) (c : ClassId) (t u : State) (to : Loaded) (e : LinkEnd) → l ≡ from.loader → load files at s l name ≡ (t, Ok c) → class_at t c ≡ Some to → Leaves (access at t from to) (Err e) u → Leaves (class_by_name files at s from name) (Err e) u
  class_barred l c t u to e i h there a = class_next l c t u to (Err e) i h there (leaves_end (access at t from to) (λ v x. (v, Ok c)) e u a)

  pub class_found : (l : LoaderId) (c : ClassId) (t u : State) (to : Loaded) → l ≡ from.loader → load files at s l name ≡ (t, Ok c) → class_at t c ≡ Some to → access at t from to ≡ (u, Ok tt) → class_by_name files at s from name ≡ (u, Ok c)
  class_found l c t u to i h there a = class_next l c t u to (Ok c) i h there (ap (λ (o : Outcome Unit). and_then o (λ v x. (v, Ok c))) a)

-- ---- the text of a class entry

pub text_end : (files : List File) (at : ℕ) (s : State) (from : Loaded) (text : List ℕ) (e : LinkEnd) (t : State) → is_array text ≡ false → Leaves (class_by_name files at s from text) (Err e) t → Leaves (class_by_text files at s from text) (Err e) t
text_end files at s from text e t plain h = rw plain (leaves_end (class_by_name files at s from text) (λ t c. (t, Ok (targets.Class c))) e t h)

pub array_named : (s : State) (from : Loaded) (text : List ℕ) (r : Result Target LinkEnd) → is_array text ≡ true → IfOk r (λ t. (t ≡ targets.Array text) × IsArrayOf s from text (descriptor_read text)) → IfOk r (NamesTarget s from text)
array_named s from text (Ok t) is h = subst (NamesTarget s from text) (sym h.0) (refl, is, h.1)
array_named s from text (Err e) is h = tt

pub array_end : (files : List File) (at : ℕ) (s : State) (from : Loaded) (text name : List ℕ) (o : Option (List ℕ)) (e : LinkEnd) (t : State) → o ≡ Some name → Leaves (class_by_name files at s from name) (Err e) t → Leaves (array_of files at s from text o) (Err e) t
array_end files at s from text name o e t i h = rw i (leaves_end (class_by_name files at s from name) (λ t c. (t, Ok (targets.Array text))) e t h)

-- ---- the name of an array's elements

piece_utf8 : (text : List ℕ) (from to : ℕ) (name : List ℕ) → IsUtf8 text → IsPiece text from to → piece text from to ≡ Some name → IsUtf8 name
piece_utf8 text from to name u p e = by (nat_le from to && nat_le to (length text)) refl where
  by : (b : Bool) → (nat_le from to && nat_le to (length text)) ≡ b → IsUtf8 name
  by true h = subst IsUtf8 (same_Some (between text from to) name (sym (ap (λ (b : Bool). if b then Some (between text from to) else None) h) ∙ e)) (IsUtf8-between text from to u p.rises p.starts p.ends)
  by false h = absurd (none-some name (sym (ap (λ (b : Bool). if b then Some (between text from to) else None) h) ∙ e))

base_utf8 : (text : List ℕ) (b : BaseType) (name : List ℕ) → IsUtf8 text → IsBaseCut text b → base_class text b ≡ Some name → IsUtf8 name
base_utf8 text (Prim x) name u c e = absurd (none-some name e)
base_utf8 text (BaseTypes.Class from to) name u c e = piece_utf8 text from to name u c e

pub element_utf8 : (text : List ℕ) (t : FieldType) (name : List ℕ) → IsUtf8 text → StandsType text 0 t (length text) → class_in text t ≡ Some name → IsUtf8 name
element_utf8 text t name u s e = base_utf8 text t.base name u (field_cut text t u s) e
