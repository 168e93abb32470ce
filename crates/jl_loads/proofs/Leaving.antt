-- What calls in a row leave.
use Rattle.std.proofs.Common.{◌≡◌, ◌∙◌, sym, ap, ap₂, subst, Ok, Err, Result, List, [], ◌∷◌, ◌++◌, refl, length, map, drop}
use Rattle.std.proofs.lemmas.List.{append_assoc, append-nil, map-append}
use Rattle.std.proofs.Math.Seq.{drop-append_seam, drop-length}
use Rattle.std.specs.Prelude.{ℕ, zero, suc, Some, None, Option}
use Rattle.jl_prim.specs.declared.numbers.ModuleId.{ModuleId}
use Rattle.jl_prim.specs.declared.numbers.LoaderId.{LoaderId}
use Rattle.jl_prim.specs.declared.error_kind.ErrorKind.TheVariants as errors
use Rattle.jl_tree.specs.Files.{File}
use Rattle.jl_loaders.specs.Loaders.{lead}
use Rattle.jl_loads.specs.declared.class_key.ClassKey.{ClassKey}
use Rattle.jl_loads.specs.declared.end.LinkEnd.{LinkEnd}
use Rattle.jl_loads.specs.declared.end.LinkEnd.TheVariants as ends
use Rattle.jl_loads.specs.Ends.{Leaves, Tells}
use Rattle.jl_loads.specs.Outcomes.{Outcome, and_then, of_class}
use Rattle.jl_loads.specs.declared.role.Role.{Role}
use Rattle.jl_loads.specs.declared.role.Role.TheVariants.{Superclass}
use Rattle.jl_class.specs.Classes.{Class}
use Rattle.jl_prim.specs.declared.numbers.ClassId.{ClassId}
use Rattle.jl_loads.specs.Loading.{load_by, supertype, accepted, superclass, interfaces_behind, linked, define, under, unlinked, declared_in}
use Rattle.jl_loads.specs.Steps.{load_in, loads_above, made, unlinked_in}
use Rattle.jl_loads.specs.Worlds.{class_at, State, Loaded, Thrown, Keeps, with_class, blank}
use Rattle.jl_loads.specs.declared.slot.PoolSlot.{PoolSlot}

-- an end is the end of what follows too
pub leaves_end : {X Y : Type 0} (o : Outcome X) (next : State → X → Outcome Y) (e : LinkEnd) (s : State) → Leaves o (Err e) s → Leaves (and_then o next) (Err e) s
leaves_end o next (ends.Throws k m) s h = ap (λ p. and_then p next) h
leaves_end o next ends.ReadFault s h = tt
leaves_end o next ends.NoMemory s h = tt

-- and a value goes on
pub leaves_next : {X Y : Type 0} (o : Outcome X) (next : State → X → Outcome Y) (x : X) (s t : State) (r : Result Y LinkEnd) → o ≡ (s, Ok x) → Leaves (next s x) r t → Leaves (and_then o next) r t
leaves_next o next x s t r e h = subst (λ p. Leaves (and_then p next) r t) (sym e) h

-- an error
pub leaves_error : {X : Type 0} (o : Outcome X) (e : LinkEnd) (t : Thrown) (s : State) → o ≡ (s, Err t) → Tells e t → Leaves o (Err e) s
leaves_error o (ends.Throws k m) t s at h = at ∙ ap (λ u. (s, Err u)) h
leaves_error o ends.ReadFault t s at h = tt
leaves_error o ends.NoMemory t s at h = tt

-- ---- what is kept

-- what stands behind a front
behind_front : {X : Type 0} (xs ys zs : List X) → ys ≡ xs ++ zs → drop (length xs) ys ≡ zs
behind_front xs ys zs e = ap (drop (length xs)) e ∙ drop-append_seam xs zs

keeps_itself : (s : State) → Keeps s s
keeps_itself s = record {
  layers = refl;
  classes = ([], sym (append-nil s.classes));
  slots = sym (append-nil s.slots) ∙ ap (λ (cs : List Loaded). s.slots ++ map blank cs) (sym (drop-length s.classes));
  kept = ([], sym (append-nil s.kept));
}

pub keeps_same : (s t : State) → s ≡ t → Keeps s t
keeps_same s t e = subst (Keeps s) e (keeps_itself s)

pub keeps_class : (s t : State) (c : Loaded) → with_class c s ≡ t → Keeps s t
keeps_class s t c e = subst (Keeps s) e (record {
  layers = refl;
  classes = (c ∷ [], refl);
  slots = ap (λ (cs : List Loaded). s.slots ++ map blank cs) (sym (drop-append_seam s.classes (c ∷ [])));
  kept = ([], sym (append-nil s.kept));
})

-- rows of one batch of classes behind those of another
rows_onward : (fs gs hs cs ds : List Loaded) (rows : List (List PoolSlot)) → gs ≡ fs ++ cs → hs ≡ gs ++ ds
    → (rows ++ map blank (drop (length fs) gs)) ++ map blank (drop (length gs) hs) ≡ rows ++ map blank (drop (length fs) hs)
rows_onward fs gs hs cs ds rows e d =
    ap₂ (λ (x y : List Loaded). (rows ++ map blank x) ++ map blank y) (behind_front fs gs cs e) (behind_front gs hs ds d)
    ∙ append_assoc rows (map blank cs) (map blank ds)
    ∙ ap (λ (r : List (List PoolSlot)). rows ++ r) (sym (map-append blank cs ds))
    ∙ ap (λ (x : List Loaded). rows ++ map blank x) (sym (behind_front fs hs (cs ++ ds) (d ∙ ap (λ (x : List Loaded). x ++ ds) e ∙ append_assoc fs cs ds)))

pub keeps_on : (f g h : State) → Keeps f g → Keeps g h → Keeps f h
keeps_on f g h a b = record {
  layers = b.layers ∙ a.layers;
  classes = (a.classes.0 ++ b.classes.0, b.classes.1 ∙ ap (λ cs. cs ++ b.classes.0) a.classes.1 ∙ append_assoc f.classes a.classes.0 b.classes.0);
  slots =
      b.slots ∙ ap (λ (r : List (List PoolSlot)). r ++ map blank (drop (length g.classes) h.classes)) a.slots
      ∙ rows_onward f.classes g.classes h.classes a.classes.0 b.classes.0 f.slots a.classes.1 b.classes.1;
  kept = (a.kept.0 ++ b.kept.0, b.kept.1 ∙ ap (λ fs. fs ++ b.kept.0) a.kept.1 ∙ append_assoc f.kept a.kept.0 b.kept.0);
}

-- ---- steps of a load

pub load_by_steps : (n : ℕ) (files : List File) (at : ℕ) (ws : List ClassKey) (s : State) (l : LoaderId) (name : List ℕ) (m : ModuleId) → lead s.layers.loaders l name ≡ Some m → load_by n files at ws s l name ≡ load_in n files at ws s name m
unfolding load_by
load_by_steps zero files at ws s l name m e = rw e refl
load_by_steps (suc n) files at ws s l name m e = rw e refl

pub load_by_nowhere : (n : ℕ) (files : List File) (at : ℕ) (ws : List ClassKey) (s : State) (l : LoaderId) (name : List ℕ) → lead s.layers.loaders l name ≡ None → load_by n files at ws s l name ≡ (s, Err (of_class errors.NoClassDefFoundError name))
unfolding load_by
load_by_nowhere zero files at ws s l name e = rw e refl
load_by_nowhere (suc n) files at ws s l name e = rw e refl

pub leaves_nowhere : (n : ℕ) (files : List File) (at : ℕ) (ws : List ClassKey) (s : State) (l : LoaderId) (name : List ℕ) (e : LinkEnd) → None ≡ lead s.layers.loaders l name → Tells e (of_class errors.NoClassDefFoundError name) → Leaves (load_by n files at ws s l name) (Err e) s
leaves_nowhere n files at ws s l name e led told = leaves_error (load_by n files at ws s l name) e _ s (load_by_nowhere n files at ws s l name (sym led)) told

pub leaves_load_in : (n : ℕ) (files : List File) (at : ℕ) (ws : List ClassKey) (s : State) (l : LoaderId) (name : List ℕ) (m : ModuleId) (r : Result ClassId LinkEnd) (t : State) → Some m ≡ lead s.layers.loaders l name → Leaves (load_in n files at ws s name m) r t → Leaves (load_by n files at ws s l name) r t
leaves_load_in n files at ws s l name m r t led h = subst (λ o. Leaves o r t) (sym (load_by_steps n files at ws s l name m (sym led))) h

-- a class that is read and then linked
made_then : (n : ℕ) (files : List File) (at : ℕ) (ws : List ClassKey) (s : State) (key : ClassKey) (m : ModuleId)
    → made n files at ws s key m ≡ and_then (unlinked_in files s key m) (λ t new. linked (loads_above n files at (ws ++ key ∷ []) key) at t new)
made_then n files at ws s key m = by (declared_in files s m key.name) where
  by : (o : Outcome Class) → and_then o (λ t c. linked (loads_above n files at (ws ++ key ∷ []) key) at t (unlinked key.loader m c))
      ≡ and_then (and_then o (λ t c. (t, Ok (unlinked key.loader m c)))) (λ t new. linked (loads_above n files at (ws ++ key ∷ []) key) at t new)
  by (t, Ok c) = refl
  by (t, Err e) = refl

pub leaves_made : (n : ℕ) (files : List File) (at : ℕ) (ws us : List ClassKey) (s : State) (key : ClassKey) (m : ModuleId) (new : Loaded) (r : Result ClassId LinkEnd) (t u : State)
    → unlinked_in files s key m ≡ (t, Ok new) → us ≡ ws ++ key ∷ [] → Leaves (linked (loads_above n files at us key) at t new) r u → Leaves (made n files at ws s key m) r u
leaves_made n files at ws us s key m new r t u read waits h =
    subst (λ o. Leaves o r u) (sym (made_then n files at ws s key m))
    (leaves_next (unlinked_in files s key m) (λ t new. linked (loads_above n files at (ws ++ key ∷ []) key) at t new) new t u r read (subst (λ vs. Leaves (linked (loads_above n files at vs key) at t new) r u) waits h))

pub unread_made : (n : ℕ) (files : List File) (at : ℕ) (ws : List ClassKey) (s : State) (key : ClassKey) (m : ModuleId) (e : LinkEnd) (t : State) → Leaves (unlinked_in files s key m) (Err e) t → Leaves (made n files at ws s key m) (Err e) t
unread_made n files at ws s key m e t h =
    subst (λ o. Leaves o (Err e) t) (sym (made_then n files at ws s key m)) (leaves_end (unlinked_in files s key m) (λ t new. linked (loads_above n files at (ws ++ key ∷ []) key) at t new) e t h)

module _ (load : State → List ℕ → Outcome ClassId) (at : ℕ) where
  pub supertype_end : (new : Loaded) (s : State) (role : Role) (name : List ℕ) (e : LinkEnd) (t : State) → Leaves (load s name) (Err e) t → Leaves (supertype load at new s role name) (Err e) t
  supertype_end new s role name e t h = leaves_end (load s name) (λ t c. accepted at t new role c (class_at t c)) e t h

  pub superclass_end : (new : Loaded) (s : State) (name : List ℕ) (e : LinkEnd) (t : State) → Leaves (supertype load at new s Superclass name) (Err e) t → Leaves (superclass load at new s (Some name)) (Err e) t
  superclass_end new s name e t h = leaves_end (supertype load at new s Superclass name) (λ t c. (t, Ok (Some c))) e t h

  pub linked_end : (s : State) (new : Loaded) (e : LinkEnd) (t : State) → Leaves (superclass load at new s new.declared.super_name) (Err e) t → Leaves (linked load at s new) (Err e) t
  linked_end s new e t h =
      leaves_end (superclass load at new s new.declared.super_name) (λ t super. and_then (interfaces_behind load at new t [] new.declared.interfaces) (λ u interfaces. define u (under new super interfaces))) e t h

  pub linked_ends : (s : State) (new : Loaded) (super : Option ClassId) (e : LinkEnd) (t u : State) → superclass load at new s new.declared.super_name ≡ (t, Ok super)
      → Leaves (interfaces_behind load at new t [] new.declared.interfaces) (Err e) u → Leaves (linked load at s new) (Err e) u
  linked_ends s new super e t u h k =
      leaves_next (superclass load at new s new.declared.super_name) (λ t super. and_then (interfaces_behind load at new t [] new.declared.interfaces) (λ u interfaces. define u (under new super interfaces))) super t u (Err e) h
      (leaves_end (interfaces_behind load at new t [] new.declared.interfaces) (λ u interfaces. define u (under new super interfaces)) e u k)
