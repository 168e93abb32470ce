-- Resolving a reference goes on from the state that it begins with: what is there stays.
use Rattle.std.proofs.Common.{◌≡◌, ◌<◌, ◌&&◌, ℕ, List, [], ◌∷◌, Option, Some, None, is_none, Result, Ok, Err, Bool, true, false, not, if◌then◌else◌, refl}
use Rattle.std.specs.Prelude.{unwrap_or}
use Rattle.jl_names.specs.Dots.{dotted}
use Rattle.jl_names.specs.Descriptors.{descriptor_read, class_in}
use Rattle.jl_names.specs.declared.types.Descriptor.{Descriptor}
use Rattle.jl_names.specs.declared.types.Descriptor.TheVariants as descriptors
use Rattle.jl_names.specs.declared.fault.TextFault.{TextFault}
use Rattle.jl_prim.specs.declared.numbers.ClassId.{ClassId}
use Rattle.jl_prim.specs.declared.numbers.LoaderId.{LoaderId}
use Rattle.jl_prim.specs.declared.numbers.ModuleId.{ModuleId}
use Rattle.jl_prim.specs.declared.error_kind.ErrorKind.TheVariants as errors
use Rattle.jl_tree.specs.Files.{File}
use Rattle.jl_pool.specs.Pool.{member_of}
use Rattle.jl_code.specs.References.{class_text}
use Rattle.jl_access.specs.declared.verdict.Access.{Access}
use Rattle.jl_access.specs.declared.verdict.Verdict.{Verdict}
use Rattle.jl_access.specs.declared.verdict.Verdict.TheVariants.{Granted, Denied}
use Rattle.jl_access.specs.declared.report.Key.{Key}
use Rattle.jl_access.specs.declared.report.NoteKind.{NoteKind}
use Rattle.jl_access.specs.declared.report.NoteKind.TheVariants as kinds
use Rattle.jl_access.specs.Verdicts.{class_verdict, member_verdict}
use Rattle.jl_access.specs.Reports.{is_due}
use Rattle.jl_class.specs.Meaning.{is_public, is_private}
use Rattle.jl_loads.specs.declared.slot.Target.{Target}
use Rattle.jl_loads.specs.declared.slot.Target.TheVariants as targets
use Rattle.jl_loads.specs.declared.slot.PoolSlot.{PoolSlot}
use Rattle.jl_loads.specs.declared.slot.PoolSlot.TheVariants.{Empty, Passed, Failed}
use Rattle.jl_loads.specs.Worlds.{State, Loaded, class_at, slot_at, place_of, is_same, with_note, with_slot}
use Rattle.jl_loads.specs.Outcomes.{Outcome, and_then, of_member}
use Rattle.jl_loads.specs.Loading.{load, access, checked, with_check, key}
use Rattle.jl_loads.specs.Laws.{LoadsStay}
use Rattle.jl_link.specs.declared.member.Member.{Member}
use Rattle.jl_link.specs.Nests.{host_or_itself, host_named, host_in, host_of}
use Rattle.jl_link.specs.Joining.{is_same_loader, group_lead}
use Rattle.jl_link.specs.Constraining.{names_in, apart, constrained, imposed, impose, impose_each, agree}
use Rattle.jl_link.specs.References.{Named, is_array, accessed, class_by_name, array_of, array_by, class_by_text, slot_of, settled, by_slot, class_anew, resolve_class, looked_up_in, fits_kind, member_in, target_of, access_by, stands, in_one_nest, member_text, judged_member, let_through, with_member, in_class, in_target, member_at_index, resolve_anew, entry_at}
use Rattle.jl_link.specs.Moving.{Moves}
use Rattle.jl_link.specs.Laws.{Onward}
use Rattle.jl_link.proofs.Moved.{moves_same, moves_onward, keeps_moves, layers_move}
use Rattle.jl_link.proofs.Onwards.{class_there, onward_same, onward_onward, moves_on, moves_empty, filled_on}
use Rattle.jl_link.proofs.FoundAgain.{constrained_on}

-- ---- steps one behind the other

pub then_moves : {X Y : Type 0} (s : State) (o : Outcome X) (next : State → X → Outcome Y) → Moves s o.0 → ((t : State) (x : X) → Moves t (next t x).0) → Moves s (and_then o next).0
then_moves s (t, Ok x) next h more = moves_onward s t (next t x).0 h (more t x)
then_moves s (t, Err e) next h more = h

then_on : {X Y : Type 0} (s : State) (o : Outcome X) (next : State → X → Outcome Y) → Onward s o.0 → ((t : State) (x : X) → Onward t (next t x).0) → Onward s (and_then o next).0
then_on s (t, Ok x) next h more = onward_onward s t (next t x).0 h (more t x)
then_on s (t, Err e) next h more = h

-- ---- notes

noted_moves : (u : State) (k : Key) (at : ℕ) → Moves u (with_note k at u)
noted_moves u k at = let m = moves_same u in record { layers = m.layers; constraints = m.constraints; classes = m.classes; slots = m.slots; kept = m.kept }

check_moves : (at : ℕ) (from to : Loaded) (kind : NoteKind) (v : Verdict) (u : State) → Moves u (with_check at from to kind v u)
check_moves at from to kind v u = by (is_due from.home to.home)
  where
    by : (b : Bool) → Moves u (if b then with_note (key from to kind v) at u else u)
    by true = noted_moves u (key from to kind v) at
    by false = moves_same u

checked_moves : (at : ℕ) (from to : Loaded) (kind : NoteKind) (what : List ℕ) (u : State) (v : Verdict) → Moves u (checked at from to kind what u v).0
checked_moves at from to kind what u Granted = check_moves at from to kind Granted u
checked_moves at from to kind what u (Denied rule) = check_moves at from to kind (Denied rule) u

-- ---- constraints

constrained_moves : (s : State) (name : List ℕ) (a b : LoaderId) → Moves s (constrained name a b s)
constrained_moves s name a b = let more = constrained_on s name a b in layers_move s (constrained name a b s) more.layers more.constraints refl

impose_moves : (s : State) (name : List ℕ) (a b : LoaderId) → Moves s (impose s name a b).0
impose_moves s name a b = by (apart (group_lead s.layers.loaders name a) (group_lead s.layers.loaders name b))
  where
    by : (o : Option (ModuleId × ModuleId)) → Moves s (imposed o s name a b).0
    by None = constrained_moves s name a b
    by (Some ms) = moves_same s

each_moves : (s : State) (a b : LoaderId) (names : List (List ℕ)) → Moves s (impose_each s a b names).0
unfolding impose_each
each_moves s a b [] = moves_same s
each_moves s a b (name ∷ names) = then_moves s (impose s name a b) (λ t u. impose_each t a b names) (impose_moves s name a b) (λ t u. each_moves t a b names)

pub agree_moves : (s : State) (a b : LoaderId) (desc : List ℕ) → Moves s (agree s a b desc).0
agree_moves s a b desc = by (is_same_loader a b) (each_moves s a b (names_in desc))
  where
    by : (x : Bool) → Moves s (impose_each s a b (names_in desc)).0 → Moves s (if◌then◌else◌ {A = Outcome Unit} x (s, Ok tt) (impose_each s a b (names_in desc))).0
    by true h = moves_same s
    by false h = h

module _ (loads : LoadsStay) (files : List File) (at : ℕ) where
  load_moves : (s : State) (l : LoaderId) (name : List ℕ) → Moves s (load files at s l name).0
  load_moves s l name = keeps_moves s (load files at s l name).0 (loads.grows files at s l name).keeps

  -- ---- classes

  access_moves : (s : State) (from : Loaded) (c : ClassId) (o : Option Loaded) → Moves s (accessed at s from c o).0
  access_moves s from c None = moves_same s
  access_moves s from c (Some to) =
      then_moves s (access at s from to) (λ t u. let r : Outcome ClassId = (t, Ok c) in r)
      (checked_moves at from to kinds.Class (dotted to.declared.name) s (class_verdict s.layers.facts (place_of from) (place_of to) (is_public to.declared.flags)))
      (λ t u. moves_same t)

  name_moves : (s : State) (from : Loaded) (name : List ℕ) → Moves s (class_by_name files at s from name).0
  name_moves s from name =
      then_moves s (load files at s from.loader name) (λ t c. accessed at t from c (class_at t c)) (load_moves s from.loader name) (λ t c. access_moves t from c (class_at t c))

  elements_move : (s : State) (from : Loaded) (text : List ℕ) (o : Option (List ℕ)) → Moves s (array_of files at s from text o).0
  elements_move s from text None = moves_same s
  elements_move s from text (Some name) = then_moves s (class_by_name files at s from name) (λ t c. let r : Outcome Target = (t, Ok (targets.Array text)) in r) (name_moves s from name) (λ t c. moves_same t)

  array_moves : (s : State) (from : Loaded) (text : List ℕ) (r : Result Descriptor TextFault) → Moves s (array_by files at s from text r).0
  array_moves s from text (Ok (descriptors.Field t)) = elements_move s from text (class_in text t)
  array_moves s from text (Ok (descriptors.Method params result)) = moves_same s
  array_moves s from text (Err e) = moves_same s

  text_moves : (s : State) (from : Loaded) (text : List ℕ) → Moves s (class_by_text files at s from text).0
  text_moves s from text = by (is_array text)
    where
      by : (b : Bool) → Moves s (if◌then◌else◌ {A = Outcome Target} b (array_by files at s from text (descriptor_read text)) (and_then (class_by_name files at s from text) (λ t c. (t, Ok (targets.Class c))))).0
      by true = array_moves s from text (descriptor_read text)
      by false = then_moves s (class_by_name files at s from text) (λ t c. let r : Outcome Target = (t, Ok (targets.Class c)) in r) (name_moves s from text) (λ t c. moves_same t)

  -- ---- nests

  hosts_move : (u : State) (c : ClassId) → Moves u (host_of files at u c).0
  hosts_move u c = by (class_at u c)
    where
      answered : (x : Loaded) (o : Outcome ClassId) → Moves u o.0 → Moves u (host_or_itself c x o).0
      answered x (t, Ok h) more = more
      answered x (t, Err e) more = more

      named : (x : Loaded) (o : Option (List ℕ)) → Moves u (host_named files at u c x o).0
      named x None = moves_same u
      named x (Some name) = answered x (load files at u x.loader name) (load_moves u x.loader name)

      by : (o : Option Loaded) → Moves u (host_in files at u c o).0
      by None = moves_same u
      by (Some x) = named x x.declared.nest_host

  nest_moves : (s : State) (d : ClassId) (m : Member) → Moves s (in_one_nest files at s d m).0
  nest_moves s d m = by (is_private m.flags && not (is_same d m.owner))
    where
      by : (b : Bool) → Moves s (if◌then◌else◌ {A = State × Bool} b ((host_of files at (host_of files at s d).0 m.owner).0, is_same (host_of files at s d).1 (host_of files at (host_of files at s d).0 m.owner).1) (s, false)).0
      by true = moves_onward s (host_of files at s d).0 (host_of files at (host_of files at s d).0 m.owner).0 (hosts_move s d) (hosts_move (host_of files at s d).0 m.owner)
      by false = moves_same s

  -- ---- members

  module _ (d : ClassId) (from : Loaded) where
    judged_moves : (s : State) (named : ClassId) (a : Access) (e : Named) (m : Member) (to : Loaded) (p : State × Bool) → Moves s p.0 → Moves s (judged_member at d from named a e.wanted m to p).0
    judged_moves s named a e m to (u, b) h =
        moves_onward s u (judged_member at d from named a e.wanted m to (u, b)).0 h
        (checked_moves at from to kinds.Member (member_text to.declared.name e.wanted.name) u (member_verdict (stands u d from named a m to b)))

    through_moves : (s : State) (named : ClassId) (t : Target) (e : Named) (m : Member) (o : Option Loaded) → Moves s (let_through files at s d from named t e m o).0
    through_moves s named t e m None = moves_same s
    through_moves s named t e m (Some to) =
        then_moves s (judged_member at d from named (access_by t e.wanted m.flags) e.wanted m to (in_one_nest files at s d m))
        (λ u x. and_then (agree u from.loader to.loader e.wanted.desc) (λ v y. let r : Outcome Target = (v, Ok (target_of e.kind v m)) in r))
        (judged_moves s named (access_by t e.wanted m.flags) e m to (in_one_nest files at s d m) (nest_moves s d m))
        (λ u x. then_moves u (agree u from.loader to.loader e.wanted.desc) (λ v y. let r : Outcome Target = (v, Ok (target_of e.kind v m)) in r) (agree_moves u from.loader to.loader e.wanted.desc) (λ v y. moves_same v))

    with_moves : (s : State) (named : ClassId) (t : Target) (e : Named) (o : Option Member) → Moves s (with_member files at s d from named t e o).0
    with_moves s named t e None = moves_same s
    with_moves s named t e (Some m) = through_moves s named t e m (class_at s m.owner)

    class_moves : (s : State) (t : Target) (e : Named) (named : ClassId) (o : Option Loaded) → Moves s (in_class files at s d from t e named o).0
    class_moves s t e named None = moves_same s
    class_moves s t e named (Some c) = by (fits_kind e.kind c)
      where
        by : (b : Bool) → Moves s (if◌then◌else◌ {A = Outcome Target} b (with_member files at s d from named t e (member_in e.kind s named e.wanted)) (s, Err (of_member errors.IncompatibleClassChangeError e.class e.wanted.name))).0
        by true = with_moves s named t e (member_in e.kind s named e.wanted)
        by false = moves_same s

    pub target_moves : (s : State) (e : Named) (t : Target) (o : Option ClassId) → Moves s (in_target files at s d from e t o).0
    target_moves s e t None = moves_same s
    target_moves s e t (Some c) = class_moves s t e c (class_at s c)

    -- ---- what is decided

    -- an outcome is kept where nothing was
    settled_on : (s : State) (i : ℕ) (o : Outcome Target) → 0 < d.0 → slot_at s d i ≡ Empty → Moves s o.0 → Onward s (settled d i o).0
    settled_on s i (t, r) pos empty h = onward_onward s t (with_slot d i (slot_of r) t) (moves_on s t h) (filled_on t d i (slot_of r) pos (moves_empty s t h d i empty))

    class_on : (s : State) (i : ℕ) → 0 < d.0 → Onward s (resolve_class files at s d from i).0
    class_on s i pos = by (slot_at s d i) refl
      where
        by : (x : PoolSlot) → slot_at s d i ≡ x → Onward s (by_slot x s d i (class_anew files at s from i)).0
        by Empty e = settled_on s i (class_anew files at s from i) pos e (text_moves s from (unwrap_or (class_text from.declared.pool i) []))
        by (Passed t) e = onward_same s
        by (Failed kind message) e = onward_same s

    member_on : (s : State) (o : Option (ℕ × ℕ × ℕ)) (e : Named) → 0 < d.0 → Onward s (member_at_index files at s d from o e).0
    member_on s None e pos = onward_same s
    member_on s (Some parts) e pos =
        then_on s (resolve_class files at s d from parts.1) (λ t c. in_target files at t d from e c (looked_up_in t c)) (class_on s parts.1 pos)
        (λ t c. moves_on t (in_target files at t d from e c (looked_up_in t c)).0 (target_moves t e c (looked_up_in t c)))

    entry_on : (s : State) (i : ℕ) (o : Option (ℕ × ℕ × ℕ)) → 0 < d.0
        → Onward s (if◌then◌else◌ {A = Outcome Target} (is_none o) (class_anew files at s from i) (member_at_index files at s d from o (entry_at from.declared.pool i))).0
    entry_on s i None pos = moves_on s (class_anew files at s from i).0 (text_moves s from (unwrap_or (class_text from.declared.pool i) []))
    entry_on s i (Some parts) pos = member_on s (Some parts) (entry_at from.declared.pool i) pos

  -- Resolving goes on from the state that it begins with.
  pub anew_on : (s : State) (d : ClassId) (i : ℕ) → Onward s (resolve_anew files at s d i).0
  anew_on s d i = by (class_at s d) refl
    where
      by : (o : Option Loaded) → class_at s d ≡ o → Onward s (resolve_anew files at s d i).0
      by None e = rw e (onward_same s)
      by (Some from) e = rw e (entry_on d from s i (member_of from.declared.pool i) (class_there s d from e).0)
