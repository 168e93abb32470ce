-- What a reference refers to is what is found anew, at any step and whatever the files are.
use Rattle.std.proofs.Common.{◌≡◌, ◌&&◌, ◌||◌, ℕ, List, [], ◌∷◌, ◌++◌, length, Option, Some, None, is_none, Result, Ok, Err, Bool, true, false, not, true≢false, eq-eqb, if◌then◌else◌, inl, inr, refl, sym, ◌∙◌, ap, subst}
use Rattle.std.specs.Prelude.{Contains, IsTrue, unwrap_or}
use Rattle.std.specs.List.{list_any}
use Rattle.jl_logic.proofs.Rising.{contains_head, contains_tail}
use Rattle.jl_logic.specs.Order.{is_text}
use Rattle.jl_names.specs.Names.{package_of}
use Rattle.jl_names.specs.Dots.{dotted}
use Rattle.jl_names.specs.Descriptors.{descriptor_read, class_in}
use Rattle.jl_names.specs.declared.types.Descriptor.{Descriptor}
use Rattle.jl_names.specs.declared.types.Descriptor.TheVariants as descriptors
use Rattle.jl_names.specs.declared.fault.TextFault.{TextFault}
use Rattle.jl_prim.specs.declared.numbers.ClassId.{ClassId}
use Rattle.jl_prim.specs.declared.numbers.LoaderId.{LoaderId}
use Rattle.jl_prim.specs.declared.numbers.ModuleId.{ModuleId}
use Rattle.jl_prim.specs.declared.error_kind.ErrorKind.TheVariants as errors
use Rattle.jl_tree.specs.Files.{File}
use Rattle.jl_pool.specs.Pool.{member_of}
use Rattle.jl_code.specs.References.{class_text}
use Rattle.jl_class.specs.Classes.{Class}
use Rattle.jl_class.specs.Meaning.{is_private}
use Rattle.jl_access.specs.declared.verdict.Access.{Access}
use Rattle.jl_access.specs.declared.verdict.Access.TheVariants as accesses
use Rattle.jl_access.specs.declared.verdict.Verdict.{Verdict}
use Rattle.jl_access.specs.declared.verdict.Verdict.TheVariants.{Granted, Denied}
use Rattle.jl_access.specs.declared.verdict.Rule.TheVariants as rules
use Rattle.jl_access.specs.declared.report.Key.{Key}
use Rattle.jl_access.specs.declared.report.NoteKind.{NoteKind}
use Rattle.jl_access.specs.declared.report.NoteKind.TheVariants as kinds
use Rattle.jl_access.specs.Verdicts.{member_verdict}
use Rattle.jl_access.specs.Reports.{is_due}
use Rattle.jl_access.specs.Laws.{GrantsStay}
use Rattle.jl_loaders.specs.declared.constraint.Constraint.{Constraint}
use Rattle.jl_loaders.specs.Constraints.{constraint}
use Rattle.jl_loaders.specs.Loaders as delegation
use Rattle.jl_loaders.proofs.Joined.{joined_back, joined_then}
use Rattle.jl_loads.specs.declared.slot.Target.{Target}
use Rattle.jl_loads.specs.declared.slot.Target.TheVariants as targets
use Rattle.jl_loads.specs.declared.slot.PoolSlot.{PoolSlot}
use Rattle.jl_loads.specs.Worlds.{State, Loaded, Thrown, class_at, is_same, with_note}
use Rattle.jl_loads.specs.Outcomes.{Outcome, and_then, of_member}
use Rattle.jl_loads.specs.Loading.{load, access, checked, with_check, key}
use Rattle.jl_loads.specs.Laws.{AreSound, ClassesStay, LoadsStay, SoundStays}
use Rattle.jl_link.specs.declared.member.Member.{Member}
use Rattle.jl_link.specs.Nests.{lists, lists_it, is_listed, host_or_itself, host_named, host_in, host_of}
use Rattle.jl_link.specs.Joining.{is_same_loader, are_joined, loaders_to, joined_lead, group_lead}
use Rattle.jl_link.specs.Constraining.{names_in, apart, constrained, imposed, impose, impose_each, agree}
use Rattle.jl_link.specs.References.{Named, is_array, accessed, class_by_name, array_of, array_by, class_by_text, by_slot, class_anew, looked_up_in, member_in, target_of, access_by, stands, in_one_nest, member_text, judged_member, let_through, with_member, in_class, in_target, member_at_index, resolve_anew, entry_at}
use Rattle.jl_link.specs.Standing.{Reaches, ReachesElements, IsArrayOf, NamesTarget, NamesHost, AreOfOneNest, MayUse, AreAgreed, IsMemberOf, RefersFrom, RefersTo}
use Rattle.jl_link.specs.Laws.{Onward}
use Rattle.jl_link.proofs.Joined.{joined_tested, tested_joined}
use Rattle.jl_link.proofs.Moved.{front_same, layers_same}
use Rattle.jl_link.proofs.Onwards.{class_there, onward_same, onward_onward, keeps_on}
use Rattle.jl_link.proofs.Looked.{given_alike}
use Rattle.jl_link.proofs.Lasting.{joined_on, agreed_on, stands_on, target_on}

-- ---- verdicts

-- what is granted out of a nest is granted within one
within_nest : (s : State) (d : ClassId) (from : Loaded) (named : ClassId) (access : Access) (m : Member) (to : Loaded) (b : Bool)
    → member_verdict (stands s d from named access m to false) ≡ Granted → member_verdict (stands s d from named access m to b) ≡ Granted
within_nest s d from named accesses.Public m to b h = h
within_nest s d from named accesses.Package m to b h = h
within_nest s d from named accesses.Protected m to b h = h
within_nest s d from named accesses.Private m to b h = by (is_same d m.owner) b h
  where
    verdict : Bool → Verdict
    verdict x = if x then Granted else Denied rules.MemberPrivate

    by : (x y : Bool) → (if x || false then Granted else Denied rules.MemberPrivate) ≡ Granted → (if x || y then Granted else Denied rules.MemberPrivate) ≡ Granted
    by true y k = refl
    by false true k = refl
    by false false k = k

-- ---- tests

and_first : (x y : Bool) → (x && y) ≡ true → x ≡ true
and_first true y h = refl
and_first false y h = absurd (true≢false (sym h))

and_last : (x y : Bool) → (x && y) ≡ true → y ≡ true
and_last true y h = h
and_last false y h = absurd (true≢false (sym h))

not_true : (x : Bool) → not x ≡ true → x ≡ false
not_true true h = absurd (true≢false (sym h))
not_true false h = refl

-- ---- notes

noted_on : (u : State) (b : Bool) (k : Key) (at : ℕ) → Onward u (if b then with_note k at u else u)
noted_on u true k at = record {
  layers = layers_same u.layers;
  constraints = front_same u.layers.loaders.constraints;
  classes = front_same u.classes;
  slots = λ d i filled. refl;
  kept = front_same u.kept;
}
noted_on u false k at = onward_same u

checked_on : (at : ℕ) (from to : Loaded) (kind : NoteKind) (v : Verdict) (u : State) → Onward u (with_check at from to kind v u)
checked_on at from to kind v u = noted_on u (is_due from.home to.home) (key from to kind v) at

-- ---- constraints

bool_same : (x y : Bool) → (x ≡ true → y ≡ true) → (y ≡ true → x ≡ true) → x ≡ y
bool_same true true h k = refl
bool_same true false h k = sym (h refl)
bool_same false true h k = k refl
bool_same false false h k = refl

-- loaders that are joined are joined with the same ones
joined_alike : (cs : List Constraint) (name : List ℕ) (a b k : LoaderId) → IsTrue (are_joined cs name a b) → are_joined cs name a k ≡ are_joined cs name b k
joined_alike cs name a b k h =
    let j = tested_joined cs name a b h in
    bool_same (are_joined cs name a k) (are_joined cs name b k)
    (λ e. joined_tested cs name b k (joined_then cs name b a k (joined_back cs name a b j) (tested_joined cs name a k e)))
    (λ e. joined_tested cs name a k (joined_then cs name a b k j (tested_joined cs name b k e)))

-- and their groups lead to the same module
groups_alike : (s : delegation.State) (name : List ℕ) (a b : LoaderId) → IsTrue (are_joined s.constraints name a b) → group_lead s name a ≡ group_lead s name b
groups_alike s name a b h =
    given_alike (joined_lead s name a) (joined_lead s name b) (loaders_to (length s.loaders))
    (λ k c. ap (λ (x : Bool). if x then delegation.lead s k name else None) (joined_alike s.constraints name a b k h))

not_apart : (o : Option ModuleId) → apart o o ≡ None
not_apart None = refl
not_apart (Some m) = ap (λ (b : Bool). if b then None else Some (m, m)) (eq-eqb m.0 m.0 refl)

pub constrained_on : (s : State) (name : List ℕ) (a b : LoaderId) → Onward s (constrained name a b s)
constrained_on s name a b = record {
  layers = record {
    configurations = front_same s.layers.configurations;
    layers = front_same s.layers.layers;
    modules = front_same s.layers.modules;
    loaders = record { loaders = front_same s.layers.loaders.loaders; base = inr refl };
    facts = record { modules = front_same s.layers.facts.modules; statements = front_same s.layers.facts.statements };
  };
  constraints = (constraint name a b ∷ [], refl);
  classes = front_same s.classes;
  slots = λ d i filled. refl;
  kept = front_same s.kept;
}

-- an agreement that is there is made again
record Agrees (s : State) (o : Outcome Unit) : Type 0 where
  last : State
  passes : o ≡ (last, Ok tt)
  on : Onward s last

impose_again : (s : State) (a b : LoaderId) (names : List (List ℕ)) → ((name : List ℕ) → Contains names name → IsTrue (are_joined s.layers.loaders.constraints name a b)) → Agrees s (impose_each s a b names)
unfolding impose_each
impose_again s a b [] h = record { last = s; passes = refl; on = onward_same s }
impose_again s a b (name ∷ names) h =
    let t = constrained name a b s in
    let more : Onward s (constrained name a b s) = constrained_on s name a b in
    let rest : Agrees (constrained name a b s) (impose_each (constrained name a b s) a b names) =
    impose_again (constrained name a b s) a b names (λ n c. joined_on s.layers.loaders.constraints (s.layers.loaders.constraints ++ constraint name a b ∷ []) n a b (constraint name a b ∷ [], refl) (h n (contains_tail name n names c))) in
    let now : impose s name a b ≡ (constrained name a b s, Ok tt) =
    ap (λ (o : Option ModuleId). imposed (apart o (group_lead s.layers.loaders name b)) s name a b) (groups_alike s.layers.loaders name a b (h name (contains_head name names)))
    ∙ ap (λ (o : Option (ModuleId × ModuleId)). imposed o s name a b) (not_apart (group_lead s.layers.loaders name b)) in
    record {
      last = rest.last;
      passes = ap (λ (o : Outcome Unit). and_then o (λ u x. impose_each u a b names)) now ∙ rest.passes;
      on = onward_onward s (constrained name a b s) rest.last more rest.on;
    }

agree_again : (s : State) (a b : LoaderId) (desc : List ℕ) → AreAgreed s a b desc → Agrees s (agree s a b desc)
agree_again s a b desc h = by (is_same_loader a b) (impose_again s a b (names_in desc) h)
  where
    by : (x : Bool) → Agrees s (impose_each s a b (names_in desc)) → Agrees s (if x then (s, Ok tt) else impose_each s a b (names_in desc))
    by true more = record { last = s; passes = refl; on = onward_same s }
    by false more = more

-- ---- classes

module _ (stays : ClassesStay) (loads : LoadsStay) (sounds : SoundStays) (grants : GrantsStay) (s : State) (sound : AreSound s) (files : List File) (at : ℕ) where
  class_again : (from : Loaded) (name : List ℕ) (c : ClassId) → Reaches s from name c → (class_by_name files at s from name).1 ≡ Ok c
  class_again from name c h =
      ap (λ (o : Outcome ClassId). (and_then o (λ t k. accessed at t from k (class_at t k))).1) (loads.again files at s from.loader name c h.loaded)
      ∙ ap (λ (o : Option Loaded). (accessed at s from c o).1) h.class
      ∙ ap (λ (v : Verdict). (and_then (checked at from h.to kinds.Class (dotted h.to.declared.name) s v) (λ t u. let r : Outcome ClassId = (t, Ok c) in r)).1) h.granted

  elements_again : (from : Loaded) (text : List ℕ) (o : Option (List ℕ)) → ReachesElements s from o → (array_of files at s from text o).1 ≡ Ok (targets.Array text)
  elements_again from text None h = refl
  elements_again from text (Some name) (c, h) = by (class_by_name files at s from name) (class_again from name c h)
    where
      by : (o : Outcome ClassId) → o.1 ≡ Ok c → (and_then o (λ t k. let r : Outcome Target = (t, Ok (targets.Array text)) in r)).1 ≡ Ok (targets.Array text)
      by (t, Ok k) e = refl
      by (t, Err k) e = absurd cc

  array_again : (from : Loaded) (text : List ℕ) (r : Result Descriptor TextFault) → IsArrayOf s from text r → (array_by files at s from text r).1 ≡ Ok (targets.Array text)
  array_again from text (Ok (descriptors.Field t)) h = elements_again from text (class_in text t) h
  array_again from text (Ok (descriptors.Method params result)) h = absurd h
  array_again from text (Err e) h = absurd h

  names_again : (from : Loaded) (text : List ℕ) (t : Target) → NamesTarget s from text t → (class_by_text files at s from text).1 ≡ Ok t
  names_again from text (targets.Class c) h = by (is_array text) h.0 (class_by_name files at s from text) (class_again from text c h.1)
    where
      by : (b : Bool) → b ≡ false → (o : Outcome ClassId) → o.1 ≡ Ok c
          → (if b then array_by files at s from text (descriptor_read text) else and_then o (λ t k. let r : Outcome Target = (t, Ok (targets.Class k)) in r)).1 ≡ Ok (targets.Class c)
      by true f o e = absurd (true≢false f)
      by false f (t, Ok k) e = ap (λ (r : Result ClassId Thrown). (and_then (t, r) (λ t k. let r : Outcome Target = (t, Ok (targets.Class k)) in r)).1) e
      by false f (t, Err k) e = absurd cc
  names_again from text (targets.Array a) h =
      ap (λ (b : Bool). (if b then array_by files at s from text (descriptor_read text) else and_then (class_by_name files at s from text) (λ t k. let r : Outcome Target = (t, Ok (targets.Class k)) in r)).1) h.1
      ∙ array_again from text (descriptor_read text) h.2
      ∙ ap (λ (x : List ℕ). let r : Result Target Thrown = Ok (targets.Array x) in r) (sym h.0)
  names_again from text (targets.Field i) h = absurd h
  names_again from text (targets.Method i) h = absurd h

  -- ---- nests

  -- asking for a host loads alone
  hosts_on : (u : State) (c : ClassId) → Onward u (host_of files at u c).0
  hosts_on u c = by (class_at u c)
    where
      answered : (x : Loaded) (o : Outcome ClassId) → Onward u o.0 → Onward u (host_or_itself c x o).0
      answered x (t, Ok h) more = more
      answered x (t, Err e) more = more

      named : (x : Loaded) (o : Option (List ℕ)) → Onward u (host_named files at u c x o).0
      named x None = onward_same u
      named x (Some name) = answered x (load files at u x.loader name) (keeps_on u (load files at u x.loader name).0 (loads.grows files at u x.loader name).keeps)

      by : (o : Option Loaded) → Onward u (host_in files at u c o).0
      by None = onward_same u
      by (Some x) = named x x.declared.nest_host

  -- a host that is named is found again
  host_again : (c h : ClassId) → NamesHost s c h → host_of files at s c ≡ (s, h)
  host_again c h n =
      ap (λ (o : Option Loaded). host_in files at s c o) n.class
      ∙ ap (λ (o : Option (List ℕ)). host_named files at s c n.member o) n.named
      ∙ ap (λ (o : Outcome ClassId). host_or_itself c n.member o) (loads.again files at s n.member.loader n.name h n.loaded)
      ∙ ap (λ (b : Bool). let r : State × ClassId = (s, if b then h else c) in r) n.listed

  -- a class that names none is its own
  own_again : (c : ClassId) (x : Loaded) → class_at s c ≡ Some x → x.declared.nest_host ≡ None → host_of files at s c ≡ (s, c)
  own_again c x e none = ap (λ (o : Option Loaded). host_in files at s c o) e ∙ ap (λ (o : Option (List ℕ)). host_named files at s c x o) none

  nothing_listed : (host c : Class) → host.nest_members ≡ [] → IsTrue (lists_it host c) → ⊥
  nothing_listed host c e h = true≢false (sym (and_last (is_text (package_of host.name) (package_of c.name)) (is_listed host c) h) ∙ ap (λ (ms : List (List ℕ)). list_any (is_text c.name) ms) e)

  -- the host of another class names no host
  host_names_none : (o h : ClassId) (x : Loaded) → NamesHost s o h → class_at s h ≡ Some x → x.declared.nest_host ≡ None
  host_names_none o h x n e =
      (sound.tables h x e).nest (λ none. nothing_listed x.declared n.member.declared none (sym (ap (λ (k : Option Loaded). lists k n.member.declared) e) ∙ n.listed))

  -- two classes of one nest have one host, for which nothing is loaded
  hosts_again : (d e : ClassId) (x y : Loaded) → class_at s d ≡ Some x → class_at s e ≡ Some y → is_same d e ≡ false → AreOfOneNest s d e
      → (h : ClassId) × (host_of files at s d ≡ (s, h)) × (host_of files at s e ≡ (s, h))
  hosts_again d e x y here there differ (h, inl i, inl j) = absurd (true≢false (sym (eq-eqb d.0 e.0 (ap (λ (c : ClassId). c.0) (sym i ∙ j))) ∙ differ))
  hosts_again d e x y here there differ (h, inl i, inr n) =
      (h, own_again d x here (host_names_none e d x (subst (NamesHost s e) i n) here) ∙ ap (λ (c : ClassId). let r : State × ClassId = (s, c) in r) (sym i), host_again e h n)
  hosts_again d e x y here there differ (h, inr n, inl j) =
      (h, host_again d h n, own_again e y there (host_names_none d e y (subst (NamesHost s d) j n) there) ∙ ap (λ (c : ClassId). let r : State × ClassId = (s, c) in r) (sym j))
  hosts_again d e x y here there differ (h, inr n, inr k) = (h, host_again d h n, host_again e h k)

  nest_again : (d : ClassId) (m : Member) (h : ClassId) → IsTrue (is_private m.flags && not (is_same d m.owner)) → host_of files at s d ≡ (s, h) → host_of files at s m.owner ≡ (s, h)
      → in_one_nest files at s d m ≡ (s, true)
  nest_again d m h asked e f =
      ap (λ (b : Bool). let r : State × Bool = if b then ((host_of files at (host_of files at s d).0 m.owner).0, is_same (host_of files at s d).1 (host_of files at (host_of files at s d).0 m.owner).1) else (s, false) in r) asked
      ∙ ap (λ (q : State × ClassId). let r : State × Bool = ((host_of files at q.0 m.owner).0, is_same q.1 (host_of files at q.0 m.owner).1) in r) e
      ∙ ap (λ (q : State × ClassId). let r : State × Bool = (q.0, is_same h q.1) in r) f
      ∙ ap (λ (b : Bool). let r : State × Bool = (s, b) in r) (eq-eqb h.0 h.0 refl)

  nest_asked_on : (d : ClassId) (m : Member) → Onward s (in_one_nest files at s d m).0
  nest_asked_on d m = by (is_private m.flags && not (is_same d m.owner))
    where
      by : (b : Bool) → Onward s (if◌then◌else◌ {A = State × Bool} b ((host_of files at (host_of files at s d).0 m.owner).0, is_same (host_of files at s d).1 (host_of files at (host_of files at s d).0 m.owner).1) (s, false)).0
      by true = onward_onward s (host_of files at s d).0 (host_of files at (host_of files at s d).0 m.owner).0 (hosts_on s d) (hosts_on (host_of files at s d).0 m.owner)
      by false = onward_same s

  -- ---- members

  module _ (d : ClassId) (from : Loaded) (here : class_at s d ≡ Some from) where
    may_again : (named : ClassId) (access : Access) (m : Member) (to : Loaded) → class_at s m.owner ≡ Some to → MayUse s d from named access m to
        → member_verdict (stands s d from named access m to (in_one_nest files at s d m).1) ≡ Granted
    may_again named access m to there (inl k) = within_nest s d from named access m to (in_one_nest files at s d m).1 k
    may_again named access m to there (inr (asked, nest, k)) =
        let differ : is_same d m.owner ≡ false = not_true (is_same d m.owner) (and_last (is_private m.flags) (not (is_same d m.owner)) asked) in
        let r = hosts_again d m.owner from to here there differ nest in
        subst (λ (b : Bool). member_verdict (stands s d from named access m to b) ≡ Granted) (sym (ap (λ (q : State × Bool). q.1) (nest_again d m r.0 asked r.1 r.2))) k

    through : (e : Named) (c t : Target) (within : ClassId) (there : Loaded) (m : Member) (owner : Loaded) → class_at s within ≡ Some there → class_at s m.owner ≡ Some owner
        → AreAgreed s from.loader owner.loader e.wanted.desc → t ≡ target_of e.kind s m
        → (p : State × Bool) → Onward s p.0 → member_verdict (stands s d from within (access_by c e.wanted m.flags) m owner p.1) ≡ Granted
        → (and_then (judged_member at d from within (access_by c e.wanted m.flags) e.wanted m owner p) (λ u x. and_then (agree u from.loader owner.loader e.wanted.desc) (λ v y. let r : Outcome Target = (v, Ok (target_of e.kind v m)) in r))).1 ≡ Ok t
    through e c t within there m owner inside declared agrees target (u, b) on granted =
        let a : Access = access_by c e.wanted m.flags in
        let verdict : member_verdict (stands u d from within (access_by c e.wanted m.flags) m owner b) ≡ Granted =
        ap member_verdict (stands_on stays loads sounds grants s u sound on d from within (access_by c e.wanted m.flags) m owner b (class_there s d from here) (class_there s within there inside)) ∙ granted in
        let more : Onward s (with_check at from owner kinds.Member Granted u) = onward_onward s u (with_check at from owner kinds.Member Granted u) on (checked_on at from owner kinds.Member Granted u) in
        let agreed : Agrees (with_check at from owner kinds.Member Granted u) (agree (with_check at from owner kinds.Member Granted u) from.loader owner.loader e.wanted.desc) =
        agree_again (with_check at from owner kinds.Member Granted u) from.loader owner.loader e.wanted.desc
        (agreed_on stays loads sounds grants s (with_check at from owner kinds.Member Granted u) sound more from.loader owner.loader e.wanted.desc agrees) in
        let all : Onward s agreed.last = onward_onward s (with_check at from owner kinds.Member Granted u) agreed.last more agreed.on in
        ap (λ (v : Verdict). (and_then (checked at from owner kinds.Member (member_text owner.declared.name e.wanted.name) u v) (λ w x. and_then (agree w from.loader owner.loader e.wanted.desc) (λ z y. let r : Outcome Target = (z, Ok (target_of e.kind z m)) in r))).1) verdict
        ∙ ap (λ (o : Outcome Unit). (and_then o (λ z y. let r : Outcome Target = (z, Ok (target_of e.kind z m)) in r)).1) agreed.passes
        ∙ ap (λ (x : Target). let r : Result Target Thrown = Ok x in r) (target_on stays loads sounds grants s agreed.last sound all e.kind m (class_there s m.owner owner declared) ∙ sym target)

    member_again : (e : Named) (c t : Target) → IsMemberOf s d from e c t → (in_target files at s d from e c (looked_up_in s c)).1 ≡ Ok t
    member_again e c t h =
        ap (λ (o : Option ClassId). (in_target files at s d from e c o).1) h.looked_up
        ∙ ap (λ (o : Option Loaded). (in_class files at s d from c e h.within o).1) h.class
        ∙ ap (λ (b : Bool). (if b then with_member files at s d from h.within c e (member_in e.kind s h.within e.wanted) else (s, Err (of_member errors.IncompatibleClassChangeError e.class e.wanted.name))).1) h.fits
        ∙ ap (λ (o : Option Member). (with_member files at s d from h.within c e o).1) h.found
        ∙ ap (λ (o : Option Loaded). (let_through files at s d from h.within c e h.member o).1) h.declared
        ∙ through e c t h.within h.there h.member h.owner h.class h.declared h.agreed h.target (in_one_nest files at s d h.member) (nest_asked_on d h.member)
        (may_again h.within (access_by c e.wanted h.member.flags) h.member h.owner h.declared h.granted)

    refers_again : (i : ℕ) (t : Target) (o : Option (ℕ × ℕ × ℕ)) → RefersFrom s d i from t o
        → (if is_none o then class_anew files at s from i else member_at_index files at s d from o (entry_at from.declared.pool i)).1 ≡ Ok t
    refers_again i t None h = names_again from (unwrap_or (class_text from.declared.pool i) []) t h
    refers_again i t (Some parts) h =
        ap (λ (x : PoolSlot). (and_then (by_slot x s d parts.1 (class_anew files at s from parts.1)) (λ u c. in_target files at u d from (entry_at from.declared.pool i) c (looked_up_in u c))).1) h.1
        ∙ member_again (entry_at from.declared.pool i) h.0 t h.2

  pub found_again : (d : ClassId) (i : ℕ) (t : Target) → RefersTo s d i t → (resolve_anew files at s d i).1 ≡ Ok t
  found_again d i t h = rw h.class (refers_again d h.from h.class i t (member_of h.from.declared.pool i) h.refers)
