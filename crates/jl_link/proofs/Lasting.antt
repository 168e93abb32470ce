-- Why a reference refers to a target holds in any later state.
use Rattle.std.proofs.Common.{◌≡◌, ◌||◌, ℕ, zero, suc, List, [], ◌++◌, Option, Some, None, Result, Ok, Err, Bool, true, false, true≢false, inl, inr, ⊎_elim, refl, sym, ◌∙◌, ap, ap₂, subst}
use Rattle.std.specs.Prelude.{IsTrue, unwrap_or, codes}
use Rattle.std.proofs.lemmas.Option.{none-some}
use Rattle.std.proofs.lemmas.List.Elements.{Contains-append_left}
use Rattle.jl_logic.specs.Lists.{IsFront}
use Rattle.jl_names.specs.Descriptors.{descriptor_read, class_in}
use Rattle.jl_names.specs.declared.types.Descriptor.{Descriptor}
use Rattle.jl_names.specs.declared.types.Descriptor.TheVariants as descriptors
use Rattle.jl_names.specs.declared.fault.TextFault.{TextFault}
use Rattle.jl_prim.specs.declared.numbers.ClassId.{ClassId}
use Rattle.jl_prim.specs.declared.numbers.LoaderId.{LoaderId}
use Rattle.jl_pool.specs.Pool.{member_of}
use Rattle.jl_code.specs.References.{class_text}
use Rattle.jl_class.specs.Classes.{Class}
use Rattle.jl_class.specs.Meaning.{is_public}
use Rattle.jl_access.specs.declared.verdict.Access.{Access}
use Rattle.jl_access.specs.declared.verdict.MemberAccess.{MemberAccess}
use Rattle.jl_access.specs.Verdicts.{member_verdict, is_one_package}
use Rattle.jl_access.specs.Laws.{GrantsStay}
use Rattle.jl_class.specs.Meaning.{is_static}
use Rattle.jl_loaders.specs.declared.constraint.Constraint.{Constraint}
use Rattle.jl_loaders.specs.Constraints.{constraint, IsEntry, IsChain}
use Rattle.jl_loads.specs.declared.slot.Target.{Target}
use Rattle.jl_loads.specs.declared.slot.Target.TheVariants as targets
use Rattle.jl_loads.specs.Worlds.{State, Loaded, IsClass, class_at, place_of, is_same}
use Rattle.jl_loads.specs.Laws.{AreSound, Grows, ClassesStay, LoadsStay, SoundStays, IsLoadedAs}
use Rattle.jl_link.specs.declared.member.Member.{Member}
use Rattle.jl_link.specs.Nests.{lists}
use Rattle.jl_link.specs.Joining.{are_joined}
use Rattle.jl_link.specs.declared.kind.MemberKind.{MemberKind}
use Rattle.jl_link.specs.declared.kind.MemberKind.TheVariants.{FieldEntry, MethodEntry, InterfaceMethodEntry}
use Rattle.jl_link.specs.References.{Named, looked_up_in, target_of, access_by, stands, entry_at}
use Rattle.jl_link.specs.Standing.{Reaches, ReachesElements, IsArrayOf, NamesTarget, NamesHost, IsHost, AreOfOneNest, MayUse, AreAgreed, IsMemberOf, RefersFrom, RefersTo}
use Rattle.jl_link.specs.Laws.{Onward}
use Rattle.jl_link.proofs.Joined.{joined_tested, tested_joined}
use Rattle.jl_link.proofs.Looked.{member_kept, subclass_kept}
use Rattle.jl_link.proofs.Onwards.{passed_filled, class_there, class_on}

-- ---- constraints

entry_on : (cs ds : List Constraint) (name : List ℕ) (a b : LoaderId) → IsEntry cs name a b → IsEntry (cs ++ ds) name a b
entry_on cs ds name a b h = ⊎_elim (λ k. inl (Contains-append_left cs ds (constraint name a b) k)) (λ k. inr (Contains-append_left cs ds (constraint name b a) k)) h

chain_on : (cs ds : List Constraint) (name : List ℕ) (n : ℕ) (a b : LoaderId) → IsChain cs name n a b → IsChain (cs ++ ds) name n a b
chain_on cs ds name zero a b h = h
chain_on cs ds name (suc n) a b h = (h.0, chain_on cs ds name n a h.0 h.1, entry_on cs ds name h.0 b h.2)

pub joined_on : (cs ds : List Constraint) (name : List ℕ) (a b : LoaderId) → IsFront cs ds → IsTrue (are_joined cs name a b) → IsTrue (are_joined ds name a b)
joined_on cs ds name a b front h =
    subst (λ (l : List Constraint). IsTrue (are_joined l name a b)) (sym front.1)
    (let j = tested_joined cs name a b h in joined_tested (cs ++ front.0) name a b (j.0, chain_on cs front.0 name j.0 a b j.1))

-- ---- states

-- the later state, with the report of the earlier one
abbrev pub grown : State → State → State
grown f g = record g { report = f.report }

pub grows_on : ClassesStay → (f g : State) → Onward f g → Grows f (grown f g)
grows_on stays f g more = record { layers = more.layers; classes = more.classes; report = (stays.same f).report; slots = more.slots; kept = more.kept }

module _ (stays : ClassesStay) (loads : LoadsStay) (sounds : SoundStays) (grants : GrantsStay) (f g : State) (sound : AreSound f) (more : Onward f g) where
  -- ---- classes

  pub loaded_on : (d : ClassId) (x : Loaded) (name : List ℕ) (c : ClassId) → class_at f d ≡ Some x → IsLoadedAs f x.loader name c → IsLoadedAs g x.loader name c
  loaded_on d x name c e h = loads.stays f (grown f g) x.loader name c sound (grows_on stays f g more) (sounds.loaders f d x sound e) h

  module _ (d : ClassId) (from : Loaded) (here : class_at f d ≡ Some from) where
    pub reaches_on : (name : List ℕ) (c : ClassId) → Reaches f from name c → Reaches g from name c
    reaches_on name c h = record {
      loaded = loaded_on d from name c here h.loaded;
      to = h.to;
      class = class_on f g more c h.to h.class;
      granted = grants.classes f.layers.facts g.layers.facts (place_of from) (place_of h.to) (is_public h.to.declared.flags) more.layers.facts h.granted;
    }

    pub elements_on : (o : Option (List ℕ)) → ReachesElements f from o → ReachesElements g from o
    elements_on None h = tt
    elements_on (Some name) h = (h.0, reaches_on name h.0 h.1)

    pub array_on : (text : List ℕ) (r : Result Descriptor TextFault) → IsArrayOf f from text r → IsArrayOf g from text r
    array_on text (Ok (descriptors.Field t)) h = elements_on (class_in text t) h
    array_on text (Ok (descriptors.Method params result)) h = h
    array_on text (Err e) h = h

    pub names_on : (text : List ℕ) (t : Target) → NamesTarget f from text t → NamesTarget g from text t
    names_on text (targets.Class c) h = (h.0, reaches_on text c h.1)
    names_on text (targets.Array a) h = (h.0, h.1, array_on text (descriptor_read text) h.2)
    names_on text (targets.Field i) h = h
    names_on text (targets.Method i) h = h

  -- ---- nests

  listed_on : (h : ClassId) (c : Class) → IsTrue (lists (class_at f h) c) → IsTrue (lists (class_at g h) c)
  listed_on h c e = by (class_at f h) refl e
    where
      by : (o : Option Loaded) → class_at f h ≡ o → IsTrue (lists o c) → IsTrue (lists (class_at g h) c)
      by None i k = absurd (true≢false (sym k))
      by (Some x) i k = ap (λ (o : Option Loaded). lists o c) (class_on f g more h x i) ∙ k

  pub names_host_on : (c h : ClassId) → NamesHost f c h → NamesHost g c h
  names_host_on c h k = record {
    member = k.member;
    class = class_on f g more c k.member k.class;
    name = k.name;
    named = k.named;
    loaded = loaded_on c k.member k.name h k.class k.loaded;
    listed = listed_on h k.member.declared k.listed;
  }

  pub host_on : (c h : ClassId) → IsHost f c h → IsHost g c h
  host_on c h k = ⊎_elim inl (λ n. inr (names_host_on c h n)) k

  pub nest_on : (c d : ClassId) → AreOfOneNest f c d → AreOfOneNest g c d
  nest_on c d h = (h.0, host_on c h.0 h.1, host_on d h.0 h.2)

  -- ---- members

  pub stands_on : (d : ClassId) (from : Loaded) (named : ClassId) (access : Access) (m : Member) (to : Loaded) (b : Bool) → IsClass f d → IsClass f named
      → stands g d from named access m to b ≡ stands f d from named access m to b
  stands_on d from named access m to b there within =
      ap₂ (λ (sub related : Bool). let a : MemberAccess = record {
        access = access;
        is_static = is_static m.flags;
        same_class = is_same d m.owner;
        same_nest = b;
        same_package = is_one_package (place_of from) (place_of to);
        subclass = sub;
        named_related = related;
      } in a)
      (subclass_kept f g sound more d m.owner there)
      (ap₂ (λ (x y : Bool). x || y) (subclass_kept f g sound more named d within) (subclass_kept f g sound more d named there))

  pub may_on : (d : ClassId) (from : Loaded) (named : ClassId) (access : Access) (m : Member) (to : Loaded) → IsClass f d → IsClass f named
      → MayUse f d from named access m to → MayUse g d from named access m to
  may_on d from named access m to there within h =
      ⊎_elim
      (λ k. inl (ap member_verdict (stands_on d from named access m to false there within) ∙ k))
      (λ k. inr (k.0, nest_on d m.owner k.1, ap member_verdict (stands_on d from named access m to true there within) ∙ k.2))
      h

  pub agreed_on : (a b : LoaderId) (desc : List ℕ) → AreAgreed f a b desc → AreAgreed g a b desc
  agreed_on a b desc h = λ name k. joined_on f.layers.loaders.constraints g.layers.loaders.constraints name a b more.constraints (h name k)

  pub looked_on : (t : Target) (c : ClassId) → looked_up_in f t ≡ Some c → looked_up_in g t ≡ Some c
  looked_on (targets.Class d) c e = e
  looked_on (targets.Array text) c e = stays.names f (grown f g) (record { 0 = 1 }) (codes "java/lang/Object") c (grows_on stays f g more) e
  looked_on (targets.Field i) c e = absurd (none-some c e)
  looked_on (targets.Method i) c e = absurd (none-some c e)

  pub target_on : (kind : MemberKind) (m : Member) → IsClass f m.owner → target_of kind g m ≡ target_of kind f m
  target_on FieldEntry m there = ap (λ i. targets.Field i) (stays.fields f (grown f g) m.owner m.at (grows_on stays f g more) there)
  target_on MethodEntry m there = ap (λ i. targets.Method i) (stays.methods f (grown f g) m.owner m.at (grows_on stays f g more) there)
  target_on InterfaceMethodEntry m there = ap (λ i. targets.Method i) (stays.methods f (grown f g) m.owner m.at (grows_on stays f g more) there)

  pub member_on : (d : ClassId) (from : Loaded) (e : Named) (c t : Target) → class_at f d ≡ Some from → IsMemberOf f d from e c t → IsMemberOf g d from e c t
  member_on d from e c t here h = record {
    within = h.within;
    looked_up = looked_on c h.within h.looked_up;
    there = h.there;
    class = class_on f g more h.within h.there h.class;
    fits = h.fits;
    member = h.member;
    found = member_kept f g sound more e.wanted e.kind h.within (class_there f h.within h.there h.class) ∙ h.found;
    owner = h.owner;
    declared = class_on f g more h.member.owner h.owner h.declared;
    granted = may_on d from h.within (access_by c e.wanted h.member.flags) h.member h.owner (class_there f d from here) (class_there f h.within h.there h.class) h.granted;
    agreed = agreed_on from.loader h.owner.loader e.wanted.desc h.agreed;
    target = h.target ∙ sym (target_on e.kind h.member (class_there f h.member.owner h.owner h.declared));
  }

  -- ---- references

  refers_from_on : (d : ClassId) (i : ℕ) (from : Loaded) (t : Target) (o : Option (ℕ × ℕ × ℕ)) → class_at f d ≡ Some from → RefersFrom f d i from t o → RefersFrom g d i from t o
  refers_from_on d i from t None here h = names_on d from here (unwrap_or (class_text from.declared.pool i) []) t h
  refers_from_on d i from t (Some parts) here h =
      (h.0, more.slots d parts.1 (λ z. passed_filled h.0 (sym h.1 ∙ z)) ∙ h.1, member_on d from (entry_at from.declared.pool i) h.0 t here h.2)

  pub refers_on : (d : ClassId) (i : ℕ) (t : Target) → RefersTo f d i t → RefersTo g d i t
  refers_on d i t h = record { from = h.from; class = class_on f g more d h.from h.class; refers = refers_from_on d i h.from t (member_of h.from.declared.pool i) h.class h.refers }
