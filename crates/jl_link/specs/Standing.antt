-- Why a reference refers to a target, whatever the files are: what is there, what is granted, and what is imposed (JVMS 5.4.3).
use Rattle.std.specs.Prelude.{◌≡◌, ◌⊎◌, ℕ, List, [], Contains, IsTrue, Option, None, Some, unwrap_or, Result, Ok, true, false, not, ◌&&◌, ⊤}
use Rattle.jl_names.specs.Descriptors.{descriptor_read, class_in}
use Rattle.jl_names.specs.declared.types.Descriptor.{Descriptor}
use Rattle.jl_names.specs.declared.types.Descriptor.TheVariants as descriptors
use Rattle.jl_names.specs.declared.fault.TextFault.{TextFault}
use Rattle.jl_prim.specs.declared.numbers.ClassId.{ClassId}
use Rattle.jl_prim.specs.declared.numbers.LoaderId.{LoaderId}
use Rattle.jl_pool.specs.Pool.{member_of}
use Rattle.jl_code.specs.References.{class_text}
use Rattle.jl_class.specs.Meaning.{is_public, is_private}
use Rattle.jl_access.specs.declared.verdict.Access.{Access}
use Rattle.jl_access.specs.declared.verdict.Verdict.TheVariants.{Granted}
use Rattle.jl_access.specs.Verdicts.{class_verdict, member_verdict}
use Rattle.jl_loads.specs.declared.slot.Target.{Target}
use Rattle.jl_loads.specs.declared.slot.Target.TheVariants as targets
use Rattle.jl_loads.specs.declared.slot.PoolSlot.TheVariants.{Passed}
use Rattle.jl_loads.specs.Worlds.{State, Loaded, slot_at, class_at, place_of, is_same}
use Rattle.jl_loads.specs.Laws.{IsLoadedAs}
use Rattle.jl_link.specs.declared.member.Member.{Member}
use Rattle.jl_link.specs.Nests.{lists}
use Rattle.jl_link.specs.Joining.{are_joined}
use Rattle.jl_link.specs.Constraining.{names_in}
use Rattle.jl_link.specs.References.{is_array, Named, looked_up_in, fits_kind, member_in, target_of, access_by, stands, entry_at}

-- ---- classes

-- The loader of a class leads the name to a class that is there, and the one accesses the other.
pub record Reaches (s : State) (from : Loaded) (name : List ℕ) (c : ClassId) : Type 0 where
  pub loaded : IsLoadedAs s from.loader name c
  pub to : Loaded
  pub class : class_at s c ≡ Some to
  pub granted : class_verdict s.layers.facts (place_of from) (place_of to) (is_public to.declared.flags) ≡ Granted

-- the class of an array's elements is reached, where they have one
abbrev pub ReachesElements : State → Loaded → Option (List ℕ) → Type 0
ReachesElements s from None = ⊤
ReachesElements s from (Some name) = (c : ClassId) × Reaches s from name c

-- the text is the descriptor of an array, whose elements are reached
abbrev pub IsArrayOf : State → Loaded → List ℕ → Result Descriptor TextFault → Type 0
IsArrayOf s from text (Ok (descriptors.Field t)) = ReachesElements s from (class_in text t)
IsArrayOf s from text _ = ⊥

-- what the text of a class entry names
abbrev pub NamesTarget : State → Loaded → List ℕ → Target → Type 0
NamesTarget s from text (targets.Class c) = (is_array text ≡ false) × Reaches s from text c
NamesTarget s from text (targets.Array a) = (a ≡ text) × (is_array text ≡ true) × IsArrayOf s from text (descriptor_read text)
NamesTarget s from text _ = ⊥

-- ---- nests

-- a class names another one as its host, which is loaded, and which lists it
pub record NamesHost (s : State) (c h : ClassId) : Type 0 where
  pub member : Loaded
  pub class : class_at s c ≡ Some member
  pub name : List ℕ
  pub named : member.declared.nest_host ≡ Some name
  pub loaded : IsLoadedAs s member.loader name h
  pub listed : IsTrue (lists (class_at s h) member.declared)

-- the class itself, or the host that it names
abbrev pub IsHost : State → ClassId → ClassId → Type 0
IsHost s c h = (h ≡ c) ⊎ NamesHost s c h

-- two classes have one host
abbrev pub AreOfOneNest : State → ClassId → ClassId → Type 0
AreOfOneNest s c d = (h : ClassId) × IsHost s c h × IsHost s d h

-- ---- members

-- A class may use a member of another: without a look at nests, or a private one in one nest.
abbrev pub MayUse : State → ClassId → Loaded → ClassId → Access → Member → Loaded → Type 0
MayUse s d from named access m to =
    (member_verdict (stands s d from named access m to false) ≡ Granted)
    ⊎ (IsTrue (is_private m.flags && not (is_same d m.owner)) × AreOfOneNest s d m.owner × (member_verdict (stands s d from named access m to true) ≡ Granted))

-- constraints join the two loaders, for each name of a class in the descriptor
abbrev pub AreAgreed : State → LoaderId → LoaderId → List ℕ → Type 0
AreAgreed s a b desc = (name : List ℕ) → Contains (names_in desc) name → IsTrue (are_joined s.layers.loaders.constraints name a b)

-- a member of the class that a class reference has as its target
pub record IsMemberOf (s : State) (d : ClassId) (from : Loaded) (e : Named) (c : Target) (t : Target) : Type 0 where
  pub within : ClassId
  pub looked_up : looked_up_in s c ≡ Some within
  pub there : Loaded
  pub class : class_at s within ≡ Some there
  pub fits : IsTrue (fits_kind e.kind there)
  pub member : Member
  pub found : member_in e.kind s within e.wanted ≡ Some member
  pub owner : Loaded
  pub declared : class_at s member.owner ≡ Some owner
  pub granted : MayUse s d from within (access_by c e.wanted member.flags) member owner
  pub agreed : AreAgreed s from.loader owner.loader e.wanted.desc
  pub target : t ≡ target_of e.kind s member

-- ---- references

-- a class by its text, or a member of the class to which the reference that the member names has been resolved
abbrev pub RefersFrom : State → ClassId → ℕ → Loaded → Target → Option (ℕ × ℕ × ℕ) → Type 0
RefersFrom s d i from t None = NamesTarget s from (unwrap_or (class_text from.declared.pool i) []) t
RefersFrom s d i from t (Some parts) = (c : Target) × (slot_at s d parts.1 ≡ Passed c) × IsMemberOf s d from (entry_at from.declared.pool i) c t

-- The reference of a class at an index refers to a target.
pub record RefersTo (s : State) (d : ClassId) (i : ℕ) (t : Target) : Type 0 where
  pub from : Loaded
  pub class : class_at s d ≡ Some from
  pub refers : RefersFrom s d i from t (member_of from.declared.pool i)
