-- Resolving a member reference: what its steps leave, and why it refers to its target.
use Rattle.std.proofs.Common.{◌≡◌, ◌∙◌, sym, ap, subst, refl, Ok, Err, Result, List, Option, None, Some, true, false, option_map}
use Rattle.std.specs.Prelude.{if◌then◌else◌, is_none, ℕ, IfOk, IsTrue}
use Rattle.std.proofs.lemmas.Option.{none-some, same_Some}
use Rattle.jl_prim.specs.declared.numbers.ClassId.{ClassId}
use Rattle.jl_prim.specs.declared.error_kind.ErrorKind.TheVariants as errors
use Rattle.jl_tree.specs.Files.{File}
use Rattle.jl_layer.proofs.Listed.{numbered_there}
use Rattle.jl_pool.specs.Pool.{member_of}
use Rattle.jl_access.specs.Laws.{GrantsStay}
use Rattle.jl_loads.specs.declared.slot.Target.{Target}
use Rattle.jl_loads.specs.declared.slot.PoolSlot.TheVariants.{Passed}
use Rattle.jl_loads.specs.declared.end.LinkEnd.{LinkEnd}
use Rattle.jl_loads.specs.Ends.{Leaves, Tells}
use Rattle.jl_loads.specs.Laws.{AreSound, ClassesStay, LoadsStay, SoundStays}
use Rattle.jl_loads.specs.Outcomes.{and_then, of_member}
use Rattle.jl_loads.specs.Worlds.{State, Loaded, class_at, slot_at}
use Rattle.jl_link.specs.declared.member.Member.{Member}
use Rattle.jl_link.specs.Constraining.{agree}
use Rattle.jl_link.specs.Laws.{Onward}
use Rattle.jl_link.specs.Moving.{Moves}
use Rattle.jl_link.specs.References.{Named, member_at_index, resolve_anew, resolve_class, class_anew, in_target, in_class, let_through, judged_member, in_one_nest, looked_up_in, fits_kind, member_in, missing_kind, target_of, access_by, entry_at}
use Rattle.jl_link.specs.Standing.{AreAgreed, IsMemberOf, MayUse, RefersTo}
use Rattle.jl_link.proofs.Lasting.{looked_on, may_on}
use Rattle.jl_link.proofs.Looked.{member_kept}
use Rattle.jl_link.proofs.Onwards.{class_on, moves_on, onward_onward, passed_filled}
use Rattle.jl_link.proofs.Reaching.{leaves_end, leaves_error, leaves_next}

-- ---- steps

module _ (files : List File) (at : ℕ) (s : State) (d : ClassId) (from : Loaded) (e : Named) (t : Target) where
  -- the class in which it looks
  pub target_none : (x : LinkEnd) → looked_up_in s t ≡ None → Tells x (of_member (missing_kind e.kind) e.class e.wanted.name) → Leaves (in_target files at s d from e t (looked_up_in s t)) (Err x) s
  target_none x i h = rw i (leaves_error (s, Err (of_member (missing_kind e.kind) e.class e.wanted.name)) x _ s refl h)

  pub target_gone : (c : ClassId) (x : LinkEnd) → looked_up_in s t ≡ Some c → class_at s c ≡ None → Tells x (of_member (missing_kind e.kind) e.class e.wanted.name) → Leaves (in_target files at s d from e t (looked_up_in s t)) (Err x) s
  target_gone c x i j h = rw (i, j) (leaves_error (s, Err (of_member (missing_kind e.kind) e.class e.wanted.name)) x _ s refl h)

  pub target_some : (c : ClassId) (r : Result Target LinkEnd) (u : State) → looked_up_in s t ≡ Some c → Leaves (in_class files at s d from t e c (class_at s c)) r u → Leaves (in_target files at s d from e t (looked_up_in s t)) r u
  target_some c r u i h = rw i h

  -- the member that the class has
  pub class_unfit : (c : ClassId) (y : Loaded) (x : LinkEnd) → class_at s c ≡ Some y → fits_kind e.kind y ≡ false → Tells x (of_member errors.IncompatibleClassChangeError e.class e.wanted.name) → Leaves (in_class files at s d from t e c (class_at s c)) (Err x) s
  class_unfit c y x i j h = rw (i, j) (leaves_error (s, Err (of_member errors.IncompatibleClassChangeError e.class e.wanted.name)) x _ s refl h)

  pub class_missing : (c : ClassId) (y : Loaded) (x : LinkEnd) → class_at s c ≡ Some y → fits_kind e.kind y ≡ true → member_in e.kind s c e.wanted ≡ None → Tells x (of_member (missing_kind e.kind) e.class e.wanted.name) → Leaves (in_class files at s d from t e c (class_at s c)) (Err x) s
  class_missing c y x i j k h = rw (i, j, k) (leaves_error (s, Err (of_member (missing_kind e.kind) e.class e.wanted.name)) x _ s refl h)

  pub class_has : (c : ClassId) (y : Loaded) (m : Member) (r : Result Target LinkEnd) (u : State) → class_at s c ≡ Some y → fits_kind e.kind y ≡ true → member_in e.kind s c e.wanted ≡ Some m
      → Leaves (let_through files at s d from c t e m (class_at s m.owner)) r u → Leaves (in_class files at s d from t e c (class_at s c)) r u
  class_has c y m r u i j k h = rw (i, j, k) h

  -- the member is judged, and the loaders agree
  module _ (c : ClassId) (m : Member) (to : Loaded) (there : class_at s m.owner ≡ Some to) where
    pub through_end : (x : LinkEnd) (u : State) → Leaves (judged_member at d from c (access_by t e.wanted m.flags) e.wanted m to (in_one_nest files at s d m)) (Err x) u
        → Leaves (let_through files at s d from c t e m (class_at s m.owner)) (Err x) u
    through_end x u h = rw there (leaves_end (judged_member at d from c (access_by t e.wanted m.flags) e.wanted m to (in_one_nest files at s d m)) (λ u x. and_then (agree u from.loader to.loader e.wanted.desc) (λ v y. (v, Ok (target_of e.kind v m)))) x u h)

    pub through_next : (r : Result Target LinkEnd) (u v : State) → judged_member at d from c (access_by t e.wanted m.flags) e.wanted m to (in_one_nest files at s d m) ≡ (u, Ok tt)
        → Leaves (and_then (agree u from.loader to.loader e.wanted.desc) (λ v y. (v, Ok (target_of e.kind v m)))) r v → Leaves (let_through files at s d from c t e m (class_at s m.owner)) r v
    through_next r u v i h = rw there (leaves_next (judged_member at d from c (access_by t e.wanted m.flags) e.wanted m to (in_one_nest files at s d m)) (λ u x. and_then (agree u from.loader to.loader e.wanted.desc) (λ v y. (v, Ok (target_of e.kind v m)))) tt u v r i h)

-- a reference of a class, anew
module _ (files : List File) (at : ℕ) (s : State) (d : ClassId) (i : ℕ) (from : Loaded) (here : class_at s d ≡ Some from) where
  pub anew_class : (r : Result Target LinkEnd) (u : State) → member_of from.declared.pool i ≡ None → Leaves (class_anew files at s from i) r u → Leaves (resolve_anew files at s d i) r u
  anew_class r u plain h = rw (here, plain) h

  pub anew_member : (parts : ℕ × ℕ × ℕ) (r : Result Target LinkEnd) (u : State) → member_of from.declared.pool i ≡ Some parts
      → Leaves (and_then (resolve_class files at s d from parts.1) (λ t c. in_target files at t d from (entry_at from.declared.pool i) c (looked_up_in t c))) r u → Leaves (resolve_anew files at s d i) r u
  anew_member parts r u is h = rw here (subst (λ (o : Option (ℕ × ℕ × ℕ)). Leaves (if is_none o then class_anew files at s from i else member_at_index files at s d from o (entry_at from.declared.pool i)) r u) (sym is) h)

-- ---- the parts of a member entry

pub no_parts : (o : Option (ℕ × ℕ × ℕ)) → None ≡ option_map (λ (parts : ℕ × ℕ × ℕ). parts.1) o → o ≡ None
no_parts None e = refl
no_parts (Some parts) e = absurd (none-some parts.1 e)

pub some_parts : (o : Option (ℕ × ℕ × ℕ)) (k : ℕ) → Some k ≡ option_map (λ (parts : ℕ × ℕ × ℕ). parts.1) o → (parts : ℕ × ℕ × ℕ) × (o ≡ Some parts) × (parts.1 ≡ k)
some_parts None k e = absurd (none-some k (sym e))
some_parts (Some parts) k e = (parts, refl, sym (same_Some k parts.1 e))

-- ---- why

pub member_found : ClassesStay → LoadsStay → SoundStays → GrantsStay → (s u v : State) (d : ClassId) (from : Loaded) (e : Named) (t : Target) (c : ClassId) (x : Loaded) (m : Member) (to : Loaded)
    → AreSound s → AreSound u → Onward s u → Onward u v → class_at s d ≡ Some from → class_at s c ≡ Some x → class_at s m.owner ≡ Some to
    → looked_up_in s t ≡ Some c → IsTrue (fits_kind e.kind x) → member_in e.kind s c e.wanted ≡ Some m
    → MayUse u d from c (access_by t e.wanted m.flags) m to → AreAgreed v from.loader to.loader e.wanted.desc → (r : Target) → r ≡ target_of e.kind v m → IsMemberOf v d from e t r
member_found stays loads sounds grants s u v d from e t c x m to sound sounder one two here there owned looked fits found may agreed r is =
    let on = onward_onward s u v one two in
    record {
      within = c;
      looked_up = looked_on stays loads sounds grants s v sound on t c looked;
      there = x;
      class = class_on s v on c x there;
      fits = fits;
      member = m;
      found = member_kept s v sound on e.wanted e.kind c (numbered_there s.classes c.0 x there) ∙ found;
      owner = to;
      declared = class_on s v on m.owner to owned;
      granted = may_on stays loads sounds grants u v sounder two d from c (access_by t e.wanted m.flags) m to (numbered_there u.classes d.0 from (class_on s u one d from here)) (numbered_there u.classes c.0 x (class_on s u one c x there)) may;
      agreed = agreed;
      target = is;
    }

-- a member entry refers to the member of its class
pub member_refers : (t u : State) (d : ClassId) (i : ℕ) (from : Loaded) (parts : ℕ × ℕ × ℕ) (class : Target) (r : Result Target LinkEnd) → Moves t u → class_at u d ≡ Some from
    → member_of from.declared.pool i ≡ Some parts → slot_at t d parts.1 ≡ Passed class → IfOk r (IsMemberOf u d from (entry_at from.declared.pool i) class) → IfOk r (RefersTo u d i)
member_refers t u d i from parts class (Ok x) moves here is slot h =
    record { from = from; class = here; refers = rw is (class, (moves_on t u moves).slots d parts.1 (λ z. passed_filled class (sym slot ∙ z)) ∙ slot, h) }
member_refers t u d i from parts class (Err x) moves here is slot h = tt

pub not_itself : (from : Loaded) (i k : ℕ) (parts : ℕ × ℕ × ℕ) → member_of from.declared.pool i ≡ Some parts → member_of from.declared.pool k ≡ None → i ≡ k → ⊥
not_itself from i k parts is none same = none-some parts (sym none ∙ ap (member_of from.declared.pool) (sym same) ∙ is)
