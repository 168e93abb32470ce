-- A member that was judged: what the check leaves, and that what was granted may be used.
use Rattle.std.proofs.Common.{◌≡◌, ◌&&◌, ◌||◌, ℕ, zero, suc, List, ◌∷◌, Option, Some, None, Result, Ok, Err, Bool, true, false, not, inl, inr, refl, sym, ◌∙◌, ap, ap₂, subst}
use Rattle.std.specs.Prelude.{IsTrue, OnOk}
use Rattle.jl_prim.specs.declared.numbers.ClassId.{ClassId}
use Rattle.jl_tree.specs.Files.{File}
use Rattle.jl_class.specs.Meaning.{is_private, is_static}
use Rattle.jl_access.specs.declared.verdict.Access.{Access}
use Rattle.jl_access.specs.declared.verdict.MemberAccess.{MemberAccess}
use Rattle.jl_access.specs.declared.verdict.Verdict.{Verdict}
use Rattle.jl_access.specs.declared.verdict.Verdict.TheVariants.{Granted, Denied}
use Rattle.jl_access.specs.declared.report.NoteKind.{NoteKind}
use Rattle.jl_access.specs.declared.report.NoteKind.TheVariants as kinds
use Rattle.jl_access.specs.Reports.{is_due}
use Rattle.jl_access.specs.Verdicts.{member_verdict, is_one_package}
use Rattle.jl_loads.specs.declared.end.LinkEnd.{LinkEnd}
use Rattle.jl_loads.specs.Ends.{Leaves}
use Rattle.jl_loads.specs.Loading.{checked, with_check}
use Rattle.jl_loads.specs.Outcomes.{Outcome}
use Rattle.jl_loads.specs.Worlds.{State, Loaded, Keeps, place_of, is_same, is_subclass, is_among, super_of, line_by}
use Rattle.jl_link.specs.declared.member.Member.{Member}
use Rattle.jl_link.specs.Members.{wanted}
use Rattle.jl_link.specs.Nests.{host_of}
use Rattle.jl_link.specs.References.{stands, in_one_nest, judged_member, member_text}
use Rattle.jl_link.specs.Standing.{MayUse, AreOfOneNest}
use Rattle.jl_link.proofs.HostsKept.{nest_kept}

-- ---- the same classes

line_alike : (s t : State) → t.classes ≡ s.classes → (n : ℕ) (o : Option ClassId) → line_by n t o ≡ line_by n s o
unfolding line_by
line_alike s t e zero None = refl
line_alike s t e zero (Some c) = refl
line_alike s t e (suc n) None = refl
line_alike s t e (suc n) (Some c) = ap (λ (l : List ClassId). c ∷ l) (line_alike s t e n (super_of t c) ∙ ap (line_by n s) (super_alike s t e c))
  where
    super_alike : (s t : State) → t.classes ≡ s.classes → (c : ClassId) → super_of t c ≡ super_of s c
    super_alike s t e c = ap (λ (l : List Loaded). super_of (record s { classes = l }) c) e

subclass_alike : (s t : State) → t.classes ≡ s.classes → (c d : ClassId) → is_subclass t c d ≡ is_subclass s c d
subclass_alike s t e c d = ap (is_among d) (line_alike s t e c.0 (Some c))

stands_alike : (s t : State) (d : ClassId) (from : Loaded) (named : ClassId) (access : Access) (m : Member) (to : Loaded) (b : Bool) → t.classes ≡ s.classes → stands t d from named access m to b ≡ stands s d from named access m to b
stands_alike s t d from named access m to b e =
    ap₂ (λ (sub related : Bool). let a : MemberAccess = record {
      access = access;
      is_static = is_static m.flags;
      same_class = is_same d m.owner;
      same_nest = b;
      same_package = is_one_package (place_of from) (place_of to);
      subclass = sub;
      named_related = related;
    } in a)
    (subclass_alike s t e d m.owner)
    (ap₂ (λ (x y : Bool). x || y) (subclass_alike s t e named d) (subclass_alike s t e d named))

-- ---- a check that was let through

err_ok : {X E : Type 0} (e : E) (x : X) (r : Result X E) → r ≡ Err e → r ≡ Ok x → ⊥
err_ok e x r i j = cc

check_classes : (at : ℕ) (from to : Loaded) (kind : NoteKind) (v : Verdict) (s : State) → (with_check at from to kind v s).classes ≡ s.classes
check_classes at from to kind v s = by (is_due from.home to.home) refl
  where
    by : (b : Bool) → is_due from.home to.home ≡ b → (with_check at from to kind v s).classes ≡ s.classes
    by true e = rw e refl
    by false e = rw e refl

granted_by : (at : ℕ) (from to : Loaded) (kind : NoteKind) (what : List ℕ) (t u : State) (v : Verdict) → checked at from to kind what t v ≡ (u, Ok tt) → (u.classes ≡ t.classes) × (v ≡ Granted)
granted_by at from to kind what t u (Denied rule) e = absurd (err_ok _ tt _ refl (ap (λ (o : Outcome Unit). o.1) e))
granted_by at from to kind what t u Granted e = (ap (λ (o : Outcome Unit). o.0.classes) (sym e) ∙ check_classes at from to kind Granted t, refl)

-- ---- one nest

pub one_nest : (files : List File) (at : ℕ) (s t u : State) (d : ClassId) (m : Member) (h k : ClassId) → (is_private m.flags && not (is_same d m.owner)) ≡ true → (t, h) ≡ host_of files at s d → (u, k) ≡ host_of files at t m.owner
    → (u, is_same h k) ≡ in_one_nest files at s d m
one_nest files at s t u d m h k asks e f = rw (asks, sym e, sym f) refl

pub no_nest : (files : List File) (at : ℕ) (s : State) (d : ClassId) (m : Member) → (is_private m.flags && not (is_same d m.owner)) ≡ false → (s, false) ≡ in_one_nest files at s d m
no_nest files at s d m asks = rw asks refl

-- what is known of two classes that are looked at for a private member
abbrev pub IsNestFound : State → ClassId → Member → Bool → Type 0
IsNestFound s d m b = b ≡ true → IsTrue (is_private m.flags && not (is_same d m.owner)) × AreOfOneNest s d m.owner

-- ---- a member

module _ (files : List File) (at : ℕ) (s t : State) (d : ClassId) (from : Loaded) (named : ClassId) (access : Access) (name desc : List ℕ) (m : Member) (to : Loaded) where
  pub judged_leaves : (b : Bool) (r : Result Unit LinkEnd) (u : State) → (t, b) ≡ in_one_nest files at s d m
      → Leaves (checked at from to kinds.Member (member_text to.declared.name name) t (member_verdict (stands t d from named access m to b))) r u
      → Leaves (judged_member at d from named access (wanted name desc) m to (in_one_nest files at s d m)) r u
  judged_leaves b r u e h = subst (λ (p : State × Bool). Leaves (judged_member at d from named access (wanted name desc) m to p) r u) e h

pub may_use : (at : ℕ) (t u : State) (d : ClassId) (from : Loaded) (named : ClassId) (access : Access) (what : List ℕ) (m : Member) (to : Loaded) (b : Bool) (r : Result Unit LinkEnd) → Keeps t u
    → ((b ≡ true) → IsTrue (is_private m.flags && not (is_same d m.owner)) × AreOfOneNest t d m.owner)
    → Leaves (checked at from to kinds.Member what t (member_verdict (stands t d from named access m to b))) r u → OnOk r (MayUse u d from named access m to)
may_use at t u d from named access what m to b (Err e) keeps found h = tt
may_use at t u d from named access what m to false (Ok x) keeps found h =
    let g = granted_by at from to kinds.Member what t u (member_verdict (stands t d from named access m to false)) h in
    inl (ap member_verdict (stands_alike t u d from named access m to false g.0) ∙ g.1)
may_use at t u d from named access what m to true (Ok x) keeps found h =
    let g = granted_by at from to kinds.Member what t u (member_verdict (stands t d from named access m to true)) h in
    let n = found refl in
    inr (n.0, nest_kept t u d m.owner keeps n.1, ap member_verdict (stands_alike t u d from named access m to true g.0) ∙ g.1)
