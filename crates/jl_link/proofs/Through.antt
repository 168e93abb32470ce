-- A member that is let through.
use Rattle.std.proofs.Common.{◌≡◌, subst, Ok, Err, Result, List}
use Rattle.std.specs.Prelude.{ℕ, IfOk}
use Rattle.jl_prim.specs.declared.numbers.ClassId.{ClassId}
use Rattle.jl_tree.specs.Files.{File}
use Rattle.jl_access.specs.declared.verdict.Access.{Access}
use Rattle.jl_loads.specs.declared.end.LinkEnd.{LinkEnd}
use Rattle.jl_loads.specs.Ends.{Leaves}
use Rattle.jl_loads.specs.Worlds.{State, Loaded, IsClass}
use Rattle.jl_link.specs.declared.member.Member.{Member}
use Rattle.jl_link.specs.declared.kind.MemberKind.{MemberKind}
use Rattle.jl_link.specs.declared.kind.MemberKind.TheVariants.{FieldEntry, MethodEntry, InterfaceMethodEntry}
use Rattle.jl_link.specs.Members.{Wanted}
use Rattle.jl_link.specs.References.{judged_member, in_one_nest}
use Rattle.jl_link.specs.Slots.{IsMemberThere}

-- the class that has a member is there
pub owner_there : (k : MemberKind) (s : State) (m : Member) → IsMemberThere k s m → IsClass s m.owner
owner_there FieldEntry s m h = h.class
owner_there MethodEntry s m h = h.class
owner_there InterfaceMethodEntry s m h = h.class

-- a member is judged by who may use it and what it is
pub judged_as : (files : List File) (at : ℕ) (s : State) (d : ClassId) (from : Loaded) (c : ClassId) (a b : Access) (v w : Wanted) (m : Member) (to : Loaded) (r : Result Unit LinkEnd) (u : State) → a ≡ b → v ≡ w
    → Leaves (judged_member at d from c a v m to (in_one_nest files at s d m)) r u → Leaves (judged_member at d from c b w m to (in_one_nest files at s d m)) r u
judged_as files at s d from c a b v w m to r u same alike h =
    subst (λ x. Leaves (judged_member at d from c b x m to (in_one_nest files at s d m)) r u) alike (subst (λ x. Leaves (judged_member at d from c x v m to (in_one_nest files at s d m)) r u) same h)

-- what holds of a value by two things that do
pub by_both : {X E : Type 0} (P Q R : X → Type 0) (r : Result X E) → ((x : X) → P x → Q x → R x) → IfOk r P → IfOk r Q → IfOk r R
by_both P Q R (Ok x) f p q = f x p q
by_both P Q R (Err e) f p q = tt
