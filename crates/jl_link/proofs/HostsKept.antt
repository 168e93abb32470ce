-- Hosts of nests: what was loaded as host is one, and stays so while classes come.
use Rattle.std.proofs.Common.{◌≡◌, ◌+◌, ◌==◌, ℕ, List, [], ◌∷◌, ◌++◌, Option, Some, None, option_map, Bool, true, false, true≢false, cond, inl, inr, refl, sym, ◌∙◌, ap, subst, arith, if◌then◌else◌}
use Rattle.std.specs.Prelude.{IsTrue}
use Rattle.std.specs.List.{position_from}
use Rattle.std.specs.Option.{option_map_or}
use Rattle.std.proofs.lemmas.Option.{none-some}
use Rattle.std.proofs.lemmas.Bool.Decides.{nat_tests}
use Rattle.jl_logic.specs.Lists.{IsFront}
use Rattle.jl_prim.specs.declared.numbers.ClassId.{ClassId}
use Rattle.jl_prim.specs.declared.numbers.LoaderId.{LoaderId}
use Rattle.jl_class.specs.Classes.{Class}
use Rattle.jl_loaders.specs.Loaders.{lead}
use Rattle.jl_layer.specs.declared.layer.Member.{Member}
use Rattle.jl_layer.specs.Layers as layers
use Rattle.jl_layer.specs.Layers.{numbered, member_of}
use Rattle.jl_layer.proofs.Listed.{numbered_there, numbered_kept}
use Rattle.jl_loads.specs.Laws.{IsLoadedAs}
use Rattle.jl_loads.specs.Worlds.{State, Loaded, Keeps, class_at, defined, is_named, loader_of_module}
use Rattle.jl_link.specs.Nests.{lists, listed_or_itself}
use Rattle.jl_link.specs.Standing.{IsHost, AreOfOneNest}

-- ---- what was loaded stays loaded

position_front : {X : Type 0} (f : X → Bool) (xs ys : List X) (i n : ℕ) → position_from f i xs ≡ Some n → position_from f i (xs ++ ys) ≡ Some n
position_front f [] ys i n e = absurd (none-some n e)
position_front f (x ∷ xs) ys i n e = by (f x) e (position_front f xs ys (i + 1) n)
  where
    by : (b : Bool) → cond b (Some i) (position_from f (i + 1) xs) ≡ Some n → (position_from f (i + 1) xs ≡ Some n → position_from f (i + 1) (xs ++ ys) ≡ Some n)
        → cond b (Some i) (position_from f (i + 1) (xs ++ ys)) ≡ Some n
    by true h rest = h
    by false h rest = rest h

-- the class with a number
abbrev number_class : ℕ → ClassId
number_class n = record { 0 = n }

defined_front : (f g : State) (l : LoaderId) (name : List ℕ) (c : ClassId) → IsFront f.classes g.classes → defined f l name ≡ Some c → defined g l name ≡ Some c
defined_front f g l name c front e = by (position_from (is_named l name) 1 f.classes) refl e
  where
    by : (o : Option ℕ) → position_from (is_named l name) 1 f.classes ≡ o → option_map number_class o ≡ Some c → defined g l name ≡ Some c
    by None i h = absurd (none-some c h)
    by (Some n) i h = ap (λ (cs : List Loaded). option_map number_class (position_from (is_named l name) 1 cs)) front.1 ∙ ap (option_map number_class) (position_front (is_named l name) f.classes front.0 1 n i) ∙ h

class_on : (f g : State) (c : ClassId) (x : Loaded) → Keeps f g → class_at f c ≡ Some x → class_at g c ≡ Some x
class_on f g c x k e = numbered_kept f.classes g.classes c.0 k.classes (numbered_there f.classes c.0 x e).1 ∙ e

loaded_on : (f g : State) (l : LoaderId) (name : List ℕ) (c : ClassId) → Keeps f g → IsLoadedAs f l name c → IsLoadedAs g l name c
loaded_on f g l name c k (m, led, there) = (
  m,
  ap (λ (s : layers.State). lead s.loaders l name) k.layers ∙ led,
  ap (λ (s : layers.State). defined g (option_map_or (λ (x : Member). x.loader) (member_of s m) (record { 0 = 0 })) name) k.layers ∙ defined_front f g (loader_of_module f m) name c k.classes there,
)

listed_on : (f g : State) (h : ClassId) (c : Class) → Keeps f g → IsTrue (lists (class_at f h) c) → IsTrue (lists (class_at g h) c)
listed_on f g h c k e = by (class_at f h) refl e
  where
    by : (o : Option Loaded) → class_at f h ≡ o → IsTrue (lists o c) → IsTrue (lists (class_at g h) c)
    by None i t = absurd (true≢false (sym t))
    by (Some x) i t = ap (λ (o : Option Loaded). lists o c) (class_on f g h x k i) ∙ t

pub host_kept : (f g : State) (c h : ClassId) → Keeps f g → IsHost f c h → IsHost g c h
host_kept f g c h k (inl e) = inl e
host_kept f g c h k (inr n) = inr (record {
  member = n.member;
  class = class_on f g c n.member k n.class;
  name = n.name;
  named = n.named;
  loaded = loaded_on f g n.member.loader n.name h k n.loaded;
  listed = listed_on f g h n.member.declared k n.listed;
})

pub nest_kept : (f g : State) (c d : ClassId) → Keeps f g → AreOfOneNest f c d → AreOfOneNest g c d
nest_kept f g c d k (h, one, other) = (h, host_kept f g c h k one, host_kept f g d h k other)

-- ---- what was loaded as host

pub host_settled : (s : State) (c h : ClassId) (x : Loaded) (name : List ℕ) → class_at s c ≡ Some x → x.declared.nest_host ≡ Some name → IsLoadedAs s x.loader name h → IsHost s c (listed_or_itself (class_at s h) h c x.declared)
host_settled s c h x name there named loaded = by (lists (class_at s h) x.declared) refl
  where
    by : (b : Bool) → lists (class_at s h) x.declared ≡ b → IsHost s c (if b then h else c)
    by true e = inr (record { member = x; class = there; name = name; named = named; loaded = loaded; listed = e })
    by false e = inl refl

pub same_host : (s : State) (c d h k : ClassId) → IsHost s c h → IsHost s d k → (h.0 == k.0) ≡ true → AreOfOneNest s c d
same_host s c d h k one other e =
    let same : h.0 ≡ k.0 = grind (arith, nat_tests) in
    (h, one, subst (IsHost s d) (ap number_class (sym same)) other)
