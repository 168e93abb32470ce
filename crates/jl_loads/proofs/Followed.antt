-- What a load leaves of a state: it grows in classes and notes alone, stays sound, and those that wait are not defined meanwhile.
use Rattle.std.proofs.Common.{◌≡◌, List, None, Result, Ok, Err, true, ℕ, refl, subst}
use Rattle.jl_prim.specs.declared.numbers.LoaderId.{LoaderId}
use Rattle.jl_tree.specs.Files.{File}
use Rattle.jl_loads.specs.declared.class_key.ClassKey.{ClassKey}
use Rattle.jl_loads.specs.Worlds.{State, Thrown, defined}
use Rattle.jl_loads.specs.Outcomes.{Outcome, and_then}
use Rattle.jl_loads.specs.Loading.{is_waiting}
use Rattle.jl_loads.specs.Laws.{AreSound, AreTold, GrowsInClasses}
use Rattle.jl_loads.proofs.GoingOn.{within_same, within_onward}
use Rattle.jl_loads.proofs.Remembered.{AreTabled}

-- the state after the one, while these wait
pub record Follows (files : List File) (ws : List ClassKey) (s t : State) : Type 0 where
  pub grows : GrowsInClasses s t
  pub sound : AreTabled files → AreSound s → AreSound t
  pub told : AreTold files s → AreTold files t
  pub free : (l : LoaderId) (name : List ℕ) → is_waiting l name ws ≡ true → defined s l name ≡ None → defined t l name ≡ None

-- what these wait for, those do
abbrev pub WaitToo : List ClassKey → List ClassKey → Type 0
WaitToo ws us = (l : LoaderId) (name : List ℕ) → is_waiting l name ws ≡ true → is_waiting l name us ≡ true

pub follows_same : (files : List File) (ws : List ClassKey) (s : State) → Follows files ws s s
follows_same files ws s = record { grows = within_same s; sound = λ d h. h; told = λ h. h; free = λ l name w e. e }

pub follows_onward : (files : List File) (ws us : List ClassKey) (s t u : State) → WaitToo ws us → Follows files us s t → Follows files ws t u → Follows files ws s u
follows_onward files ws us s t u more a b = record {
  grows = within_onward s t u a.grows b.grows;
  sound = λ d h. b.sound d (a.sound d h);
  told = λ h. b.told (a.told h);
  free = λ l name w e. b.free l name w (a.free l name (more l name w) e);
}

-- an outcome whose state follows, with a value that has the property there
pub record Yields {X : Type 0} (files : List File) (ws : List ClassKey) (s : State) (P : State → X → Type 0) (o : Outcome X) : Type 0 where
  pub follows : Follows files ws s o.0
  pub value : (x : X) → o.1 ≡ Ok x → P o.0 x

module _ {X : Type 0} (files : List File) (ws : List ClassKey) (s : State) (P : State → X → Type 0) where
  same_value : (x y : X) → ◌≡◌ {A = Result X Thrown} (Ok x) (Ok y) → x ≡ y
  same_value x y e = cc

  pub yields_value : (t : State) (x : X) → Follows files ws s t → P t x → Yields files ws s P (t, Ok x)
  yields_value t x h p = record { follows = h; value = λ y e. subst (P t) (same_value x y e) p }

  pub yields_error : (t : State) (e : Thrown) → Follows files ws s t → Yields files ws s P (t, Err e)
  yields_error t e h = record { follows = h; value = λ y f. absurd cc }

  pub yields_same : (x : X) → P s x → Yields files ws s P (s, Ok x)
  yields_same x p = yields_value s x (follows_same files ws s) p

  pub yields_thrown : (e : Thrown) → Yields files ws s P (s, Err e)
  yields_thrown e = yields_error s e (follows_same files ws s)

-- one after the other
pub yields_then : {X Y : Type 0} (files : List File) (ws us : List ClassKey) (s : State) (P : State → X → Type 0) (Q : State → Y → Type 0) (o : Outcome X) (next : State → X → Outcome Y) → WaitToo ws us
    → Yields files us s P o → ((t : State) (x : X) → Follows files us s t → P t x → Yields files ws t Q (next t x)) → Yields files ws s Q (and_then o next)
yields_then files ws us s P Q (t, Ok x) next more h k =
    let r = k t x h.follows (h.value x refl) in
    record { follows = follows_onward files ws us s t (next t x).0 more h.follows r.follows; value = r.value }
yields_then files ws us s P Q (t, Err e) next more h k = yields_error files ws s Q t e (follows_onward files ws us s t t more h.follows (follows_same files ws t))
