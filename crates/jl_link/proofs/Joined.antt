-- Whether constraints join two loaders, against chains of them.
use Rattle.std.proofs.Common.{◌≡◌, ◌⊎◌, ◌==◌, ◌&&◌, ◌||◌, ℕ, zero, suc, List, [], ◌∷◌, inl, inr, ⊎_elim, refl, sym, ap, subst, Bool, true, false, arith}
use Rattle.std.specs.Prelude.{Contains}
use Rattle.std.specs.Cmp.Lexicographic.{bytes_decides}
use Rattle.std.proofs.lemmas.Bool.Decides.{nat_tests}
use Rattle.jl_logic.specs.Order.{is_text}
use Rattle.jl_logic.proofs.Rising.{contains_head, contains_tail, contains_cases, contains_nothing}
use Rattle.jl_prim.specs.declared.numbers.LoaderId.{LoaderId}
use Rattle.jl_loaders.specs.declared.constraint.Constraint.{Constraint}
use Rattle.jl_loaders.specs.Constraints.{constraint, IsEntry, IsChain, AreJoined}
use Rattle.jl_loaders.proofs.Joined.{joined_itself, joined_then, joined_more}
use Rattle.jl_link.specs.Joining.{are_joined}

-- ---- tests

or_cases : (x y : Bool) → (x || y) ≡ true → (x ≡ true) ⊎ (y ≡ true)
or_cases true y e = inl refl
or_cases false y e = inr e

and_both : (x y : Bool) → (x && y) ≡ true → (x ≡ true) × (y ≡ true)
and_both true y e = (refl, e)
and_both false y e = absurd cc

or_one : (x y : Bool) → x ≡ true → (x || y) ≡ true
or_one true y e = refl
or_one false y e = absurd cc

or_other : (x y : Bool) → y ≡ true → (x || y) ≡ true
or_other true y e = refl
or_other false y e = e

and_of : (x y : Bool) → x ≡ true → y ≡ true → (x && y) ≡ true
and_of true y e f = f
and_of false y e f = absurd cc

pub same_loader : (a b : LoaderId) → a.0 ≡ b.0 → a ≡ b
same_loader a b e = ap (λ (k : ℕ). let x : LoaderId = record { 0 = k } in x) e

number_same : (m n : ℕ) → (m == n) ≡ true → m ≡ n
number_same m n e = grind (arith, nat_tests)

number_itself : (m n : ℕ) → m ≡ n → (m == n) ≡ true
number_itself m n e = grind (arith, nat_tests)

-- ---- chains of one entry more in front

module _ (c : Constraint) (cs : List Constraint) (name : List ℕ) where
  abbrev More : List Constraint
  More = c ∷ cs

  -- the entry, in one direction or the other
  abbrev IsNew : LoaderId → LoaderId → Type 0
  IsNew a b = (c.name ≡ name) × (((c.one ≡ a) × (c.other ≡ b)) ⊎ ((c.one ≡ b) × (c.other ≡ a)))

  -- a way over the entry
  abbrev IsOver : LoaderId → LoaderId → Type 0
  IsOver a b = (c.name ≡ name) × ((AreJoined cs name a c.one × AreJoined cs name c.other b) ⊎ (AreJoined cs name a c.other × AreJoined cs name c.one b))

  new_is : (a b : LoaderId) → c ≡ constraint name a b → (c.name ≡ name) × ((c.one ≡ a) × (c.other ≡ b))
  new_is a b e = (ap (λ (k : Constraint). k.name) e, (ap (λ (k : Constraint). k.one) e, ap (λ (k : Constraint). k.other) e))

  entry_cases : (a b : LoaderId) → IsEntry More name a b → IsEntry cs name a b ⊎ IsNew a b
  entry_cases a b e =
      ⊎_elim
      (λ k. ⊎_elim (λ i. let r = new_is a b i in inr (r.0, inl r.1)) (λ m. inl (inl m)) (contains_cases c (constraint name a b) cs k))
      (λ k. ⊎_elim (λ i. let r = new_is b a i in inr (r.0, inr r.1)) (λ m. inl (inr m)) (contains_cases c (constraint name b a) cs k))
      e

  entry_kept : (a b : LoaderId) → IsEntry cs name a b → IsEntry More name a b
  entry_kept a b e = ⊎_elim (λ k. inl (contains_tail c (constraint name a b) cs k)) (λ k. inr (contains_tail c (constraint name b a) cs k)) e

  chain_kept : (n : ℕ) (a b : LoaderId) → IsChain cs name n a b → IsChain More name n a b
  chain_kept zero a b h = h
  chain_kept (suc n) a b h = (h.0, chain_kept n a h.0 h.1, entry_kept h.0 b h.2)

  joined_kept : (a b : LoaderId) → AreJoined cs name a b → AreJoined More name a b
  joined_kept a b h = (h.0, chain_kept h.0 a b h.1)

  entry_new : c.name ≡ name → IsEntry More name c.one c.other
  entry_new e = inl (subst (λ (q : List ℕ). Contains More (constraint q c.one c.other)) e (contains_head c cs))

  over_joins : (a b : LoaderId) → IsOver a b → AreJoined More name a b
  over_joins a b (e, way) =
      ⊎_elim
      (λ w. joined_then More name a c.other b (joined_more More name a c.one c.other (joined_kept a c.one w.0) (entry_new e)) (joined_kept c.other b w.1))
      (λ w. joined_then More name a c.one b (joined_more More name a c.other c.one (joined_kept a c.other w.0) (⊎_elim inr inl (entry_new e))) (joined_kept c.one b w.1))
      way

  -- to a loader that is the same
  onward : (a d b : LoaderId) → AreJoined cs name a d → d ≡ b → AreJoined cs name a b
  onward a d b h e = subst (AreJoined cs name a) e h

  first_step : (a d b : LoaderId) → AreJoined cs name a d → IsNew d b → IsOver a b
  first_step a d b h (e, way) = (
    e,
    ⊎_elim
        (λ w. inl (onward a d c.one h (sym w.0), onward c.other c.other b (joined_itself cs name c.other) w.1))
        (λ w. inr (onward a d c.other h (sym w.1), onward c.one c.one b (joined_itself cs name c.one) w.0))
        way,
  )

  next_old : (a d b : LoaderId) → IsOver a d → IsEntry cs name d b → IsOver a b
  next_old a d b (e, way) k = (e, ⊎_elim (λ w. inl (w.0, joined_more cs name c.other d b w.1 k)) (λ w. inr (w.0, joined_more cs name c.one d b w.1 k)) way)

  next_new : (a d b : LoaderId) → IsOver a d → IsNew d b → AreJoined cs name a b ⊎ IsOver a b
  next_new a d b (e, way) (f, new) =
      ⊎_elim
      (λ w. ⊎_elim
      (λ k. inr (e, inl (w.0, onward c.other c.other b (joined_itself cs name c.other) k.1)))
      (λ k. inl (onward a c.one b w.0 k.0))
      new)
      (λ w. ⊎_elim
      (λ k. inl (onward a c.other b w.0 k.1))
      (λ k. inr (e, inr (w.0, onward c.one c.one b (joined_itself cs name c.one) k.0)))
      new)
      way

  chain_cases : (n : ℕ) (a b : LoaderId) → IsChain More name n a b → AreJoined cs name a b ⊎ IsOver a b
  chain_cases zero a b h = inl (0, h)
  chain_cases (suc n) a b (d, h, e) =
      ⊎_elim
      (λ old. ⊎_elim (λ was. inl (joined_more cs name a d b old was)) (λ new. inr (first_step a d b old new)) (entry_cases d b e))
      (λ over. ⊎_elim (λ was. inr (next_old a d b over was)) (λ new. next_new a d b over new) (entry_cases d b e))
      (chain_cases n a d h)

-- ---- the test

none_joined : (name : List ℕ) (n : ℕ) (a b : LoaderId) → IsChain [] name n a b → a.0 ≡ b.0
none_joined name zero a b e = ap (λ (x : LoaderId). x.0) e
none_joined name (suc n) a b h = ⊎_elim (λ k. contains_nothing (constraint name h.0 b) k) (λ k. contains_nothing (constraint name b h.0) k) h.2

pub joined_tested : (cs : List Constraint) (name : List ℕ) (a b : LoaderId) → AreJoined cs name a b → are_joined cs name a b ≡ true
unfolding are_joined
joined_tested [] name a b h = number_itself a.0 b.0 (none_joined name h.0 a b h.1)
joined_tested (c ∷ cs) name a b h =
    ⊎_elim
    (λ old. or_one (are_joined cs name a b) _ (joined_tested cs name a b old))
    (λ over.
    or_other (are_joined cs name a b) _
    (and_of (is_text c.name name) _ ((bytes_decides c.name name).1 over.0)
    (⊎_elim
    (λ w. or_one (are_joined cs name a c.one && are_joined cs name c.other b) _ (and_of (are_joined cs name a c.one) _ (joined_tested cs name a c.one w.0) (joined_tested cs name c.other b w.1)))
    (λ w. or_other (are_joined cs name a c.one && are_joined cs name c.other b) _ (and_of (are_joined cs name a c.other) _ (joined_tested cs name a c.other w.0) (joined_tested cs name c.one b w.1)))
    over.1)))
    (chain_cases c cs name h.0 a b h.1)

pub tested_joined : (cs : List Constraint) (name : List ℕ) (a b : LoaderId) → are_joined cs name a b ≡ true → AreJoined cs name a b
unfolding are_joined
tested_joined [] name a b e = (0, same_loader a b (number_same a.0 b.0 e))
tested_joined (c ∷ cs) name a b e =
    ⊎_elim
    (λ old. joined_kept c cs name a b (tested_joined cs name a b old))
    (λ over.
    let both = and_both (is_text c.name name) _ over in
    let same : c.name ≡ name = (bytes_decides c.name name).0 both.0 in
    let way = ⊎_elim
    (λ w. let p = and_both (are_joined cs name a c.one) _ w in inl (tested_joined cs name a c.one p.0, tested_joined cs name c.other b p.1))
    (λ w. let p = and_both (are_joined cs name a c.other) _ w in inr (tested_joined cs name a c.other p.0, tested_joined cs name c.one b p.1))
    (or_cases (are_joined cs name a c.one && are_joined cs name c.other b) _ both.1) in
    over_joins c cs name a b (same, way))
    (or_cases (are_joined cs name a b) _ e)
