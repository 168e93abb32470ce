-- Chains of entries of a name, with one entry more too.
use Rattle.std.proofs.Common.{◌≡◌, ◌⊎◌, ℕ, zero, suc, List, [], ◌∷◌, ◌++◌, inl, inr, ⊎_elim, refl, sym, ap, subst}
use Rattle.std.proofs.lemmas.List.Elements.{Contains-append_left, Contains-push, Contains-push_cases}
use Rattle.jl_prim.specs.declared.numbers.LoaderId.{LoaderId}
use Rattle.jl_loaders.specs.declared.constraint.Constraint.{Constraint}
use Rattle.jl_loaders.specs.Constraints.{constraint, IsEntry, IsChain, AreJoined}

module _ (cs : List Constraint) (name : List ℕ) where
  pub entry_back : (a b : LoaderId) → IsEntry cs name a b → IsEntry cs name b a
  entry_back a b e = ⊎_elim inr inl e

  chain_before : (n : ℕ) (a c b : LoaderId) → IsEntry cs name a c → IsChain cs name n c b → IsChain cs name (suc n) a b
  chain_before zero a c b e h = (a, refl, subst (λ (x : LoaderId). IsEntry cs name a x) h e)
  chain_before (suc n) a c b e h = (h.0, chain_before n a c h.0 e h.1, h.2)

  chain_back : (n : ℕ) (a b : LoaderId) → IsChain cs name n a b → IsChain cs name n b a
  chain_back zero a b h = sym h
  chain_back (suc n) a b h = chain_before n b h.0 a (entry_back h.0 b h.2) (chain_back n a h.0 h.1)

  chain_then : (m n : ℕ) (a c b : LoaderId) → IsChain cs name n a c → IsChain cs name m c b → AreJoined cs name a b
  chain_then zero n a c b h k = (n, subst (λ (x : LoaderId). IsChain cs name n a x) k h)
  chain_then (suc m) n a c b h k = let r = chain_then m n a c k.0 h k.1 in (suc r.0, (k.0, r.1, k.2))

  pub joined_itself : (a : LoaderId) → AreJoined cs name a a
  joined_itself a = (0, refl)

  pub joined_back : (a b : LoaderId) → AreJoined cs name a b → AreJoined cs name b a
  joined_back a b h = (h.0, chain_back h.0 a b h.1)

  pub joined_then : (a c b : LoaderId) → AreJoined cs name a c → AreJoined cs name c b → AreJoined cs name a b
  joined_then a c b h k = chain_then k.0 h.0 a c b h.1 k.1

  pub joined_more : (a c b : LoaderId) → AreJoined cs name a c → IsEntry cs name c b → AreJoined cs name a b
  joined_more a c b h e = (suc h.0, (c, h.1, e))

-- ---- one entry more

module _ (cs : List Constraint) (name : List ℕ) (one other : LoaderId) where
  abbrev More : List Constraint
  More = cs ++ constraint name one other ∷ []

  -- the new entry, in one direction or the other
  abbrev IsNew : List ℕ → LoaderId → LoaderId → Type 0
  IsNew q a b = (name ≡ q) × ((one ≡ a) × (other ≡ b)) ⊎ (name ≡ q) × ((one ≡ b) × (other ≡ a))

  new_is : (q : List ℕ) (a b : LoaderId) → constraint name one other ≡ constraint q a b → (name ≡ q) × ((one ≡ a) × (other ≡ b))
  new_is q a b e = (ap (λ (c : Constraint). c.name) e, (ap (λ (c : Constraint). c.one) e, ap (λ (c : Constraint). c.other) e))

  pub entry_cases : (q : List ℕ) (a b : LoaderId) → IsEntry More q a b → IsEntry cs q a b ⊎ IsNew q a b
  entry_cases q a b e =
      ⊎_elim
      (λ c. ⊎_elim (λ k. inl (inl k)) (λ i. inr (inl (new_is q a b i))) (Contains-push_cases cs (constraint name one other) (constraint q a b) c))
      (λ c. ⊎_elim (λ k. inl (inr k)) (λ i. inr (inr (new_is q b a i))) (Contains-push_cases cs (constraint name one other) (constraint q b a) c))
      e

  pub entry_kept : (q : List ℕ) (a b : LoaderId) → IsEntry cs q a b → IsEntry More q a b
  entry_kept q a b e = ⊎_elim (λ c. inl (Contains-append_left cs (constraint name one other ∷ []) (constraint q a b) c)) (λ c. inr (Contains-append_left cs (constraint name one other ∷ []) (constraint q b a) c)) e

  pub entry_new : IsEntry More name one other
  entry_new = inl (Contains-push cs (constraint name one other))

  chain_kept : (q : List ℕ) (n : ℕ) (a b : LoaderId) → IsChain cs q n a b → IsChain More q n a b
  chain_kept q zero a b h = h
  chain_kept q (suc n) a b h = (h.0, chain_kept q n a h.0 h.1, entry_kept q h.0 b h.2)

  pub joined_kept : (q : List ℕ) (a b : LoaderId) → AreJoined cs q a b → AreJoined More q a b
  joined_kept q a b h = (h.0, chain_kept q h.0 a b h.1)

  -- joined to one of the two
  abbrev pub IsBeside : List ℕ → LoaderId → Type 0
  IsBeside q a = AreJoined cs q one a ⊎ AreJoined cs q other a

  beside_more : (q : List ℕ) (a b : LoaderId) → IsBeside q a → IsEntry cs q a b → IsBeside q b
  beside_more q a b h e = ⊎_elim (λ k. inl (joined_more cs q one a b k e)) (λ k. inr (joined_more cs q other a b k e)) h

  -- the far end of the new entry
  beside_new : (q : List ℕ) (c b : LoaderId) → IsNew q c b → IsBeside q b
  beside_new q c b e =
      ⊎_elim (λ i. inr (0, i.1.1)) (λ i. inl (0, i.1.0)) e

  -- the near end of the new entry, and what is joined to it
  beside_before : (q : List ℕ) (a c b : LoaderId) → AreJoined cs q a c → IsNew q c b → IsBeside q a
  beside_before q a c b h e =
      let back = joined_back cs q a c h in
      ⊎_elim (λ i. inl (subst (λ (x : LoaderId). AreJoined cs q x a) (sym i.1.0) back)) (λ i. inr (subst (λ (x : LoaderId). AreJoined cs q x a) (sym i.1.1) back)) e

  new_name : (q : List ℕ) (c b : LoaderId) → IsNew q c b → name ≡ q
  new_name q c b e = ⊎_elim (λ i. i.0) (λ i. i.0) e

  -- two loaders that are joined with it were joined before, or each is joined to one of the two
  chain_cases : (q : List ℕ) (n : ℕ) (a b : LoaderId) → IsChain More q n a b → AreJoined cs q a b ⊎ (name ≡ q) × (IsBeside q a × IsBeside q b)
  chain_cases q zero a b h = inl (0, h)
  chain_cases q (suc n) a b (c, h, e) =
      ⊎_elim
      (λ old. ⊎_elim (λ was. inl (joined_more cs q a c b old was)) (λ new. inr (new_name q c b new, (beside_before q a c b old new, beside_new q c b new))) (entry_cases q c b e))
      (λ r. ⊎_elim (λ was. inr (r.0, (r.1.0, beside_more q c b r.1.1 was))) (λ new. inr (r.0, (r.1.0, beside_new q c b new))) (entry_cases q c b e))
      (chain_cases q n a c h)

  pub joined_cases : (q : List ℕ) (a b : LoaderId) → AreJoined More q a b → AreJoined cs q a b ⊎ (name ≡ q) × (IsBeside q a × IsBeside q b)
  joined_cases q a b h = chain_cases q h.0 a b h.1

  -- and what is joined to the one is joined to what is joined to the other
  pub joined_over : (a b : LoaderId) → AreJoined cs name one a → AreJoined cs name other b → AreJoined More name a b
  joined_over a b h k =
      joined_then More name a other b
      (joined_more More name a one other (joined_back More name one a (joined_kept name one a h)) entry_new)
      (joined_kept name other b k)
