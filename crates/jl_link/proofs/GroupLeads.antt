-- The one module to which a group leads a name, and what two groups make of one more constraint.
use Rattle.std.proofs.Common.{◌≡◌, ◌≢◌, ◌<◌, ◌≤◌, ◌==◌, ℕ, zero, suc, List, [], ◌∷◌, ◌++◌, length, ⊎_elim, refl, sym, ◌∙◌, ap, ap₂, subst, Option, Some, None, Bool, true, false, arith, if◌then◌else◌}
use Rattle.std.specs.Prelude.{Contains}
use Rattle.std.specs.Option.{option_or}
use Rattle.std.proofs.lemmas.Bool.{cases_eq}
use Rattle.std.proofs.lemmas.Bool.Decides.{nat_tests}
use Rattle.std.proofs.lemmas.Option.{none-some}
use Rattle.std.proofs.lemmas.List.Elements.{Contains-append_left, Contains-push}
use Rattle.jl_logic.proofs.Rising.{contains_cases, contains_nothing}
use Rattle.jl_prim.specs.declared.numbers.ModuleId.{ModuleId}
use Rattle.jl_prim.specs.declared.numbers.LoaderId.{LoaderId}
use Rattle.jl_loaders.specs.Loaders.{State, IsLoader, lead}
use Rattle.jl_loaders.specs.Constraints.{constraint, IsChain, AreJoined, GroupLeads, IsViolated, with_constraint}
use Rattle.jl_loaders.specs.Joins.{IsGroupLead}
use Rattle.jl_loaders.specs.Laws.{AreSound, AreOfLoaders}
use Rattle.jl_loaders.proofs.Joined.{joined_back, joined_then}
use Rattle.jl_loaders.proofs.Sound.{same_module, clashes}
use Rattle.jl_link.specs.Members.{first_given}
use Rattle.jl_link.specs.Joining.{are_joined, loaders_to, joined_lead, group_lead}
use Rattle.jl_link.specs.Constraining.{apart}
use Rattle.jl_link.proofs.Joined.{same_loader, joined_tested, tested_joined}

-- ---- the first for which there is something

module _ {X Y : Type 0} (f : X → Option Y) where
  given_found : (xs : List X) (y : Y) → first_given f xs ≡ Some y → (x : X) × (f x ≡ Some y)
  given_found [] y e = absurd (none-some y e)
  given_found (x ∷ xs) y e = by (f x) refl (given_found xs y) e
    where
      by : (o : Option Y) → f x ≡ o → (first_given f xs ≡ Some y → (z : X) × (f z ≡ Some y)) → option_or o (first_given f xs) ≡ Some y → (z : X) × (f z ≡ Some y)
      by None i more h = more h
      by (Some z) i more h = (x, i ∙ h)

  given_none : (xs : List X) (z : X) → first_given f xs ≡ None → Contains xs z → f z ≡ None
  given_none [] z e c = contains_nothing z c
  given_none (x ∷ xs) z e c = by (f x) refl (λ rest k. given_none xs z rest k) e
    where
      by : (o : Option Y) → f x ≡ o → (first_given f xs ≡ None → Contains xs z → f z ≡ None) → option_or o (first_given f xs) ≡ None → f z ≡ None
      by None i more h = ⊎_elim (λ same. ap f (sym same) ∙ i) (λ k. more h k) (contains_cases x z xs c)
      by (Some y) i more h = absurd (none-some y (sym h))

-- ---- loaders by their numbers

loader_in : (n : ℕ) (l : LoaderId) → 0 < l.0 → l.0 ≤ n → Contains (loaders_to n) l
unfolding loaders_to
loader_in zero l lt le = absurd (omega arith)
loader_in (suc n) l lt le =
    ⊎_elim
    (λ (e : l.0 ≡ suc n). subst (Contains (loaders_to n ++ record { 0 = suc n } ∷ [])) (same_loader (record { 0 = suc n }) l (sym e)) (Contains-push (loaders_to n) (record { 0 = suc n })))
    (λ ne. Contains-append_left (loaders_to n) (record { 0 = suc n } ∷ []) l (loader_in n l lt (omega (arith, ne))))
    (cases_eq l.0 (suc n))

-- what is joined to a loader that is there, is there
chain_there : (s : State) (name : List ℕ) (n : ℕ) (a b : LoaderId) → AreOfLoaders s → IsLoader s a → IsChain s.constraints name n a b → IsLoader s b
chain_there s name zero a b named there h = subst (IsLoader s) h there
chain_there s name (suc n) a b named there h = ⊎_elim (λ c. (named (constraint name h.0 b) c).1) (λ c. (named (constraint name b h.0) c).0) h.2

pub joined_there : (s : State) (name : List ℕ) (a b : LoaderId) → AreOfLoaders s → IsLoader s a → AreJoined s.constraints name a b → IsLoader s b
joined_there s name a b named there h = chain_there s name h.0 a b named there h.1

-- ---- where a group leads

-- the loaders of a group lead to one module
one_lead : (s : State) (name : List ℕ) (l : LoaderId) (m n : ModuleId) → (IsViolated s → ⊥) → GroupLeads s name l m → GroupLeads s name l n → m ≡ n
one_lead s name l m n stands (a, j, e) (b, k, f) =
    ⊎_elim (λ i. same_module m n i)
    (λ ne. absurd (stands (name, a, m, n, e, (b, joined_then s.constraints name a l b (joined_back s.constraints name l a j) k, f), λ i. ne (ap (λ (x : ModuleId). x.0) i))))
    (cases_eq m.0 n.0)

module _ (s : State) (name : List ℕ) (l : LoaderId) where
  lead_found : (k : LoaderId) (m : ModuleId) → joined_lead s name l k ≡ Some m → GroupLeads s name l m
  lead_found k m e = by (are_joined s.constraints name l k) refl e
    where
      by : (b : Bool) → are_joined s.constraints name l k ≡ b → (if b then lead s k name else None) ≡ Some m → GroupLeads s name l m
      by true i h = (k, tested_joined s.constraints name l k i, h)
      by false i h = absurd (none-some m h)

  led_on : (k : LoaderId) → AreJoined s.constraints name l k → joined_lead s name l k ≡ lead s k name
  led_on k j = ap (λ (b : Bool). if b then lead s k name else None) (joined_tested s.constraints name l k j)

  pub group_leads : AreOfLoaders s → IsLoader s l → IsGroupLead s name l (group_lead s name l)
  group_leads named there = by (group_lead s name l) refl
    where
      none_left : group_lead s name l ≡ None → (m : ModuleId) (b : LoaderId) → AreJoined s.constraints name l b → lead s b name ≡ Some m → ⊥
      none_left e m b j i =
          let k = joined_there s name l b named there j in
          none-some m (sym (sym (led_on b j) ∙ given_none (joined_lead s name l) (loaders_to (length s.loaders)) b e (loader_in (length s.loaders) b k.0 k.1)) ∙ i)

      by : (o : Option ModuleId) → group_lead s name l ≡ o → IsGroupLead s name l o
      by None e = λ m (b, j, i). none_left e m b j i
      by (Some m) e = let r = given_found (joined_lead s name l) (loaders_to (length s.loaders)) m e in lead_found r.0 m r.1

  -- it is the module to which one of the group leads
  pub group_is : AreSound s → IsLoader s l → (m : ModuleId) → GroupLeads s name l m → group_lead s name l ≡ Some m
  group_is sound there m g = by (group_lead s name l) (group_leads sound.named there)
    where
      by : (o : Option ModuleId) → IsGroupLead s name l o → o ≡ Some m
      by None h = absurd (h m g)
      by (Some x) h = ap Some (one_lead s name l x m sound.stand h g)

-- ---- two groups

not_same : (m n : ModuleId) → m ≢ n → (m.0 == n.0) ≡ false
not_same m n ne = ⊎_elim (λ e. absurd (ne (same_module m n e))) (λ other. grind (arith, nat_tests, other)) (cases_eq m.0 n.0)

pub apart_are : (m n : ModuleId) → m ≢ n → apart (Some m) (Some n) ≡ Some (m, n)
apart_are m n ne = ap (λ (b : Bool). if b then None else Some (m, n)) (not_same m n ne)

pub clash_apart : (s : State) (name : List ℕ) (a b : LoaderId) (m n : ModuleId) → AreSound s → IsLoader s a → IsLoader s b → GroupLeads s name a m → GroupLeads s name b n → m ≢ n
    → apart (group_lead s name a) (group_lead s name b) ≡ Some (m, n)
clash_apart s name a b m n sound one other g h ne = ap₂ apart (group_is s name a sound one m g) (group_is s name b sound other n h) ∙ apart_are m n ne

fits_cases : (s : State) (name : List ℕ) (a b : LoaderId) (o p : Option ModuleId) → (IsViolated (with_constraint name a b s) → ⊥) → IsGroupLead s name a o → IsGroupLead s name b p → apart o p ≡ None
fits_cases s name a b None None stands g h = refl
fits_cases s name a b None (Some n) stands g h = refl
fits_cases s name a b (Some m) None stands g h = refl
fits_cases s name a b (Some m) (Some n) stands g h =
    ⊎_elim
    (λ (e : m.0 ≡ n.0). let t : (m.0 == n.0) ≡ true = grind (arith, nat_tests, e) in ap (λ (b : Bool). if b then None else Some (m, n)) t)
    (λ ne. absurd (stands (clashes s name name a b m n refl g h (λ i. ne (ap (λ (x : ModuleId). x.0) i))).violated))
    (cases_eq m.0 n.0)

pub fits_apart : (s : State) (name : List ℕ) (a b : LoaderId) → AreSound s → IsLoader s a → IsLoader s b → (IsViolated (with_constraint name a b s) → ⊥) → apart (group_lead s name a) (group_lead s name b) ≡ None
fits_apart s name a b sound one other stands = fits_cases s name a b (group_lead s name a) (group_lead s name b) stands (group_leads s name a sound.named one) (group_leads s name b sound.named other)
