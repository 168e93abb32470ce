-- Constraints that stand go on to stand, and what one more makes of them.
use Rattle.std.proofs.Common.{◌≡◌, ◌≢◌, ◌⊎◌, ◌<◌, ◌≤◌, ◌+◌, ℕ, zero, suc, List, [], ◌∷◌, ◌++◌, length, length-append, Option, Some, None, inl, inr, ⊎_elim, refl, sym, ◌∙◌, ap, subst, arith}
use Rattle.std.specs.Prelude.{Contains}
use Rattle.std.proofs.lemmas.Bool.{cases_eq, cases_lt}
use Rattle.std.proofs.lemmas.List.{append-nil, append_assoc}
use Rattle.std.proofs.lemmas.List.Elements.{Contains-push_cases}
use Rattle.jl_names.specs.Names.{package_of}
use Rattle.jl_prim.specs.declared.numbers.ModuleId.{ModuleId}
use Rattle.jl_prim.specs.declared.numbers.LoaderId.{LoaderId}
use Rattle.jl_prim.specs.declared.declaration.ParentLoader.{ParentLoader}
use Rattle.jl_prim.specs.declared.declaration.ParentLoader.TheVariants.{Loader}
use Rattle.jl_loaders.specs.declared.constraint.Constraint.{Constraint}
use Rattle.jl_loaders.specs.Loaders.{State, Parts, IsLoader, ParentExists, numbered, lead}
use Rattle.jl_loaders.specs.Constraints.{constraint, IsEntry, IsChain, AreJoined, GroupLeads, IsViolated, with_constraint}
use Rattle.jl_loaders.specs.Joins.{IsGroupLead, Agree}
use Rattle.jl_loaders.specs.Laws.{ParentsBelow, AreOfLoaders, AreSound, Grows}
use Rattle.jl_loaders.specs.Refusals.{IsClash}
use Rattle.jl_loaders.proofs.Joined.{joined_back, joined_then, joined_cases, joined_over}
use Rattle.jl_loaders.proofs.Leads.{lead_stays, lead_alike, kept_number}

-- ---- growth

front_of_none : (xs ys : List Parts) → xs ++ ys ≡ [] → xs ≡ []
front_of_none [] ys e = refl
front_of_none (x ∷ xs) ys e = absurd cc

none_before : (f g : State) → Grows f g → g.loaders ≡ [] → f.loaders ≡ []
none_before f g h e = front_of_none f.loaders h.loaders.0 (sym h.loaders.1 ∙ e)

pub grows_onward : (f g h : State) → Grows f g → Grows g h → Grows f h
grows_onward f g h a b = record {
  loaders = (a.loaders.0 ++ b.loaders.0, b.loaders.1 ∙ ap (λ (l : List Parts). l ++ b.loaders.0) a.loaders.1 ∙ append_assoc f.loaders a.loaders.0 b.loaders.0);
  base = ⊎_elim inl (λ e. ⊎_elim (λ none. inl (none_before f g a none)) (λ i. inr (i ∙ e)) b.base) a.base;
}

still_loader : (f g : State) (l : LoaderId) → Grows f g → IsLoader f l → IsLoader g l
still_loader f g l h there = (there.0, omega (arith, there.1, ap length h.loaders.1, length-append f.loaders h.loaders.0))

-- ---- ends of chains

entry_ends : (f : State) (name : List ℕ) (a b : LoaderId) → AreOfLoaders f → IsEntry f.constraints name a b → IsLoader f a × IsLoader f b
entry_ends f name a b named e = ⊎_elim (λ c. let r = named (constraint name a b) c in (r.0, r.1)) (λ c. let r = named (constraint name b a) c in (r.1, r.0)) e

chain_ends : (f : State) (name : List ℕ) (n : ℕ) (a b : LoaderId) → AreOfLoaders f → IsChain f.constraints name (suc n) a b → IsLoader f a × IsLoader f b
chain_ends f name zero a b named h =
    let e = entry_ends f name h.0 b named h.2 in
    (subst (IsLoader f) (sym h.1) e.0, e.1)
chain_ends f name (suc n) a b named h = ((chain_ends f name n a h.0 named h.1).0, (entry_ends f name h.0 b named h.2).1)

some_same : (m n : ModuleId) (o : Option ModuleId) → o ≡ Some m → o ≡ Some n → m ≡ n
some_same m n o e f = cc

pub violated_stays : (f g : State) → AreSound f → Grows f g → g.constraints ≡ f.constraints → IsViolated g → ⊥
violated_stays f g sound h same (name, a, m, n, e, (b, (k, chain), i), apart) = by k (subst (λ (cs : List Constraint). IsChain cs name k a b) same chain)
  where
    by : (k : ℕ) → IsChain f.constraints name k a b → ⊥
    by zero c = apart (some_same m n (lead g a name) e (ap (λ (x : LoaderId). lead g x name) c ∙ i))
    by (suc k) c =
        let ends = chain_ends f name k a b sound.named c in
        sound.stand (name, a, m, n, sym (lead_stays f g a name sound.below h ends.0) ∙ e, (b, (suc k, c), sym (lead_stays f g b name sound.below h ends.1) ∙ i), apart)

-- ---- the same constraints

sound_grown : (f g : State) → AreSound f → Grows f g → ParentsBelow g.loaders → g.constraints ≡ f.constraints → AreSound g
sound_grown f g sound h below c = record {
  below = below;
  named = λ k there. let r = sound.named k (subst (λ (cs : List Constraint). Contains cs k) c there) in (still_loader f g k.one h r.0, still_loader f g k.other h r.1);
  stand = violated_stays f g sound h c;
}

-- the same loaders too
pub sound_alike : (f g : State) → g.loaders ≡ f.loaders → (f.loaders ≡ []) ⊎ (g.base ≡ f.base) → g.constraints ≡ f.constraints → AreSound f → AreSound g
sound_alike f g e b c sound =
    sound_grown f g sound (record { loaders = ([], e ∙ sym (append-nil f.loaders)); base = b }) (subst ParentsBelow (sym e) sound.below) c

-- ---- one more loader

last_number : (xs : List Parts) (x : Parts) (n : ℕ) (l : Parts) → numbered (xs ++ x ∷ []) n ≡ Some l → length xs < n → (x ≡ l) × (n ≡ length xs + 1)
last_number xs x zero l e lt = absurd (omega arith)
last_number [] x (suc zero) l e lt = (cc, refl)
last_number [] x (suc (suc n)) l e lt = absurd cc
last_number (y ∷ xs) x (suc zero) l e lt = absurd (omega arith)
last_number (y ∷ xs) x (suc (suc n)) l e lt = let r = last_number xs x (suc n) l e (omega arith) in (r.0, omega (arith, r.1))

below_placed : (f : State) (x : Parts) → ParentsBelow f.loaders → ParentExists f x.parent → ParentsBelow (f.loaders ++ x ∷ [])
below_placed f x below there n l p e i = by n e
  where
    exists : (q : ParentLoader) → q ≡ Loader p → ParentExists f q → IsLoader f p
    exists q r t = subst (ParentExists f) r t

    late : (n : ℕ) → numbered (f.loaders ++ x ∷ []) n ≡ Some l → length f.loaders < n → (0 < p.0) × (p.0 < n)
    late n e lt =
        let r = last_number f.loaders x n l e lt in
        let t = exists x.parent (ap (λ (y : Parts). y.parent) r.0 ∙ i) there in
        (t.0, omega (arith, t.1))

    by : (n : ℕ) → numbered (f.loaders ++ x ∷ []) n ≡ Some l → (0 < p.0) × (p.0 < n)
    by zero e = absurd cc
    by (suc n) e = ⊎_elim (λ (lt : n < length f.loaders). below (suc n) l p (sym (kept_number f.loaders (f.loaders ++ x ∷ []) (suc n) (x ∷ [], refl) (omega arith) (omega arith)) ∙ e) i) (λ (le : length f.loaders ≤ n). late (suc n) e (omega arith)) (cases_lt n (length f.loaders))

pub sound_placed : (f g : State) (x : Parts) → AreSound f → ParentExists f x.parent → g.loaders ≡ f.loaders ++ x ∷ [] → g.base ≡ f.base → g.constraints ≡ f.constraints → AreSound g
sound_placed f g x sound there e b c =
    sound_grown f g sound (record { loaders = (x ∷ [], e); base = inr b }) (subst ParentsBelow (sym e) (below_placed f x sound.below there)) c

-- ---- one more constraint

-- the state with other constraints
abbrev More : State → List ℕ → LoaderId → LoaderId → State
More s name a b = with_constraint name a b s

lead_more : (s : State) (name : List ℕ) (a b l : LoaderId) (q : List ℕ) → lead (More s name a b) l q ≡ lead s l q
lead_more s name a b l q = lead_alike s (More s name a b) refl refl l.0 (Loader l) (package_of q)

pub same_module : (m n : ModuleId) → m.0 ≡ n.0 → m ≡ n
same_module m n e = ap (λ (k : ℕ). let x : ModuleId = record { 0 = k } in x) e

-- the loaders of a group lead to one module
one_lead : (s : State) (name : List ℕ) (l : LoaderId) (m n : ModuleId) → (IsViolated s → ⊥) → GroupLeads s name l m → GroupLeads s name l n → m ≡ n
one_lead s name l m n stands (a, j, e) (b, k, f) =
    ⊎_elim (λ i. same_module m n i)
    (λ ne. absurd (stands (name, a, m, n, e, (b, joined_then s.constraints name a l b (joined_back s.constraints name l a j) k, f), λ i. ne (ap (λ (x : ModuleId). x.0) i))))
    (cases_eq m.0 n.0)

agreed : (s : State) (name : List ℕ) (l l2 : LoaderId) (r r2 : Option ModuleId) (m n : ModuleId) → (IsViolated s → ⊥) → IsGroupLead s name l r → IsGroupLead s name l2 r2 → Agree r r2 → GroupLeads s name l m → GroupLeads s name l2 n → m ≡ n
agreed s name l l2 None r2 m n stands g h agree a b = absurd (g m a)
agreed s name l l2 (Some x) None m n stands g h agree a b = absurd (h n b)
agreed s name l l2 (Some x) (Some y) m n stands g h agree a b = one_lead s name l m x stands a g ∙ agree ∙ one_lead s name l2 y n stands h b

pub fits : (s : State) (name : List ℕ) (l l2 : LoaderId) (r r2 : Option ModuleId) → (IsViolated s → ⊥) → IsGroupLead s name l r → IsGroupLead s name l2 r2 → Agree r r2 → IsViolated (with_constraint name l l2 s) → ⊥
fits s name l l2 r r2 stands g h agree (q, a, m, n, e, (b, j, f), apart) =
    ⊎_elim
    (λ old. stands (q, a, m, n, led_a, (b, old, led_b), apart))
    (λ new. apart (in_groups new.0 new.1.0 new.1.1))
    (joined_cases s.constraints name l l2 q a b j)
  where
    led_a : lead s a q ≡ Some m
    led_a = sym (lead_more s name l l2 a q) ∙ e

    led_b : lead s b q ≡ Some n
    led_b = sym (lead_more s name l l2 b q) ∙ f

    named : (x : LoaderId) (z : LoaderId) (o : ModuleId) → name ≡ q → AreJoined s.constraints q x z → lead s z q ≡ Some o → GroupLeads s name x o
    named x z o i k d = subst (λ (w : List ℕ). GroupLeads s w x o) (sym i) (z, k, d)

    in_groups : name ≡ q → AreJoined s.constraints q l a ⊎ AreJoined s.constraints q l2 a → AreJoined s.constraints q l b ⊎ AreJoined s.constraints q l2 b → m ≡ n
    in_groups i x y =
        ⊎_elim
        (λ k. ⊎_elim (λ d. one_lead s name l m n stands (named l a m i k led_a) (named l b n i d led_b)) (λ d. agreed s name l l2 r r2 m n stands g h agree (named l a m i k led_a) (named l2 b n i d led_b)) y)
        (λ k. ⊎_elim (λ d. sym (agreed s name l l2 r r2 n m stands g h agree (named l b n i d led_b) (named l2 a m i k led_a))) (λ d. one_lead s name l2 m n stands (named l2 a m i k led_a) (named l2 b n i d led_b)) y)
        x

pub clashes : (s : State) (name clashing : List ℕ) (l l2 : LoaderId) (m n : ModuleId) → clashing ≡ name → GroupLeads s name l m → GroupLeads s name l2 n → m ≢ n → IsClash s name l l2 clashing m n
clashes s name clashing l l2 m n is g h apart = record {
  named = is;
  leads = record { first = g; second = h; apart = apart };
  violated = (
    name,
    g.0,
    m,
    n,
    lead_more s name l l2 g.0 name ∙ g.2,
    (h.0, joined_over s.constraints name l l2 g.0 h.0 g.1 h.1, lead_more s name l l2 h.0 name ∙ h.2),
    apart,
  );
}

pub sound_imposed : (f g : State) (name : List ℕ) (l l2 : LoaderId) → AreSound f → IsLoader f l → IsLoader f l2 → (IsViolated (with_constraint name l l2 f) → ⊥) → g ≡ with_constraint name l l2 f → AreSound g
sound_imposed f g name l l2 sound one other stands is =
    let s : AreSound (with_constraint name l l2 f) = record {
      below = sound.below;
      named = λ k c. ⊎_elim (λ old. sound.named k old) (λ new. (subst (λ (x : Constraint). IsLoader f x.one) new one, subst (λ (x : Constraint). IsLoader f x.other) new other)) (Contains-push_cases f.constraints (constraint name l l2) k c);
      stand = stands;
    } in
    subst AreSound (sym is) s
