-- Leads do not move: they need no more fuel than the number of the loader, and later loaders do not change them.
use Rattle.std.proofs.Common.{◌≡◌, ◌<◌, ◌≤◌, ℕ, zero, suc, List, [], ◌∷◌, ◌++◌, length, slice_get, Option, Some, None, ⊎_elim, refl, sym, ◌∙◌, ap, ap₂, subst, arith}
use Rattle.std.specs.Prelude.{⊤}
use Rattle.std.specs.Option.{option_or}
use Rattle.jl_logic.specs.Lists.{IsFront}
use Rattle.jl_names.specs.Names.{package_of}
use Rattle.jl_prim.specs.declared.numbers.ModuleId.{ModuleId}
use Rattle.jl_prim.specs.declared.numbers.LoaderId.{LoaderId}
use Rattle.jl_prim.specs.declared.declaration.ParentLoader.{ParentLoader}
use Rattle.jl_prim.specs.declared.declaration.ParentLoader.TheVariants.{Null, Loader}
use Rattle.jl_loaders.specs.Loaders.{State, Parts, IsLoader, ParentExists, numbered, had_by, if_same, base_lead, parent_in, lead_by, lead, module_for}
use Rattle.jl_loaders.specs.Laws.{ParentsBelow, Grows}

-- ---- numbers

front_place : {X : Type 0} (xs ys : List X) (n : ℕ) → n < length xs → slice_get (xs ++ ys) n ≡ slice_get xs n
front_place [] ys n lt = absurd (omega arith)
front_place (x ∷ xs) ys zero lt = refl
front_place (x ∷ xs) ys (suc n) lt = front_place xs ys n (omega arith)

-- a loader keeps its number
pub kept_number : (xs ys : List Parts) (n : ℕ) → IsFront xs ys → 0 < n → n ≤ length xs → numbered ys n ≡ numbered xs n
kept_number xs ys zero front lt le = absurd (omega arith)
kept_number xs ys (suc n) front lt le = ap (λ (l : List Parts). slice_get l n) front.1 ∙ front_place xs front.0 n (omega arith)

-- ---- fuel

-- the number of a parent
abbrev pub fuel_of : ParentLoader → ℕ
fuel_of Null = 0
fuel_of (Loader l) = l.0

-- where a parent leads
abbrev pub lead_of : State → ParentLoader → List ℕ → Option ModuleId
lead_of s q p = lead_by (fuel_of q) s q p

-- so much fuel is enough for the parent
abbrev pub IsEnough : ℕ → ParentLoader → Type 0
IsEnough n Null = ⊤
IsEnough n (Loader l) = (0 < l.0) × (l.0 ≤ n)

pub null_lead : (n : ℕ) (s : State) (p : List ℕ) → lead_by n s Null p ≡ base_lead s p
unfolding lead_by
null_lead zero s p = refl
null_lead (suc n) s p = refl

parent_enough : (ls : List Parts) (j n : ℕ) → ParentsBelow ls → j ≤ suc n → IsEnough n (parent_in (numbered ls j))
parent_enough ls j n below le = by (numbered ls j) refl
  where
    of_parent : (l : Parts) → numbered ls j ≡ Some l → (q : ParentLoader) → l.parent ≡ q → IsEnough n q
    of_parent l e Null f = tt
    of_parent l e (Loader p) f = let b = below j l p e f in (b.0, omega (arith, b.1))

    by : (o : Option Parts) → numbered ls j ≡ o → IsEnough n (parent_in o)
    by None e = tt
    by (Some l) e = of_parent l e l.parent refl

pub same_fuel : (s : State) (p : List ℕ) → ParentsBelow s.loaders → (n m : ℕ) (q : ParentLoader) → IsEnough n q → IsEnough m q → lead_by n s q p ≡ lead_by m s q p
unfolding lead_by
same_fuel s p below n m Null a b = null_lead n s p ∙ sym (null_lead m s p)
same_fuel s p below zero m (Loader l) a b = absurd (omega arith)
same_fuel s p below (suc n) zero (Loader l) a b = absurd (omega arith)
same_fuel s p below (suc n) (suc m) (Loader l) a b =
    ap (option_or (had_by (numbered s.loaders l.0) p))
    (same_fuel s p below n m (parent_in (numbered s.loaders l.0)) (parent_enough s.loaders l.0 n below a.1) (parent_enough s.loaders l.0 m below b.1))

own_fuel : (n : ℕ) (q : ParentLoader) → IsEnough n q → IsEnough (fuel_of q) q
own_fuel n Null a = tt
own_fuel n (Loader l) a = (a.0, omega arith)

-- a loader leads to what it has, or else to where its parent leads
pub lead_here : (s : State) (l : LoaderId) (p : List ℕ) (x : Parts) → ParentsBelow s.loaders → 0 < l.0 → numbered s.loaders l.0 ≡ Some x → lead_of s (Loader l) p ≡ option_or (module_for x p) (lead_of s x.parent p)
unfolding lead_by
lead_here s l p x below lt e = by l.0 refl
  where
    enough : (k : ℕ) → l.0 ≡ suc k → IsEnough k x.parent
    enough k i = subst (λ (o : Option Parts). IsEnough k (parent_in o)) e (parent_enough s.loaders l.0 k below (omega arith))

    by : (k : ℕ) → l.0 ≡ k → lead_by k s (Loader l) p ≡ option_or (module_for x p) (lead_of s x.parent p)
    by zero i = absurd (omega arith)
    by (suc k) i =
        ap (λ (o : Option Parts). option_or (had_by o p) (lead_by k s (parent_in o) p)) e
        ∙ ap (option_or (module_for x p)) (same_fuel s p below k (fuel_of x.parent) x.parent (enough k i) (own_fuel k x.parent (enough k i)))

module _ (s : State) (l : LoaderId) (p : List ℕ) (x : Parts) (below : ParentsBelow s.loaders) (lt : 0 < l.0) (e : numbered s.loaders l.0 ≡ Some x) where
  -- it leads to what it has
  pub lead_found : (m : ModuleId) → module_for x p ≡ Some m → lead_of s (Loader l) p ≡ Some m
  lead_found m h = lead_here s l p x below lt e ∙ ap (λ (o : Option ModuleId). option_or o (lead_of s x.parent p)) h

  -- or to where its parent leads
  pub lead_onward : module_for x p ≡ None → lead_of s x.parent p ≡ lead_of s (Loader l) p
  lead_onward h = sym (lead_here s l p x below lt e ∙ ap (λ (o : Option ModuleId). option_or o (lead_of s x.parent p)) h)

  pub parent_below : fuel_of x.parent < l.0
  parent_below = by x.parent refl
    where
      by : (q : ParentLoader) → x.parent ≡ q → fuel_of q < l.0
      by Null i = lt
      by (Loader r) i = (below l.0 x r e i).1

-- ---- states with the same loaders

pub lead_alike : (f g : State) → g.loaders ≡ f.loaders → g.base ≡ f.base → (n : ℕ) (q : ParentLoader) (p : List ℕ) → lead_by n g q p ≡ lead_by n f q p
unfolding lead_by
lead_alike f g e b zero Null p = ap₂ (λ (o : Option ModuleId) (ls : List Parts). if_same o (had_by (numbered ls 1) p)) b e
lead_alike f g e b (suc n) Null p = ap₂ (λ (o : Option ModuleId) (ls : List Parts). if_same o (had_by (numbered ls 1) p)) b e
lead_alike f g e b zero (Loader l) p = refl
lead_alike f g e b (suc n) (Loader l) p =
    ap (option_or (had_by (numbered g.loaders l.0) p)) (lead_alike f g e b n (parent_in (numbered g.loaders l.0)) p)
    ∙ ap (λ (ls : List Parts). option_or (had_by (numbered ls l.0) p) (lead_by n f (parent_in (numbered ls l.0)) p)) e

-- ---- more loaders

-- where there is a loader, the module of java.base stays
base_stays : (f g : State) → Grows f g → 0 < length f.loaders → g.base ≡ f.base
base_stays f g h lt = ⊎_elim (λ e. let none : 0 < 0 = subst (λ (ls : List Parts). 0 < length ls) e lt in absurd (omega arith)) (λ e. e) h.base

base_kept : (f g : State) (p : List ℕ) → Grows f g → 0 < length f.loaders → base_lead g p ≡ base_lead f p
base_kept f g p h lt = ap₂ (λ (o : Option ModuleId) (x : Option Parts). if_same o (had_by x p)) (base_stays f g h lt) (kept_number f.loaders g.loaders 1 h.loaders (omega arith) lt)

parent_there : (f : State) (j : ℕ) → ParentsBelow f.loaders → j ≤ length f.loaders → ParentExists f (parent_in (numbered f.loaders j))
parent_there f j below le = by (numbered f.loaders j) refl
  where
    of_parent : (l : Parts) → numbered f.loaders j ≡ Some l → (q : ParentLoader) → l.parent ≡ q → ParentExists f q
    of_parent l e Null r = tt
    of_parent l e (Loader p) r = let b = below j l p e r in (b.0, omega (arith, b.1))

    by : (o : Option Parts) → numbered f.loaders j ≡ o → ParentExists f (parent_in o)
    by None e = tt
    by (Some l) e = of_parent l e l.parent refl

pub parent_is_there : (f : State) (j : ℕ) (x : Parts) → ParentsBelow f.loaders → j ≤ length f.loaders → numbered f.loaders j ≡ Some x → ParentExists f x.parent
parent_is_there f j x below le e = subst (λ (o : Option Parts). ParentExists f (parent_in o)) e (parent_there f j below le)

lead_kept : (f g : State) (p : List ℕ) → ParentsBelow f.loaders → Grows f g → 0 < length f.loaders → (n : ℕ) (q : ParentLoader) → ParentExists f q → lead_by n g q p ≡ lead_by n f q p
unfolding lead_by
lead_kept f g p below h lt zero Null there = base_kept f g p h lt
lead_kept f g p below h lt (suc n) Null there = base_kept f g p h lt
lead_kept f g p below h lt zero (Loader l) there = refl
lead_kept f g p below h lt (suc n) (Loader l) there =
    ap (λ (o : Option Parts). option_or (had_by o p) (lead_by n g (parent_in o) p)) (kept_number f.loaders g.loaders l.0 h.loaders there.0 there.1)
    ∙ ap (option_or (had_by (numbered f.loaders l.0) p)) (lead_kept f g p below h lt n (parent_in (numbered f.loaders l.0)) (parent_there f l.0 below there.1))

pub lead_stays : (f g : State) (l : LoaderId) (name : List ℕ) → ParentsBelow f.loaders → Grows f g → IsLoader f l → lead g l name ≡ lead f l name
lead_stays f g l name below h there = lead_kept f g (package_of name) below h (omega arith) l.0 (Loader l) there
