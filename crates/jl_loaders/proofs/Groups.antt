-- Rows of places against chains of entries: what is marked is joined, and where a group leads.
use Rattle.std.proofs.Common.{◌≡◌, ◌⊎◌, ◌<◌, ◌+◌, ◌-◌, ℕ, zero, suc, List, [], ◌∷◌, ◌++◌, length, get_or, slice_get, take, inl, inr, ⊎_elim, refl, sym, ◌∙◌, ap, subst, All, Option, Some, None, Result, Ok, Err, Bool, true, false, true≢false, arith, get_or-set_same, get_or-set_other}
use Rattle.std.specs.Prelude.{Contains, IfOk, IfErr, OnOk}
use Rattle.std.proofs.Math.ListN.{length-set}
use Rattle.std.proofs.lemmas.Bool.{cases_eq}
use Rattle.std.proofs.lemmas.List.{get_or_default, take_more}
use Rattle.std.proofs.lemmas.List.Elements.{All-from_recursion, Contains-append_left, Contains-push, Contains-push_cases}
use Rattle.std.specs.Cmp.Lexicographic.{bytes_decides}
use Rattle.jl_logic.specs.Order.{is_text}
use Rattle.jl_logic.proofs.Rising.{each_from_members}
use Rattle.jl_logic.proofs.Apart.{single}
use Rattle.jl_closure.specs.Reached.{Chain, IsReached}
use Rattle.jl_prim.specs.declared.numbers.ModuleId.{ModuleId}
use Rattle.jl_prim.specs.declared.numbers.LoaderId.{LoaderId}
use Rattle.jl_loaders.specs.declared.constraint.Constraint.{Constraint}
use Rattle.jl_loaders.specs.declared.fault.ConstraintFault.{ConstraintFault}
use Rattle.jl_loaders.specs.declared.fault.ConstraintFault.TheVariants.{Clash, NoMemory}
use Rattle.jl_loaders.specs.Loaders.{State, lead}
use Rattle.jl_loaders.specs.Constraints.{constraint, IsEntry, IsChain, GroupLeads, IsViolated, with_constraint}
use Rattle.jl_loaders.specs.Joins.{loader_at, IsWithin, AreWithin, AreJoins, with_place, with_join, IsMarkedLead, IsGroupLead, IsJudged}
use Rattle.jl_loaders.specs.Refusals.{IsRefusal}
use Rattle.jl_loaders.proofs.Joined.{entry_cases, entry_kept}
use Rattle.jl_loaders.proofs.Sound.{fits, clashes}

-- ---- places

same_loader : (a b : LoaderId) → a.0 ≡ b.0 → a ≡ b
same_loader a b e = ap (λ (k : ℕ). let x : LoaderId = record { 0 = k } in x) e

-- a loader is the one at its place
pub at_place : (l : LoaderId) → 0 < l.0 → loader_at (l.0 - 1) ≡ l
at_place l lt = same_loader (loader_at (l.0 - 1)) l (omega arith)

place_of : (l : LoaderId) (p : ℕ) → l ≡ loader_at p → p ≡ l.0 - 1
place_of l p e = let f : l.0 ≡ p + 1 = ap (λ (x : LoaderId). x.0) e in omega arith

-- ---- one place more in a row

pushed_cases : (rows : List (List ℕ)) (at v p q : ℕ) → at < length rows → Contains (get_or (with_place rows at v) p []) q → Contains (get_or rows p []) q ⊎ ((p ≡ at) × (v ≡ q))
pushed_cases rows at v p q lt c =
    ⊎_elim
    (λ e. ⊎_elim (λ old. inl (subst (λ (k : ℕ). Contains (get_or rows k []) q) (sym e) old)) (λ new. inr (e, new))
    (Contains-push_cases (get_or rows at []) v q (subst (λ (l : List ℕ). Contains l q) (ap (λ (k : ℕ). get_or (with_place rows at v) k []) e ∙ get_or-set_same rows at (get_or rows at [] ++ v ∷ []) [] lt) c)))
    (λ ne. inl (subst (λ (l : List ℕ). Contains l q) (get_or-set_other rows at p (get_or rows at [] ++ v ∷ []) [] ne) c))
    (cases_eq p at)

pushed_old : (rows : List (List ℕ)) (at v p q : ℕ) → at < length rows → Contains (get_or rows p []) q → Contains (get_or (with_place rows at v) p []) q
pushed_old rows at v p q lt c =
    ⊎_elim
    (λ e. subst (λ (l : List ℕ). Contains l q) (sym (ap (λ (k : ℕ). get_or (with_place rows at v) k []) e ∙ get_or-set_same rows at (get_or rows at [] ++ v ∷ []) [] lt)) (Contains-append_left (get_or rows at []) (v ∷ []) q (subst (λ (k : ℕ). Contains (get_or rows k []) q) e c)))
    (λ ne. subst (λ (l : List ℕ). Contains l q) (sym (get_or-set_other rows at p (get_or rows at [] ++ v ∷ []) [] ne)) c)
    (cases_eq p at)

pushed_new : (rows : List (List ℕ)) (at v : ℕ) → at < length rows → Contains (get_or (with_place rows at v) at []) v
pushed_new rows at v lt = subst (λ (l : List ℕ). Contains l v) (sym (get_or-set_same rows at (get_or rows at [] ++ v ∷ []) [] lt)) (Contains-push (get_or rows at []) v)

-- ---- rows of joins

-- a name that is the same text, or another
pub is_named : (a b n : List ℕ) (r : Bool) → a ≡ n → r ≡ is_text a b → r ≡ true → n ≡ b
is_named a b n r e f g = sym e ∙ (bytes_decides a b).0 (sym f ∙ g)

pub not_named : (a b n : List ℕ) (r : Bool) → a ≡ n → r ≡ is_text a b → r ≡ false → n ≡ b → ⊥
not_named a b n r e f g h = let t : is_text a b ≡ true = (bytes_decides a b).1 (e ∙ h) in true≢false (sym t ∙ sym f ∙ g)

-- the item of a loop's step
pub item_of : {X : Type 0} (xs : List X) (i : ℕ) (x : X) → i < length xs → x ≡ get_or xs i x → Contains xs x
item_of xs i x lt e = (i, lt, sym e)

pub one_more : {X : Type 0} (xs : List X) (i : ℕ) (x : X) → i < length xs → x ≡ get_or xs i x → take i xs ++ x ∷ [] ≡ take (i + 1) xs
one_more xs i x lt e = sym (take_more xs i x lt ∙ ap (λ y. take i xs ++ y ∷ []) (sym e))

module _ (count : ℕ) (cs : List Constraint) (name : List ℕ) (rows : List (List ℕ)) (c : Constraint) (joins : AreJoins count cs name rows) where
  -- an entry of another name
  pub joins_skip : (c.name ≡ name → ⊥) → AreJoins count (cs ++ c ∷ []) name rows
  joins_skip other = record {
    one_each = joins.one_each;
    only = λ p q h. entry_kept cs c.name c.one c.other name (loader_at p) (loader_at q) (joins.only p q h);
    all = λ p q e. ⊎_elim (λ old. joins.all p q old) (λ new. absurd (⊎_elim (λ i. other i.0) (λ i. other i.0) new)) (entry_cases cs c.name c.one c.other name (loader_at p) (loader_at q) e);
  }

  -- an entry of the name
  module _ (one : IsWithin count c.one) (other : IsWithin count c.other) (same : c.name ≡ name) where
    abbrev A : ℕ
    A = c.one.0 - 1

    abbrev B : ℕ
    B = c.other.0 - 1

    abbrev Mid : List (List ℕ)
    Mid = with_place rows A B

    first_lt : A < length rows
    first_lt = omega (arith, joins.one_each)

    mid_long : length Mid ≡ length rows
    mid_long = length-set rows A (get_or rows A [] ++ B ∷ [])

    second_lt : B < length Mid
    second_lt = omega (arith, joins.one_each, mid_long)

    entry_of : (p q : ℕ) → p ≡ A → B ≡ q → c ≡ constraint name (loader_at p) (loader_at q)
    entry_of p q e f =
        let x : loader_at p ≡ c.one = ap loader_at e ∙ at_place c.one one.0 in
        let y : loader_at q ≡ c.other = ap loader_at (sym f) ∙ at_place c.other other.0 in
        λ i. record { name = same i; one = sym x i; other = sym y i }

    last : (d : Constraint) → c ≡ d → Contains (cs ++ c ∷ []) d
    last d e = subst (λ (k : Constraint). Contains (cs ++ c ∷ []) k) e (Contains-push cs c)

    pub joins_more : (new : List (List ℕ)) → new ≡ with_join rows c.one c.other → AreJoins count (cs ++ c ∷ []) name new
    joins_more new is = subst (AreJoins count (cs ++ c ∷ []) name) (sym is) (record {
      one_each = length-set Mid B (get_or Mid B [] ++ A ∷ []) ∙ mid_long ∙ joins.one_each;
      only = λ p q h.
          ⊎_elim
          (λ k. ⊎_elim (λ old. entry_kept cs c.name c.one c.other name (loader_at p) (loader_at q) (joins.only p q old)) (λ e. inl (last (constraint name (loader_at p) (loader_at q)) (entry_of p q e.0 e.1))) (pushed_cases rows A B p q first_lt k))
          (λ e. inr (last (constraint name (loader_at q) (loader_at p)) (entry_of q p (sym e.1) (sym e.0))))
          (pushed_cases Mid B A p q second_lt h);
      all = λ p q e.
          ⊎_elim
          (λ old. pushed_old Mid B A p q second_lt (pushed_old rows A B p q first_lt (joins.all p q old)))
          (λ new.
          ⊎_elim
          (λ i. pushed_old Mid B A p q second_lt (subst (λ (k : ℕ). Contains (get_or Mid k []) q) (sym (place_of c.one p i.1.0)) (subst (λ (k : ℕ). Contains (get_or Mid A []) k) (sym (place_of c.other q i.1.1)) (pushed_new rows A B first_lt))))
          (λ i. subst (λ (k : ℕ). Contains (get_or (with_place Mid B A) k []) q) (sym (place_of c.other p i.1.1)) (subst (λ (k : ℕ). Contains (get_or (with_place Mid B A) B []) k) (sym (place_of c.one q i.1.0)) (pushed_new Mid B A second_lt)))
          new)
          (entry_cases cs c.name c.one c.other name (loader_at p) (loader_at q) e);
    })

-- ---- a closure over the rows

module _ (count : ℕ) (cs : List Constraint) (name : List ℕ) (rows : List (List ℕ)) (within : AreWithin count cs) (joins : AreJoins count cs name rows) where
  entry_within : (a b : LoaderId) → IsEntry cs name a b → IsWithin count b
  entry_within a b e = ⊎_elim (λ c. (within (constraint name a b) c).1) (λ c. (within (constraint name b a) c).0) e

  row_within : (row : List ℕ) → Contains rows row → All (λ q. q < length rows) row
  row_within row c =
      All-from_recursion (λ q. q < length rows) row
      (each_from_members (λ q. q < length rows) row
      (λ q k.
      let here : Contains (get_or rows c.0 []) q = subst (λ (l : List ℕ). Contains l q) (sym (get_or_default rows c.0 [] row c.1 ∙ c.2)) k in
      let e = entry_within (loader_at c.0) (loader_at q) (joins.only c.0 q here) in
      omega (arith, e.1, joins.one_each)))

  pub rows_within : All (λ row. All (λ q. q < length rows) row) rows
  rows_within = All-from_recursion (λ row. All (λ q. q < length rows) row) rows (each_from_members (λ row. All (λ q. q < length rows) row) rows row_within)

  reached_joined : (start n p : ℕ) → Chain rows (start ∷ []) n p → IsChain cs name n (loader_at start) (loader_at p)
  reached_joined start zero p c = ap loader_at (single start p c)
  reached_joined start (suc n) p c = (loader_at c.0, reached_joined start n c.0 c.1, joins.only c.0 p c.2)

  joined_reached : (start n : ℕ) (b : LoaderId) → IsChain cs name n (loader_at start) b → (p : ℕ) × (b ≡ loader_at p) × Chain rows (start ∷ []) n p
  joined_reached start zero b h = (start, sym h, (0, omega arith, refl))
  joined_reached start (suc n) b h =
      let r = joined_reached start n h.0 h.1 in
      let w = entry_within h.0 b h.2 in
      let p : ℕ = b.0 - 1 in
      let is : b ≡ loader_at p = sym (at_place b w.0) in
      let e : IsEntry cs name (loader_at r.0) (loader_at p) = subst (λ (x : LoaderId). IsEntry cs name x (loader_at p)) r.1 (subst (λ (x : LoaderId). IsEntry cs name h.0 x) is h.2) in
      (p, is, (r.0, r.2, joins.all r.0 p e))

one_below : (n start : ℕ) → start < n → All (λ q. q < n) (start ∷ [])
one_below n start lt = All-from_recursion (λ q. q < n) (start ∷ []) (lt, tt)

pub start_within : (rows : List (List ℕ)) (count start : ℕ) → length rows ≡ count → start < count → All (λ q. q < length rows) (start ∷ [])
start_within rows count start e lt = one_below (length rows) start (omega arith)

-- where a group leads
pub group_lead : (s : State) (name : List ℕ) (rows : List (List ℕ)) (marks : List Bool) (l : LoaderId) (start : ℕ) (found : Option ModuleId)
    → AreWithin (length s.loaders) s.constraints → AreJoins (length s.loaders) s.constraints name rows → 0 < l.0 → start ≡ l.0 - 1
    → ((p : ℕ) → slice_get marks p ≡ Some true → IsReached rows (start ∷ []) p)
    → ((p : ℕ) → IsReached rows (start ∷ []) p → slice_get marks p ≡ Some true)
    → IsMarkedLead s marks name found → IsGroupLead s name l found
group_lead s name rows marks l start found within joins lt is only all led = by found led
  where
    begins : loader_at start ≡ l
    begins = ap loader_at is ∙ at_place l lt

    none : (m : ModuleId) → ((p : ℕ) → slice_get marks p ≡ Some true → lead s (loader_at p) name ≡ None) → GroupLeads s name l m → ⊥
    none m h (b, (n, chain), e) =
        let r = joined_reached (length s.loaders) s.constraints name rows within joins start n b (subst (λ (x : LoaderId). IsChain s.constraints name n x b) (sym begins) chain) in
        let f : lead s b name ≡ None = ap (λ (x : LoaderId). lead s x name) r.1 ∙ h r.0 (all r.0 (n, r.2)) in
        let g : Some m ≡ None = sym e ∙ f in
        absurd cc

    by : (o : Option ModuleId) → IsMarkedLead s marks name o → IsGroupLead s name l o
    by None h = λ m g. none m h g
    by (Some m) (p, marked, e) =
        let r = only p marked in
        (loader_at p, (r.0, subst (λ (x : LoaderId). IsChain s.constraints name r.0 x (loader_at p)) begins (reached_joined (length s.loaders) s.constraints name rows within joins start r.0 p r.1)), e)

-- ---- what the two groups make of a constraint

module _ (s : State) (name : List ℕ) (l l2 : LoaderId) (one other : Option ModuleId) (stands : IsViolated s → ⊥) (g : IsGroupLead s name l one) (h : IsGroupLead s name l2 other) where
  pub judged_named : (r : Result (List ℕ) ConstraintFault) → IsJudged name one other r → IfOk r (λ n. n ≡ name)
  judged_named (Ok n) j = j.0
  judged_named (Err f) j = tt

  pub judged_stands : (r : Result (List ℕ) ConstraintFault) → IsJudged name one other r → OnOk r (IsViolated (with_constraint name l l2 s) → ⊥)
  judged_stands (Ok n) j = fits s name l l2 one other stands g h j.1
  judged_stands (Err f) j = tt

  pub judged_refused : (r : Result (List ℕ) ConstraintFault) → IsJudged name one other r → IfErr r (IsRefusal s name l l2)
  judged_refused (Ok n) j = tt
  judged_refused (Err (Clash n x y)) j = clashes s name n l l2 x y j.0 (subst (IsGroupLead s name l) j.1 g) (subst (IsGroupLead s name l2) j.2 h) j.3
  judged_refused (Err NoMemory) j = tt
