-- Modules above a layer that split a package are those whose claims clash (`java.lang.LayerInstantiationException`).
use Rattle.std.proofs.Common.{◌≡◌, ◌≢◌, ◌+◌, ◌||◌, ℕ, zero, suc, List, [], ◌∷◌, Option, Some, None, Bool, true, false, not, true≢false, cond, if◌then◌else◌, inl, inr, ne_eqb, refl, sym, ◌∙◌, ap, subst, filter, arith}
use Rattle.std.specs.Prelude.{Contains}
use Rattle.std.specs.List.{list_any}
use Rattle.std.specs.Option.{option_and_then}
use Rattle.std.specs.Cmp.Lexicographic.{bytes_decides}
use Rattle.std.proofs.lemmas.Bool.{eqb-false, not-true}
use Rattle.jl_logic.specs.Order.{is_text}
use Rattle.jl_logic.proofs.Rising.{contains_head, contains_tail, contains_nothing, contains_cases}
use Rattle.jl_prim.specs.declared.numbers.LoaderId.{LoaderId}
use Rattle.jl_prim.specs.declared.numbers.ConfigId.{ConfigId}
use Rattle.jl_prim.specs.declared.declaration.Observed.{Observed}
use Rattle.jl_config.specs.declared.configuration.Read.{Read}
use Rattle.jl_config.specs.Configurations.{Configuration}
use Rattle.jl_config.specs.Located.{configuration_of, is_numbered, name_of}
use Rattle.jl_layer.specs.declared.claims.Claim.{Claim}
use Rattle.jl_layer.specs.declared.claims.Clash.{Clash}
use Rattle.jl_layer.specs.declared.layer.Member.{Member}
use Rattle.jl_layer.specs.Layers.{State, member_of, declaration_of, IsConfiguration}
use Rattle.jl_layer.specs.Meaning.{meant_above, exported_to}
use Rattle.jl_layer.specs.Defining.{Asked, asked_modules}
use Rattle.jl_layer.specs.Refusals.{Holds, Takes}
use Rattle.jl_layer.specs.Keeping.{AreKept}
use Rattle.jl_layer.specs.Claims.{IsClashOf, own_claims, taken_by, taken_of, taken_claims, is_claimed, free_claims}
use Rattle.jl_layer.proofs.Listed.{place_of, at_place, map_into, map_from, flat_map_into, flat_map_from, and_then_from}
use Rattle.jl_layer.proofs.KeptBehind.{kept_of, configuration_zero, same_config}
use Rattle.jl_layer.proofs.Added.{same_loader}
use Rattle.jl_layer.proofs.Overlaps.{claim_for, own_claim, own_claimed}

-- ---- filters and tests

filter_from : {X : Type 0} (t : X → Bool) (xs : List X) (x : X) → Contains (filter t xs) x → Contains xs x × (t x ≡ true)
filter_from {X} t [] x c = contains_nothing x c
filter_from {X} t (y ∷ ys) x c = by (t y) refl c (filter_from t ys x)
  where
    later : Contains ys x × (t x ≡ true) → Contains (y ∷ ys) x × (t x ≡ true)
    later r = (contains_tail y x ys r.0, r.1)

    by : (b : Bool) → t y ≡ b → Contains (cond b (y ∷ filter t ys) (filter t ys)) x → (Contains (filter t ys) x → Contains ys x × (t x ≡ true)) → Contains (y ∷ ys) x × (t x ≡ true)
    by true e k more = elim (contains_cases y x (filter t ys) k) [ inl i ↦ (subst (Contains (y ∷ ys)) i (contains_head y ys), ap t (sym i) ∙ e) | inr d ↦ later (more d) ]
    by false e k more = later (more k)

filter_into : {X : Type 0} (t : X → Bool) (xs : List X) (x : X) → Contains xs x → t x ≡ true → Contains (filter t xs) x
filter_into {X} t [] x c e = contains_nothing x c
filter_into {X} t (y ∷ ys) x c e = by (t y) refl (λ d. filter_into t ys x d e)
  where
    by : (b : Bool) → t y ≡ b → (Contains ys x → Contains (filter t ys) x) → Contains (cond b (y ∷ filter t ys) (filter t ys)) x
    by true i more = elim (contains_cases y x ys c) [ inl k ↦ subst (Contains (y ∷ filter t ys)) k (contains_head y (filter t ys)) | inr d ↦ contains_tail y x (filter t ys) (more d) ]
    by false i more = elim (contains_cases y x ys c) [ inl k ↦ absurd (true≢false (sym e ∙ ap t (sym k) ∙ i)) | inr d ↦ more d ]

any_from : {X : Type 0} (t : X → Bool) (xs : List X) → list_any t xs ≡ true → (x : X) × Contains xs x × (t x ≡ true)
any_from {X} t [] e = absurd (true≢false (sym e))
any_from {X} t (y ∷ ys) e = by (t y) refl e (any_from t ys)
  where
    by : (b : Bool) → t y ≡ b → (b || list_any t ys) ≡ true → (list_any t ys ≡ true → (x : X) × Contains ys x × (t x ≡ true)) → (x : X) × Contains (y ∷ ys) x × (t x ≡ true)
    by true i k more = (y, contains_head y ys, i)
    by false i k more = let r = more k in (r.0, contains_tail y r.0 ys r.1, r.2)

any_into : {X : Type 0} (t : X → Bool) (xs : List X) (x : X) → Contains xs x → t x ≡ true → list_any t xs ≡ true
any_into {X} t [] x c e = contains_nothing x c
any_into {X} t (y ∷ ys) x c e = by (t y) refl (λ d. any_into t ys x d e)
  where
    by : (b : Bool) → t y ≡ b → (Contains ys x → list_any t ys ≡ true) → (b || list_any t ys) ≡ true
    by true i more = refl
    by false i more = elim (contains_cases y x ys c) [ inl k ↦ absurd (true≢false (sym e ∙ ap t (sym k) ∙ i)) | inr d ↦ more d ]

-- ---- packages that the layer's own modules have

pub claimed_from : (os : List Observed) (p : List ℕ) → is_claimed (own_claims 0 os) p ≡ true → (o : Observed) × Contains os o × Holds o p
claimed_from os p e =
    let r = any_from (λ (c : Claim). is_text c.«package» p) (own_claims 0 os) e in
    let h = own_claim 0 os r.0 r.1 in
    (h.observed, at_place os h.place h.observed h.there, subst (Holds h.observed) ((bytes_decides r.0.«package» p).0 r.2) h.holds)

pub claimed_into : (os : List Observed) (p : List ℕ) (o : Observed) → Contains os o → Holds o p → is_claimed (own_claims 0 os) p ≡ true
claimed_into os p o c h =
    let i = place_of os o c in
    any_into (λ (k : Claim). is_text k.«package» p) (own_claims 0 os) (claim_for p (name_of o) (0 + i.0)) (own_claimed 0 os i.0 o p i.1 h) ((bytes_decides p p).1 refl)

-- ---- what is taken

-- the claim is that of a module above the layer that a module of the layer reads
pub record IsTakenClaim (s : State) (q : Asked) (k : Claim) : Type 0 where
  pub member : Member
  pub takes : Takes s q k.«package» member
  pub name : k.name ≡ (declaration_of member).name
  pub owner : k.owner ≡ member.loader.0

-- each entry of a configuration has a module as its reader
abbrev pub HaveReaders : State → Asked → Type 0
HaveReaders s q = (r : Read) → Contains (configuration_of s.configurations q.config).reads r → (o : Observed) × Contains (asked_modules s q) o × (name_of o ≡ r.reader)

pub have_readers : (s : State) (q : Asked) → AreKept [] s.configurations → IsConfiguration s q.config → HaveReaders s q
have_readers s q kept known r c = by q.config.0 refl
  where
    by : (n : ℕ) → q.config.0 ≡ n → (o : Observed) × Contains (asked_modules s q) o × (name_of o ≡ r.reader)
    by zero e = contains_nothing r (subst (λ (g : Configuration). Contains g.reads r) (configuration_zero s.configurations q.config e) c)
    by (suc n) e = let g = kept_of s.configurations q.config kept (omega arith) known in let h = g.2.readers r c in (h.0, h.1.0, h.1.1)

module _ (s : State) (q : Asked) where
  taken_from : (readers : HaveReaders s q) (k : Claim) → Contains (taken_claims s q) k → IsTakenClaim s q k
  taken_from readers k c =
      let r = flat_map_from (taken_of s q) (configuration_of s.configurations q.config).reads k c in
      by r.0 r.1 (is_numbered r.0.config q.config) refl r.2
    where
      of_member : (r : Read) → Contains (configuration_of s.configurations q.config).reads r → r.config ≢ q.config → (m : Option Member) → option_and_then (member_of s) (meant_above s q.parents r.config r.name) ≡ m
          → Contains (taken_by r.reader m) k → IsTakenClaim s q k
      of_member r read ne None e d = contains_nothing k d
      of_member r read ne (Some x) e d =
          let a = and_then_from (member_of s) (meant_above s q.parents r.config r.name) x e in
          let p = map_from (λ (p : List ℕ). claim_for p (declaration_of x).name x.loader.0) (exported_to (declaration_of x) r.reader) k d in
          let o = readers r read in
          let exported : Contains (exported_to (declaration_of x) (name_of o.0)) k.«package» =
          subst (λ (n : List ℕ). Contains (exported_to (declaration_of x) n) k.«package») (sym o.2) (subst (Contains (exported_to (declaration_of x) r.reader)) (ap (λ (z : Claim). z.«package») p.2) p.1) in
          record {
            member = x;
            takes = (o.0, r, a.0, o.1, read, sym o.2, ne, a.1, a.2, exported);
            name = ap (λ (z : Claim). z.name) (sym p.2);
            owner = ap (λ (z : Claim). z.owner) (sym p.2);
          }

      by : (r : Read) → Contains (configuration_of s.configurations q.config).reads r → (b : Bool) → is_numbered r.config q.config ≡ b
          → Contains (if b then [] else taken_by r.reader (option_and_then (member_of s) (meant_above s q.parents r.config r.name))) k → IsTakenClaim s q k
      by r read true i d = contains_nothing k d
      by r read false i d =
          of_member r read (λ e. eqb-false r.config.0 q.config.0 i (ap (λ (n : ConfigId). n.0) e)) (option_and_then (member_of s) (meant_above s q.parents r.config r.name)) refl d

  taken_into : (p : List ℕ) (x : Member) → Takes s q p x → Contains (taken_claims s q) (claim_for p (declaration_of x).name x.loader.0)
  taken_into p x (o, r, m, inside, read, reader, ne, meant, e, exported) =
      let found : option_and_then (member_of s) (meant_above s q.parents r.config r.name) ≡ Some x = ap (option_and_then (member_of s)) meant ∙ e in
      let other : is_numbered r.config q.config ≡ false = ne_eqb r.config.0 q.config.0 (λ i. ne (same_config r.config q.config i)) in
      let here : Contains (taken_by r.reader (Some x)) (claim_for p (declaration_of x).name x.loader.0) =
      map_into (λ (n : List ℕ). claim_for n (declaration_of x).name x.loader.0) (exported_to (declaration_of x) r.reader) p (subst (λ (n : List ℕ). Contains (exported_to (declaration_of x) n) p) (sym reader) exported) in
      let is : taken_of s q r ≡ taken_by r.reader (Some x) =
      ap (λ (b : Bool). if b then [] else taken_by r.reader (option_and_then (member_of s) (meant_above s q.parents r.config r.name))) other ∙ ap (taken_by r.reader) found in
      flat_map_into (taken_of s q) (configuration_of s.configurations q.config).reads r (claim_for p (declaration_of x).name x.loader.0) read
      (subst (λ (ks : List Claim). Contains ks (claim_for p (declaration_of x).name x.loader.0)) (sym is) here)

  -- ---- splits

  -- two modules above the layer, with two loaders, export the package to modules of the layer, none of which has it
  abbrev pub Split : List ℕ → List ℕ → List ℕ → Type 0
  Split p one other = (x : Member) × (y : Member) × Takes s q p x × Takes s q p y × (x.loader ≢ y.loader) × ((declaration_of x).name ≡ one) × ((declaration_of y).name ≡ other)
      × ((o : Observed) → Contains (asked_modules s q) o → Holds o p → ⊥)

  abbrev is_free : Claim → Bool
  is_free k = not (is_claimed (own_claims 0 (asked_modules s q)) k.«package»)

  free_from : (k : Claim) → Contains (free_claims s q) k → Contains (taken_claims s q) k × ((o : Observed) → Contains (asked_modules s q) o → Holds o k.«package» → ⊥)
  free_from k c =
      let r = filter_from is_free (taken_claims s q) k c in
      (r.0, λ o d h. true≢false (sym (claimed_into (asked_modules s q) k.«package» o d h) ∙ not-true (is_claimed (own_claims 0 (asked_modules s q)) k.«package») r.1))

  free_into : (k : Claim) → Contains (taken_claims s q) k → ((o : Observed) → Contains (asked_modules s q) o → Holds o k.«package» → ⊥) → Contains (free_claims s q) k
  free_into k c none = filter_into is_free (taken_claims s q) k c (by (is_claimed (own_claims 0 (asked_modules s q)) k.«package») refl)
    where
      by : (b : Bool) → is_claimed (own_claims 0 (asked_modules s q)) k.«package» ≡ b → not b ≡ true
      by true e = let h = claimed_from (asked_modules s q) k.«package» e in absurd (none h.0 h.1 h.2)
      by false e = refl

  pub split_of : (c : Clash) → HaveReaders s q → IsClashOf (free_claims s q) c → Split c.«package» c.one c.other
  split_of c readers (x, y, cx, cy, px, py, nx, ny, apart) =
      let fx = free_from x cx in
      let fy = free_from y cy in
      let a = taken_from readers x fx.0 in
      let b = taken_from readers y fy.0 in (
        a.member,
        b.member,
        subst (λ (p : List ℕ). Takes s q p a.member) px a.takes,
        subst (λ (p : List ℕ). Takes s q p b.member) py b.takes,
        (λ e. apart (a.owner ∙ ap (λ (l : LoaderId). l.0) e ∙ sym b.owner)),
        sym a.name ∙ nx,
        sym b.name ∙ ny,
        (λ o d h. fx.1 o d (subst (Holds o) (sym px) h)),
      )

  pub split_from : (c : Clash) → Split c.«package» c.one c.other → IsClashOf (free_claims s q) c
  split_from c (x, y, tx, ty, apart, nx, ny, none) = (
    claim_for c.«package» (declaration_of x).name x.loader.0,
    claim_for c.«package» (declaration_of y).name y.loader.0,
    free_into (claim_for c.«package» (declaration_of x).name x.loader.0) (taken_into c.«package» x tx) none,
    free_into (claim_for c.«package» (declaration_of y).name y.loader.0) (taken_into c.«package» y ty) none,
    refl,
    refl,
    nx,
    ny,
    (λ e. apart (same_loader x.loader y.loader e)),
  )
