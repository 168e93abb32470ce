-- From what the code looks for to what refuses a layer (`ModuleLayer.defineModules`).
use Rattle.std.proofs.Common.{◌≡◌, ℕ, List, [], ◌∷◌, ⊎_elim, refl, sym, ◌∙◌, ap, ap₂, subst, Option, Some, None, Bool, true, false, cond, not, ◌||◌, IsPermutation, option_map}
use Rattle.std.specs.Prelude.{Contains, codes}
use Rattle.std.specs.List.{filter, list_any}
use Rattle.std.specs.Cmp.Lexicographic.{bytes_decides}
use Rattle.std.proofs.lemmas.List.Sorted.{Contains-permutation, IsPermutation-sym}
use Rattle.jl_logic.specs.Order.{is_text, name_cmp, RisesBy}
use Rattle.jl_logic.proofs.Rising.{contains_head, contains_tail, contains_cases, contains_nothing}
use Rattle.jl_prim.specs.declared.declaration.Observed.{Observed}
use Rattle.jl_prim.specs.declared.numbers.ConfigId.{ConfigId}
use Rattle.jl_config.specs.Located.{configuration_of, name_of}
use Rattle.jl_config.specs.Orders.{module_cmp}
use Rattle.jl_config.specs.Places.{IsLeastSome}
use Rattle.jl_layer.specs.declared.claims.Claim.{Claim}
use Rattle.jl_layer.specs.declared.fault.LayerFault.{LayerFault}
use Rattle.jl_layer.specs.declared.fault.LayerFault.TheVariants.{JavaPackage}
use Rattle.jl_layer.specs.declared.layer.Mode.TheVariants.{One}
use Rattle.jl_layer.specs.Layers.{State}
use Rattle.jl_layer.specs.Defining.{Asked, asked_modules, boot}
use Rattle.jl_layer.specs.Refusals.{Applies, AppliesToBoot, is_java}
use Rattle.jl_layer.specs.Claims.{free_claims, is_claimed, own_claims, taken_claims}
use Rattle.jl_layer.specs.ClaimSteps.{without}
use Rattle.jl_layer.specs.Deciding.{AreOrdered, IsByClash, IsLeastClash, Settles, StartsAt, java_packages, overlap_fault, split_fault}
use Rattle.jl_layer.proofs.Listed.{flat_map_into, flat_map_from}
use Rattle.jl_layer.proofs.Decisions.{AreSame, least_alike, java_settles, define_overlaps, splits_settle, boot_overlaps}
use Rattle.jl_layer.proofs.Splits.{HaveReaders}

-- ---- tests of some item

module _ {X : Type 0} (test : X → Bool) where
  pub any_member : (xs : List X) → list_any test xs ≡ true → (x : X) × Contains xs x × (test x ≡ true)
  any_member [] e = absurd cc
  any_member (x ∷ xs) e = by (any_member xs) (test x) refl e
    where
      by : (list_any test xs ≡ true → (y : X) × Contains xs y × (test y ≡ true)) → (b : Bool) → test x ≡ b → (b || list_any test xs) ≡ true → (y : X) × Contains (x ∷ xs) y × (test y ≡ true)
      by more true h g = (x, contains_head x xs, h)
      by more false h g = let r = more g in (r.0, contains_tail x r.0 xs r.1, r.2)

  pub any_if_member : (xs : List X) (x : X) → Contains xs x → test x ≡ true → list_any test xs ≡ true
  any_if_member [] x c e = contains_nothing x c
  any_if_member (y ∷ ys) x c e = ⊎_elim (λ s. ap (λ (b : Bool). b || list_any test ys) (ap test s ∙ e)) (λ k. by (test y) (any_if_member ys x k e)) (contains_cases y x ys c)
    where
      by : (b : Bool) → list_any test ys ≡ true → (b || list_any test ys) ≡ true
      by true h = refl
      by false h = h

  pub filter_member : (xs : List X) (x : X) → Contains (filter test xs) x → Contains xs x × (test x ≡ true)
  filter_member [] x c = contains_nothing x c
  filter_member (y ∷ ys) x c = by (filter_member ys x) (test y) refl c
    where
      by : (Contains (filter test ys) x → Contains ys x × (test x ≡ true)) → (b : Bool) → test y ≡ b → Contains (cond b (y ∷ filter test ys) (filter test ys)) x → Contains (y ∷ ys) x × (test x ≡ true)
      by more true e d = ⊎_elim (λ s. (subst (Contains (y ∷ ys)) s (contains_head y ys), sym (ap test s) ∙ e)) (λ k. let r = more k in (contains_tail y x ys r.0, r.1)) (contains_cases y x (filter test ys) d)
      by more false e d = let r = more d in (contains_tail y x ys r.0, r.1)

  pub filter_if_member : (xs : List X) (x : X) → Contains xs x → test x ≡ true → Contains (filter test xs) x
  filter_if_member [] x c e = contains_nothing x c
  filter_if_member (y ∷ ys) x c e = by (λ k. filter_if_member ys x k e) (test y) refl
    where
      by : (Contains ys x → Contains (filter test ys) x) → (b : Bool) → test y ≡ b → Contains (cond b (y ∷ filter test ys) (filter test ys)) x
      by more true f = ⊎_elim (λ s. subst (Contains (y ∷ filter test ys)) s (contains_head y (filter test ys))) (λ k. contains_tail y x (filter test ys) (more k)) (contains_cases y x ys c)
      by more false f = ⊎_elim (λ s. absurd (let g : true ≡ false = sym e ∙ ap test (sym s) ∙ f in cc)) more (contains_cases y x ys c)

-- ---- java.base

pub base_says : (os : List Observed) → list_any (λ (o : Observed). is_text (name_of o) (codes "java.base")) os ≡ true → (o : Observed) × Contains os o × (name_of o ≡ codes "java.base")
base_says os e =
    let r = any_member (λ (o : Observed). is_text (name_of o) (codes "java.base")) os e in
    (r.0, r.1, (bytes_decides (name_of r.0) (codes "java.base")).0 r.2)

pub base_unsaid : (os : List Observed) → list_any (λ (o : Observed). is_text (name_of o) (codes "java.base")) os ≡ false → (o : Observed) × Contains os o × (name_of o ≡ codes "java.base") → ⊥
base_unsaid os e (o, c, n) =
    let t : list_any (λ (x : Observed). is_text (name_of x) (codes "java.base")) os ≡ true = any_if_member (λ (x : Observed). is_text (name_of x) (codes "java.base")) os o c ((bytes_decides (name_of o) (codes "java.base")).1 n) in
    let g : true ≡ false = sym t ∙ e in
    absurd cc

-- ---- packages of Java

module _ (s : State) (q : Asked) where
  java_from : (p : List ℕ) → Contains (java_packages (asked_modules s q)) p → Applies s q (JavaPackage p)
  java_from p c =
      let r = flat_map_from (λ (o : Observed). filter is_java o.declaration.packages) (asked_modules s q) p c in
      let k = filter_member is_java r.0.declaration.packages p r.2 in
      (r.0, r.1, k.0, k.1)

  java_into : (p : List ℕ) → Applies s q (JavaPackage p) → Contains (java_packages (asked_modules s q)) p
  java_into p (o, c, h, j) = flat_map_into (λ (x : Observed). filter is_java x.declaration.packages) (asked_modules s q) o p c (filter_if_member is_java o.declaration.packages p h j)

  pub java_decided : (o : Option (List ℕ)) → StartsAt (Applies s q) 2 → IsLeastSome name_cmp (Contains (java_packages (asked_modules s q))) o → Settles (Applies s q) 3 (option_map JavaPackage o)
  java_decided None before none = java_settles s q before None (λ p h. none p (java_into p h))
  java_decided (Some p) before least = java_settles s q before (Some p) (record { has = java_from p least.has; least = λ g h. least.least g (java_into g h) })

-- ---- claims in order

pub same_members : (claims sorted : List Claim) → IsPermutation claims sorted → AreSame sorted claims
same_members claims sorted p = record { only = λ x c. Contains-permutation sorted claims x (IsPermutation-sym claims sorted p) c; all = λ x c. Contains-permutation claims sorted x p c }

claimed_alike : (xs ys : List Claim) (p : List ℕ) → AreSame xs ys → is_claimed xs p ≡ is_claimed ys p
claimed_alike xs ys p same = by (is_claimed xs p) (is_claimed ys p) refl refl
  where
    test : Claim → Bool
    test c = is_text c.«package» p

    by : (a b : Bool) → is_claimed xs p ≡ a → is_claimed ys p ≡ b → a ≡ b
    by true true e f = refl
    by false false e f = refl
    by true false e f =
        let r = any_member (λ (c : Claim). is_text c.«package» p) xs e in
        let t : is_claimed ys p ≡ true = any_if_member (λ (c : Claim). is_text c.«package» p) ys r.0 (same.only r.0 r.1) r.2 in
        sym t ∙ f
    by false true e f =
        let r = any_member (λ (c : Claim). is_text c.«package» p) ys f in
        let t : is_claimed xs p ≡ true = any_if_member (λ (c : Claim). is_text c.«package» p) xs r.0 (same.all r.0 r.1) r.2 in
        sym e ∙ t

filter_alike : {X : Type 0} (f g : X → Bool) (xs : List X) → ((x : X) → f x ≡ g x) → filter f xs ≡ filter g xs
filter_alike f g [] h = refl
filter_alike f g (x ∷ xs) h = ap₂ (λ (b : Bool) (l : List _). cond b (x ∷ l) l) (h x) (filter_alike f g xs h)

pub without_alike : (own sorted claims : List Claim) → IsPermutation own sorted → without sorted claims ≡ without own claims
without_alike own sorted claims p =
    filter_alike (λ (c : Claim). not (is_claimed sorted c.«package»)) (λ (c : Claim). not (is_claimed own c.«package»)) claims (λ c. ap not (claimed_alike sorted own c.«package» (same_members own sorted p)))

-- ---- overlaps and splits

pub boot_decided : (s : State) (c : ConfigId) (own sorted : List Claim) (found : Option LayerFault) → RisesBy module_cmp (configuration_of s.configurations c).modules
    → own ≡ own_claims 0 (configuration_of s.configurations c).modules → AreOrdered own sorted → IsByClash overlap_fault sorted found → Settles (AppliesToBoot s (boot c)) 4 found
boot_decided s c own sorted found up is order (o, least, e) =
    let given : IsLeastClash own o = least_alike sorted own o (same_members own sorted order.same) least in
    subst (Settles (AppliesToBoot s (boot c)) 4) (sym e) (boot_overlaps s (boot c) refl up o (subst (λ (l : List Claim). IsLeastClash l o) is given))

module _ (s : State) (q : Asked) (mode : q.mode ≡ One) (own sorted : List Claim) (is : own ≡ own_claims 0 (asked_modules s q)) (order : AreOrdered own sorted) where
  pub overlap_decided : (found : Option LayerFault) → RisesBy module_cmp (asked_modules s q) → StartsAt (Applies s q) 3 → IsByClash overlap_fault sorted found → Settles (Applies s q) 4 found
  overlap_decided found up before (o, least, e) =
      let given : IsLeastClash own o = least_alike sorted own o (same_members own sorted order.same) least in
      subst (Settles (Applies s q) 4) (sym e) (define_overlaps s q mode up before o (subst (λ (l : List Claim). IsLeastClash l o) is given))

  pub split_decided : (taken free sorted_free : List Claim) (found : Option LayerFault) → HaveReaders s q → StartsAt (Applies s q) 4 → taken ≡ taken_claims s q → free ≡ without sorted taken → AreOrdered free sorted_free
      → IsByClash split_fault sorted_free found → Settles (Applies s q) 5 found
  split_decided taken free sorted_free found readers before these those order_free (o, least, e) =
      let free_is : free ≡ free_claims s q = those ∙ without_alike own sorted taken order.same ∙ ap₂ (λ (a b : List Claim). without a b) is these in
      let given : IsLeastClash free o = least_alike sorted_free free o (same_members free sorted_free order_free.same) least in
      subst (Settles (Applies s q) 5) (sym e) (splits_settle s q mode readers before o (subst (λ (l : List Claim). IsLeastClash l o) free_is given))
