-- What the searches of a resolution found decides its answer.
use Rattle.std.proofs.Common.{◌≡◌, ◌<◌, ◌≤◌, ◌⊎◌, ◌+◌, ℕ, suc, List, ◌++◌, length, map, take, get_or, slice_get, inl, inr, ⊎_elim, refl, sym, ◌∙◌, ap, subst, Option, Some, None, option_to_list, arith, Err, Ok, []}
use Rattle.std.proofs.lemmas.List.{map-append, get_or_default}
use Rattle.jl_prim.specs.declared.declaration.Observed.{Observed}
use Rattle.jl_config.specs.declared.fault.ResolveFault.{ResolveFault}
use Rattle.jl_config.specs.declared.fault.ResolveFault.TheVariants.{TooMany, NoParents}
use Rattle.jl_config.specs.declared.candidate.Candidate.{Candidate}
use Rattle.jl_config.specs.Configurations.{Configuration}
use Rattle.jl_config.specs.Located.{Asked, Scene, scene_of, id_of}
use Rattle.jl_config.specs.MemberRows.{modules_at}
use Rattle.jl_config.specs.Places.{AreMembers, IsLeastSome, candidates_at}
use Rattle.jl_prim.specs.Limits.{most_modules}
use Rattle.jl_config.specs.Refusals.{fault_cmp}
use Rattle.jl_config.specs.Resolves.{Resolves, AreReads, AreJustified, IsConfigurationOf}
use Rattle.jl_config.specs.Settled.{StartsAt, Settles}
use Rattle.jl_config.proofs.Always.{IsTooMany}
use Rattle.jl_config.proofs.Assembled.{IsKind, TooManyFault, none_further, nothing_applies, first_refusal, too_many_first, too_many_kind, large_by_places, not_large_by_places, modules_by_places, justified_by_members}
use Rattle.jl_config.proofs.Lists.{filter_map_step}

-- one more module is copied
pub copied_step : (w : Scene) (ps : List ℕ) (i : ℕ) (old new : List Observed) → i < length ps → old ≡ modules_at w (take i ps) → new ≡ old ++ map (λ (s : Candidate). s.observed) (option_to_list (slice_get w.candidates (get_or ps i 0))) → new ≡ modules_at w (take (i + 1) ps)
copied_step w ps i old new lt e f =
    let seen : Candidate → Observed = λ s. s.observed in
    let more : candidates_at w (take i ps) ++ option_to_list (slice_get w.candidates (get_or ps i 0)) ≡ candidates_at w (take (i + 1) ps) =
    filter_map_step (slice_get w.candidates) ps i (get_or ps i 0) (candidates_at w (take i ps)) (candidates_at w (take i ps) ++ option_to_list (slice_get w.candidates (get_or ps i 0))) lt (get_or_default ps i 0 (get_or ps i 0) lt) refl refl in
    f ∙ ap (λ (l : List Observed). l ++ map seen (option_to_list (slice_get w.candidates (get_or ps i 0)))) e
    ∙ sym (map-append seen (candidates_at w (take i ps)) (option_to_list (slice_get w.candidates (get_or ps i 0)))) ∙ ap (map seen) more

module _ (q : Asked) (w : Scene) (same : w ≡ scene_of q) (K : Scene → ResolveFault → Type 0) (k : ℕ) (kind : IsKind q k (K (scene_of q))) (before : StartsAt q k) (found : Option ResolveFault) (sought : IsLeastSome fault_cmp (K w) found) where
  sought_here : IsLeastSome fault_cmp (K (scene_of q)) found
  sought_here = subst (λ (v : Scene). IsLeastSome fault_cmp (K v) found) same sought

  -- none of this kind applies either
  pub none_next : found ≡ None → StartsAt q (suc k)
  none_next e = none_further q k (K (scene_of q)) kind before (subst (λ (o : Option ResolveFault). IsLeastSome fault_cmp (K (scene_of q)) o) e sought_here)

  -- the one that was found is the answer
  pub refused : (f : ResolveFault) → found ≡ Some f → Resolves q (Err f)
  refused f e = first_refusal q k (K (scene_of q)) kind before f (subst (λ (o : Option ResolveFault). IsLeastSome fault_cmp (K (scene_of q)) o) e sought_here)

-- there is a parent
pub after_parents : (q : Asked) → (q.parents ≡ [] → ⊥) → StartsAt q 1
after_parents q some NoParents a = absurd (some a)
after_parents q some f a = omega arith

pub few : (q : Asked) (w : Scene) (ps : List ℕ) → w ≡ scene_of q → AreMembers w ps → length ps ≤ most_modules → length q.known < most_modules → IsTooMany q → ⊥
few q w ps same members a b = λ h.
    ⊎_elim
    (λ large. not_large_by_places (scene_of q) ps (subst (λ (v : Scene). AreMembers v ps) same members) a large)
    (λ many. too_many (length q.known) b many)
    h
  where
    too_many : (n : ℕ) → n < most_modules → most_modules ≤ n → ⊥
    too_many n h k = omega arith

pub after_many : (q : Asked) (w : Scene) (ps : List ℕ) → w ≡ scene_of q → AreMembers w ps → length ps ≤ most_modules → length q.known < most_modules → StartsAt q 2 → StartsAt q 3
after_many q w ps same members a b before = none_further q 2 (TooManyFault q) (too_many_kind q) before (λ f h. few q w ps same members a b h.0)

pub many_members : (q : Asked) (w : Scene) (ps : List ℕ) → w ≡ scene_of q → AreMembers w ps → most_modules < length ps → IsTooMany q
many_members q w ps same members h = inl (large_by_places (scene_of q) ps (subst (λ (v : Scene). AreMembers v ps) same members) h)

pub many_known : (q : Asked) → most_modules ≤ length q.known → IsTooMany q
many_known q h = inr h

-- the graph that was made is the answer
module _ (q : Asked) (w : Scene) (same : w ≡ scene_of q) (ps : List ℕ) (members : AreMembers w ps) (g : Configuration) (number : g.id ≡ id_of q) (given : g.parents ≡ q.parents) (modules : g.modules ≡ modules_at w ps) (reads : AreReads w g.reads) where
  pub configuration_is : IsConfigurationOf q g
  configuration_is = record {
    number = number;
    given = given;
    modules = modules_by_places q ps g.modules (subst (λ (v : Scene). AreMembers v ps) same members) (modules ∙ ap (λ (v : Scene). modules_at v ps) same);
    reads = subst (λ (v : Scene). AreReads v g.reads) same reads;
  }

  pub graph_resolves : StartsAt q 8 → Resolves q (Ok g)
  graph_resolves before = (nothing_applies q before, configuration_is)

-- a search for one kind, where none applies before
module _ (K : Scene → ResolveFault → Type 0) (k : ℕ) (kind : (q : Asked) → IsKind q k (K (scene_of q))) (w : Scene) (found : Option ResolveFault) (sought : IsLeastSome fault_cmp (K w) found) where
  pub settled : (f : ResolveFault) → found ≡ Some f → (q : Asked) → w ≡ scene_of q → StartsAt q k → Resolves q (Err f)
  settled f e q same before = refused q w same K k (kind q) before found sought f e

  pub goes_on : found ≡ None → (q : Asked) → w ≡ scene_of q → StartsAt q k → StartsAt q (suc k)
  goes_on e q same before = (none_next q w same K k (kind q) before found sought e)

  pub settles : (q : Asked) → w ≡ scene_of q → StartsAt q k → Settles q (suc k) found
  settles q same before = by found refl
    where
      by : (o : Option ResolveFault) → found ≡ o → Settles q (suc k) o
      by None e = goes_on e q same before
      by (Some f) e = settled f e q same before

pub too_many_settled : (w : Scene) (ps : List ℕ) (known : ℕ) → AreMembers w ps → (most_modules < length ps) ⊎ (most_modules ≤ known) → (q : Asked) → w ≡ scene_of q → length q.known ≡ known → StartsAt q 2 → Resolves q (Err TooMany)
too_many_settled w ps known members h q same long before =
    too_many_first q before (⊎_elim (λ m. many_members q w ps same members m) (λ k. many_known q (subst (λ (n : ℕ). most_modules ≤ n) (sym long) k)) h)

pub few_go_on : (w : Scene) (ps : List ℕ) (known : ℕ) → AreMembers w ps → length ps ≤ most_modules → known < most_modules → (q : Asked) → w ≡ scene_of q → length q.known ≡ known → StartsAt q 2 → StartsAt q 3
few_go_on w ps known members a b q same long before = (after_many q w ps same members a (subst (λ (n : ℕ). n < most_modules) (sym long) b) before)

-- a search that found nothing
pub none_of : (K : Scene → ResolveFault → Type 0) (w : Scene) (found : Option ResolveFault) → IsLeastSome fault_cmp (K w) found → found ≡ None → (f : ResolveFault) → K w f → ⊥
none_of K w found sought e = subst (λ (o : Option ResolveFault). IsLeastSome fault_cmp (K w) o) e sought

-- and each of its modules ends a justified list
pub justified_of : (q : Asked) (w : Scene) → w ≡ scene_of q → (ps : List ℕ) → AreMembers w ps → (g : Configuration) → g.modules ≡ modules_at w ps → AreJustified q g
justified_of q w same ps members g modules = justified_by_members q g (modules_by_places q ps g.modules (subst (λ (v : Scene). AreMembers v ps) same members) (modules ∙ ap (λ (v : Scene). modules_at v ps) same))
