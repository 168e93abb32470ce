-- What is missing, over the places of the set, is what the condition says.
use Rattle.std.proofs.Common.{◌≡◌, ◌≢◌, ℕ, List, [], slice_get, ⊎_elim, refl, sym, ◌∙◌, ap, subst, Contains, Option, Some, None, Bool, true, false, cond, not, ◌||◌, IsTrue, filter_map, flat_map, Less}
use Rattle.std.specs.Option.{is_some, option_map_or}
use Rattle.jl_prim.specs.declared.declaration.Requires.{Requires}
use Rattle.jl_logic.specs.Order.{IsLeast}
use Rattle.jl_logic.proofs.Rising.{contains_nothing}
use Rattle.jl_config.specs.declared.candidate.Candidate.{Candidate}
use Rattle.jl_config.specs.declared.fault.ResolveFault.{ResolveFault}
use Rattle.jl_config.specs.declared.fault.ResolveFault.TheVariants.{NotFound}
use Rattle.jl_config.specs.Located.{Scene, candidate_name, located}
use Rattle.jl_config.specs.Members.{is_followed}
use Rattle.jl_config.specs.MissingNames.{least_from, lack_cmp, root_missing, entry_missing, missing_of, missing_at, all_missing}
use Rattle.jl_config.specs.Places.{place_named, AreMembers, MissingFault}
use Rattle.jl_config.specs.Refusals.{IsMissing, fault_cmp}
use Rattle.jl_config.proofs.MemberFinds.{unplaced, unfound}
use Rattle.std.proofs.lemmas.List.Elements.{Contains-append_left, Contains-append_right, Contains-append_cases}
use Rattle.jl_config.proofs.Lists.{into_filter_map, from_filter_map, into_flat_map, from_flat_map}
use Rattle.jl_config.proofs.MissingLeasts.{least_of_list, least_of_none}
use Rattle.jl_config.proofs.FaultOrder.{not_found_cmp}

entry_shows : (w : Scene) (by : List ℕ) (r : Requires) (m : List ℕ × Option (List ℕ)) → entry_missing w by r ≡ Some m → IsTrue (is_followed r) × (place_named r.name w.candidates ≡ None) × ((r.name, Some by) ≡ m)
entry_shows w by r m e = cases (is_followed r) (place_named r.name w.candidates) refl refl e
  where
    cases : (b : Bool) (p : Option ℕ) → is_followed r ≡ b → place_named r.name w.candidates ≡ p → cond (not b || is_some p) None (Some (r.name, Some by)) ≡ Some m → IsTrue (is_followed r) × (place_named r.name w.candidates ≡ None) × ((r.name, Some by) ≡ m)
    cases true None f g h = (f, g, cc)
    cases true (Some p) f g h = absurd cc
    cases false p f g h = absurd cc

entry_has : (w : Scene) (by : List ℕ) (r : Requires) → IsTrue (is_followed r) → place_named r.name w.candidates ≡ None → entry_missing w by r ≡ Some (r.name, Some by)
entry_has w by r t e = rw (t, e) refl

root_shows : (w : Scene) (name : List ℕ) (m : List ℕ × Option (List ℕ)) → root_missing w name ≡ Some m → (place_named name w.candidates ≡ None) × ((name, None) ≡ m)
root_shows w name m e = cases (place_named name w.candidates) refl e
  where
    cases : (p : Option ℕ) → place_named name w.candidates ≡ p → cond (is_some p) None (Some (name, None)) ≡ Some m → (place_named name w.candidates ≡ None) × ((name, None) ≡ m)
    cases None g h = (g, cc)
    cases (Some p) g h = absurd cc

root_has : (w : Scene) (name : List ℕ) → place_named name w.candidates ≡ None → root_missing w name ≡ Some (name, None)
root_has w name e = rw e refl

at_shows : (w : Scene) (p : ℕ) (m : List ℕ × Option (List ℕ)) → Contains (missing_at w p) m → (s : Candidate) × (slice_get w.candidates p ≡ Some s) × Contains (missing_of w s) m
at_shows w p m c = cases (slice_get w.candidates p) refl c
  where
    cases : (o : Option Candidate) → slice_get w.candidates p ≡ o → Contains (option_map_or (missing_of w) o []) m → (s : Candidate) × (slice_get w.candidates p ≡ Some s) × Contains (missing_of w s) m
    cases None e k = contains_nothing m k
    cases (Some s) e k = (s, e, k)

module _ (w : Scene) (ps : List ℕ) (members : AreMembers w ps) where
  missing_from : (m : List ℕ × Option (List ℕ)) → Contains (all_missing w ps) m → IsMissing w m
  missing_from m c =
      ⊎_elim
      (λ k.
      let r = from_filter_map (root_missing w) w.roots m k in
      let s = root_shows w r.0 m r.2 in
      subst (IsMissing w) s.1 (r.1, unplaced r.0 w.candidates s.0))
      (λ k.
      let p = from_flat_map (missing_at w) ps m k in
      let t = at_shows w p.0 m p.2 in
      let v = from_filter_map (entry_missing w (candidate_name t.0)) t.0.observed.declaration.required m t.2 in
      let s = entry_shows w (candidate_name t.0) v.0 m v.2 in
      subst (IsMissing w) s.2 (t.0, (members.only p.0 t.0 p.1 t.1).0, refl, (v.0, v.1, s.0, refl), unplaced v.0.name w.candidates s.1))
      (Contains-append_cases (filter_map (root_missing w) w.roots) (flat_map (missing_at w) ps) m c)

  missing_into : (m : List ℕ × Option (List ℕ)) → IsMissing w m → Contains (all_missing w ps) m
  missing_into (name, None) h =
      Contains-append_left (filter_map (root_missing w) w.roots) (flat_map (missing_at w) ps) (name, None) (into_filter_map (root_missing w) w.roots name (name, None) h.0 (root_has w name (unfound name w.candidates h.1)))
  missing_into (name, Some by) h =
      let s : Candidate = h.0 in
      let need = h.3 in
      let r : Requires = need.0 in
      let nowhere : place_named r.name w.candidates ≡ None = unfound r.name w.candidates (ap (located w) need.3 ∙ h.4) in
      let same : (r.name, Some (candidate_name s)) ≡ (name, Some by) = λ i. (need.3 i, Some (h.2 i)) in
      let here : Contains (missing_of w s) (name, Some by) = into_filter_map (entry_missing w (candidate_name s)) s.observed.declaration.required r (name, Some by) need.1 (entry_has w (candidate_name s) r need.2 nowhere ∙ ap Some same) in
      let p = members.all s h.1 in
      let at : Contains (missing_at w p.0) (name, Some by) = subst (λ (o : Option Candidate). Contains (option_map_or (missing_of w) o []) (name, Some by)) (sym p.2) here in
      Contains-append_right (filter_map (root_missing w) w.roots) (flat_map (missing_at w) ps) (name, Some by) (into_flat_map (missing_at w) ps p.0 (name, Some by) p.1 at)

  pub least_missing_right : (name : List ℕ) (by : Option (List ℕ)) → Some (name, by) ≡ least_from None (all_missing w ps) → IsLeast fault_cmp (MissingFault w) (NotFound name by)
  least_missing_right name by e =
      let k = least_of_list (all_missing w ps) (name, by) (sym e) in
      record { has = missing_from (name, by) k.has; least = below k }
    where
      below : IsLeast lack_cmp (Contains (all_missing w ps)) (name, by) → (f : ResolveFault) → MissingFault w f → fault_cmp f (NotFound name by) ≢ Less
      below k (NotFound n b) h l = k.least (n, b) (missing_into (n, b) h) (sym (not_found_cmp n b name by) ∙ l)
      below k f h l = absurd h

  pub none_missing : None ≡ least_from None (all_missing w ps) → (f : ResolveFault) → MissingFault w f → ⊥
  none_missing e (NotFound n b) h = least_of_none (all_missing w ps) (n, b) (sym e) (missing_into (n, b) h)
  none_missing e f h = absurd h
