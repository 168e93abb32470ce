-- Chains of places and justified lists of modules: what the closure marks is the set.
use Rattle.std.proofs.Common.{◌≡◌, ◌<◌, ◌+◌, ◌⊎◌, ℕ, zero, suc, List, [], ◌∷◌, length, slice_get, inl, inr, ⊎_elim, refl, sym, ◌∙◌, ap, subst, Contains, All, Option, Some, None, Bool, true, false, true≢false, cond, ◌&&◌, filter_map, flat_map, arith}
use Rattle.std.proofs.lemmas.List.{length-map}
use Rattle.std.proofs.lemmas.Option.{slice_get_within}
use Rattle.std.proofs.lemmas.List.Elements.{Contains-append_left, Contains-append_right, Contains-append_cases}
use Rattle.jl_prim.specs.declared.declaration.Requires.{Requires}
use Rattle.jl_prim.specs.declared.declaration.Provides.{Provides}
use Rattle.jl_closure.specs.Reached.{Chain, Follows, IsReached, AreMarksOf}
use Rattle.jl_logic.specs.Order.{is_text}
use Rattle.jl_logic.proofs.Rising.{contains_head, contains_tail, contains_cases, contains_nothing}
use Rattle.jl_config.specs.declared.candidate.Candidate.{Candidate}
use Rattle.jl_config.specs.declared.provisions.Provision.{Provision}
use Rattle.jl_config.specs.Located.{Scene, candidate_name, is_here}
use Rattle.jl_config.specs.Members.{is_followed, Needs, Uses, IsProvidedBy, IsFound, Enumerated, IsAbove, IsUsed, IsCaused, IsJustified, IsBound, IsMemberBy, IsMember}
use Rattle.jl_config.specs.MemberRows.{found_place, needed_place, needed_places, is_place, provided_by, provisions_of, provisions_from, offers, for_service, providers, member_row, member_rows, above_from, member_starts, cleared}
use Rattle.jl_config.specs.Places.{place_named, AreMarks}
use Rattle.jl_config.proofs.Lists.{into_filter_map, from_filter_map, contains_at, place_in, into_map, from_map, row_at, same_item, all_of, into_flat_map, from_flat_map}
use Rattle.jl_config.proofs.MemberFinds.{FoundAt, found_where, found_shows, found_has}
use Rattle.jl_config.proofs.Names.{text_is, text_itself}
use Rattle.std.proofs.lemmas.Bool.{and_parts}
use Rattle.jl_closure.proofs.Always.{marks_exist}

is_place_so : (p : ℕ) (o : Option ℕ) → is_place p o ≡ true → o ≡ Some p
is_place_so p None e = absurd cc
is_place_so p (Some q) e = let same : q ≡ p = grind arith in ap Some same

is_place_has : (p : ℕ) (o : Option ℕ) → o ≡ Some p → is_place p o ≡ true
is_place_has p None e = absurd cc
is_place_has p (Some q) e = let same : q ≡ p = cc in grind arith

-- ---- providers

-- who provides, where a list begins at place p
abbrev Shown : Scene → List Candidate → ℕ → Provision → Type 0
Shown w ss p v = (s : Candidate) × (k : ℕ) × (slice_get ss k ≡ Some s) × (p + k ≡ v.place) × (is_place v.place (found_place w (candidate_name s)) ≡ true) × IsProvidedBy s v.service

provisions_show : (w : Scene) (ss : List Candidate) (p : ℕ) (v : Provision) → Contains (provisions_from w p ss) v → Shown w ss p v
provisions_show w [] p v c = contains_nothing v c
provisions_show w (s ∷ ss) p v c = ⊎_elim (λ k. by (is_place p (found_place w (candidate_name s))) refl k) (λ k. later (provisions_show w ss (p + 1) v k)) (Contains-append_cases (provisions_of w p s) (provisions_from w (p + 1) ss) v c)
  where
    later : Shown w ss (p + 1) v → Shown w (s ∷ ss) p v
    later r = (r.0, suc r.1, r.2, omega (arith, r.3), r.4, r.5)

    by : (b : Bool) → is_place p (found_place w (candidate_name s)) ≡ b → Contains (cond b (provided_by p s.observed.declaration.provides) []) v → Shown w (s ∷ ss) p v
    by true e k =
        let r = from_map (λ (e : Provides). record { service = e.service; place = p }) s.observed.declaration.provides v k in
        let at : p ≡ v.place = ap (λ (x : Provision). x.place) r.2 in
        let named : r.0.service ≡ v.service = ap (λ (x : Provision). x.service) r.2 in
        (s, 0, refl, omega (arith, at), subst (λ (k : ℕ). is_place k (found_place w (candidate_name s)) ≡ true) at e, (r.0, r.1, named))
    by false e k = contains_nothing v k

provisions_have : (w : Scene) (ss : List Candidate) (p k : ℕ) (s : Candidate) (e : Provides) → slice_get ss k ≡ Some s → is_place (p + k) (found_place w (candidate_name s)) ≡ true → Contains s.observed.declaration.provides e
    → Contains (provisions_from w p ss) (record { service = e.service; place = p + k })
provisions_have w [] p k s e at f c = absurd cc
provisions_have w (t ∷ ss) p zero s e at f c =
    let same : t ≡ s = cc in
    let z : p + 0 ≡ p = omega arith in
    let here : is_place p (found_place w (candidate_name t)) ≡ true = subst (λ (k : ℕ). is_place k (found_place w (candidate_name t)) ≡ true) z (subst (λ (u : Candidate). is_place (p + 0) (found_place w (candidate_name u)) ≡ true) (sym same) f) in
    let there : Contains (provided_by p t.observed.declaration.provides) (record { service = e.service; place = p }) = into_map (λ (e : Provides). record { service = e.service; place = p }) t.observed.declaration.provides e (subst (λ (u : Candidate). Contains u.observed.declaration.provides e) (sym same) c) in
    let own : Contains (provisions_of w p t) (record { service = e.service; place = p }) = subst (λ (b : Bool). Contains (cond b (provided_by p t.observed.declaration.provides) []) (record { service = e.service; place = p })) (sym here) there in
    Contains-append_left (provisions_of w p t) (provisions_from w (p + 1) ss) (record { service = e.service; place = p + 0 }) (subst (λ (k : ℕ). Contains (provisions_of w p t) (record { service = e.service; place = k })) (sym z) own)
provisions_have w (t ∷ ss) p (suc k) s e at f c =
    let z : p + 1 + k ≡ p + suc k = omega arith in
    let more : Contains (provisions_from w (p + 1) ss) (record { service = e.service; place = p + 1 + k }) = provisions_have w ss (p + 1) k s e at (subst (λ (k : ℕ). is_place k (found_place w (candidate_name s)) ≡ true) (sym z) f) c in
    Contains-append_right (provisions_of w p t) (provisions_from w (p + 1) ss) (record { service = e.service; place = p + suc k }) (subst (λ (k : ℕ). Contains (provisions_from w (p + 1) ss) (record { service = e.service; place = k })) z more)

-- the module at a place serves one that uses a service
abbrev pub Serves : Scene → Candidate → ℕ → Type 0
Serves w s p = (service : List ℕ) × Uses s service × ((t : Candidate) × FoundAt w p t × IsProvidedBy t service)

abbrev pub IsNeeded : Scene → Candidate → ℕ → Type 0
IsNeeded w s p = (t : Candidate) × FoundAt w p t × Needs s (candidate_name t)

-- why a place follows that of s
abbrev pub Brings : Scene → Candidate → ℕ → Type 0
Brings w s p = ((is_here w s ≡ true) × IsNeeded w s p) ⊎ ((w.binds ≡ true) × Serves w s p)

module _ (w : Scene) where
  shown_serves : (v : Provision) → Shown w w.candidates 0 v → (t : Candidate) × FoundAt w v.place t × IsProvidedBy t v.service
  shown_serves v r =
      let f = found_shows w (candidate_name r.0) v.place (is_place_so v.place (found_place w (candidate_name r.0)) r.4) in
      let k : r.1 ≡ v.place = omega (arith, r.3) in
      let at : slice_get w.candidates v.place ≡ Some r.0 = subst (λ (k : ℕ). slice_get w.candidates k ≡ Some r.0) k r.2 in
      let same : r.0 ≡ f.0 = same_item r.0 f.0 (slice_get w.candidates v.place) at f.1.at in
      (f.0, f.1, subst (λ (t : Candidate). IsProvidedBy t v.service) same r.5)

  offers_show : (v : Provision) → Contains (offers w) v → (w.binds ≡ true) × ((t : Candidate) × FoundAt w v.place t × IsProvidedBy t v.service)
  offers_show v c = by w.binds refl c
    where
      by : (b : Bool) → w.binds ≡ b → Contains (cond b (provisions_from w 0 w.candidates) []) v → (w.binds ≡ true) × ((t : Candidate) × FoundAt w v.place t × IsProvidedBy t v.service)
      by true e k = (e, shown_serves v (provisions_show w w.candidates 0 v k))
      by false e k = contains_nothing v k

  offers_have : (p : ℕ) (t : Candidate) (e : Provides) → w.binds ≡ true → FoundAt w p t → Contains t.observed.declaration.provides e → Contains (offers w) (record { service = e.service; place = p })
  offers_have p t e b f c =
      let z : 0 + p ≡ p = omega arith in
      let here : is_place (0 + p) (found_place w (candidate_name t)) ≡ true = subst (λ (k : ℕ). is_place k (found_place w (candidate_name t)) ≡ true) (sym z) (is_place_has p (found_place w (candidate_name t)) (found_has w p t f)) in
      let there : Contains (provisions_from w 0 w.candidates) (record { service = e.service; place = p }) =
      subst (λ (k : ℕ). Contains (provisions_from w 0 w.candidates) (record { service = e.service; place = k })) z (provisions_have w w.candidates 0 p t e f.at here c) in
      subst (λ (b : Bool). Contains (cond b (provisions_from w 0 w.candidates) []) (record { service = e.service; place = p })) (sym b) there

  -- ---- rows

  needed_shows : (s : Candidate) (p : ℕ) → Contains (needed_places w s) p → (is_here w s ≡ true) × IsNeeded w s p
  needed_shows s p c = by (is_here w s) refl c
    where
      entry : (r : Requires) (b : Bool) → is_followed r ≡ b → cond b (found_place w r.name) None ≡ Some p → Contains s.observed.declaration.required r → IsNeeded w s p
      entry r true e g k = let f = found_shows w r.name p g in (f.0, f.1, (r, k, e, sym f.2))
      entry r false e g k = absurd cc

      by : (b : Bool) → is_here w s ≡ b → Contains (cond b (filter_map (needed_place w) s.observed.declaration.required) []) p → (is_here w s ≡ true) × IsNeeded w s p
      by true e k = let r = from_filter_map (needed_place w) s.observed.declaration.required p k in (e, entry r.0 (is_followed r.0) refl r.2 r.1)
      by false e k = contains_nothing p k

  needed_has : (s t : Candidate) (p : ℕ) → is_here w s ≡ true → FoundAt w p t → Needs s (candidate_name t) → Contains (needed_places w s) p
  needed_has s t p here f need =
      let r : Requires = need.0 in
      let place : found_place w r.name ≡ Some p = ap (found_place w) need.3 ∙ found_has w p t f in
      let entry : needed_place w r ≡ Some p = ap (λ (b : Bool). cond b (found_place w r.name) None) need.2 ∙ place in
      let there : Contains (filter_map (needed_place w) s.observed.declaration.required) p = into_filter_map (needed_place w) s.observed.declaration.required r p need.1 entry in
      subst (λ (b : Bool). Contains (cond b (filter_map (needed_place w) s.observed.declaration.required) []) p) (sym here) there

  for_service_so : (service : List ℕ) (v : Provision) (p : ℕ) → for_service service v ≡ Some p → (v.service ≡ service) × (v.place ≡ p)
  for_service_so service v p e = by (is_text v.service service) refl e
    where
      by : (b : Bool) → is_text v.service service ≡ b → cond b (Some v.place) None ≡ Some p → (v.service ≡ service) × (v.place ≡ p)
      by true f g = (text_is v.service service f, cc)
      by false f g = absurd cc

  served_shows : (s : Candidate) (p : ℕ) → Contains (flat_map (providers (offers w)) s.observed.declaration.uses) p → (w.binds ≡ true) × Serves w s p
  served_shows s p c =
      let r = from_flat_map (providers (offers w)) s.observed.declaration.uses p c in
      let v = from_filter_map (for_service r.0) (offers w) p r.2 in
      let so = for_service_so r.0 v.0 p v.2 in
      let o = offers_show v.0 v.1 in
      (o.0, (r.0, r.1, (o.1.0, subst (λ (k : ℕ). FoundAt w k o.1.0) so.1 o.1.1, subst (λ (n : List ℕ). IsProvidedBy o.1.0 n) so.0 o.1.2)))

  served_has : (s : Candidate) (p : ℕ) → w.binds ≡ true → Serves w s p → Contains (flat_map (providers (offers w)) s.observed.declaration.uses) p
  served_has s p b h =
      let service : List ℕ = h.0 in
      let e : Provides = h.2.2.0 in
      let v : Provision = record { service = e.service; place = p } in
      let c : Contains (offers w) v = offers_have p h.2.0 e b h.2.1 h.2.2.1 in
      let same : is_text e.service service ≡ true = ap (λ (n : List ℕ). is_text n service) h.2.2.2 ∙ text_itself service in
      let at : for_service service v ≡ Some p = ap (λ (b : Bool). cond b (Some p) None) same in
      into_flat_map (providers (offers w)) s.observed.declaration.uses service p h.1 (into_filter_map (for_service service) (offers w) v p c at)

  abbrev row : Candidate → List ℕ
  row = member_row w (providers (offers w))

  in_row_shows : (s : Candidate) (p : ℕ) → Contains (row s) p → Brings w s p
  in_row_shows s p c =
      ⊎_elim (λ k. inl (needed_shows s p k)) (λ k. inr (served_shows s p k)) (Contains-append_cases (needed_places w s) (flat_map (providers (offers w)) s.observed.declaration.uses) p c)

  in_row_has : (s : Candidate) (p : ℕ) → Brings w s p → Contains (row s) p
  in_row_has s p h =
      ⊎_elim
      (λ k. Contains-append_left (needed_places w s) (flat_map (providers (offers w)) s.observed.declaration.uses) p (needed_has s k.1.0 p k.0 k.1.1 k.1.2))
      (λ k. Contains-append_right (needed_places w s) (flat_map (providers (offers w)) s.observed.declaration.uses) p (served_has s p k.0 k.1))
      h

  pub follows_shows : (q p : ℕ) (s : Candidate) → slice_get w.candidates q ≡ Some s → Follows (member_rows w) q p → Brings w s p
  follows_shows q p s at h = in_row_shows s p (subst (λ (l : List ℕ). Contains l p) (row_at row w.candidates q s [] at) h)

  pub follows_has : (q p : ℕ) (s : Candidate) → slice_get w.candidates q ≡ Some s → Brings w s p → Follows (member_rows w) q p
  follows_has q p s at h = subst (λ (l : List ℕ). Contains l p) (sym (row_at row w.candidates q s [] at)) (in_row_has s p h)

  pub rows_long : length (member_rows w) ≡ length w.candidates
  rows_long = length-map w.candidates row

  in_rows : (s : Candidate) (p : ℕ) → slice_get w.candidates p ≡ Some s → p < length (member_rows w)
  in_rows s p at = subst (λ (n : ℕ). p < n) (sym rows_long) (slice_get_within w.candidates p s at)

  brought_within : (s : Candidate) (p : ℕ) → Brings w s p → p < length (member_rows w)
  brought_within s p h = ⊎_elim (λ k. let f : FoundAt w p k.1.0 = k.1.1 in in_rows k.1.0 p f.at) (λ k. let f : FoundAt w p k.1.2.0 = k.1.2.1 in in_rows k.1.2.0 p f.at) h

  pub rows_within : All (λ r. All (λ p. p < length (member_rows w)) r) (member_rows w)
  rows_within =
      all_of (λ r. All (λ p. p < length (member_rows w)) r) (member_rows w) (λ r c.
      let s = from_map row w.candidates r c in
      all_of (λ p. p < length (member_rows w)) r (λ p k. brought_within s.0 p (in_row_shows s.0 p (subst (λ (l : List ℕ). Contains l p) (sym s.2) k))))

  -- ---- starts

  abbrev pub Begins : ℕ → Type 0
  Begins p = ((s : Candidate) × FoundAt w p s × Contains w.roots (candidate_name s)) ⊎ ((w.binds ≡ true) × ((s : Candidate) × (slice_get w.candidates p ≡ Some s) × (is_here w s ≡ false)))

  abbrev AboveFrom : List Candidate → ℕ → ℕ → Type 0
  AboveFrom ss p v = (k : ℕ) × (s : Candidate) × (slice_get ss k ≡ Some s) × (p + k ≡ v) × (is_here w s ≡ false)

  above_shows : (ss : List Candidate) (p v : ℕ) → Contains (above_from w p ss) v → AboveFrom ss p v
  above_shows [] p v c = contains_nothing v c
  above_shows (s ∷ ss) p v c = by (λ k. above_shows ss (p + 1) v k) (is_here w s) refl c
    where
      later : AboveFrom ss (p + 1) v → AboveFrom (s ∷ ss) p v
      later r = (suc r.0, r.1, r.2, omega (arith, r.3), r.4)

      by : (Contains (above_from w (p + 1) ss) v → AboveFrom ss (p + 1) v) → (b : Bool) → is_here w s ≡ b → Contains (cond b (above_from w (p + 1) ss) (p ∷ above_from w (p + 1) ss)) v → AboveFrom (s ∷ ss) p v
      by more true e k = later (more k)
      by more false e k = ⊎_elim (λ f. (0, s, refl, omega (arith, f), e)) (λ m. later (more m)) (contains_cases p v (above_from w (p + 1) ss) k)

  above_has : (ss : List Candidate) (p k : ℕ) (s : Candidate) → slice_get ss k ≡ Some s → is_here w s ≡ false → Contains (above_from w p ss) (p + k)
  above_has [] p k s at e = absurd cc
  above_has (t ∷ ss) p zero s at e =
      let same : s ≡ t = cc in
      let here : is_here w t ≡ false = subst (λ (u : Candidate). is_here w u ≡ false) same e in
      let z : p + 0 ≡ p = omega arith in
      subst (λ (b : Bool). Contains (cond b (above_from w (p + 1) ss) (p ∷ above_from w (p + 1) ss)) (p + 0)) (sym here) (subst (λ (k : ℕ). Contains (p ∷ above_from w (p + 1) ss) k) (sym z) (contains_head p (above_from w (p + 1) ss)))
  above_has (t ∷ ss) p (suc k) s at e =
      let z : p + 1 + k ≡ p + suc k = omega arith in
      let more : Contains (above_from w (p + 1) ss) (p + suc k) = subst (λ (k : ℕ). Contains (above_from w (p + 1) ss) k) z (above_has ss (p + 1) k s at e) in
      by (is_here w t) more
    where
      by : (b : Bool) → Contains (above_from w (p + 1) ss) (p + suc k) → Contains (cond b (above_from w (p + 1) ss) (p ∷ above_from w (p + 1) ss)) (p + suc k)
      by true m = m
      by false m = contains_tail p (p + suc k) (above_from w (p + 1) ss) m

  abbrev root_starts : List ℕ
  root_starts = filter_map (found_place w) w.roots

  abbrev above_starts : Bool → List ℕ
  above_starts b = cond b (above_from w 0 w.candidates) []

  pub start_shows : (p : ℕ) → Contains (member_starts w) p → Begins p
  start_shows p c =
      ⊎_elim
      (λ k.
      let r = from_filter_map (found_place w) w.roots p k in
      let f = found_shows w r.0 p r.2 in
      inl (f.0, f.1, subst (Contains w.roots) (sym f.2) r.1))
      (λ k. by w.binds refl k)
      (Contains-append_cases root_starts (above_starts w.binds) p c)
    where
      by : (b : Bool) → w.binds ≡ b → Contains (above_starts b) p → Begins p
      by true e k =
          let r = above_shows w.candidates 0 p k in
          let z : r.0 ≡ p = omega (arith, r.3) in
          inr (e, (r.1, subst (λ (k : ℕ). slice_get w.candidates k ≡ Some r.1) z r.2, r.4))
      by false e k = contains_nothing p k

  pub start_has : (p : ℕ) → Begins p → Contains (member_starts w) p
  start_has p h =
      ⊎_elim
      (λ k. Contains-append_left root_starts (above_starts w.binds) p (into_filter_map (found_place w) w.roots (candidate_name k.0) p k.2 (found_has w p k.0 k.1)))
      (λ k.
      let z : 0 + p ≡ p = omega arith in
      let there : Contains (above_from w 0 w.candidates) p = subst (λ (k : ℕ). Contains (above_from w 0 w.candidates) k) z (above_has w.candidates 0 p k.1.0 k.1.1 k.1.2) in
      Contains-append_right root_starts (above_starts w.binds) p (subst (λ (b : Bool). Contains (above_starts b) p) (sym k.0) there))
      h

  pub starts_within : All (λ p. p < length (member_rows w)) (member_starts w)
  starts_within = all_of (λ p. p < length (member_rows w)) (member_starts w) (λ p c. ⊎_elim (λ k. let f : FoundAt w p k.0 = k.1 in in_rows k.0 p f.at) (λ k. in_rows k.1.0 p k.1.1) (start_shows p c))

  -- ---- chains

  abbrev Reached : ℕ → Type 0
  Reached p = IsReached (member_rows w) (member_starts w) p

  -- what a chain of n steps shows with binding
  abbrev Bounded : ℕ → Type 0
  Bounded p = (s : Candidate) × (slice_get w.candidates p ≡ Some s) × ((is_here w s ≡ false) ⊎ (FoundAt w p s × IsBound w s))

  -- a module that an ancestor has causes what serves it
  above_causes : (s : Candidate) (q p : ℕ) → slice_get w.candidates q ≡ Some s → is_here w s ≡ false → Brings w s p → Bounded p
  above_causes s q p at here h =
      ⊎_elim
      (λ k. absurd (true≢false (sym k.0 ∙ here)))
      (λ k.
      let service : List ℕ = k.1.0 in
      let t : Candidate = k.1.2.0 in
      let f : FoundAt w p t = k.1.2.1 in
      let used : IsUsed w [] service = (s, inr (contains_at w.candidates q s at, here), k.1.1) in
      let caused : IsCaused w [] t = inr (inr (service, k.1.2.2, used)) in
      (t, f.at, inr (f, ([], (f.found, caused, tt)))))
      h

  bound_causes : (s : Candidate) (p : ℕ) → IsBound w s → Brings w s p → Bounded p
  bound_causes s p b h =
      let list : List Candidate = s ∷ b.0 in
      ⊎_elim
      (λ k.
      let t : Candidate = k.1.0 in
      let f : FoundAt w p t = k.1.1 in
      let caused : IsCaused w list t = inr (inl (s, contains_head s b.0, k.1.2)) in
      (t, f.at, inr (f, (list, (f.found, caused, b.1)))))
      (λ k.
      let service : List ℕ = k.1.0 in
      let t : Candidate = k.1.2.0 in
      let f : FoundAt w p t = k.1.2.1 in
      let used : IsUsed w list service = (s, inl (contains_head s b.0), k.1.1) in
      let caused : IsCaused w list t = inr (inr (service, k.1.2.2, used)) in
      (t, f.at, inr (f, (list, (f.found, caused, b.1)))))
      h

  pub chain_bounded : (n p : ℕ) → Chain (member_rows w) (member_starts w) n p → Bounded p
  chain_bounded zero p h =
      ⊎_elim
      (λ k. let f : FoundAt w p k.0 = k.1 in (k.0, f.at, inr (f, ([], (f.found, inl k.2, tt)))))
      (λ k. (k.1.0, k.1.1, inl k.1.2))
      (start_shows p h)
  chain_bounded (suc n) p h =
      let r = chain_bounded n h.0 h.1 in
      let why : Brings w r.0 p = follows_shows h.0 p r.0 r.1 h.2 in
      ⊎_elim (λ above. above_causes r.0 h.0 p r.1 above why) (λ k. bound_causes r.0 p k.1 why) r.2

  -- and without
  pub chain_enumerated : w.binds ≡ false → (n p : ℕ) → Chain (member_rows w) (member_starts w) n p → (s : Candidate) × FoundAt w p s × Enumerated w n s
  chain_enumerated unbound zero p h =
      ⊎_elim
      (λ k. let f : FoundAt w p k.0 = k.1 in (k.0, f, (f.found, k.2)))
      (λ k. absurd (true≢false (sym k.0 ∙ unbound)))
      (start_shows p h)
  chain_enumerated unbound (suc n) p h =
      let r = chain_enumerated unbound n h.0 h.1 in
      let f : FoundAt w h.0 r.0 = r.1 in
      ⊎_elim
      (λ k. let g : FoundAt w p k.1.0 = k.1.1 in (k.1.0, g, (g.found, (r.0, r.2, k.1.2))))
      (λ k. absurd (true≢false (sym k.0 ∙ unbound)))
      (follows_shows h.0 p r.0 f.at h.2)

  abbrev Reaches : Candidate → Type 0
  Reaches s = (p : ℕ) × FoundAt w p s × Reached p

  next_reached : (q : ℕ) (s t : Candidate) → slice_get w.candidates q ≡ Some s → Reached q → IsFound w t → ((p : ℕ) → FoundAt w p t → Brings w s p) → Reaches t
  next_reached q s t at r found why =
      let f = found_where w t found in
      (f.0, f.1, (suc r.0, (q, r.1, follows_has q f.0 s at (why f.0 f.1))))

  root_reached : (t : Candidate) → IsFound w t → Contains w.roots (candidate_name t) → Reaches t
  root_reached t found c = let f = found_where w t found in (f.0, f.1, (0, start_has f.0 (inl (t, f.1, c))))

  used_reached : w.binds ≡ true → (earlier : List Candidate) → ((t : Candidate) → Contains earlier t → Reaches t) → (u : Candidate) → Contains earlier u ⊎ IsAbove w u → (q : ℕ) × (slice_get w.candidates q ≡ Some u) × Reached q
  used_reached bound earlier before u h =
      ⊎_elim
      (λ c. let r = before u c in let f : FoundAt w r.0 u = r.1 in (r.0, f.at, r.2))
      (λ a. let p = place_in w.candidates u a.0 in (p.0, p.1, (0, start_has p.0 (inr (bound, (u, p.1, a.1))))))
      h

  caused_reached : w.binds ≡ true → (earlier : List Candidate) → ((t : Candidate) → Contains earlier t → Reaches t) → (s : Candidate) → IsFound w s → IsCaused w earlier s → Reaches s
  caused_reached bound earlier before s found h =
      ⊎_elim
      (λ c. root_reached s found c)
      (λ m.
      ⊎_elim
      (λ k.
      let r = before k.0 k.1 in
      let f : FoundAt w r.0 k.0 = r.1 in
      next_reached r.0 k.0 s f.at r.2 found (λ p g. inl (f.found.by_finder, (s, g, k.2))))
      (λ k.
      let u : Candidate = k.2.0 in
      let r = used_reached bound earlier before u k.2.1 in
      next_reached r.0 u s r.1 r.2 found (λ p g. inr (bound, (k.0, k.2.2, (s, g, k.1)))))
      m)
      h

  pub justified_reached : w.binds ≡ true → (l : List Candidate) → IsJustified w l → (t : Candidate) → Contains l t → Reaches t
  justified_reached bound [] j t c = contains_nothing t c
  justified_reached bound (s ∷ earlier) j t c =
      let before = justified_reached bound earlier j.2 in
      ⊎_elim (λ e. subst Reaches e (caused_reached bound earlier before s j.0 j.1)) (λ k. before t k) (contains_cases s t earlier c)

  pub enumerated_reached : (n : ℕ) (s : Candidate) → Enumerated w n s → Reaches s
  enumerated_reached zero s h = root_reached s h.0 h.1
  enumerated_reached (suc n) s h =
      let r = enumerated_reached n h.1.0 h.1.1 in
      let f : FoundAt w r.0 h.1.0 = r.1 in
      next_reached r.0 h.1.0 s f.at r.2 h.0 (λ p g. inl (f.found.by_finder, (s, g, h.1.2)))

  -- ---- the set

  -- a place that is reached is an ancestor's or a member's
  pub reached_member : (p : ℕ) → Reached p → (s : Candidate) × (slice_get w.candidates p ≡ Some s) × ((is_here w s ≡ false) ⊎ (FoundAt w p s × IsMember w s))
  reached_member p r = by w.binds refl
    where
      by : (b : Bool) → w.binds ≡ b → (s : Candidate) × (slice_get w.candidates p ≡ Some s) × ((is_here w s ≡ false) ⊎ (FoundAt w p s × IsMember w s))
      by true e =
          let h = chain_bounded r.0 p r.1 in
          (h.0, h.1, ⊎_elim (λ k. inl k) (λ k. inr (k.0, subst (λ (b : Bool). IsMemberBy b w h.0) (sym e) k.1)) h.2)
      by false e =
          let h = chain_enumerated e r.0 p r.1 in
          let f : FoundAt w p h.0 = h.1 in
          let m : IsMemberBy false w h.0 = (r.0, h.2) in
          (h.0, f.at, inr (f, subst (λ (b : Bool). IsMemberBy b w h.0) (sym e) m))

  pub member_reached : (s : Candidate) → IsMember w s → Reaches s
  member_reached s m = by w.binds refl
    where
      by : (b : Bool) → w.binds ≡ b → Reaches s
      by true e =
          let h : IsBound w s = subst (λ (b : Bool). IsMemberBy b w s) e m in
          justified_reached e (s ∷ h.0) h.1 s (contains_head s h.0)
      by false e =
          let h : IsMemberBy false w s = subst (λ (b : Bool). IsMemberBy b w s) e m in
          enumerated_reached h.0 s h.1

  cleared_long : (ss : List Candidate) (ms : List Bool) → length ms ≡ length ss → length (cleared w ss ms) ≡ length ss
  cleared_long [] ms e = refl
  cleared_long (s ∷ ss) [] e = absurd (omega arith)
  cleared_long (s ∷ ss) (m ∷ ms) e = omega (arith, cleared_long ss ms (omega arith))

  cleared_shows : (ss : List Candidate) (ms : List Bool) (p : ℕ) (s : Candidate) → slice_get ss p ≡ Some s → slice_get (cleared w ss ms) p ≡ Some true → (slice_get ms p ≡ Some true) × (is_here w s ≡ true)
  cleared_shows [] ms p s at e = absurd cc
  cleared_shows (t ∷ ss) [] p s at e = absurd cc
  cleared_shows (t ∷ ss) (m ∷ ms) zero s at e =
      let same : t ≡ s = cc in
      let set : (m && is_here w t) ≡ true = cc in
      let r = and_parts m (is_here w t) set in
      (ap Some r.0, subst (λ (u : Candidate). is_here w u ≡ true) same r.1)
  cleared_shows (t ∷ ss) (m ∷ ms) (suc p) s at e = cleared_shows ss ms p s at e

  cleared_has : (ss : List Candidate) (ms : List Bool) (p : ℕ) (s : Candidate) → slice_get ss p ≡ Some s → slice_get ms p ≡ Some true → is_here w s ≡ true → slice_get (cleared w ss ms) p ≡ Some true
  cleared_has [] ms p s at e h = absurd cc
  cleared_has (t ∷ ss) [] p s at e h = absurd cc
  cleared_has (t ∷ ss) (m ∷ ms) zero s at e h =
      let same : s ≡ t = cc in
      let set : m ≡ true = cc in
      ap (λ (b : Bool). Some (b && is_here w t)) set ∙ ap Some (subst (λ (u : Candidate). is_here w u ≡ true) same h)
  cleared_has (t ∷ ss) (m ∷ ms) (suc p) s at e h = cleared_has ss ms p s at e h

  -- the marks of the closure, without ancestors' places, are those of the set
  pub marks_right : (raw kept : List Bool) → AreMarksOf (member_rows w) (member_starts w) raw → kept ≡ cleared w w.candidates raw → AreMarks w kept
  marks_right raw kept marks is = subst (AreMarks w) (sym is) (record {
    one_each = cleared_long w.candidates raw (marks.one_each ∙ rows_long);
    only = λ p s at m.
        let c = cleared_shows w.candidates raw p s at m in
        let r = reached_member p (marks.only p c.0) in
        let same : r.0 ≡ s = same_item r.0 s (slice_get w.candidates p) r.1 at in
        ⊎_elim
        (λ above. absurd (true≢false (sym c.1 ∙ subst (λ (u : Candidate). is_here w u ≡ false) same above)))
        (λ k. let f : FoundAt w p s = subst (FoundAt w p) same k.0 in (subst (IsMember w) same k.1, f.first))
        r.2;
    all = λ p s at m first.
        let r = member_reached s m in
        let f : FoundAt w r.0 s = r.1 in
        let same : r.0 ≡ p = same_item r.0 p (place_named (candidate_name s) w.candidates) f.first first in
        cleared_has w.candidates raw p s at (subst (λ (k : ℕ). slice_get raw k ≡ Some true) same (marks.all r.0 r.2)) f.found.by_finder;
  })

-- the marks of the set exist
pub members_exist : (w : Scene) → (marks : List Bool) × AreMarks w marks
members_exist w =
    let raw = marks_exist (member_rows w) (member_starts w) (rows_within w) (starts_within w) in
    (cleared w w.candidates raw.0, marks_right w raw.0 (cleared w w.candidates raw.0) raw.1 refl)
