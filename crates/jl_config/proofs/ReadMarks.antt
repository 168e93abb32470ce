-- What a closure over the reads' rows marks is what a module reads.
use Rattle.std.proofs.Common.{◌≡◌, ◌<◌, ℕ, zero, suc, List, [], ◌∷◌, length, get_or, slice_get, map, inl, inr, ⊎_elim, refl, sym, ◌∙◌, ap, subst, Contains, All, Option, Some, None, Bool, true, false, cond, IsTrue, filter_map}
use Rattle.std.specs.Option.{option_or}
use Rattle.std.proofs.lemmas.List.{length-map}
use Rattle.std.proofs.lemmas.Option.{slice_get_within, get_or_from_slice_get, slice_get_read}
use Rattle.std.proofs.lemmas.List.Elements.{All-map, All-push, Contains-append_left, Contains-append_right, Contains-append_cases}
use Rattle.jl_prim.specs.declared.declaration.Requires.{Requires}
use Rattle.jl_closure.specs.Reached.{Chain, Follows, IsReached, AreMarksOf}
use Rattle.jl_closure.proofs.Always.{marks_exist}
use Rattle.jl_logic.proofs.Rising.{contains_head, contains_tail, contains_cases, contains_nothing}
use Rattle.jl_config.specs.declared.configuration.Read.{Read}
use Rattle.jl_config.specs.declared.candidate.Candidate.{Candidate}
use Rattle.jl_config.specs.Located.{Scene, candidate_name, is_here, located_above, find_read, read_candidate}
use Rattle.jl_config.specs.Members.{IsMember, MeansMember, MeansHere, MeansBy, Means, IsPassedOn, ReadsBy, Reads, is_passed_on}
use Rattle.jl_config.specs.Places.{place_named, place_above, member_place, place_of_candidate, read_place, own_place, AreMarks, AreReadBy}
use Rattle.jl_config.specs.ReadRows.{here_place, meant_place, required_places, passed_place, passed_places, read_rows, read_starts}
use Rattle.jl_config.proofs.Lists.{into_filter_map, from_filter_map, into_map, from_map, row_at, same_item, all_of, mark_of}
use Rattle.jl_config.proofs.MemberFinds.{kept_shows, member_found}
use Rattle.jl_config.proofs.Finds.{NamedAt, named_shows, named_place, own_shows, own_place_of, named_first, above_shows, above_place}

-- a place, the module there, and that it is the first of its configuration and name
pub record First (w : Scene) (p : ℕ) (b : Candidate) : Type 0 where
  pub at : slice_get w.candidates p ≡ Some b
  pub first : place_of_candidate b.config (candidate_name b) w.candidates ≡ Some p

pub placed_first : (w : Scene) (name : List ℕ) (p : ℕ) (b : Candidate) → place_named name w.candidates ≡ Some p → slice_get w.candidates p ≡ Some b → First w p b
placed_first w name p b e at =
    let s = named_shows name w.candidates p e in
    let same : s.0 ≡ b = same_item s.0 b (slice_get w.candidates p) s.1.at at in
    let named : name ≡ candidate_name b = sym s.1.named ∙ ap candidate_name same in
    record { at = at; first = subst (λ n. place_of_candidate b.config n w.candidates ≡ Some p) named (named_first name w.candidates p b e at) }

-- ---- what a name means

meant_shows_own : (w : Scene) (o : Option Read) (p : ℕ) → read_place w.candidates o ≡ Some p → (b : Candidate) × First w p b × (read_candidate w.candidates o ≡ Some b)
meant_shows_own w None p e = absurd cc
meant_shows_own w (Some r) p e =
    let s = own_shows r.config r.name w.candidates p e in
    let first : place_of_candidate s.0.config (candidate_name s.0) w.candidates ≡ Some p = rw (s.1.numbered, s.1.named) e in
    (s.0, record { at = s.1.at; first = first }, s.1.found)

own_has : (w : Scene) (o : Option Read) (b : Candidate) → read_candidate w.candidates o ≡ Some b → (p : ℕ) × (read_place w.candidates o ≡ Some p) × (slice_get w.candidates p ≡ Some b)
own_has w None b e = absurd cc
own_has w (Some r) b e = let s = own_place_of r.config r.name w.candidates b e in (s.0, s.1.first, s.1.at)

module _ (w : Scene) (marks : List Bool) (right : AreMarks w marks) where
  pub member_shows : (name : List ℕ) (p : ℕ) → member_place w marks name ≡ Some p → (b : Candidate) × First w p b × MeansMember w name b
  member_shows name p e =
      let k = kept_shows marks (place_named name w.candidates) p e in
      let s = named_shows name w.candidates p k.0 in
      (s.0, placed_first w name p s.0 k.0 s.1.at, record { meant = s.1.found; member = (right.only p s.0 s.1.at (mark_of marks p k.1)).0 })

  member_has : (name : List ℕ) (b : Candidate) → MeansMember w name b → (p : ℕ) × (member_place w marks name ≡ Some p) × (slice_get w.candidates p ≡ Some b)
  member_has name b m =
      let s = named_place name w.candidates b m.meant in
      let f : NamedAt name w.candidates s.0 b = s.1 in
      let marked : slice_get marks s.0 ≡ Some true = right.all s.0 b f.at m.member (ap (λ n. place_named n w.candidates) f.named ∙ f.first) in
      let kept : get_or marks s.0 false ≡ true = get_or_from_slice_get marks s.0 true false marked in
      (s.0, rw (f.first, kept) refl, f.at)

  no_member : (name : List ℕ) → member_place w marks name ≡ None → (m : Candidate) → MeansMember w name m → ⊥
  no_member name e m h = let r = member_has name m h in absurd (cc r.1)

  here_shows : (name : List ℕ) (p : ℕ) → here_place w marks name ≡ Some p → (b : Candidate) × First w p b × MeansHere w name b
  here_shows name p e = by (member_place w marks name) refl e
    where
      by : (o : Option ℕ) → member_place w marks name ≡ o → option_or o (place_above w name) ≡ Some p → (b : Candidate) × First w p b × MeansHere w name b
      by (Some q) f g = let s = member_shows name p (f ∙ g) in (s.0, s.1, inl s.2)
      by None f g = let s = above_shows w name p g in (s.0, record { at = s.1.at; first = s.1.own }, inr (no_member name f, s.1.found))

  here_has : (name : List ℕ) (b : Candidate) → MeansHere w name b → (p : ℕ) × (here_place w marks name ≡ Some p) × (slice_get w.candidates p ≡ Some b)
  here_has name b h = ⊎_elim (λ m. let s = member_has name b m in (s.0, rw s.1 refl, s.2)) (λ a. above a.0 a.1 (member_place w marks name) refl) h
    where
      above : ((m : Candidate) → MeansMember w name m → ⊥) → located_above w name ≡ Some b → (o : Option ℕ) → member_place w marks name ≡ o
          → (p : ℕ) × (here_place w marks name ≡ Some p) × (slice_get w.candidates p ≡ Some b)
      above none found (Some q) e = let s = member_shows name q e in absurd (none s.0 s.2)
      above none found None e = let s = above_place w name b found in (s.0, rw e s.1.first, s.1.at)

  pub meant_shows : (c : Candidate) (name : List ℕ) (p : ℕ) → meant_place w marks c name ≡ Some p → (b : Candidate) × First w p b × Means w c name b
  meant_shows c name p e = by (is_here w c) e
    where
      by : (t : Bool) → cond t (here_place w marks name) (own_place w c name) ≡ Some p → (b : Candidate) × First w p b × MeansBy t w c name b
      by true f = here_shows name p f
      by false f = meant_shows_own w (find_read c.config (candidate_name c) name w.reads) p f

  pub meant_has : (c : Candidate) (name : List ℕ) (b : Candidate) → Means w c name b → (p : ℕ) × (meant_place w marks c name ≡ Some p) × (slice_get w.candidates p ≡ Some b)
  meant_has c name b m = by (is_here w c) m
    where
      by : (t : Bool) → MeansBy t w c name b → (p : ℕ) × (cond t (here_place w marks name) (own_place w c name) ≡ Some p) × (slice_get w.candidates p ≡ Some b)
      by true n = here_has name b n
      by false n = own_has w (find_read c.config (candidate_name c) name w.reads) b n

  -- ---- rows

  passed_shows : (c : Candidate) (r : Requires) (p : ℕ) → passed_place w marks c r ≡ Some p → IsTrue (is_passed_on r) × (meant_place w marks c r.name ≡ Some p)
  passed_shows c r p e = by (is_passed_on r) refl e
    where
      by : (b : Bool) → is_passed_on r ≡ b → cond b (meant_place w marks c r.name) None ≡ Some p → IsTrue (is_passed_on r) × (meant_place w marks c r.name ≡ Some p)
      by true f g = (f, g)
      by false f g = absurd cc

  passed_has : (c : Candidate) (r : Requires) (p : ℕ) → IsTrue (is_passed_on r) → meant_place w marks c r.name ≡ Some p → passed_place w marks c r ≡ Some p
  passed_has c r p t e = rw t e

  row_shows : (q p : ℕ) (c : Candidate) → slice_get w.candidates q ≡ Some c → Follows (read_rows w marks) q p → (b : Candidate) × First w p b × IsPassedOn w c b
  row_shows q p c at h =
      let row : get_or (read_rows w marks) q [] ≡ passed_places w marks c = row_at (passed_places w marks) w.candidates q c [] at in
      let v = from_filter_map (passed_place w marks c) c.observed.declaration.required p (subst (λ l. Contains l p) row h) in
      let s = passed_shows c v.0 p v.2 in
      let m = meant_shows c v.0.name p s.1 in
      (m.0, m.1, (v.0, v.1, s.0, m.2))

  row_has : (q : ℕ) (c b : Candidate) → slice_get w.candidates q ≡ Some c → IsPassedOn w c b → (p : ℕ) × Follows (read_rows w marks) q p × (slice_get w.candidates p ≡ Some b)
  row_has q c b at h =
      let row : get_or (read_rows w marks) q [] ≡ passed_places w marks c = row_at (passed_places w marks) w.candidates q c [] at in
      let m = meant_has c h.0.name b h.3 in
      (m.0, subst (λ l. Contains l m.0) (sym row) (into_filter_map (passed_place w marks c) c.observed.declaration.required h.0 m.0 h.1 (passed_has c h.0 m.0 h.2 m.1)), m.2)

  -- ---- chains

  module _ (a : Candidate) (place : ℕ) (here : First w place a) where
    passed_on : (c b : Candidate) → Reads w a c → IsPassedOn w c b → Reads w a b
    passed_on c b h p = ⊎_elim (λ e. let f : IsPassedOn w a b = subst (λ v. IsPassedOn w v b) (sym e) p in inr (0, (f.0, f.1, f.3))) (λ m. inr (suc m.0, (c, m.1, p))) h

    chain_shows : (n p : ℕ) → Chain (read_rows w marks) (read_starts w marks a place) n p → (b : Candidate) × First w p b × Reads w a b
    chain_shows zero p h =
        ⊎_elim
        (λ c.
        let v = from_filter_map (λ (r : Requires). meant_place w marks a r.name) a.observed.declaration.required p c in
        let m = meant_shows a v.0.name p v.2 in
        (m.0, m.1, inr (0, (v.0, v.1, m.2))))
        (λ c. let e : place ≡ p = ⊎_elim (λ e. e) (λ k. contains_nothing p k) (contains_cases place p [] c) in (a, subst (λ q. First w q a) e here, inl refl))
        (Contains-append_cases (required_places w marks a) (place ∷ []) p h)
    chain_shows (suc n) p h =
        let before = chain_shows n h.0 h.1 in
        let s = row_shows h.0 p before.0 before.1.at h.2 in
        (s.0, s.1, passed_on before.0 s.0 before.2 s.2)

    chain_has : (n : ℕ) (b : Candidate) → ReadsBy w n a b → (p : ℕ) × Chain (read_rows w marks) (read_starts w marks a place) n p × (slice_get w.candidates p ≡ Some b)
    chain_has zero b h =
        let m = meant_has a h.0.name b h.2 in
        (m.0, Contains-append_left (required_places w marks a) (place ∷ []) m.0 (into_filter_map (λ (r : Requires). meant_place w marks a r.name) a.observed.declaration.required h.0 m.0 h.1 m.1), m.2)
    chain_has (suc n) b h =
        let before = chain_has n h.0 h.1 in
        let s = row_has before.0 h.0 b before.2 h.2 in
        (s.0, (before.0, before.1, s.1), s.2)

    reached_has : (b : Candidate) → Reads w a b → (p : ℕ) × IsReached (read_rows w marks) (read_starts w marks a place) p × (slice_get w.candidates p ≡ Some b)
    reached_has b h =
        ⊎_elim
        (λ e. (place, (0, Contains-append_right (required_places w marks a) (place ∷ []) place (contains_head place [])), here.at ∙ ap Some e))
        (λ m. let s = chain_has m.0 b m.1 in (s.0, (m.0, s.1), s.2))
        h

    -- places with exactly those that are marked are what a reads
    pub read_by_marks : (reached : List Bool) (ps : List ℕ) → AreMarksOf (read_rows w marks) (read_starts w marks a place) reached
        → ((p : ℕ) → Contains ps p → slice_get reached p ≡ Some true) → ((p : ℕ) → slice_get reached p ≡ Some true → Contains ps p) → AreReadBy w a ps
    read_by_marks reached ps m only all = record {
      within = all_of (λ p. p < length w.candidates) ps (λ p c.
          let r = m.only p (only p c) in
          let s = chain_shows r.0 p r.1 in
          slice_get_within w.candidates p s.0 s.1.at);
      only = λ p b c at.
          let r = m.only p (only p c) in
          let s = chain_shows r.0 p r.1 in
          let same : s.0 ≡ b = same_item s.0 b (slice_get w.candidates p) s.1.at at in
          (subst (Reads w a) same s.2, (subst (First w p) same s.1).first);
      all = λ b h. let s = reached_has b h in (s.0, all s.0 (m.all s.0 s.1), s.2);
    }

-- ---- places are within

meant_within : (w : Scene) (marks : List Bool) (c : Candidate) (name : List ℕ) (p : ℕ) → meant_place w marks c name ≡ Some p → p < length w.candidates
meant_within w marks c name p e = by (is_here w c) e
  where
    by_member : (o : Option ℕ) → member_place w marks name ≡ o → option_or o (place_above w name) ≡ Some p → p < length w.candidates
    by_member (Some q) f g = let s = named_shows name w.candidates p (kept_shows marks (place_named name w.candidates) p (f ∙ g)).0 in slice_get_within w.candidates p s.0 s.1.at
    by_member None f g = let s = above_shows w name p g in slice_get_within w.candidates p s.0 s.1.at

    by : (t : Bool) → cond t (here_place w marks name) (own_place w c name) ≡ Some p → p < length w.candidates
    by true f = by_member (member_place w marks name) refl f
    by false f = let s = meant_shows_own w (find_read c.config (candidate_name c) name w.reads) p f in slice_get_within w.candidates p s.0 s.1.at

each_place : {X : Type 0} (h : X → Option ℕ) (n : ℕ) → ((x : X) (p : ℕ) → h x ≡ Some p → p < n) → (xs : List X) → All (λ p. p < n) (filter_map h xs)
each_place h n below xs = all_of (λ p. p < n) (filter_map h xs) (λ p c. let v = from_filter_map h xs p c in below v.0 p v.2)

passed_within : (w : Scene) (marks : List Bool) (c : Candidate) → All (λ p. p < length w.candidates) (passed_places w marks c)
passed_within w marks c = each_place (passed_place w marks c) (length w.candidates) (λ r p e. by r p (is_passed_on r) e) c.observed.declaration.required
  where
    by : (r : Requires) (p : ℕ) (b : Bool) → cond b (meant_place w marks c r.name) None ≡ Some p → p < length w.candidates
    by r p true e = meant_within w marks c r.name p e
    by r p false e = absurd cc

pub rows_long : (w : Scene) (marks : List Bool) → length (read_rows w marks) ≡ length w.candidates
rows_long w marks = length-map w.candidates (passed_places w marks)

pub rows_within : (w : Scene) (marks : List Bool) (next : List (List ℕ)) → next ≡ read_rows w marks → All (λ row. All (λ p. p < length next) row) next
rows_within w marks next e = subst (λ (n : List (List ℕ)). All (λ row. All (λ p. p < length n) row) n) (sym e)
    (All-map (λ row. All (λ p. p < length (read_rows w marks)) row) (passed_places w marks) w.candidates
    (λ k d lt. subst (λ n. All (λ p. p < n) (passed_places w marks (get_or w.candidates k d))) (sym (rows_long w marks)) (passed_within w marks (get_or w.candidates k d))))

pub starts_within : (w : Scene) (marks : List Bool) (a : Candidate) (place : ℕ) (next : List (List ℕ)) (starts : List ℕ) → next ≡ read_rows w marks → starts ≡ read_starts w marks a place → place < length w.candidates → All (λ p. p < length next) starts
starts_within w marks a place next starts e f lt =
    let long : length w.candidates ≡ length next = sym (rows_long w marks) ∙ ap length (sym e) in
    let each : All (λ p. p < length w.candidates) (required_places w marks a) = each_place (λ (r : Requires). meant_place w marks a r.name) (length w.candidates) (λ r p g. meant_within w marks a r.name p g) a.observed.declaration.required in
    let whole : All (λ p. p < length w.candidates) (read_starts w marks a place) = All-push (λ p. p < length w.candidates) (required_places w marks a) place each lt in
    subst (λ s. All (λ p. p < length next) s) (sym f) (subst (λ n. All (λ p. p < n) (read_starts w marks a place)) long whole)

-- ---- a module of the set

pub member_first : (w : Scene) (a : Candidate) → IsMember w a → (p : ℕ) × First w p a
member_first w a m =
    let s = named_place (candidate_name a) w.candidates a (member_found w a m).meant in
    (s.0, placed_first w (candidate_name a) s.0 a s.1.first s.1.at)

-- the places whose marks are set
abbrev places_of : List Bool → List ℕ
places_of [] = []
places_of (true ∷ marks) = 0 ∷ map (λ p. suc p) (places_of marks)
places_of (false ∷ marks) = map (λ p. suc p) (places_of marks)

places_show : (marks : List Bool) (p : ℕ) → Contains (places_of marks) p → slice_get marks p ≡ Some true
places_show [] p c = contains_nothing p c
places_show (true ∷ marks) p c =
    ⊎_elim
    (λ e. subst (λ k. slice_get (true ∷ marks) k ≡ Some true) e refl)
    (λ k. let r = from_map (λ q. suc q) (places_of marks) p k in subst (λ q. slice_get (true ∷ marks) q ≡ Some true) r.2 (places_show marks r.0 r.1))
    (contains_cases 0 p (map (λ q. suc q) (places_of marks)) c)
places_show (false ∷ marks) p c = let r = from_map (λ q. suc q) (places_of marks) p c in subst (λ q. slice_get (false ∷ marks) q ≡ Some true) r.2 (places_show marks r.0 r.1)

places_have : (marks : List Bool) (p : ℕ) → slice_get marks p ≡ Some true → Contains (places_of marks) p
places_have [] p e = absurd cc
places_have (true ∷ marks) zero e = contains_head 0 (map (λ q. suc q) (places_of marks))
places_have (true ∷ marks) (suc p) e = contains_tail 0 (suc p) (map (λ q. suc q) (places_of marks)) (into_map (λ q. suc q) (places_of marks) p (places_have marks p e))
places_have (false ∷ marks) zero e = absurd cc
places_have (false ∷ marks) (suc p) e = into_map (λ q. suc q) (places_of marks) p (places_have marks p e)

-- what a module of the set reads has places
pub reads_exist : (w : Scene) (marks : List Bool) → AreMarks w marks → (a : Candidate) → IsMember w a → (ps : List ℕ) × AreReadBy w a ps
reads_exist w marks right a m =
    let f = member_first w a m in
    let graph = rows_within w marks (read_rows w marks) refl in
    let starts = starts_within w marks a f.0 (read_rows w marks) (read_starts w marks a f.0) refl refl (slice_get_within w.candidates f.0 a f.1.at) in
    let reached = marks_exist (read_rows w marks) (read_starts w marks a f.0) graph starts in
    (places_of reached.0, read_by_marks w marks right a f.0 f.1 reached.0 (places_of reached.0) reached.1 (places_show reached.0) (places_have reached.0))

-- the marks of a closure, from what it was given
pub marks_for : (w : Scene) (marks : List Bool) (a : Candidate) (place : ℕ) (next : List (List ℕ)) (starts : List ℕ) (reached : List Bool) → next ≡ read_rows w marks
    → (s : Candidate) → slice_get w.candidates place ≡ Some a → place < length w.candidates → s ≡ get_or w.candidates place s → starts ≡ read_starts w marks s place
    → length reached ≡ length next → ((p : ℕ) → slice_get reached p ≡ Some true → IsReached next starts p) → ((p : ℕ) → IsReached next starts p → slice_get reached p ≡ Some true)
    → AreMarksOf (read_rows w marks) (read_starts w marks a place) reached
marks_for w marks a place next starts reached e s at lt is f long only all =
    let here : slice_get w.candidates place ≡ Some s = slice_get_read w.candidates (length w.candidates) place s refl lt is in
    let same : s ≡ a = same_item s a (slice_get w.candidates place) here at in
    subst (λ n. AreMarksOf n (read_starts w marks a place) reached) e (subst (λ b. AreMarksOf next b reached) (f ∙ ap (λ v. read_starts w marks v place) same) (record { one_each = long; only = only; all = all }))
