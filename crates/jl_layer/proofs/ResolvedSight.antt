-- What a resolution over kept configurations has in sight, and what its modules read.
use Rattle.std.proofs.Common.{◌≡◌, ◌⊎◌, ◌<◌, ◌≤◌, ◌+◌, ℕ, zero, suc, List, [], ◌∷◌, ◌++◌, length, map, take, get_or, slice_get, inl, inr, ⊎_elim, refl, sym, ◌∙◌, ap, subst, Contains, All, Option, Some, None, Bool, true, false, cond, not, ◌&&◌, nat_lt, filter, append_assoc, arith}
use Rattle.std.specs.List.{flat_map}
use Rattle.std.proofs.lemmas.Bool.{cases_lt, ltb-true, eqb-true, eq-eqb, and_parts}
use Rattle.std.proofs.lemmas.List.{append-nil, get_or_default}
use Rattle.std.proofs.lemmas.Grind.{common_steps}
use Rattle.std.proofs.lemmas.Option.{slice_get-get_or}
use Rattle.std.proofs.lemmas.List.Elements.{All-contains, Contains-append_cases}
use Rattle.jl_logic.specs.Order.{is_text, RisesBy}
use Rattle.jl_logic.proofs.Rising.{contains_head, contains_tail, contains_cases, contains_nothing}
use Rattle.jl_prim.specs.declared.numbers.ConfigId.{ConfigId}
use Rattle.jl_prim.specs.declared.declaration.Observed.{Observed}
use Rattle.jl_config.specs.declared.configuration.Read.{Read}
use Rattle.jl_config.specs.declared.candidate.Candidate.{Candidate}
use Rattle.jl_config.specs.Configurations.{Configuration}
use Rattle.jl_config.specs.Located.{Asked, scene_of, id_of, next_id, empty_configuration, configuration_of, is_numbered, parents_below, preorder, each_once, ancestor_numbers, ancestors, candidates_of, candidate_name, is_here, modules_above, find_named, find_candidate, find_read, read_candidate, own_meaning}
use Rattle.jl_config.specs.Members.{IsFound, Enumerated, IsMemberBy, IsMember, MeansHere, MeansBy, Means, ReadsBy, Reads}
use Rattle.jl_config.specs.Orders.{module_cmp}
use Rattle.jl_layer.specs.Keeping.{IsAboveBy, IsAbove, IsKeepable, AreKept}
use Rattle.jl_layer.proofs.ResolvedLists.{from_map, from_flat_map, from_filter, text_is}

-- ---- known configurations by number

-- the configuration with a number
abbrev At : List Configuration → ℕ → Configuration
At known n = get_or (empty_configuration ∷ known) n empty_configuration

pub same_id : (a b : ConfigId) → a.0 ≡ b.0 → a ≡ b
same_id a b n = λ i. record { 0 = n i }

kept_behind : (before gs : List Configuration) (k : ℕ) (g : Configuration) → AreKept before gs → slice_get gs k ≡ Some g → IsKeepable (before ++ take k gs) g
unfolding AreKept
kept_behind before [] k g kept e = absurd cc
kept_behind before (h ∷ gs) zero g kept e =
    let same : h ≡ g = cc in
    subst (λ (l : List Configuration). IsKeepable l g) (sym (append-nil before)) (subst (IsKeepable before) same kept.0)
kept_behind before (h ∷ gs) (suc k) g kept e =
    subst (λ (l : List Configuration). IsKeepable l g) (append_assoc before (h ∷ []) (take k gs)) (kept_behind (before ++ h ∷ []) gs k g kept.1 e)

-- the empty configuration has nothing, and so has each past those that are known
nothing_past : (known : List Configuration) (k : ℕ) → length known ≤ k → get_or known k empty_configuration ≡ empty_configuration
nothing_past [] k le = refl
nothing_past (g ∷ known) zero le = absurd (omega arith)
nothing_past (g ∷ known) (suc k) le = nothing_past known k (omega arith)

pub has_number : (known : List Configuration) (c : ConfigId) (o : Observed) → Contains (configuration_of known c).modules o → c.0 ≤ length known
has_number known c o h = by c.0 h
  where
    by : (n : ℕ) → Contains (At known n).modules o → n ≤ length known
    by zero k = contains_nothing o k
    by (suc n) k =
        ⊎_elim (λ (lt : n < length known). omega arith)
        (λ (le : length known ≤ n). contains_nothing o (subst (λ (g : Configuration). Contains g.modules o) (nothing_past known n le) k))
        (cases_lt n (length known))

module _ (known : List Configuration) (kept : AreKept [] known) where
  -- one with a number is kept behind those with lower numbers
  kept_at : (k : ℕ) → k < length known → IsKeepable (take k known) (get_or known k empty_configuration)
  kept_at k lt = kept_behind [] known k (get_or known k empty_configuration) kept (slice_get-get_or known k empty_configuration lt)

  pub own_number : (c : ConfigId) → c.0 ≤ length known → (configuration_of known c).id ≡ c
  own_number c le = same_id (configuration_of known c).id c (by c.0 le)
    where
      by : (n : ℕ) → n ≤ length known → (At known n).id.0 ≡ n
      by zero l = refl
      by (suc k) l =
          let lt : k < length known = omega arith in
          let long : length (take k known) ≡ k = grind (arith, common_steps) in
          ap (λ (i : ConfigId). i.0) (kept_at k lt).number ∙ omega (arith, long)

  -- what is read has a known number
  pub read_number : (c : ConfigId) (r : Read) → c.0 ≤ length known → Contains (configuration_of known c).reads r → r.config.0 ≤ length known
  read_number c r le h = by c.0 le h
    where
      by : (n : ℕ) → n ≤ length known → Contains (At known n).reads r → r.config.0 ≤ length known
      by zero l k = contains_nothing r k
      by (suc n) l k =
          let lt : n < length known = omega arith in
          let long : length (take n known) ≡ n = grind (arith, common_steps) in
          let keepable = kept_at n lt in
          let t = keepable.targets r k in
          ⊎_elim
          (λ own. let e : r.config.0 ≡ length (take n known) + 1 = ap (λ (i : ConfigId). i.0) (own.0 ∙ keepable.number) in omega (arith, long, e))
          (λ up. let m = has_number (take n known) r.config t.0 up.1.0 in omega (arith, long, m))
          t.1

  pub rises_at : All (λ (g : Configuration). RisesBy module_cmp g.modules) known → (c : ConfigId) → c.0 ≤ length known → RisesBy module_cmp (configuration_of known c).modules
  rises_at rise c le = by c.0 le
    where
      by : (n : ℕ) → n ≤ length known → RisesBy module_cmp (At known n).modules
      by zero l = tt
      by (suc k) l =
          let lt : k < length known = omega arith in
          All-contains (λ (g : Configuration). RisesBy module_cmp g.modules) known (get_or known k empty_configuration) rise (k, lt, get_or_default known k (get_or known k empty_configuration) empty_configuration lt)

-- ---- ancestors

once_has : (cs : List ConfigId) (c : ConfigId) → Contains (each_once cs) c → Contains cs c
once_has [] c h = contains_nothing c h
once_has (p ∷ ps) c h =
    ⊎_elim (λ e. subst (Contains (p ∷ ps)) e (contains_head p ps))
    (λ k. contains_tail p c ps (once_has ps c (from_filter (λ (q : ConfigId). not (is_numbered p q)) (each_once ps) c k).0))
    (contains_cases p c (filter (λ (q : ConfigId). not (is_numbered p q)) (each_once ps)) h)

-- a parent with a lower number is a parent
below_is : (d : ConfigId) (ps : List ConfigId) (c : ConfigId) → Contains (parents_below d ps) c → Contains ps c × (c.0 < d.0)
below_is d ps c h = let r = from_filter (λ (p : ConfigId). nat_lt p.0 d.0) ps c h in (r.0, ltb-true c.0 d.0 r.1)

more_above : (known : List Configuration) (n : ℕ) (ps rs : List ConfigId) (c : ConfigId) → ((x : ConfigId) → Contains ps x → Contains rs x) → IsAboveBy n known ps c → IsAboveBy n known rs c
more_above known zero ps rs c into h = into c h
more_above known (suc n) ps rs c into h = (h.0, into h.0 h.1, h.2)

-- the parents of a configuration that come before it
abbrev Next : List Configuration → ConfigId → List ConfigId
Next known p = parents_below p (configuration_of known p).parents

preorder_above : (n : ℕ) (known : List Configuration) (ps : List ConfigId) (c : ConfigId) → Contains (preorder n known ps) c → IsAbove known ps c
unfolding preorder
preorder_above zero known ps c h = contains_nothing c h
preorder_above (suc n) known ps c h =
    let r = from_flat_map (λ (p : ConfigId). p ∷ preorder n known (Next known p)) ps c h in
    ⊎_elim (λ e. (0, subst (Contains ps) e r.1))
    (λ k.
    let a = preorder_above n known (Next known r.0) c k in
    (suc a.0, (r.0, r.1, more_above known a.0 (Next known r.0) (configuration_of known r.0).parents c (λ x d. (below_is r.0 (configuration_of known r.0).parents x d).0) a.1)))
    (contains_cases r.0 c (preorder n known (Next known r.0)) r.2)

preorder_below : (n : ℕ) (known : List Configuration) (ps : List ConfigId) (b : ℕ) (c : ConfigId) → ((p : ConfigId) → Contains ps p → p.0 < b) → Contains (preorder n known ps) c → c.0 < b
unfolding preorder
preorder_below zero known ps b c low h = contains_nothing c h
preorder_below (suc n) known ps b c low h =
    let r = from_flat_map (λ (p : ConfigId). p ∷ preorder n known (Next known p)) ps c h in
    let lt : r.0.0 < b = low r.0 r.1 in
    ⊎_elim (λ e. subst (λ (x : ConfigId). x.0 < b) e lt)
    (λ k. preorder_below n known (Next known r.0) b c (λ x d. let m = (below_is r.0 (configuration_of known r.0).parents x d).1 in omega (arith, m, lt)) k)
    (contains_cases r.0 c (preorder n known (Next known r.0)) r.2)

ancestor_above : (q : Asked) (n : ConfigId) → Contains (ancestor_numbers q.known q.parents) n → IsAbove q.known q.parents n × (n.0 ≤ length q.known)
ancestor_above q n h =
    let first = parents_below (next_id q.known) q.parents in
    let k = once_has (preorder (length q.known + 1) q.known first) n h in
    let a = preorder_above (length q.known + 1) q.known first n k in
    let lt = preorder_below (length q.known + 1) q.known first (length q.known + 1) n (λ p d. (below_is (next_id q.known) q.parents p d).1) k in
    ((a.0, more_above q.known a.0 first q.parents n (λ x d. (below_is (next_id q.known) q.parents x d).0) a.1), omega (arith, lt))

-- ---- finding

named_is : (name : List ℕ) (ss : List Candidate) (s : Candidate) → find_named name ss ≡ Some s → Contains ss s × (candidate_name s ≡ name)
named_is name [] s e = absurd cc
named_is name (t ∷ ss) s e = by (named_is name ss s) (is_text (candidate_name t) name) refl e
  where
    by : (find_named name ss ≡ Some s → Contains ss s × (candidate_name s ≡ name)) → (b : Bool) → is_text (candidate_name t) name ≡ b → cond b (Some t) (find_named name ss) ≡ Some s → Contains (t ∷ ss) s × (candidate_name s ≡ name)
    by more true f g = let same : t ≡ s = cc in (subst (Contains (t ∷ ss)) same (contains_head t ss), subst (λ (x : Candidate). candidate_name x ≡ name) same (text_is (candidate_name t) name f))
    by more false f g = let r = more g in (contains_tail t s ss r.0, r.1)

own_is : (config : ConfigId) (name : List ℕ) (ss : List Candidate) (s : Candidate) → find_candidate config name ss ≡ Some s → Contains ss s × (s.config ≡ config)
own_is config name [] s e = absurd cc
own_is config name (t ∷ ss) s e = by (own_is config name ss s) (is_numbered t.config config && is_text (candidate_name t) name) refl e
  where
    by : (find_candidate config name ss ≡ Some s → Contains ss s × (s.config ≡ config)) → (b : Bool) → (is_numbered t.config config && is_text (candidate_name t) name) ≡ b → cond b (Some t) (find_candidate config name ss) ≡ Some s → Contains (t ∷ ss) s × (s.config ≡ config)
    by more true f g =
        let same : t ≡ s = cc in
        let number : t.config.0 ≡ config.0 = eqb-true t.config.0 config.0 (and_parts (is_numbered t.config config) (is_text (candidate_name t) name) f).0 in
        (subst (Contains (t ∷ ss)) same (contains_head t ss), subst (λ (x : Candidate). x.config ≡ config) same (same_id t.config config number))
    by more false f g = let r = more g in (contains_tail t s ss r.0, r.1)

read_is : (config : ConfigId) (reader name : List ℕ) (rs : List (ConfigId × Read)) (r : Read) → find_read config reader name rs ≡ Some r → (x : ConfigId × Read) × Contains rs x × (x.1 ≡ r)
read_is config reader name [] r e = absurd cc
read_is config reader name (x ∷ rs) r e = by (read_is config reader name rs r) (is_numbered x.0 config && (is_text x.1.reader reader && is_text x.1.name name)) e
  where
    by : (find_read config reader name rs ≡ Some r → (x : ConfigId × Read) × Contains rs x × (x.1 ≡ r)) → (b : Bool) → cond b (Some x.1) (find_read config reader name rs) ≡ Some r → (y : ConfigId × Read) × Contains (x ∷ rs) y × (y.1 ≡ r)
    by more true g = let same : x.1 ≡ r = cc in (x, contains_head x rs, same)
    by more false g = let m = more g in (m.0, contains_tail x m.0 rs m.1, m.2)

-- ---- in sight

-- a finder observes the module
pub record IsObserved (q : Asked) (s : Candidate) : Type 0 where
  pub here : s.config ≡ id_of q
  pub finder : Contains q.before s.observed ⊎ Contains q.after s.observed

-- a kept configuration above has the module
pub record IsUp (q : Asked) (s : Candidate) : Type 0 where
  pub above : IsAbove q.known q.parents s.config
  pub among : Contains (configuration_of q.known s.config).modules s.observed
  pub known : s.config.0 ≤ length q.known

observed_by : (q : Asked) (os : List Observed) (s : Candidate) → Contains (candidates_of (id_of q) os) s → (s.config ≡ id_of q) × Contains os s.observed
observed_by q os s h =
    let r = from_map (λ (o : Observed). let c : Candidate = record { config = id_of q; observed = o } in c) os s h in
    (sym (ap (λ (x : Candidate). x.config) r.2), subst (Contains os) (ap (λ (x : Candidate). x.observed) r.2) r.1)

module _ (q : Asked) (kept : AreKept [] q.known) where
  up_from : (n : ConfigId) (s : Candidate) → Contains (ancestor_numbers q.known q.parents) n → s.config ≡ n → Contains (configuration_of q.known n).modules s.observed → IsUp q s
  up_from n s c e h =
      let a = ancestor_above q n c in
      record {
        above = subst (IsAbove q.known q.parents) (sym e) a.0;
        among = subst (λ (x : ConfigId). Contains (configuration_of q.known x).modules s.observed) (sym e) h;
        known = subst (λ (x : ConfigId). x.0 ≤ length q.known) (sym e) a.1;
      }

  ancestor_has : (s : Candidate) → Contains (flat_map (λ (g : Configuration). candidates_of g.id g.modules) (ancestors q)) s → IsUp q s
  ancestor_has s h =
      let r = from_flat_map (λ (g : Configuration). candidates_of g.id g.modules) (ancestors q) s h in
      let n = from_map (configuration_of q.known) (ancestor_numbers q.known q.parents) r.0 r.1 in
      let m = from_map (λ (o : Observed). let c : Candidate = record { config = r.0.id; observed = o } in c) r.0.modules s r.2 in
      let number : s.config ≡ n.0 =
      sym (ap (λ (x : Candidate). x.config) m.2) ∙ ap (λ (g : Configuration). g.id) (sym n.2) ∙ own_number q.known kept n.0 (ancestor_above q n.0 n.1).1 in
      up_from n.0 s n.1 number (subst (λ (g : Configuration). Contains g.modules s.observed) (sym n.2) (subst (Contains r.0.modules) (ap (λ (x : Candidate). x.observed) m.2) m.1))

  pub in_sight : (s : Candidate) → Contains (scene_of q).candidates s → IsObserved q s ⊎ IsUp q s
  in_sight s h =
      let ups = flat_map (λ (g : Configuration). candidates_of g.id g.modules) (ancestors q) in
      let before = candidates_of (id_of q) q.before in
      ⊎_elim (λ first.
      ⊎_elim (λ b. let r = observed_by q q.before s b in inl (record { here = r.0; finder = inl r.1 })) (λ u. inr (ancestor_has s u)) (Contains-append_cases before ups s first))
      (λ a. let r = observed_by q q.after s a in inl (record { here = r.0; finder = inr r.1 }))
      (Contains-append_cases (before ++ ups) (candidates_of (id_of q) q.after) s h)

  pub not_both : {A : Type 0} (s : Candidate) → s.config ≡ id_of q → s.config.0 ≤ length q.known → A
  not_both s e le = let n : s.config.0 ≡ length q.known + 1 = ap (λ (i : ConfigId). i.0) e in absurd (omega arith)

  up_is_not_here : (s : Candidate) → IsUp q s → is_here (scene_of q) s ≡ false
  up_is_not_here s u = by (is_here (scene_of q) s) refl
    where
      by : (b : Bool) → is_here (scene_of q) s ≡ b → b ≡ false
      by true e = not_both s (same_id s.config (id_of q) (eqb-true s.config.0 (length q.known + 1) e)) u.known
      by false e = refl

  not_here_is_up : (s : Candidate) → Contains (scene_of q).candidates s → not (is_here (scene_of q) s) ≡ true → IsUp q s
  not_here_is_up s c n =
      ⊎_elim
      (λ o. let e : is_here (scene_of q) s ≡ true = eq-eqb s.config.0 (length q.known + 1) (ap (λ (i : ConfigId). i.0) o.here) in let f : not true ≡ true = subst (λ (b : Bool). not b ≡ true) e n in absurd cc)
      (λ u. u)
      (in_sight s c)

  -- ---- what is read

  reads_known : (x : ConfigId × Read) → Contains (scene_of q).reads x → x.1.config.0 ≤ length q.known
  reads_known x h =
      let r = from_flat_map (λ (g : Configuration). map (λ (r : Read). (g.id, r)) g.reads) (ancestors q) x h in
      let n = from_map (configuration_of q.known) (ancestor_numbers q.known q.parents) r.0 r.1 in
      let m = from_map (λ (r' : Read). (r.0.id, r')) r.0.reads x r.2 in
      let low : m.0.config.0 ≤ length q.known = read_number q.known kept n.0 m.0 (ancestor_above q n.0 n.1).1 (subst (λ (g : Configuration). Contains g.reads m.0) (sym n.2) m.1) in
      subst (λ (y : ConfigId × Read). y.1.config.0 ≤ length q.known) m.2 low

  own_is_up : (a b : Candidate) (name : List ℕ) → own_meaning (scene_of q) a name ≡ Some b → IsUp q b
  own_is_up a b name e = by (find_read a.config (candidate_name a) name (scene_of q).reads) refl e
    where
      by : (o : Option Read) → find_read a.config (candidate_name a) name (scene_of q).reads ≡ o → read_candidate (scene_of q).candidates o ≡ Some b → IsUp q b
      by None f g = absurd cc
      by (Some r) f g =
          let x = read_is a.config (candidate_name a) name (scene_of q).reads r f in
          let low : r.config.0 ≤ length q.known = subst (λ (t : Read). t.config.0 ≤ length q.known) x.2 (reads_known x.0 x.1) in
          let s = own_is r.config r.name (scene_of q).candidates b g in
          ⊎_elim (λ o. not_both b o.here (subst (λ (i : ConfigId). i.0 ≤ length q.known) (sym s.1) low)) (λ u. u) (in_sight b s.0)

  pub member_found : (s : Candidate) → IsMember (scene_of q) s → IsFound (scene_of q) s
  member_found s m = by q.binds m
    where
      by : (b : Bool) → IsMemberBy b (scene_of q) s → IsFound (scene_of q) s
      by true k = k.1.0
      by false k = chained k.0 k.1
        where
          chained : (n : ℕ) → Enumerated (scene_of q) n s → IsFound (scene_of q) s
          chained zero c = c.0
          chained (suc n) c = c.0

  -- a module of the new configuration, or one above it
  abbrev pub IsReadable : Candidate → Type 0
  IsReadable b = IsMember (scene_of q) b ⊎ IsUp q b

  here_readable : (name : List ℕ) (b : Candidate) → MeansHere (scene_of q) name b → IsReadable b
  here_readable name b h =
      ⊎_elim (λ m. inl m.member)
      (λ a. let r = from_filter (λ (s : Candidate). not (is_here (scene_of q) s)) (scene_of q).candidates b (named_is name (modules_above (scene_of q)) b a.1).0 in inr (not_here_is_up b r.0 r.1))
      h

  meant_readable : (a b : Candidate) (name : List ℕ) → IsReadable a → Means (scene_of q) a name b → IsReadable b
  meant_readable a b name ra h =
      ⊎_elim
      (λ m. here_readable name b (subst (λ (t : Bool). MeansBy t (scene_of q) a name b) (member_found a m).by_finder h))
      (λ u. inr (own_is_up a b name (subst (λ (t : Bool). MeansBy t (scene_of q) a name b) (up_is_not_here a u) h)))
      ra

  reads_readable : (n : ℕ) (a b : Candidate) → IsMember (scene_of q) a → ReadsBy (scene_of q) n a b → IsReadable b
  reads_readable zero a b m h = meant_readable a b h.0.name (inl m) h.2
  reads_readable (suc n) a b m h = meant_readable h.0 b h.2.0.name (reads_readable n a h.0 m h.1) h.2.3

  pub read_readable : (a b : Candidate) → IsMember (scene_of q) a → Reads (scene_of q) a b → IsReadable b
  read_readable a b m h = ⊎_elim (λ e. inl (subst (IsMember (scene_of q)) e m)) (λ r. reads_readable r.0 a b m r.1) h

  -- members are observed, and there is one of each name
  pub member_observed : (s : Candidate) → IsMember (scene_of q) s → IsObserved q s
  member_observed s m =
      let f = member_found s m in
      ⊎_elim (λ o. o)
      (λ u. let e : is_here (scene_of q) s ≡ false = up_is_not_here s u in let t : is_here (scene_of q) s ≡ true = f.by_finder in absurd cc)
      (in_sight s (named_is (candidate_name s) (scene_of q).candidates s f.meant).0)

  pub one_member : (s t : Candidate) → IsMember (scene_of q) s → IsMember (scene_of q) t → candidate_name s ≡ candidate_name t → s ≡ t
  one_member s t a b e =
      let f : find_named (candidate_name s) (scene_of q).candidates ≡ Some s = (member_found s a).meant in
      let g : find_named (candidate_name s) (scene_of q).candidates ≡ Some t = ap (λ (n : List ℕ). find_named n (scene_of q).candidates) e ∙ (member_found t b).meant in
      let h : Some s ≡ Some t = sym f ∙ g in
      cc
