-- The walk over parents comes to the ancestors, each at its first place.
use Rattle.std.proofs.Common.{◌≡◌, ◌<◌, ◌+◌, ◌⊎◌, ℕ, zero, suc, List, [], ◌∷◌, ◌++◌, length, take, get_or, slice_get, slice_set, ltb, inl, inr, ⊎_elim, refl, sym, ◌∙◌, ap, subst, Contains, Some, Bool, true, false, cond, not, ◌&&◌, ◌||◌, filter, flat_map, append_assoc, append-nil, arith}
use Rattle.std.proofs.lemmas.Bool.{and_parts, eq-eqb, or_cases, or_left, or_right, ltb-true}
use Rattle.std.proofs.lemmas.List.{take_more}
use Rattle.std.proofs.lemmas.Grind.{flat_map-append}
use Rattle.std.proofs.lemmas.List.Elements.{filter-append, filter_passes, All-contains, Contains-append_left, Contains-append_right, Contains-push_cases}
use Rattle.jl_logic.proofs.Rising.{contains_head, contains_tail, contains_cases, contains_nothing}
use Rattle.jl_prim.specs.declared.numbers.ConfigId.{ConfigId}
use Rattle.jl_config.specs.Configurations.{Configuration}
use Rattle.jl_config.specs.Located.{is_numbered, configuration_of, parents_below, preorder, each_once}
use Rattle.jl_config.specs.Walked.{is_among, with_number, with_numbers, IsClosedBelow}
use Rattle.jl_config.proofs.Finds.{same_number}
use Rattle.jl_config.proofs.Lists.{into_flat_map, from_flat_map}

-- ---- numbers in lists

pub among_shows : (c : ConfigId) (ns : List ConfigId) → is_among c ns ≡ true → Contains ns c
among_shows c [] e = absurd cc
among_shows c (d ∷ ds) e =
    ⊎_elim (λ f. subst (λ x. Contains (d ∷ ds) x) (same_number d c f) (contains_head d ds)) (λ f. contains_tail d c ds (among_shows c ds f)) (or_cases (is_numbered d c) (is_among c ds) e)

pub among_has : (c : ConfigId) (ns : List ConfigId) → Contains ns c → is_among c ns ≡ true
among_has c [] k = contains_nothing c k
among_has c (d ∷ ds) k =
    ⊎_elim (λ e. or_left (is_numbered d c) (is_among c ds) (eq-eqb d.0 c.0 (ap (λ (x : ConfigId). x.0) e))) (λ m. or_right (is_numbered d c) (is_among c ds) (among_has c ds m)) (contains_cases d c ds k)

or_end : (a b : Bool) → (a || b) ≡ (a || (b || false))
or_end true b = refl
or_end false true = refl
or_end false false = refl

or_shifts : (a b c : Bool) → (a || (b || c)) ≡ ((a || b) || c)
or_shifts true b c = refl
or_shifts false b c = refl

pub among_more : (c n : ConfigId) (ns : List ConfigId) → is_among c (ns ++ n ∷ []) ≡ (is_among c ns || is_numbered n c)
among_more c n [] = by (is_numbered n c)
  where
    by : (b : Bool) → (b || false) ≡ b
    by true = refl
    by false = refl
among_more c n (d ∷ ds) = ap (λ (b : Bool). is_numbered d c || b) (among_more c n ds) ∙ or_shifts (is_numbered d c) (is_among c ds) (is_numbered n c)

-- ---- marks

mark_here : (marks : List Bool) (n : ℕ) → n < length marks → slice_get (slice_set marks n true) n ≡ Some true
mark_here [] n lt = absurd (omega arith)
mark_here (m ∷ marks) zero lt = refl
mark_here (m ∷ marks) (suc n) lt = mark_here marks n (omega arith)

mark_elsewhere : (marks : List Bool) (n c : ℕ) → (n ≡ c → ⊥) → slice_get (slice_set marks n true) c ≡ slice_get marks c
mark_elsewhere [] n c ne = refl
mark_elsewhere (m ∷ marks) zero zero ne = absurd (ne refl)
mark_elsewhere (m ∷ marks) zero (suc c) ne = refl
mark_elsewhere (m ∷ marks) (suc n) zero ne = refl
mark_elsewhere (m ∷ marks) (suc n) (suc c) ne = mark_elsewhere marks n c (λ e. ne (ap suc e))

-- one more mark, for one more number
pub marks_more : (marks : List Bool) (ns more : List ConfigId) (n : ConfigId) → n.0 < length marks → ((c : ConfigId) → c.0 < length marks → slice_get marks c.0 ≡ Some (is_among c ns)) → more ≡ ns ++ n ∷ []
    → (c : ConfigId) → c.0 < length marks → slice_get (slice_set marks n.0 true) c.0 ≡ Some (is_among c more)
marks_more marks ns more n lt known e c within = by (is_numbered n c) refl ∙ ap (λ (l : List ConfigId). Some (is_among c l)) (sym e)
  where
    by : (b : Bool) → is_numbered n c ≡ b → slice_get (slice_set marks n.0 true) c.0 ≡ Some (is_among c (ns ++ n ∷ []))
    by true f =
        let same : n.0 ≡ c.0 = ap (λ (x : ConfigId). x.0) (same_number n c f) in
        let there : is_among c (ns ++ n ∷ []) ≡ true = among_more c n ns ∙ or_right (is_among c ns) (is_numbered n c) f in
        subst (λ (k : ℕ). slice_get (slice_set marks n.0 true) k ≡ Some true) same (mark_here marks n.0 lt) ∙ ap Some (sym there)
    by false f =
        let other : n.0 ≡ c.0 → ⊥ = λ s. let g : is_numbered n c ≡ true = eq-eqb n.0 c.0 s in absurd cc in
        let as_before : is_among c ns ≡ is_among c (ns ++ n ∷ []) = ends (is_among c ns) (is_numbered n c) f ∙ sym (among_more c n ns) in
        mark_elsewhere marks n.0 c.0 other ∙ known c within ∙ ap Some as_before
      where
        ends : (a b : Bool) → b ≡ false → a ≡ (a || b)
        ends true b g = refl
        ends false b g = sym g

-- ---- numbers that are added

pub numbers_then : (ns xs ys : List ConfigId) → with_numbers ns (xs ++ ys) ≡ with_numbers (with_numbers ns xs) ys
numbers_then ns [] ys = refl
numbers_then ns (x ∷ xs) ys = numbers_then (with_number ns x) xs ys

pub all_there : (ns xs : List ConfigId) → ((x : ConfigId) → Contains xs x → Contains ns x) → with_numbers ns xs ≡ ns
all_there ns [] h = refl
all_there ns (x ∷ xs) h =
    ap (λ (m : List ConfigId). with_numbers m xs) (ap (λ (b : Bool). cond b ns (ns ++ x ∷ [])) (among_has x ns (h x (contains_head x xs)))) ∙ all_there ns xs (λ y k. h y (contains_tail x y xs k))

pub number_new : (ns : List ConfigId) (c : ConfigId) → is_among c ns ≡ false → with_number ns c ≡ ns ++ c ∷ []
number_new ns c e = ap (λ (b : Bool). cond b ns (ns ++ c ∷ [])) e

number_keeps : (ns : List ConfigId) (c x : ConfigId) → Contains ns x → Contains (with_number ns c) x
number_keeps ns c x k = by (is_among c ns)
  where
    by : (b : Bool) → Contains (cond b ns (ns ++ c ∷ [])) x
    by true = k
    by false = Contains-append_left ns (c ∷ []) x k

number_has : (ns : List ConfigId) (c : ConfigId) → Contains (with_number ns c) c
number_has ns c = by (is_among c ns) refl
  where
    by : (b : Bool) → is_among c ns ≡ b → Contains (cond b ns (ns ++ c ∷ [])) c
    by true e = among_shows c ns e
    by false e = Contains-append_right ns (c ∷ []) c (contains_head c [])

number_from : (ns : List ConfigId) (c x : ConfigId) → Contains (with_number ns c) x → Contains ns x ⊎ (c ≡ x)
number_from ns c x k = by (is_among c ns) k
  where
    by : (b : Bool) → Contains (cond b ns (ns ++ c ∷ [])) x → Contains ns x ⊎ (c ≡ x)
    by true m = inl m
    by false m = Contains-push_cases ns c x m

numbers_keep : (ns cs : List ConfigId) (x : ConfigId) → Contains ns x → Contains (with_numbers ns cs) x
numbers_keep ns [] x k = k
numbers_keep ns (c ∷ cs) x k = numbers_keep (with_number ns c) cs x (number_keeps ns c x k)

numbers_have : (ns cs : List ConfigId) (x : ConfigId) → Contains cs x → Contains (with_numbers ns cs) x
numbers_have ns [] x k = contains_nothing x k
numbers_have ns (c ∷ cs) x k =
    ⊎_elim (λ e. numbers_keep (with_number ns c) cs x (subst (λ y. Contains (with_number ns c) y) e (number_has ns c))) (λ m. numbers_have (with_number ns c) cs x m) (contains_cases c x cs k)

numbers_from : (ns cs : List ConfigId) (x : ConfigId) → Contains (with_numbers ns cs) x → Contains ns x ⊎ Contains cs x
numbers_from ns [] x k = inl k
numbers_from ns (c ∷ cs) x k =
    ⊎_elim (λ m. ⊎_elim inl (λ e. inr (subst (λ y. Contains (c ∷ cs) y) e (contains_head c cs))) (number_from ns c x m)) (λ m. inr (contains_tail c x cs m)) (numbers_from (with_number ns c) cs x k)

-- ---- each number once

both_filters : (f g h : ConfigId → Bool) → ((x : ConfigId) → h x ≡ (g x && f x)) → (xs : List ConfigId) → filter f (filter g xs) ≡ filter h xs
both_filters f g h e [] = refl
both_filters f g h e (x ∷ xs) = by (g x) (both_filters f g h e xs) ∙ ap (λ (b : Bool). cond b (x ∷ filter h xs) (filter h xs)) (sym (e x))
  where
    by : (b : Bool) → filter f (filter g xs) ≡ filter h xs → filter f (cond b (x ∷ filter g xs) (filter g xs)) ≡ cond (b && f x) (x ∷ filter h xs) (filter h xs)
    by true ih = ap (λ (l : List ConfigId). cond (f x) (x ∷ l) l) ih
    by false ih = ih

-- not one of the numbers, and not this one
neither : (a b : Bool) → not (a || b) ≡ (not b && not a)
neither true true = refl
neither true false = refl
neither false true = refl
neither false false = refl

-- another number than one of these is not hidden by it
hidden : (ns : List ConfigId) (x q : ConfigId) → is_among x ns ≡ true → not (is_among q ns) ≡ (not (is_numbered x q) && not (is_among q ns))
hidden ns x q e = by (is_numbered x q) refl
  where
    by : (b : Bool) → is_numbered x q ≡ b → not (is_among q ns) ≡ (not b && not (is_among q ns))
    by true f = ap not (ap (λ (y : ConfigId). is_among y ns) (sym (same_number x q f)) ∙ e)
    by false f = refl

-- what is added is what is new in the list, each number once
added_once : (ns xs : List ConfigId) → with_numbers ns xs ≡ ns ++ filter (λ q. not (is_among q ns)) (each_once xs)
added_once ns [] = sym (append-nil ns)
added_once ns (x ∷ xs) = by (added_once ns xs) (added_once (ns ++ x ∷ []) xs) (is_among x ns) refl
  where
    by : with_numbers ns xs ≡ ns ++ filter (λ q. not (is_among q ns)) (each_once xs)
        → with_numbers (ns ++ x ∷ []) xs ≡ (ns ++ x ∷ []) ++ filter (λ q. not (is_among q (ns ++ x ∷ []))) (each_once xs)
        → (b : Bool) → is_among x ns ≡ b
        → with_numbers (cond b ns (ns ++ x ∷ [])) xs
        ≡ ns ++ cond (not b) (x ∷ filter (λ q. not (is_among q ns)) (filter (λ q. not (is_numbered x q)) (each_once xs))) (filter (λ q. not (is_among q ns)) (filter (λ q. not (is_numbered x q)) (each_once xs)))
    by there new true e = there ∙ ap (λ (l : List ConfigId). ns ++ l) (sym (both_filters (λ q. not (is_among q ns)) (λ q. not (is_numbered x q)) (λ q. not (is_among q ns)) (λ q. hidden ns x q e) (each_once xs)))
    by there new false e =
        new ∙ append_assoc ns (x ∷ []) (filter (λ q. not (is_among q (ns ++ x ∷ []))) (each_once xs))
        ∙ ap (λ (l : List ConfigId). ns ++ x ∷ l)
        (sym (both_filters (λ q. not (is_among q ns)) (λ q. not (is_numbered x q)) (λ q. not (is_among q (ns ++ x ∷ []))) (λ q. ap not (among_more q x ns) ∙ neither (is_among q ns) (is_numbered x q)) (each_once xs)))

all_new : (xs : List ConfigId) → filter (λ q. not (is_among q [])) xs ≡ xs
all_new [] = refl
all_new (x ∷ xs) = ap (λ (l : List ConfigId). x ∷ l) (all_new xs)

pub from_none : (xs : List ConfigId) → with_numbers [] xs ≡ each_once xs
from_none xs = added_once [] xs ∙ all_new (each_once xs)

-- ---- what stands above

-- the parents that count of the configuration with a number
abbrev above : List Configuration → ConfigId → List ConfigId
above known c = parents_below c (configuration_of known c).parents

-- the numbers are below a bound
abbrev AreBelow : ℕ → List ConfigId → Type 0
AreBelow n ps = (q : ConfigId) → Contains ps q → q.0 < n

below_child : (c : ConfigId) (ps : List ConfigId) → AreBelow c.0 (parents_below c ps)
below_child c ps q k = ltb-true q.0 c.0 (All-contains (λ (p : ConfigId). ltb p.0 c.0 ≡ true) (parents_below c ps) q (filter_passes (λ (p : ConfigId). ltb p.0 c.0) ps) k)

below_more : (n : ℕ) (c : ConfigId) (ps : List ConfigId) → c.0 < n + 1 → AreBelow n (parents_below c ps)
below_more n c ps lt q k = omega (arith, below_child c ps q k)

parents_in : (n : ℕ) (known : List Configuration) (ps : List ConfigId) → AreBelow n ps → (q : ConfigId) → Contains ps q → Contains (preorder n known ps) q
unfolding preorder
parents_in zero known ps below q k = absurd (omega (arith, below q k))
parents_in (suc n) known ps below q k = into_flat_map (λ (p : ConfigId). p ∷ preorder n known (above known p)) ps q q k (contains_head q (preorder n known (above known q)))

-- with each configuration its parents are there
pub preorder_closed : (n : ℕ) (known : List Configuration) (ps : List ConfigId) → AreBelow n ps → (c q : ConfigId) → Contains (preorder n known ps) c → Contains (above known c) q → Contains (preorder n known ps) q
unfolding preorder
preorder_closed zero known ps below c q k m = contains_nothing c k
preorder_closed (suc n) known ps below c q k m =
    let r = from_flat_map (λ (p : ConfigId). p ∷ preorder n known (above known p)) ps c k in
    let lower : AreBelow n (above known r.0) = below_more n r.0 (configuration_of known r.0).parents (omega (arith, below r.0 r.1)) in
    let behind : Contains (preorder n known (above known r.0)) q =
    ⊎_elim (λ e. parents_in n known (above known r.0) lower q (subst (λ y. Contains (above known y) q) (sym e) m))
    (λ d. preorder_closed n known (above known r.0) lower c q d m)
    (contains_cases r.0 c (preorder n known (above known r.0)) r.2) in
    into_flat_map (λ (p : ConfigId). p ∷ preorder n known (above known p)) ps r.0 q r.1 (contains_tail r.0 q (preorder n known (above known r.0)) behind)

-- where numbers are there with all their parents, all that stands above them is there
pub preorder_there : (known : List Configuration) (child : ConfigId) (ns : List ConfigId) → IsClosedBelow known child ns
    → (n : ℕ) (ps : List ConfigId) → AreBelow child.0 ps → ((q : ConfigId) → Contains ps q → Contains ns q) → (x : ConfigId) → Contains (preorder n known ps) x → Contains ns x
unfolding preorder
preorder_there known child ns closed zero ps below there x k = contains_nothing x k
preorder_there known child ns closed (suc n) ps below there x k =
    let r = from_flat_map (λ (p : ConfigId). p ∷ preorder n known (above known p)) ps x k in
    ⊎_elim (λ e. subst (λ y. Contains ns y) e (there r.0 r.1))
    (λ d. preorder_there known child ns closed n (above known r.0)
    (λ q m. omega (arith, below r.0 r.1, below_child r.0 (configuration_of known r.0).parents q m))
    (λ q m. closed r.0 q (there r.0 r.1) (below r.0 r.1) m) x d)
    (contains_cases r.0 x (preorder n known (above known r.0)) r.2)

flat_alike : (f g : ConfigId → List ConfigId) (ps : List ConfigId) → ((q : ConfigId) → Contains ps q → f q ≡ g q) → flat_map f ps ≡ flat_map g ps
flat_alike f g [] h = refl
flat_alike f g (p ∷ ps) h =
    ap (λ (l : List ConfigId). l ++ flat_map f ps) (h p (contains_head p ps)) ∙ ap (λ (l : List ConfigId). g p ++ l) (flat_alike f g ps (λ q k. h q (contains_tail p q ps k)))

none_below : (n : ℕ) (known : List Configuration) (ps : List ConfigId) → AreBelow 0 ps → preorder n known ps ≡ []
unfolding preorder
none_below zero known ps below = refl
none_below (suc n) known [] below = refl
none_below (suc n) known (p ∷ ps) below = absurd (omega (arith, below p (contains_head p ps)))

-- more generations than there are give no more
deep_enough : (n m : ℕ) (known : List Configuration) (ps : List ConfigId) → AreBelow n ps → AreBelow m ps → preorder n known ps ≡ preorder m known ps
unfolding preorder
deep_enough zero m known ps below_n below_m = sym (none_below m known ps below_n)
deep_enough (suc n) zero known ps below_n below_m = none_below (suc n) known ps below_m
deep_enough (suc n) (suc m) known ps below_n below_m =
    flat_alike (λ (p : ConfigId). p ∷ preorder n known (above known p)) (λ (p : ConfigId). p ∷ preorder m known (above known p)) ps
    (λ q k. ap (λ (l : List ConfigId). q ∷ l)
    (deep_enough n m known (above known q) (below_more n q (configuration_of known q).parents (omega (arith, below_n q k))) (below_more m q (configuration_of known q).parents (omega (arith, below_m q k)))))

preorder_one : (n : ℕ) (known : List Configuration) (p : ConfigId) → p.0 < n → preorder n known (p ∷ []) ≡ p ∷ preorder p.0 known (above known p)
unfolding preorder
preorder_one zero known p lt = absurd (omega arith)
preorder_one (suc n) known p lt =
    append-nil (p ∷ preorder n known (above known p))
    ∙ ap (λ (l : List ConfigId). p ∷ l) (deep_enough n p.0 known (above known p) (below_more n p (configuration_of known p).parents (omega (arith, lt))) (below_child p (configuration_of known p).parents))

preorder_then : (n : ℕ) (known : List Configuration) (ps qs : List ConfigId) → preorder n known (ps ++ qs) ≡ preorder n known ps ++ preorder n known qs
unfolding preorder
preorder_then zero known ps qs = refl
preorder_then (suc n) known ps qs = flat_map-append (λ (p : ConfigId). p ∷ preorder n known (above known p)) ps qs

none_above : (n : ℕ) (known : List Configuration) → preorder n known [] ≡ []
none_above n known = none_below n known [] (λ q k. contains_nothing q k)

-- ---- the walk

pub not_begun : (n : ℕ) (known : List Configuration) (ns : List ConfigId) → ns ≡ with_numbers ns (preorder n known [])
not_begun n known ns = sym (ap (with_numbers ns) (none_above n known))

alone : (p q : ConfigId) → Contains (p ∷ []) q → p ≡ q
alone p q k = ⊎_elim (λ e. e) (λ m. contains_nothing q m) (contains_cases p q [] k)

-- the number of a parent that counts and was not come to
abbrev pub is_next : List ConfigId → ConfigId → ConfigId → Bool
is_next ns child p = ltb p.0 child.0 && not (is_among p ns)

module _ (known : List Configuration) (child : ConfigId) (old : List ConfigId) (closed : IsClosedBelow known child old) where
  -- what was come to with some parents
  abbrev pub come_to : List ConfigId → List ConfigId
  come_to ps = with_numbers old (preorder child.0 known (parents_below child ps))

  come_closed : (ps : List ConfigId) → IsClosedBelow known child (come_to ps)
  come_closed ps c q k lt m =
      let chain : List ConfigId = preorder child.0 known (parents_below child ps) in
      ⊎_elim (λ a. numbers_keep old chain q (closed c q a lt m)) (λ a. numbers_have old chain q (preorder_closed child.0 known (parents_below child ps) (below_child child ps) c q a m)) (numbers_from old chain c k)

  come_more : (ps : List ConfigId) (i : ℕ) (d p : ConfigId) → i < length ps → p ≡ get_or ps i d
      → come_to (take (i + 1) ps) ≡ with_numbers (come_to (take i ps)) (preorder child.0 known (parents_below child (p ∷ [])))
  come_more ps i d p lt is =
      let test : ConfigId → Bool = λ (q : ConfigId). ltb q.0 child.0 in
      let more : take (i + 1) ps ≡ take i ps ++ p ∷ [] = take_more ps i d lt ∙ ap (λ (q : ConfigId). take i ps ++ q ∷ []) (sym is) in
      ap come_to more
      ∙ ap (λ (l : List ConfigId). with_numbers old (preorder child.0 known l)) (filter-append test (take i ps) (p ∷ []))
      ∙ ap (with_numbers old) (preorder_then child.0 known (parents_below child (take i ps)) (parents_below child (p ∷ [])))
      ∙ numbers_then old (preorder child.0 known (parents_below child (take i ps))) (preorder child.0 known (parents_below child (p ∷ [])))

  -- a parent that does not count, or was come to, adds nothing
  pub passes_by : (ps : List ConfigId) (i : ℕ) (d p : ConfigId) (now : List ConfigId) → i < length ps → p ≡ get_or ps i d → now ≡ come_to (take i ps) → is_next now child p ≡ false → now ≡ come_to (take (i + 1) ps)
  passes_by ps i d p now lt is e none = e ∙ by (ltb p.0 child.0) refl none ∙ sym (come_more ps i d p lt is)
    where
      by : (b : Bool) → ltb p.0 child.0 ≡ b → (b && not (is_among p now)) ≡ false → come_to (take i ps) ≡ with_numbers (come_to (take i ps)) (preorder child.0 known (cond b (p ∷ []) []))
      by false f g = not_begun child.0 known (come_to (take i ps))
      by true f g =
          let lower : p.0 < child.0 = ltb-true p.0 child.0 f in
          let there : Contains (come_to (take i ps)) p = subst (λ (l : List ConfigId). Contains l p) e (among_shows p now (come (is_among p now) g)) in
          sym (all_there (come_to (take i ps)) (preorder child.0 known (p ∷ []))
          (preorder_there known child (come_to (take i ps)) (come_closed (take i ps)) child.0 (p ∷ [])
          (λ q k. subst (λ (r : ConfigId). r.0 < child.0) (alone p q k) lower)
          (λ q k. subst (λ (r : ConfigId). Contains (come_to (take i ps)) r) (alone p q k) there)))
        where
          come : (b : Bool) → not b ≡ false → b ≡ true
          come true h = refl
          come false h = absurd cc

  -- another one adds itself and what stands above it
  pub comes_to : (ps : List ConfigId) (i : ℕ) (d p : ConfigId) (now pushed new qs : List ConfigId) → i < length ps → p ≡ get_or ps i d → now ≡ come_to (take i ps) → is_next now child p ≡ true
      → pushed ≡ now ++ p ∷ [] → qs ≡ (configuration_of known p).parents → new ≡ with_numbers pushed (preorder p.0 known (parents_below p qs)) → new ≡ come_to (take (i + 1) ps)
  comes_to ps i d p now pushed new qs lt is e next push parents f =
      let both = and_parts (ltb p.0 child.0) (not (is_among p now)) next in
      let other : is_among p now ≡ false = turned (is_among p now) both.1 in
      let added : with_number (come_to (take i ps)) p ≡ pushed = ap (λ (l : List ConfigId). with_number l p) (sym e) ∙ number_new now p other ∙ sym push in
      let counts : parents_below child (p ∷ []) ≡ p ∷ [] = ap (λ (b : Bool). cond b (p ∷ []) []) both.0 in
      f ∙ ap (λ (l : List ConfigId). with_numbers pushed (preorder p.0 known (parents_below p l))) parents
      ∙ ap (λ (l : List ConfigId). with_numbers l (preorder p.0 known (above known p))) (sym added)
      ∙ ap (with_numbers (come_to (take i ps))) (sym (preorder_one child.0 known p (ltb-true p.0 child.0 both.0)) ∙ ap (preorder child.0 known) (sym counts))
      ∙ sym (come_more ps i d p lt is)
    where
      turned : (b : Bool) → not b ≡ true → b ≡ false
      turned true h = absurd cc
      turned false h = refl

  -- with the number of such a one all below it are there with their parents
  pub still_closed : (ps : List ConfigId) (p : ConfigId) (now pushed : List ConfigId) → now ≡ come_to ps → is_next now child p ≡ true → pushed ≡ now ++ p ∷ [] → IsClosedBelow known p pushed
  still_closed ps p now pushed e next push c q k lt m =
      let lower : p.0 < child.0 = ltb-true p.0 child.0 (and_parts (ltb p.0 child.0) (not (is_among p now)) next).0 in
      ⊎_elim
      (λ a. subst (λ (l : List ConfigId). Contains l q) (sym push) (Contains-append_left now (p ∷ []) q (subst (λ (l : List ConfigId). Contains l q) (sym e) (come_closed ps c q (subst (λ (l : List ConfigId). Contains l c) e a) (omega (arith, lt, lower)) m))))
      (λ f. absurd (omega (arith, lt, ap (λ (x : ConfigId). x.0) f)))
      (Contains-push_cases now p c (subst (λ (l : List ConfigId). Contains l c) push k))

  pub lower : (p : ConfigId) (now : List ConfigId) → is_next now child p ≡ true → p.0 < child.0
  lower p now next = ltb-true p.0 child.0 (and_parts (ltb p.0 child.0) (not (is_among p now)) next).0
