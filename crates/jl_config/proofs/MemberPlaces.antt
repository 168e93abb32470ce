-- The marked places in name order are those of the set.
use Rattle.std.proofs.Common.{◌≡◌, ◌<◌, ◌+◌, ℕ, zero, suc, List, [], ◌∷◌, length, map, slice_get, ⊎_elim, refl, sym, ◌∙◌, ap, ap₂, subst, Contains, Option, Some, Bool, true, false, cond, ◌&&◌, arith, Less}
use Rattle.std.specs.List.{AllByRecursion, cons_option}
use Rattle.std.proofs.lemmas.Option.{slice_get_within}
use Rattle.jl_logic.specs.Order.{is_text, name_cmp, RisesBy}
use Rattle.jl_logic.proofs.Rising.{contains_head, contains_tail, contains_cases, contains_nothing, each_of_member}
use Rattle.jl_config.specs.declared.candidate.Candidate.{Candidate}
use Rattle.jl_config.specs.declared.placed.Placed.{Placed}
use Rattle.jl_config.specs.Located.{Scene, candidate_name}
use Rattle.jl_config.specs.Orders.{candidate_cmp}
use Rattle.jl_config.specs.Placed.{placed_cmp, place_in, marked_place}
use Rattle.jl_config.specs.Places.{place_named, AreMarks, AreMembers, candidates_at}
use Rattle.jl_config.proofs.Lists.{into_map, from_map, all_of, same_item}
use Rattle.jl_config.proofs.MemberFinds.{FoundAt, found_where, member_found}
use Rattle.jl_config.proofs.MemberOrder.{label}
use Rattle.jl_config.proofs.Names.{text_is, text_itself, less_other}
use Rattle.std.proofs.lemmas.Bool.{and_parts}

abbrev Marked : List ℕ → ℕ → List Candidate → List Bool → ℕ → Type 0
Marked q p ss ms v = (k : ℕ) × (s : Candidate) × (slice_get ss k ≡ Some s) × (slice_get ms k ≡ Some true) × (candidate_name s ≡ q) × (p + k ≡ v)

marked_shows : (q : List ℕ) (p : ℕ) (ss : List Candidate) (ms : List Bool) (v : ℕ) → marked_place q p ss ms ≡ Some v → Marked q p ss ms v
marked_shows q p [] ms v e = absurd cc
marked_shows q p (s ∷ ss) [] v e = absurd cc
marked_shows q p (s ∷ ss) (m ∷ ms) v e = by (marked_shows q (p + 1) ss ms v) (m && is_text (candidate_name s) q) refl e
  where
    by : (marked_place q (p + 1) ss ms ≡ Some v → Marked q (p + 1) ss ms v) → (b : Bool) → (m && is_text (candidate_name s) q) ≡ b → cond b (Some p) (marked_place q (p + 1) ss ms) ≡ Some v → Marked q p (s ∷ ss) (m ∷ ms) v
    by more true f g =
        let both = and_parts m (is_text (candidate_name s) q) f in
        let at : p ≡ v = cc in
        (0, s, refl, ap Some both.0, text_is (candidate_name s) q both.1, omega (arith, at))
    by more false f g = let r = more g in (suc r.0, r.1, r.2, r.3, r.4, omega (arith, r.5))

marked_has : (q : List ℕ) (p : ℕ) (ss : List Candidate) (ms : List Bool) (k : ℕ) (s : Candidate) → slice_get ss k ≡ Some s → slice_get ms k ≡ Some true → candidate_name s ≡ q → (v : ℕ) × (marked_place q p ss ms ≡ Some v)
marked_has q p [] ms k s at m n = absurd cc
marked_has q p (t ∷ ss) [] k s at m n = absurd cc
marked_has q p (t ∷ ss) (b ∷ ms) zero s at m n =
    let same : s ≡ t = cc in
    let set : b ≡ true = cc in
    let named : is_text (candidate_name t) q ≡ true = ap (λ (u : Candidate). is_text (candidate_name u) q) (sym same) ∙ ap (λ (l : List ℕ). is_text l q) n ∙ text_itself q in
    let here : (b && is_text (candidate_name t) q) ≡ true = ap (λ (c : Bool). c && is_text (candidate_name t) q) set ∙ named in
    (p, ap (λ (c : Bool). cond c (Some p) (marked_place q (p + 1) ss ms)) here)
marked_has q p (t ∷ ss) (b ∷ ms) (suc k) s at m n = by (b && is_text (candidate_name t) q) (marked_has q (p + 1) ss ms k s at m n)
  where
    by : (c : Bool) → (v : ℕ) × (marked_place q (p + 1) ss ms ≡ Some v) → (v : ℕ) × (cond c (Some p) (marked_place q (p + 1) ss ms) ≡ Some v)
    by true more = (p, refl)
    by false more = more

placed_there : (q : List ℕ) (xs : List Placed) (v : ℕ) → place_in q xs ≡ Some v → (x : Placed) × Contains xs x × (x.place ≡ v)
placed_there q [] v e = absurd cc
placed_there q (x ∷ xs) v e = by (placed_there q xs v) (is_text x.name q) e
  where
    by : (place_in q xs ≡ Some v → (y : Placed) × Contains xs y × (y.place ≡ v)) → (b : Bool) → cond b (Some x.place) (place_in q xs) ≡ Some v → (y : Placed) × Contains (x ∷ xs) y × (y.place ≡ v)
    by more true f = let at : x.place ≡ v = cc in (x, contains_head x xs, at)
    by more false f = let r = more f in (r.0, contains_tail x r.0 xs r.1, r.2)

-- in a list that rises each name has its own place
own_place_in : (xs : List Placed) (x : Placed) → RisesBy placed_cmp xs → Contains xs x → place_in (label x) xs ≡ Some x.place
own_place_in [] x up c = contains_nothing x c
own_place_in (w ∷ xs) x up c = ⊎_elim (λ e. subst (λ (v : Placed). place_in (label v) (w ∷ xs) ≡ Some v.place) e (here w)) (λ k. later k (own_place_in xs x up.1 k)) (contains_cases w x xs c)
  where
    here : (v : Placed) → place_in (label v) (v ∷ xs) ≡ Some v.place
    here v = rw (text_itself (label v)) refl

    later : Contains xs x → place_in (label x) xs ≡ Some x.place → place_in (label x) (w ∷ xs) ≡ Some x.place
    later k e = rw (less_other (label w) (label x) (each_of_member (λ v. placed_cmp w v ≡ Less) xs x up.0 k)) e

module _ (w : Scene) (marks : List Bool) (xs : List Placed) (right : AreMarks w marks) (up : RisesBy placed_cmp xs) (finds : (q : List ℕ) → place_in q xs ≡ marked_place q 0 w.candidates marks) where
  -- the module at the place of one of the list
  abbrev Stands : Placed → Type 0
  Stands x = (s : Candidate) × (slice_get w.candidates x.place ≡ Some s) × (slice_get marks x.place ≡ Some true) × (candidate_name s ≡ label x)

  stands : (x : Placed) → Contains xs x → Stands x
  stands x c =
      let r = marked_shows (label x) 0 w.candidates marks x.place (sym (finds (label x)) ∙ own_place_in xs x up c) in
      let k : r.0 ≡ x.place = omega (arith, r.5) in
      (r.1, subst (λ (n : ℕ). slice_get w.candidates n ≡ Some r.1) k r.2, subst (λ (n : ℕ). slice_get marks n ≡ Some true) k r.3, r.4)

  candidates_each : (ys : List Placed) → ((y : Placed) → Contains ys y → Stands y) → (x : Placed) (s : Candidate) → candidate_name s ≡ label x → AllByRecursion (λ y. placed_cmp x y ≡ Less) ys → AllByRecursion (λ t. candidate_cmp s t ≡ Less) (candidates_at w (map (λ (y : Placed). y.place) ys))
  candidates_each [] h x s n low = tt
  candidates_each (y ∷ ys) h x s n low =
      let r = h y (contains_head y ys) in
      let less : candidate_cmp s r.0 ≡ Less = ap₂ name_cmp n r.3 ∙ low.0 in
      let rest : AllByRecursion (λ t. candidate_cmp s t ≡ Less) (candidates_at w (map (λ (y : Placed). y.place) ys)) = candidates_each ys (λ z c. h z (contains_tail y z ys c)) x s n low.1 in
      subst (λ (o : Option Candidate). AllByRecursion (λ t. candidate_cmp s t ≡ Less) (cons_option o (candidates_at w (map (λ (y : Placed). y.place) ys)))) (sym r.1) (less, rest)

  candidates_rise : (ys : List Placed) → ((y : Placed) → Contains ys y → Stands y) → RisesBy placed_cmp ys → RisesBy candidate_cmp (candidates_at w (map (λ (y : Placed). y.place) ys))
  candidates_rise [] h rise = tt
  candidates_rise (y ∷ ys) h rise =
      let r = h y (contains_head y ys) in
      let more = λ (z : Placed) (c : Contains ys z). h z (contains_tail y z ys c) in
      subst (λ (o : Option Candidate). RisesBy candidate_cmp (cons_option o (candidates_at w (map (λ (y : Placed). y.place) ys)))) (sym r.1) (candidates_each ys more y r.0 r.3 rise.0, candidates_rise ys more rise.1)

  pub members_right : AreMembers w (map (λ (x : Placed). x.place) xs)
  members_right = record {
    within = all_of (λ p. p < length w.candidates) (map (λ (x : Placed). x.place) xs) (λ p c.
        let r = from_map (λ (x : Placed). x.place) xs p c in
        let s = stands r.0 r.1 in
        subst (λ (n : ℕ). n < length w.candidates) r.2 (slice_get_within w.candidates r.0.place s.0 s.1));
    rise = candidates_rise xs stands up;
    only = λ p s c at.
        let r = from_map (λ (x : Placed). x.place) xs p c in
        let t = stands r.0 r.1 in
        right.only p s at (subst (λ (n : ℕ). slice_get marks n ≡ Some true) r.2 t.2);
    all = λ s m.
        let r = found_where w s (member_found w s m) in
        let f : FoundAt w r.0 s = r.1 in
        let mark : slice_get marks r.0 ≡ Some true = right.all r.0 s f.at m f.first in
        let v = marked_has (candidate_name s) 0 w.candidates marks r.0 s f.at mark refl in
        let x = placed_there (candidate_name s) xs v.0 (finds (candidate_name s) ∙ v.1) in
        let b = marked_shows (candidate_name s) 0 w.candidates marks v.0 v.1 in
        let k : b.0 ≡ v.0 = omega (arith, b.5) in
        let first : place_named (candidate_name b.1) w.candidates ≡ Some b.0 = (right.only b.0 b.1 b.2 b.3).1 in
        let same : b.0 ≡ r.0 = same_item b.0 r.0 (place_named (candidate_name s) w.candidates) (ap (λ (n : List ℕ). place_named n w.candidates) (sym b.4) ∙ first) f.first in
        let at : x.0.place ≡ r.0 = x.2 ∙ sym k ∙ same in
        (r.0, subst (Contains (map (λ (x : Placed). x.place) xs)) at (into_map (λ (x : Placed). x.place) xs x.0 x.1), f.at);
  }
