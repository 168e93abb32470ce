-- The order of places by name, and what the readings hold so far.
use Rattle.std.proofs.Common.{◌≡◌, ◌<◌, ◌≤◌, ◌+◌, ℕ, List, [], ◌∷◌, ◌++◌, length, map, take, get_or, slice_get, ⊎_elim, refl, sym, ◌∙◌, ap, ap₂, subst, Contains, ◌&&◌, eqb, Some, None, Bool, true, false, cond, filter_map, Ordering, Less, arith}
use Rattle.std.specs.List.{AllByRecursion, Any, cons_option}
use Rattle.std.specs.List.Sorted.{IsStrictlySortedBy}
use Rattle.std.proofs.lemmas.Option.{slice_get_within, get_or_from_slice_get, slice_get-get_or, slice_get_read}
use Rattle.std.proofs.lemmas.List.{take_more, take_all, map-append}
use Rattle.std.proofs.lemmas.Bool.{and_parts, eqb-true}
use Rattle.std.proofs.lemmas.List.Elements.{All-contains, Contains-append_left, Contains-append_right}
use Rattle.jl_logic.specs.Order.{is_text, RisesBy}
use Rattle.jl_logic.proofs.Rising.{contains_head, contains_tail, contains_nothing, each_from_members, each_of_member}
use Rattle.jl_closure.specs.Reached.{AreMarksOf}
use Rattle.jl_config.specs.declared.candidate.Candidate.{Candidate}
use Rattle.jl_config.specs.declared.readings.Reading.{Reading}
use Rattle.jl_config.specs.declared.readings.Placed.{Placed}
use Rattle.jl_config.specs.Located.{Scene, candidate_name}
use Rattle.jl_config.specs.Orders.{candidate_cmp}
use Rattle.jl_config.specs.Places.{candidates_at, AreMarks, AreMembers, AreReadBy}
use Rattle.jl_config.specs.ReadRows.{option_name, place_cmp, placed_cmp, placed, AreByName, marked_place, read_rows, read_starts, IsRead, IsReadingOf, reading_cmp, AreReadings}
use Rattle.jl_config.proofs.Lists.{into_filter_map, from_filter_map, contains_at, into_map, from_map, last_or_before, below_or_last, same_item, item_at}
use Rattle.jl_config.proofs.Names.{text_is}
use Rattle.jl_config.proofs.ReadMarks.{First, placed_first, read_by_marks, rows_long}

pub strictly_rises : {X : Type 0} (cmp : X → X → Ordering) (xs : List X) → IsStrictlySortedBy cmp xs → RisesBy cmp xs
unfolding IsStrictlySortedBy
strictly_rises cmp [] h = tt
strictly_rises cmp (x ∷ xs) h = (h.0, strictly_rises cmp xs h.1)

-- an item of a set that has one that is the same
pub from_any : {X : Type 0} {same : X → X → Bool} → ((x y : X) → same x y ≡ true → x ≡ y) → (xs ys : List X) (x : X) → Contains xs x → ((x : X) → Contains xs x → Any (λ y. same x y ≡ true) ys) → Contains ys x
from_any {X} exact xs ys x c all = let a = all x c in (a.0, a.2, let e : x ≡ a.1 = exact x a.1 a.4 in subst (λ (z : X). get_or ys a.0 z ≡ z) (sym e) a.3)

-- ---- all places by name

-- the first i places have their names
pub record ArePlaced (w : Scene) (i : ℕ) (xs : List Placed) : Type 0 where
  pub only : (x : Placed) → Contains xs x → (x.place < length w.candidates) × (x ≡ placed w x.place)
  pub all : (p : ℕ) → p < i → Contains xs (placed w p)

pub placed_none : (w : Scene) (xs : List Placed) → xs ≡ [] → ArePlaced w 0 xs
placed_none w xs e = subst (ArePlaced w 0) (sym e) (record { only = λ x c. contains_nothing x c; all = λ p lt. absurd (omega arith) })

pub placed_more : (w : Scene) (candidates : List Candidate) (i : ℕ) (s : Candidate) (name : List ℕ) (old new : List Placed) → candidates ≡ w.candidates → i < length candidates → s ≡ get_or candidates i s → name ≡ candidate_name s → new ≡ old ++ record { name = name; place = i } ∷ []
    → ArePlaced w i old → ArePlaced w (i + 1) new
placed_more w candidates i s name old new whole_is lt0 is0 e f h =
    let lt : i < length w.candidates = subst (λ (l : List Candidate). i < length l) whole_is lt0 in
    let is : s ≡ get_or w.candidates i s = is0 ∙ ap (λ (l : List Candidate). get_or l i s) whole_is in
    let x : Placed = record { name = name; place = i } in
    let at : slice_get w.candidates i ≡ Some s = slice_get_read w.candidates (length w.candidates) i s refl lt is in
    let same : x ≡ placed w i = ap (λ (n : List ℕ). record { name = n; place = i }) (e ∙ sym (ap option_name at)) in
    subst (ArePlaced w (i + 1)) (sym f) (record {
      only = λ y c. last_or_before old x y ((y.place < length w.candidates) × (y ≡ placed w y.place)) c (h.only y) (λ g.
          let whole : y ≡ placed w i = sym g ∙ same in
          subst (λ (z : Placed). (z.place < length w.candidates) × (z ≡ placed w z.place)) (sym whole) (lt, refl));
      all = λ p le. ⊎_elim
          (λ less. Contains-append_left old (x ∷ []) (placed w p) (h.all p less))
          (λ g. subst (λ q. Contains (old ++ x ∷ []) (placed w q)) (sym g) (subst (Contains (old ++ x ∷ [])) same (Contains-append_right old (x ∷ []) x (contains_head x []))))
          (below_or_last p i le);
    })

pub placed_sorted : (w : Scene) (i : ℕ) (cmp : Placed → Placed → Ordering) (same : Placed → Placed → Bool) (xs ys : List Placed) → length w.candidates ≤ i → ArePlaced w i xs
    → ((x y : Placed) → cmp x y ≡ placed_cmp x y) → ((x y : Placed) → same x y ≡ true → x ≡ y)
    → RisesBy cmp ys → ((x : Placed) → Contains ys x → Contains xs x) → ((x : Placed) → Contains xs x → Any (λ y. same x y ≡ true) ys) → AreByName w ys
placed_sorted w i cmp same xs ys le h order exact up only all = record {
  rise = subst (λ (f : Placed → Placed → Ordering). RisesBy f ys) (λ t x y. order x y t) up;
  only = λ x c. h.only x (only x c);
  all = λ p lt. from_any exact xs ys (placed w p) (h.all p (omega arith)) all;
}

pub placed_exact : (x y : Placed) → (is_text x.name y.name && eqb x.place y.place) ≡ true → x ≡ y
placed_exact x y e =
    let both = and_parts (is_text x.name y.name) (eqb x.place y.place) e in
    let name : x.name ≡ y.name = text_is x.name y.name both.0 in
    let place : x.place ≡ y.place = eqb-true x.place y.place both.1 in
    λ i. record { name = name i; place = place i }

-- ---- the marked places, in this order

marked_shows : (marks : List Bool) (x : Placed) (p : ℕ) → marked_place marks x ≡ Some p → (x.place ≡ p) × (get_or marks p false ≡ true)
marked_shows marks x p e = by (get_or marks x.place false) refl e
  where
    by : (b : Bool) → get_or marks x.place false ≡ b → cond b (Some x.place) None ≡ Some p → (x.place ≡ p) × (get_or marks p false ≡ true)
    by true f g = let m : x.place ≡ p = cc in (m, subst (λ q. get_or marks q false ≡ true) m f)
    by false f g = absurd cc

module _ (w : Scene) (marks : List Bool) where
  -- what is marked, of places behind one that is less
  marked_less : (x : Placed) (xs : List Placed) → ((y : Placed) → Contains (x ∷ xs) y → y ≡ placed w y.place) → AllByRecursion (λ y. placed_cmp x y ≡ Less) xs
      → AllByRecursion (λ p. place_cmp w x.place p ≡ Less) (filter_map (marked_place marks) xs)
  marked_less x xs right less = each_from_members (λ p. place_cmp w x.place p ≡ Less) (filter_map (marked_place marks) xs) (λ p c.
      let v = from_filter_map (marked_place marks) xs p c in
      let m = marked_shows marks v.0 p v.2 in
      let l : placed_cmp x v.0 ≡ Less = each_of_member (λ y. placed_cmp x y ≡ Less) xs v.0 less v.1 in
      let f : x ≡ placed w x.place = right x (contains_head x xs) in
      let g : v.0 ≡ placed w p = right v.0 (contains_tail x v.0 xs v.1) ∙ ap (placed w) m.0 in
      subst (λ y. placed_cmp (placed w x.place) y ≡ Less) g (subst (λ y. placed_cmp y v.0 ≡ Less) f l))

  pub marked_rise : (xs : List Placed) → ((y : Placed) → Contains xs y → y ≡ placed w y.place) → RisesBy placed_cmp xs → RisesBy (place_cmp w) (filter_map (marked_place marks) xs)
  marked_rise [] right up = tt
  marked_rise (x ∷ xs) right up = by (get_or marks x.place false) (marked_rise xs (λ y c. right y (contains_tail x y xs c)) up.1)
    where
      by : (b : Bool) → RisesBy (place_cmp w) (filter_map (marked_place marks) xs) → RisesBy (place_cmp w) (cons_option (cond b (Some x.place) None) (filter_map (marked_place marks) xs))
      by true rest = (marked_less x xs right up.0, rest)
      by false rest = rest

-- ---- readings

abbrev reader_of : Reading → ℕ
reader_of r = r.reader

-- what the first i members read
pub record AreRead (w : Scene) (places : List ℕ) (i : ℕ) (rs : List Reading) : Type 0 where
  pub readers : map reader_of rs ≡ take i places
  pub each : (r : Reading) → Contains rs r → (a : Candidate) × IsReadingOf w r a

-- what the module at a place reads, of a closure's marks
pub one_read : (w : Scene) (marks : List Bool) (places : List ℕ) (p : ℕ) (order : List Placed) (reached : List Bool) (r : Reading) → AreMarks w marks → AreMembers w places → Contains places p → AreByName w order
    → ((a : Candidate) → slice_get w.candidates p ≡ Some a → AreMarksOf (read_rows w marks) (read_starts w marks a p) reached) → r.reader ≡ p → r.read ≡ filter_map (marked_place reached) order → (a : Candidate) × IsReadingOf w r a
one_read w marks places p order reached r right members c sorted closed e f =
    let lt : p < length w.candidates = All-contains (λ q. q < length w.candidates) places p members.within c in
    let s = item_at w.candidates p lt in
    let a : Candidate = s.0 in
    let member = members.only p a c s.1 in
    let first : First w p a = placed_first w (candidate_name a) p a member.1 s.1 in
    let m = closed a s.1 in
    let long : length reached ≡ length w.candidates = m.one_each ∙ rows_long w marks in
    let shows : (q : ℕ) → Contains (filter_map (marked_place reached) order) q → slice_get reached q ≡ Some true = λ q d.
    let v = from_filter_map (marked_place reached) order q d in
    let n = marked_shows reached v.0 q v.2 in
    let below : q < length reached = subst (λ k. k < length reached) n.0 (subst (λ k. v.0.place < k) (sym long) (sorted.only v.0 v.1).0) in
    slice_get-get_or reached q false below ∙ ap Some n.1 in
    let has : (q : ℕ) → slice_get reached q ≡ Some true → Contains (filter_map (marked_place reached) order) q = λ q d.
    let below : q < length w.candidates = subst (λ k. q < k) long (slice_get_within reached q true d) in
    let marked : get_or reached q false ≡ true = get_or_from_slice_get reached q true false d in
    into_filter_map (marked_place reached) order (placed w q) q (sorted.all q below) (ap (λ (b : Bool). cond b (Some q) None) marked) in
    let read : AreReadBy w a (filter_map (marked_place reached) order) = read_by_marks w marks right a p first reached (filter_map (marked_place reached) order) m shows has in
    let up : RisesBy (place_cmp w) (filter_map (marked_place reached) order) = marked_rise w reached order (λ y d. (sorted.only y d).1) sorted.rise in (
      a,
      record {
        here = subst (λ q. slice_get w.candidates q ≡ Some a) (sym e) s.1;
        member = member.0;
        reads = subst (IsRead w a) (sym f) (record { rise = up; read = read });
      },
    )

pub more_read : (w : Scene) (places : List ℕ) (i p : ℕ) (r : Reading) (old new : List Reading) → i < length places → p ≡ get_or places i 0 → r.reader ≡ p → (a : Candidate) × IsReadingOf w r a → new ≡ old ++ r ∷ []
    → AreRead w places i old → AreRead w places (i + 1) new
more_read w places i p r old new lt is e one f h = subst (AreRead w places (i + 1)) (sym f) (record {
  readers = map-append reader_of old (r ∷ []) ∙ ap₂ (λ l q. l ++ q ∷ []) h.readers (e ∙ is) ∙ sym (take_more places i 0 lt);
  each = λ s c. last_or_before old r s ((a : Candidate) × IsReadingOf w s a) c (h.each s) (λ g. subst (λ (t : Reading). (a : Candidate) × IsReadingOf w t a) g one);
})

module _ (w : Scene) where
  less_name : (r : Reading) (a : Candidate) (s : Reading) (b : Candidate) → IsReadingOf w r a → IsReadingOf w s b → candidate_cmp a b ≡ Less → reading_cmp w r s ≡ Less
  less_name r a s b m n l = rw (m.here, n.here) l

  contains_candidates : (rs : List Reading) (s : Reading) (b : Candidate) → Contains rs s → IsReadingOf w s b → Contains (candidates_at w (map reader_of rs)) b
  contains_candidates rs s b c m = into_filter_map (slice_get w.candidates) (map reader_of rs) s.reader b (into_map reader_of rs s c) m.here

  readings_rise : (rs : List Reading) → RisesBy candidate_cmp (candidates_at w (map reader_of rs)) → ((r : Reading) → Contains rs r → (a : Candidate) × IsReadingOf w r a) → RisesBy (reading_cmp w) rs
  readings_rise [] up each = tt
  readings_rise (r ∷ rs) up each =
      let first = each r (contains_head r rs) in
      let opened : RisesBy candidate_cmp (cons_option (Some first.0) (candidates_at w (map reader_of rs))) = subst (λ o. RisesBy candidate_cmp (cons_option o (candidates_at w (map reader_of rs)))) first.1.here up in (
        each_from_members (λ s. reading_cmp w r s ≡ Less) rs (λ s c.
            let m = each s (contains_tail r s rs c) in
            less_name r first.0 s m.0 first.1 m.1 (each_of_member (λ v. candidate_cmp first.0 v ≡ Less) (candidates_at w (map reader_of rs)) m.0 opened.0 (contains_candidates rs s m.0 c m.1))),
        readings_rise rs opened.1 (λ s c. each s (contains_tail r s rs c)),
      )

pub place_contained : (places items : List ℕ) (i : ℕ) → items ≡ places → i < length items → Contains places (get_or items i 0)
place_contained places items i e lt = subst (λ (l : List ℕ). Contains l (get_or items i 0)) e (contains_at items i (get_or items i 0) (slice_get-get_or items i 0 lt))

-- all members read
pub all_read : (w : Scene) (places : List ℕ) (i : ℕ) (rs : List Reading) → length places ≤ i → AreMembers w places → AreRead w places i rs → AreReadings w rs
all_read w places i rs le members h =
    let readers : map reader_of rs ≡ places = h.readers ∙ take_all i places le in
    record {
      rise = readings_rise w rs (subst (λ ps. RisesBy candidate_cmp (candidates_at w ps)) (sym readers) members.rise) h.each;
      only = h.each;
      all = λ a m.
          let p = members.all a m in
          let v = from_map reader_of rs p.0 (subst (λ ps. Contains ps p.0) (sym readers) p.1) in
          let s = h.each v.0 v.1 in
          let at : slice_get w.candidates v.0.reader ≡ Some a = subst (λ q. slice_get w.candidates q ≡ Some a) (sym v.2) p.2 in
          let same : s.0 ≡ a = same_item s.0 a (slice_get w.candidates v.0.reader) s.1.here at in
          (v.0, v.1, subst (IsReadingOf w v.0) same s.1);
    }
