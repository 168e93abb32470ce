-- The least set that holds the starts and is closed, as marks and work close in on it.
use Rattle.std.proofs.Common.{◌≡◌, ℕ, zero, suc, ◌+◌, ◌<◌, ◌⊎◌, Bool, true, false, List, [], ◌∷◌, ◌++◌, length, get_or, replicate, All, Some, sym, ap, subst, ◌∙◌, inl, inr, ⊎_elim, arith, length-append}
use Rattle.std.proofs.lemmas.List.{length-replicate}
use Rattle.std.proofs.lemmas.List.Elements.{Contains-append_left, Contains-push, Contains-push_cases, All-get_or}
use Rattle.std.proofs.lemmas.Option.{get_or_from_slice_get, slice_get-get_or}
use Rattle.std.specs.Prelude.{Contains, slice_get}
use Rattle.jl_closure.specs.Reached.{Follows, Chain, IsReached}
use Rattle.jl_closure.specs.Work.{State, with_places}
use Rattle.jl_closure.proofs.Marking.{Marked, Marked-within, unmarked, Marks, marks_all}

-- Each mark is reached, the starts are marked, and what follows a marked place is marked, unless the place is work.
pub record IsClosing (next : List (List ℕ)) (starts : List ℕ) (marks : List Bool) (work : List ℕ) : Type 0 where
  pub size : length marks ≡ length next
  pub queued : (p : ℕ) → Contains work p → Marked marks p
  pub sound : (p : ℕ) → Marked marks p → IsReached next starts p
  pub begun : (p : ℕ) → Contains starts p → Marked marks p
  pub closed : (p q : ℕ) → Marked marks p → Follows next p q → Marked marks q ⊎ Contains work p

abbrev pub pair : List Bool → List ℕ → State
pair m w = (m, w)

nothing : (q : ℕ) → Contains {X = ℕ} [] q → ⊥
nothing q h = omega (arith, h.1)

none_marked : (n q : ℕ) → Marked (replicate n false) q → ⊥
none_marked zero q h = absurd cc
none_marked (suc n) zero h = absurd cc
none_marked (suc n) (suc q) h = none_marked n q h

-- all places below the number of rows
abbrev pub AreWithin : List (List ℕ) → List ℕ → Type 0
AreWithin next ps = All (λ k. k < length next) ps

within_marks : (next : List (List ℕ)) (marks : List Bool) (ps : List ℕ) → length marks ≡ length next → AreWithin next ps → All (λ k. k < length marks) ps
within_marks next marks ps size within = subst (λ (n : ℕ). All (λ k. k < n) ps) (sym size) within

pub closing_starts : (next : List (List ℕ)) (starts : List ℕ) (t : State) → AreWithin next starts → t ≡ with_places (replicate (length next) false, []) starts → IsClosing next starts t.0 t.1
closing_starts next starts t within e =
    let none : List Bool = replicate (length next) false in
    let m : Marks (none, []) starts t = subst (λ (u : State). Marks (none, []) starts u) (sym e) (marks_all (none, []) starts (within_marks next none starts (length-replicate (length next) false) within)) in
    record {
      size = m.same_length ∙ length-replicate (length next) false;
      queued = λ p h. ⊎_elim (λ c. absurd (nothing p c)) (λ c. m.marks p c) (m.queue_only p h);
      sound = λ p h. ⊎_elim (λ c. absurd (none_marked (length next) p c)) (λ c. (0, c)) (m.only p h);
      begun = λ p h. m.marks p h;
      closed = λ p q h f. ⊎_elim (λ c. absurd (none_marked (length next) p c)) (λ c. inr c) (m.fresh p h);
    }

-- a place that was taken from the work has a row
pub taken_within : (next : List (List ℕ)) (starts : List ℕ) (marks : List Bool) (work rest : List ℕ) (place : ℕ) → IsClosing next starts marks work → work ≡ rest ++ place ∷ [] → place < length next
taken_within next starts marks work rest place g popped =
    let queued : Contains work place = subst (λ (w : List ℕ). Contains w place) (sym popped) (Contains-push rest place) in
    omega (arith, Marked-within marks place (g.queued place queued), g.size)

-- and the places in that row have marks
pub row_marks : (next : List (List ℕ)) (starts : List ℕ) (marks : List Bool) (work rest : List ℕ) (place : ℕ) → All (λ row. AreWithin next row) next → IsClosing next starts marks work → work ≡ rest ++ place ∷ []
    → All (λ k. k < length marks) (get_or next place [])
row_marks next starts marks work rest place graph g popped =
    within_marks next marks (get_or next place []) g.size (All-get_or (λ row. AreWithin next row) next place [] (taken_within next starts marks work rest place g popped) graph)

row_within : (next : List (List ℕ)) (p : ℕ) → p < length next → All (λ row. AreWithin next row) next → AreWithin next (get_or next p [])
row_within next p lt graph = All-get_or (λ row. AreWithin next row) next p [] lt graph

-- one step along a chain
one_more : (next : List (List ℕ)) (starts : List ℕ) (p q : ℕ) → IsReached next starts p → Follows next p q → IsReached next starts q
one_more next starts p q r f = (suc r.0, (p, r.1, f))

closed_more : (next : List (List ℕ)) (starts : List ℕ) (marks : List Bool) (rest : List ℕ) (place : ℕ) (t : State)
    → IsClosing next starts marks (rest ++ place ∷ []) → Marks (marks, rest) (get_or next place []) t
    → (p q : ℕ) → Marked t.0 p → Follows next p q → Marked t.0 q ⊎ Contains t.1 p
closed_more next starts marks rest place t g m p q h f =
    ⊎_elim (λ was.
    ⊎_elim (λ done. inl (m.stays q done))
    (λ queued. ⊎_elim (λ in_rest. inr (m.queue_stays p in_rest))
    (λ e. inl (m.marks q (subst (λ (k : ℕ). Follows next k q) (sym e) f)))
    (Contains-push_cases rest place p queued))
    (g.closed p q was f))
    (λ queued. inr queued)
    (m.fresh p h)

pub closing_goes_on : (next : List (List ℕ)) (starts : List ℕ) (marks : List Bool) (work rest : List ℕ) (place : ℕ) (t : State)
    → All (λ row. AreWithin next row) next → IsClosing next starts marks work → work ≡ rest ++ place ∷ [] → t ≡ with_places (marks, rest) (get_or next place []) → IsClosing next starts t.0 t.1
closing_goes_on next starts marks work rest place t graph closing popped e =
    let g : IsClosing next starts marks (rest ++ place ∷ []) = subst (λ (w : List ℕ). IsClosing next starts marks w) popped closing in
    let here : Marked marks place = g.queued place (Contains-push rest place) in
    let lt : place < length next = omega (arith, Marked-within marks place here, g.size) in
    let m : Marks (marks, rest) (get_or next place []) t = subst (λ (u : State). Marks (marks, rest) (get_or next place []) u) (sym e) (marks_all (marks, rest) (get_or next place []) (within_marks next marks (get_or next place []) g.size (row_within next place lt graph))) in
    record {
      size = m.same_length ∙ g.size;
      queued = λ p h. ⊎_elim (λ c. m.stays p (g.queued p (Contains-append_left rest (place ∷ []) p c))) (λ c. m.marks p c) (m.queue_only p h);
      sound = λ p h. ⊎_elim (λ was. g.sound p was) (λ c. one_more next starts place p (g.sound place here) c) (m.only p h);
      begun = λ p h. m.stays p (g.begun p h);
      closed = closed_more next starts marks rest place t g m;
    }

-- what is left to do falls with each place that is taken
pub work_falls : (marks : List Bool) (rest : List ℕ) (place : ℕ) (ps : List ℕ) (t : State) → All (λ k. k < length marks) ps → t ≡ with_places (marks, rest) ps
    → unmarked t.0 + length t.1 < unmarked marks + length (rest ++ place ∷ [])
work_falls marks rest place ps t within e =
    let m : Marks (marks, rest) ps t = subst (λ (u : State). Marks (marks, rest) ps u) (sym e) (marks_all (marks, rest) ps within) in
    omega (arith, m.count, length-append rest (place ∷ []))

reached_marked : (next : List (List ℕ)) (starts : List ℕ) (marks : List Bool) → IsClosing next starts marks [] → (n p : ℕ) → Chain next starts n p → Marked marks p
reached_marked next starts marks g zero p h = g.begun p h
reached_marked next starts marks g (suc n) p h = ⊎_elim (λ m. m) (λ c. absurd (nothing h.0 c)) (g.closed h.0 p (reached_marked next starts marks g n h.0 h.1) h.2)

pub closed_only : (next : List (List ℕ)) (starts : List ℕ) (marks : List Bool) → IsClosing next starts marks [] → (p : ℕ) → slice_get marks p ≡ Some true → IsReached next starts p
closed_only next starts marks g p h = g.sound p (get_or_from_slice_get marks p true false h)

pub closed_all : (next : List (List ℕ)) (starts : List ℕ) (marks : List Bool) → IsClosing next starts marks [] → (p : ℕ) → IsReached next starts p → slice_get marks p ≡ Some true
closed_all next starts marks g p r =
    let h : Marked marks p = reached_marked next starts marks g r.0 p r.1 in
    slice_get-get_or marks p false (Marked-within marks p h) ∙ ap (λ (b : Bool). Some b) h

pub closing_begins : (next : List (List ℕ)) (starts : List ℕ) (m0 : List Bool) (w0 : List ℕ) (m : List Bool) (w : List ℕ) → AreWithin next starts
    → m0 ≡ replicate (length next) false → w0 ≡ [] → pair m w ≡ with_places (m0, w0) starts → IsClosing next starts m w
closing_begins next starts m0 w0 m w within em ew e =
    closing_starts next starts (m, w) within (e ∙ ap (λ (x : List Bool). with_places (x, w0) starts) em ∙ ap (λ (x : List ℕ). with_places (replicate (length next) false, x) starts) ew)
