-- There are always marks of exactly the places that are reached.
use Rattle.std.proofs.Common.{◌≡◌, ℕ, zero, suc, ◌+◌, ◌≤◌, ◌<◌, Bool, false, List, [], ◌∷◌, ◌++◌, length, get_or, replicate, All, refl, ap, arith}
use Rattle.jl_closure.specs.Reached.{AreMarksOf}
use Rattle.jl_closure.specs.Work.{State, with_places}
use Rattle.jl_closure.proofs.Marking.{unmarked}
use Rattle.jl_closure.proofs.Closing.{IsClosing, AreWithin, closing_starts, closing_goes_on, row_marks, work_falls, closed_only, closed_all}

-- a list that is not empty has a last item
last_of : (w : ℕ) (ws : List ℕ) → (rest : List ℕ) × (place : ℕ) × (w ∷ ws ≡ rest ++ place ∷ [])
last_of w [] = ([], w, refl)
last_of w (v ∷ vs) = let more = last_of v vs in (w ∷ more.0, more.1, ap (λ (x : List ℕ). w ∷ x) more.2)

closes : (next : List (List ℕ)) (starts : List ℕ) → All (λ row. AreWithin next row) next → (fuel : ℕ) (marks : List Bool) (work : List ℕ)
    → IsClosing next starts marks work → unmarked marks + length work ≤ fuel → (m : List Bool) × IsClosing next starts m []
closes next starts graph fuel marks [] closing le = (marks, closing)
closes next starts graph zero marks (w ∷ ws) closing le = absurd (omega arith)
closes next starts graph (suc fuel) marks (w ∷ ws) closing le =
    let last = last_of w ws in
    let t : State = with_places (marks, last.0) (get_or next last.1 []) in
    let goes_on : IsClosing next starts t.0 t.1 = closing_goes_on next starts marks (w ∷ ws) last.0 last.1 t graph closing last.2 refl in
    let falls : unmarked t.0 + length t.1 < unmarked marks + length (last.0 ++ last.1 ∷ []) = work_falls marks last.0 last.1 (get_or next last.1 []) t (row_marks next starts marks (w ∷ ws) last.0 last.1 graph closing last.2) refl in
    let same : length (w ∷ ws) ≡ length (last.0 ++ last.1 ∷ []) = ap length last.2 in
    closes next starts graph fuel t.0 t.1 goes_on (omega (arith, falls, same))

pub marks_exist : (next : List (List ℕ)) (starts : List ℕ) → All (λ row. AreWithin next row) next → AreWithin next starts → (marks : List Bool) × AreMarksOf next starts marks
marks_exist next starts graph within =
    let t : State = with_places (replicate (length next) false, []) starts in
    let begun : IsClosing next starts t.0 t.1 = closing_starts next starts t within refl in
    let end = closes next starts graph (unmarked t.0 + length t.1) t.0 t.1 begun (omega arith) in
    (end.0, record { one_each = end.1.size; only = closed_only next starts end.0 end.1; all = closed_all next starts end.0 end.1 })
