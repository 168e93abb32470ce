-- What is reached, on worked rows: 0 leads to 1, and 1 to 2 and back to 0.
use Rattle.std.proofs.Common.{ℕ, zero, suc, List, [], ◌∷◌, refl, lit<, arith}
use Rattle.jl_closure.specs.Reached.{Chain, IsReached}

rows : List (List ℕ)
rows = (1 ∷ []) ∷ (2 ∷ 0 ∷ []) ∷ [] ∷ []

-- a start, by no step
a_start : IsReached rows (1 ∷ []) 1
a_start = (0, (0, lit< tt, refl))

-- by two steps
an_end : IsReached rows (0 ∷ []) 2
unfolding rows
an_end = (2, (1, (0, (0, lit< tt, refl), (0, lit< tt, refl)), (0, lit< tt, refl)))

-- and round again
itself : IsReached rows (1 ∷ []) 0
unfolding rows
itself = (1, (1, (0, lit< tt, refl), (1, lit< tt, refl)))

-- without a start
nothing : (n p : ℕ) → Chain rows [] n p → ⊥
nothing zero p c = omega (arith, c.1)
nothing (suc n) p c = nothing n c.0 c.1
