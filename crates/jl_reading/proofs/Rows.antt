-- Readers on worked rows, where a fault is its place.
use Rattle.std.proofs.Common.{◌≡◌, ◌+◌, ℕ, List, [], ◌∷◌, Result, Ok, Err, lit≤, refl}
use Rattle.jl_reading.specs.Reading.{◌>>=◌, number_at, each_at, steps_at, Stands, counted, two}

short : ℕ → ℕ
short at = at

two_bytes : number_at short 2 (9 ∷ 1 ∷ 2 ∷ []) 1 ≡ Ok (258, 3)
two_bytes = refl

short_bytes : number_at short 2 (9 ∷ 1 ∷ 2 ∷ []) 2 ≡ Err 2
unfolding short
short_bytes = refl

-- ---- units one after the other

byte : List ℕ → ℕ → Result (ℕ × ℕ) ℕ
byte before at = number_at short 1 (7 ∷ 8 ∷ []) at

both_read : each_at byte [] 2 0 ≡ Ok (7 ∷ 8 ∷ [], 2)
unfolding each_at byte
both_read = refl

third_missing : each_at byte [] 3 0 ≡ Err 2
unfolding each_at byte short
third_missing = refl

-- what the bytes come to
more : ℕ → ℕ → Result (ℕ × ℕ) ℕ
more sum at = byte [] at >>= λ x. Ok (sum + x.0, x.1)

summed : steps_at more 2 0 0 ≡ Ok (15, 2)
unfolding steps_at more byte
summed = refl

-- ---- texts and rows

stands : Stands (7 ∷ 8 ∷ 9 ∷ []) 1 (8 ∷ 9 ∷ []) 3
stands = record { there = refl; ends = refl; within = lit≤ tt }

two_rows : counted two (1 ∷ 258 ∷ []) ≡ 0 ∷ 2 ∷ 0 ∷ 1 ∷ 1 ∷ 2 ∷ []
two_rows = refl
