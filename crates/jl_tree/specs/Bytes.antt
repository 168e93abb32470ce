-- What a sink has taken (as `java.io.OutputStream.write`).
use Rattle.std.specs.Prelude.{◌≡◌, ℕ, zero, suc, List, [], ◌∷◌, ◌++◌, take, Option, option_map, Result, Ok, Err}
use Rattle.jl_logic.specs.Counts.{raised}
use Rattle.jl_tree.specs.declared.sink.SinkFault.{SinkFault}

-- a write added the front of the piece that it answered, and a failed one nothing
abbrev pub Takes : Option (List ℕ) → List ℕ → Result ℕ SinkFault → Option (List ℕ) → Type 0
Takes old piece (Ok count) new = new ≡ option_map (λ before. before ++ take count piece) old
Takes old piece (Err fault) new = new ≡ old

-- one fault more where a piece has bytes
abbrev pub unless_empty : List ℕ → ℕ → ℕ
unless_empty [] n = n
unless_empty (b ∷ bs) n = raised n

-- how many faults there are after a write, where each failure counts, and that nothing of a piece was taken, and nothing else
abbrev pub faults_written : List ℕ → Result ℕ SinkFault → ℕ → ℕ
faults_written piece (Ok zero) n = unless_empty piece n
faults_written piece (Ok (suc count)) n = n
faults_written piece (Err fault) n = raised n
