-- What is written to a sink (as `java.io.OutputStream.write`).
use Rattle.std.specs.Prelude.{◌≡◌, ℕ, List, ◌++◌, Option, option_map, Result, Ok, Err}
use Rattle.jl_logic.specs.Lists.{IsFront}
use Rattle.jl_tree.specs.declared.sink.SinkFault.{SinkFault}

-- what a sink has taken with this text after it
abbrev pub grown : Option (List ℕ) → List ℕ → Option (List ℕ)
grown taken text = option_map (λ before. before ++ text) taken

-- The sink has grown by the text, or failed and has grown by a front of it.
abbrev pub Writes : Option (List ℕ) → List ℕ → Result (Unit {0}) SinkFault → Option (List ℕ) → Type 0
Writes old text (Ok done) new = new ≡ grown old text
Writes old text (Err fault) new = (front : List ℕ) × IsFront front text × (new ≡ grown old front)
