-- Lists of numbers of two bytes.
use Rattle.std.proofs.Common.{ℕ, suc, ◌<◌, List, [], ◌∷◌}
use Rattle.std.specs.Prelude.{slice_index}
use Rattle.jl_names.specs.Text.{AreUnits}

pub all_units : (us : List ℕ) → ((i : ℕ) → slice_index us i < 65536) → AreUnits us
all_units [] h = tt
all_units (u ∷ us) h = (h 0, all_units us (λ i. h (suc i)))
