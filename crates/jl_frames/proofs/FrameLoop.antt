-- Frames one after the other, each counted from the one before.
use Rattle.std.proofs.Common.{◌≡◌, ℕ, ◌+◌, List, [], ◌∷◌, ◌++◌, refl}
use Rattle.jl_frames.specs.declared.frame.Frame.{Frame}
use Rattle.jl_frames.specs.Reading.{base_after}

pub base_after-push : (base : ℕ) (done : List Frame) (f : Frame) → base_after base (done ++ f ∷ []) ≡ f.offset + 1
base_after-push base [] f = refl
base_after-push base (g ∷ done) f = base_after-push (g.offset + 1) done f
