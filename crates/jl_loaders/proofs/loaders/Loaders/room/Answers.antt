use Rattle.std.proofs.Common.{inr, refl, arith}
use Rattle.jl_loaders.proofs.Sound.{sound_alike}
use Rattle.jl_loaders.proofs.loaders.Loaders.room.Goals as goal

pub invariant_of-self-2 : goal.invariant_of-self-2
invariant_of-self-2 c = (sound_alike _ _ c.in_ok-reserve.ensures.items (inr refl) refl c.self.invariant.0, omega (arith, c.in_ok-reserve.ensures.ok), omega arith)
