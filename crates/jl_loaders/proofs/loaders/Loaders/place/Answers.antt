use Rattle.std.proofs.Common.{length, ap, refl, sym, subst, arith}
use Rattle.jl_loaders.specs.Loaders.{State, ParentExists}
use Rattle.jl_loaders.proofs.Sound.{sound_placed}
use Rattle.jl_loaders.proofs.loaders.Loaders.place.Goals as goal

pub invariant_of-self : goal.invariant_of-self
invariant_of-self c = (
  sound_placed _ _ c.args.parts c.self.invariant.0 (subst (λ s. ParentExists s c.args.parts.parent) (sym c.self.view_is) c.requires.parent) c.push_reserved.ensures.items refl refl,
  omega arith,
  omega (arith, ap (λ (s : State). length s.loaders) c.self.view_is),
)
