use Rattle.std.proofs.Common.{◌∙◌, inl, refl, ap}
use Rattle.jl_loaders.specs.Loaders.{State}
use Rattle.jl_loaders.proofs.Sound.{sound_alike}
use Rattle.jl_loaders.proofs.loaders.Loaders.set_base.Goals as goal

pub invariant_of-self : goal.invariant_of-self
invariant_of-self c = (
  sound_alike _ _ refl (inl (ap (λ (s : State). s.loaders) c.self.view_is ∙ c.requires.early)) refl c.self.invariant.0,
  c.self.invariant.1,
  c.self.invariant.2,
)
