use Rattle.std.proofs.Common.{ap, subst}
use Rattle.std.specs.Prelude.{OnOk}
use Rattle.jl_layer.specs.Layers as layers
use Rattle.jl_loaders.specs.Constraints.{IsViolated, with_constraint}
use Rattle.jl_loads.proofs.Layered.{whole_grows}
use Rattle.jl_loads.proofs.loads.Loads.impose.Goals as goal

pub invariant_of-self : goal.invariant_of-self
invariant_of-self c = whole_grows c.self.inside.names.entries c.self.inside.base _ _ c.impose-end.ensures.grows c.are_laid.ensures c.self.invariant

pub returns-clause-stands : goal.returns-clause-stands
returns-clause-stands c =
    subst (λ (k : layers.State). OnOk c.impose-end.result (IsViolated (with_constraint c.args.name.now c.args.l c.args.l2 k.loaders) → ⊥)) (ap (λ w. w.layers) c.self.view_is) c.impose-end.ensures.stands
