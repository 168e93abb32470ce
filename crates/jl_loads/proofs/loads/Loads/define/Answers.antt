use Rattle.std.proofs.Common.{ap, subst}
use Rattle.std.specs.Prelude.{IfErr, OnOk}
use Rattle.jl_layer.specs.declared.fault.LayerFault.{LayerFault}
use Rattle.jl_layer.specs.Defining.{Asked}
use Rattle.jl_layer.specs.Layers.{State}
use Rattle.jl_layer.specs.Refusals.{Applies, Refuses}
use Rattle.jl_loads.proofs.Layered.{whole_grows}
use Rattle.jl_loads.proofs.loads.Loads.define.Goals as goal

pub returns-clause-allowed : goal.returns-clause-allowed
returns-clause-allowed c =
    let q : Asked = record { config = c.args.cf; parents = c.args.parents.now; mode = c.args.mode; parent_loader = c.args.parent_loader } in
    subst (λ (l : State). OnOk c.define-end.result ((f : LayerFault) → Applies l q f → ⊥)) (ap (λ w. w.layers) c.self.view_is) c.define-end.ensures.allowed

pub returns-clause-refuses : goal.returns-clause-refuses
returns-clause-refuses c =
    let q : Asked = record { config = c.args.cf; parents = c.args.parents.now; mode = c.args.mode; parent_loader = c.args.parent_loader } in
    subst (λ (l : State). IfErr c.define-end.result (Refuses (Applies l q))) (ap (λ w. w.layers) c.self.view_is) c.define-end.ensures.refuses

pub invariant_of-self : goal.invariant_of-self
invariant_of-self c = whole_grows c.self.inside.names.entries c.self.inside.base _ _ c.define-end.ensures.grows c.are_laid.ensures c.self.invariant
