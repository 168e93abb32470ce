use Rattle.std.proofs.Common.{◌<◌, sym, subst, length, All}
use Rattle.std.specs.Prelude.{IfErr, OnOk}
use Rattle.jl_layer.specs.declared.fault.LayerFault.{LayerFault}
use Rattle.jl_layer.specs.Defining.{Asked}
use Rattle.jl_layer.specs.Layers.{State, IsConfiguration, IsLayer}
use Rattle.jl_layer.specs.Refusals.{Applies, Refuses}
use Rattle.jl_layer.proofs.After.{after_define}
use Rattle.jl_layer.proofs.layers.Layers.define.Goals as goal

pub invariant_of-self : goal.invariant_of-self
invariant_of-self c =
    let q : Asked = record { config = c.args.cf; parents = c.args.parents.now; mode = c.args.mode; parent_loader = c.args.parent_loader } in
    (after_define c.self.inside.registry c.define.new.self q c.define.result c.self.invariant
    (subst (λ (w : State). 0 < length w.layers) (sym c.self.view_is) c.requires.boot)
    (subst (λ (w : State). IsConfiguration w c.args.cf) (sym c.self.view_is) c.requires.known)
    (subst (λ (w : State). All (IsLayer w) c.args.parents.now) (sym c.self.view_is) c.requires.layers)
    c.define.ensures.defines c.define.ensures.base c.define.ensures.allowed c.define.ensures.before).0

pub returns-clause-allowed : goal.returns-clause-allowed
returns-clause-allowed c =
    let q : Asked = record { config = c.args.cf; parents = c.args.parents.now; mode = c.args.mode; parent_loader = c.args.parent_loader } in
    subst (λ (w : State). OnOk c.define.result ((f : LayerFault) → Applies w q f → ⊥)) c.self.view_is c.define.ensures.allowed

pub returns-clause-refuses : goal.returns-clause-refuses
returns-clause-refuses c =
    let q : Asked = record { config = c.args.cf; parents = c.args.parents.now; mode = c.args.mode; parent_loader = c.args.parent_loader } in
    subst (λ (w : State). IfErr c.define.result (Refuses (Applies w q))) c.self.view_is c.define.ensures.refuses
