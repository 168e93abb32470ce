use Rattle.std.proofs.Common.{◌≡◌, [], ◌∷◌, sym, subst}
use Rattle.std.specs.Prelude.{Contains, codes}
use Rattle.jl_prim.specs.declared.declaration.Observed.{Observed}
use Rattle.jl_config.specs.Located.{configuration_of, name_of}
use Rattle.jl_layer.specs.Layers.{State, IsConfiguration}
use Rattle.jl_layer.specs.Laws.{Grows}
use Rattle.jl_layer.proofs.After.{after_boot}
use Rattle.jl_layer.proofs.layers.Layers.define_boot.Goals as goal

pub invariant_of-self : goal.invariant_of-self
invariant_of-self c =
    (after_boot c.self.inside.registry c.define_boot.new.self c.args.cf c.define_boot.result c.self.invariant
    (subst (λ (w : State). w.layers ≡ []) (sym c.self.view_is) c.requires.first)
    (subst (λ (w : State). IsConfiguration w c.args.cf) (sym c.self.view_is) c.requires.kept)
    (subst (λ (w : State). (o : Observed) × Contains (configuration_of w.configurations c.args.cf).modules o × (name_of o ≡ codes "java.base")) (sym c.self.view_is) c.requires.base)
    (subst (λ (w : State). (configuration_of w.configurations c.args.cf).parents ≡ record { 0 = 0 } ∷ []) (sym c.self.view_is) c.requires.parents)
    c.define_boot.ensures.defines c.define_boot.ensures.base c.define_boot.ensures.allowed c.define_boot.ensures.before).0

pub returns-clause-grows : goal.returns-clause-grows
returns-clause-grows c =
    subst (λ (w : State). Grows w c.define_boot.new.self) c.self.view_is
    (after_boot c.self.inside.registry c.define_boot.new.self c.args.cf c.define_boot.result c.self.invariant
    (subst (λ (w : State). w.layers ≡ []) (sym c.self.view_is) c.requires.first)
    (subst (λ (w : State). IsConfiguration w c.args.cf) (sym c.self.view_is) c.requires.kept)
    (subst (λ (w : State). (o : Observed) × Contains (configuration_of w.configurations c.args.cf).modules o × (name_of o ≡ codes "java.base")) (sym c.self.view_is) c.requires.base)
    (subst (λ (w : State). (configuration_of w.configurations c.args.cf).parents ≡ record { 0 = 0 } ∷ []) (sym c.self.view_is) c.requires.parents)
    c.define_boot.ensures.defines c.define_boot.ensures.base c.define_boot.ensures.allowed c.define_boot.ensures.before).1
