use Rattle.std.proofs.Common.{◌≡◌, List, take, ap, sym, ◌∙◌, subst}
use Rattle.jl_prim.specs.declared.numbers.LayerId.{LayerId}
use Rattle.jl_layer.specs.declared.layer.Layer.{Layer}
use Rattle.jl_layer.specs.declared.layer.Member.{Member}
use Rattle.jl_layer.specs.Layers.{State}
use Rattle.jl_layer.specs.Lines.{AreLines}
use Rattle.jl_layer.specs.Orderly.{AreOrderly}
use Rattle.jl_layer.proofs.KeptLines.{fewer_lines}
use Rattle.jl_layer.proofs.registry.Registry.withdraw.Goals as goal

pub invariant_of-self : goal.invariant_of-self
invariant_of-self c =
    let layers : List Layer = c.self.inside.layers.items in
    let ms : List Member = c.self.inside.modules.items in
    let as_layers : c.truncate.new.self.items ≡ take c.args.layers c.args.self.now.layers = c.truncate.ensures.items ∙ ap (λ (s : State). take c.args.layers s.layers) c.self.view_is in
    let as_modules : c.truncate-3.new.self.items ≡ take c.args.modules c.args.self.now.modules = c.truncate-3.ensures.items ∙ ap (λ (s : State). take c.args.modules s.modules) c.self.view_is in
    let orderly : AreOrderly c.truncate.new.self.items c.truncate-3.new.self.items =
    subst (λ (ls : List Layer). AreOrderly ls c.truncate-3.new.self.items) (sym as_layers) (subst (λ (xs : List Member). AreOrderly (take c.args.layers c.args.self.now.layers) xs) (sym as_modules) c.requires) in
    let lines : AreLines c.truncate.new.self.items c.truncate-2.new.self.items =
    subst (λ (ls : List Layer). AreLines ls c.truncate-2.new.self.items) (sym c.truncate.ensures.items)
    (subst (λ (ls : List (List LayerId)). AreLines (take c.args.layers layers) ls) (sym c.truncate-2.ensures.items) (fewer_lines layers c.self.inside.lines.items c.self.invariant.1 c.args.layers)) in
    (orderly, lines)
