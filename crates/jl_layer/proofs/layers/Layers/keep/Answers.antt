use Rattle.std.proofs.Common.{sym, subst}
use Rattle.jl_layer.specs.Layers.{State}
use Rattle.jl_layer.specs.Keeping.{IsKeepable}
use Rattle.jl_layer.specs.Sound.{AreSound}
use Rattle.jl_layer.proofs.Calls.{kept_sound}
use Rattle.jl_layer.proofs.layers.Layers.keep.Goals as goal

pub invariant_of-self-2 : goal.invariant_of-self-2
invariant_of-self-2 c =
    subst AreSound (sym c.in_ok-keep.ensures.keeps)
    (kept_sound c.self.inside.registry c.args.cf c.self.invariant (subst (λ (w : State). IsKeepable w.configurations c.args.cf) (sym c.self.view_is) c.requires.keepable) c.in_order.ensures)
