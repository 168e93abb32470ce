use Rattle.jl_layer.specs.Defining.{Asked, boot}
use Rattle.jl_link_tests.proofs.Counted.{counts_by}
use Rattle.jl_link_tests.proofs.stage.Stage.define_boot.Goals as goal

pub invariant_of-self : goal.invariant_of-self
invariant_of-self c =
    let q : Asked = boot c.args.cf in
    counts_by c.self.inside.layers c.define_boot.new.self q c.self.inside.defined c.self.inside.placed c.self.inside.led c.configurations-known.result.now c.modules_in-modules.result.now c.loader_count-led.result
    c.self.invariant c.in-Ok.ensures.defines c.configurations-known.ensures c.modules_in-modules.ensures c.loader_count-led.ensures
