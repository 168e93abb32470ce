use Rattle.std.proofs.Common.{◌≡◌, Option, Some, None, sym, ◌∙◌, ap}
use Rattle.std.specs.Option.{option_or}
use Rattle.jl_prim.specs.declared.numbers.LayerId.{LayerId}
use Rattle.jl_prim.specs.declared.numbers.ModuleId.{ModuleId}
use Rattle.jl_layer.specs.Layers.{named_in, first_given}
use Rattle.jl_layer.specs.Lines.{kept_line}
use Rattle.jl_layer.proofs.LayerLines.{first_alone}
use Rattle.jl_layer.proofs.registry.Registry.find_module.Goals as goal

pub returns-in-Some : goal.returns-in-Some
returns-in-Some c =
    let f : LayerId → Option ModuleId = λ k. named_in c.args.self.now k c.args.name.now in
    let here : f c.args.l ≡ Some c.in-Some.m = sym c.named_in.ensures ∙ c.in-Some.is in
    sym (ap (λ (o : Option ModuleId). option_or o (first_given f (kept_line c.args.self.now.layers c.args.l))) here) ∙ first_alone f c.args.self.now c.args.l

pub returns-in-None : goal.returns-in-None
returns-in-None c =
    let f : LayerId → Option ModuleId = λ k. named_in c.args.self.now k c.args.name.now in
    let here : f c.args.l ≡ None = sym c.named_in.ensures ∙ c.in-None.is in
    c.first_named.ensures
    ∙ ap (first_given f) c.line.ensures
    ∙ sym (ap (λ (o : Option ModuleId). option_or o (first_given f (kept_line c.args.self.now.layers c.args.l))) here)
    ∙ first_alone f c.args.self.now c.args.l
