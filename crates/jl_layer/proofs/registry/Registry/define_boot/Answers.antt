use Rattle.std.proofs.Common.{◌≤◌, ◌+◌, ◌∙◌, length, ap, arith}
use Rattle.std.proofs.lemmas.List.{nil_from_length}
use Rattle.jl_prim.specs.Limits.{most_modules}
use Rattle.jl_config.specs.Located.{configuration_of}
use Rattle.jl_layer.specs.Layers.{State}
use Rattle.jl_layer.specs.Defining.{boot}
use Rattle.jl_layer.specs.Placing.{IsFitting}
use Rattle.jl_layer.proofs.After.{few_of}
use Rattle.jl_layer.proofs.Calls.{no_loaders, no_modules}
use Rattle.jl_layer.proofs.Fitting.{fits, fits_based}
use Rattle.jl_layer.proofs.registry.Registry.define_boot.Goals as goal

pub boot_refusal-requires-clause-few : goal.boot_refusal-requires-clause-few
boot_refusal-requires-clause-few c = few_of c.args.self.now.configurations c.args.cf c.requires.sound.kept c.requires.known

pub begun-requires-clause-modules : goal.begun-requires-clause-modules
begun-requires-clause-modules c = omega (arith, few_of c.args.self.now.configurations c.args.cf c.requires.sound.kept c.requires.known, c.requires.sound.few_modules)

pub begun-requires-clause-loaders : goal.begun-requires-clause-loaders
begun-requires-clause-loaders c = omega (arith, few_of c.args.self.now.configurations c.args.cf c.requires.sound.kept c.requires.known, c.requires.sound.few_modules, c.requires.sound.few_loaders)

pub set_base-requires-clause-early : goal.set_base-requires-clause-early
set_base-requires-clause-early c =
    let s = c.args.self.now in
    c.in_ok-added.ensures.placed.loaders ∙ nil_from_length s.loaders.loaders (no_loaders s c.args.cf c.requires.sound c.requires.first)

pub take_in-requires-clause-fits : goal.take_in-requires-clause-fits
take_in-requires-clause-fits c =
    let s = c.args.self.now in
    let few : length s.modules + length (configuration_of s.configurations c.args.cf).modules ≤ most_modules =
    omega (arith, few_of s.configurations c.args.cf c.requires.sound.kept c.requires.known, no_modules s c.args.cf c.requires.sound c.requires.first) in
    let fitting : IsFitting c.in_ok-added.added c.begun.new.self =
    fits s c.begun.new.self (boot c.args.cf) c.in_ok-added.added c.requires.sound c.stay_orderly.ensures c.requires.known tt few c.in_ok-added.ensures.placed c.in_ok-added.ensures.adds in
    fits_based c.in_ok-added.added c.begun.new.self c.set_base.new.self fitting (ap (λ (w : State). w.loaders.loaders) c.set_base.ensures) (ap (λ (w : State). w.facts.modules) c.set_base.ensures)
