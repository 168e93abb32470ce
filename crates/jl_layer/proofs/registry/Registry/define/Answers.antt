use Rattle.std.proofs.Common.{subst, arith}
use Rattle.jl_layer.specs.Defining.{Asked}
use Rattle.jl_layer.specs.Deciding.{Settles, StartsAt}
use Rattle.jl_layer.specs.Refusals.{Applies}
use Rattle.jl_layer.proofs.After.{few_of, few_if_not_refused}
use Rattle.jl_layer.proofs.Decisions.{nothing_applies}
use Rattle.jl_layer.proofs.Fitting.{fits}
use Rattle.jl_layer.proofs.registry.Registry.define.Goals as goal

pub refusal-requires-clause-few : goal.refusal-requires-clause-few
refusal-requires-clause-few c = few_of c.args.self.now.configurations c.args.cf c.requires.sound.kept c.requires.known

pub returns-in-Some-clause-refuses : goal.returns-in-Some-clause-refuses
returns-in-Some-clause-refuses c =
    let q : Asked = record { config = c.args.cf; parents = c.args.parents.now; mode = c.args.mode; parent_loader = c.args.parent_loader } in
    subst (Settles (Applies c.args.self.now q) 6) c.in-Some.is (c.in_ok-fault.ensures c.args.parent_loader)

pub begun-requires-clause-modules : goal.begun-requires-clause-modules
begun-requires-clause-modules c = omega (arith, few_of c.args.self.now.configurations c.args.cf c.requires.sound.kept c.requires.known, c.requires.sound.few_modules)

pub begun-requires-clause-loaders : goal.begun-requires-clause-loaders
begun-requires-clause-loaders c = omega (arith, few_of c.args.self.now.configurations c.args.cf c.requires.sound.kept c.requires.known, c.requires.sound.few_modules, c.requires.sound.few_loaders)

pub take_in-requires-clause-fits : goal.take_in-requires-clause-fits
take_in-requires-clause-fits c =
    let q : Asked = record { config = c.args.cf; parents = c.args.parents.now; mode = c.args.mode; parent_loader = c.args.parent_loader } in
    let none : StartsAt (Applies c.args.self.now q) 6 = subst (Settles (Applies c.args.self.now q) 6) c.in_default.is (c.in_ok-fault.ensures c.args.parent_loader) in
    fits c.args.self.now c.begun.new.self q c.in_ok-added.added c.requires.sound c.stay_orderly.ensures c.requires.known c.requires.loader (few_if_not_refused c.args.self.now q (nothing_applies c.args.self.now q none)) c.in_ok-added.ensures.placed c.in_ok-added.ensures.adds

pub returns-clause-allowed : goal.returns-clause-allowed
returns-clause-allowed c =
    let q : Asked = record { config = c.args.cf; parents = c.args.parents.now; mode = c.args.mode; parent_loader = c.args.parent_loader } in
    let none : StartsAt (Applies c.args.self.now q) 6 = subst (Settles (Applies c.args.self.now q) 6) c.in_default.is (c.in_ok-fault.ensures c.args.parent_loader) in
    nothing_applies c.args.self.now q none
