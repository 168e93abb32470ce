use Rattle.std.proofs.Common.{ap}
use Rattle.jl_finder.specs.Scanning.{with_found}
use Rattle.jl_finder.proofs.directory.keep_found.Goals as goal

pub returns-in-None-clause-gives : goal.returns-in-None-clause-gives
returns-in-None-clause-gives c = λ t k.
    ap (λ o. with_found c.args.dir.now c.args.kept.modules.items (o, t)) c.in-None.is

pub returns-in-Some-clause-gives : goal.returns-in-Some-clause-gives
returns-in-Some-clause-gives c = λ t k.
    rw (c.in-Some.is) (c.keep_module.ensures.gives t k)
