use Rattle.jl_verify.specs.Rules.{goes_to_declared, declared_at}
use Rattle.jl_verify.proofs.Prefixes.{alone}
use Rattle.jl_verify.proofs.rules.one_leads.Goals as goal

pub returns : goal.returns
returns g c = alone g.H.Hierarchy.step (goes_to_declared c.args.f.now (declared_at c.args.c.now c.args.place)) c.args.h.now c.goes_to_declared.result c.goes_to_declared.new.h c.goes_to_declared.ensures
