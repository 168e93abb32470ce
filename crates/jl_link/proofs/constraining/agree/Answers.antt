use Rattle.std.proofs.Common.{subst}
use Rattle.jl_loads.specs.Ends.{Leaves}
use Rattle.jl_link.specs.Constraining as constraining
use Rattle.jl_link.proofs.Imposed.{leaves_agreed}
use Rattle.jl_link.proofs.constraining.agree.Goals as goal

pub returns-clause-agreed : goal.returns-clause-agreed
returns-clause-agreed c =
    leaves_agreed c.args.a c.args.b c.args.loads.now c.agree_on.new.loads c.args.desc.now c.agree_on.result
    (subst (λ d. Leaves (constraining.agree c.args.loads.now c.args.a c.args.b d) c.agree_on.result c.agree_on.new.loads) c.as_str.ensures c.agree_on.ensures.agrees)
