use Rattle.std.proofs.Common.{ap, arith, true, length-set}
use Rattle.jl_config.specs.Walked.{Visited}
use Rattle.jl_config.proofs.Visits.{marks_more}
use Rattle.jl_config.proofs.walk.Visited.push.Goals as goal

pub invariant_of-self-2 : goal.invariant_of-self-2
invariant_of-self-2 c = λ n within.
    marks_more c.self.inside.marks.items c.self.inside.numbers.items c.push.new.self.items c.args.number (omega (arith, c.requires, ap (λ (v : Visited). v.room) c.self.view_is)) c.self.invariant c.in_ok-push.ensures.items n
    (omega (arith, within, length-set c.self.inside.marks.items c.args.number.0 true))
