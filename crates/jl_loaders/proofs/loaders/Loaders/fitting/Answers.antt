use Rattle.std.proofs.Common.{subst, List, ℕ}
use Rattle.jl_loaders.specs.Joins.{IsJudged}
use Rattle.jl_loaders.proofs.Groups.{judged_stands, judged_refused}
use Rattle.jl_loaders.proofs.loaders.Loaders.fitting.Goals as goal

pub returns-clause-stands : goal.returns-clause-stands
returns-clause-stands c =
    judged_stands c.args.self.now c.args.name.now c.args.l c.args.l2 c.in_ok-one.one c.in_ok-other.other c.stay_sound.ensures.stand c.in_ok-one.ensures c.in_ok-other.ensures c.judged.result
    (subst (λ (n : List ℕ). IsJudged n c.in_ok-one.one c.in_ok-other.other c.judged.result) c.in_ok-text.ensures c.judged.ensures)

pub returns-clause-refused : goal.returns-clause-refused
returns-clause-refused c =
    judged_refused c.args.self.now c.args.name.now c.args.l c.args.l2 c.in_ok-one.one c.in_ok-other.other c.stay_sound.ensures.stand c.in_ok-one.ensures c.in_ok-other.ensures c.judged.result
    (subst (λ (n : List ℕ). IsJudged n c.in_ok-one.one c.in_ok-other.other c.judged.result) c.in_ok-text.ensures c.judged.ensures)
