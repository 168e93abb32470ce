use Rattle.std.proofs.Common.{◌++◌, ◌∷◌, [], List, ap, ◌∙◌}
use Rattle.jl_verify.specs.declared.want.Wanted.{Wanted}
use Rattle.jl_verify.specs.declared.want.Wanted.TheVariants.{Says}
use Rattle.jl_verify.proofs.TakenLists.{says_more}
use Rattle.jl_verify.proofs.wanting.says_all.Goals as goal

pub loop-preserved : goal.loop-preserved
loop-preserved c = c.in_ok-push.ensures.items ∙ ap (λ (ws : List Wanted). ws ++ Says c.args.want ∷ []) c.loop.invariant ∙ says_more c.loop.counter c.args.want
