use Rattle.std.proofs.Common.{◌++◌, List, ap, ◌∙◌}
use Rattle.jl_verify.specs.declared.want.Wanted.{Wanted}
use Rattle.jl_verify.specs.Moves.{arguments_of}
use Rattle.jl_verify.proofs.TakenLists.{arguments_next}
use Rattle.jl_verify.proofs.wanting.arguments.Goals as goal

pub loop-param-preserved : goal.loop-param-preserved
loop-param-preserved c =
    ap (λ (ws : List Wanted). ws ++ arguments_of c.pop.new.self.items) c.in_ok-push_item.ensures
    ∙ arguments_next c.loop-param.all.items c.loop-param.params.items c.pop.new.self.items c.in-Some.param c.in-Some.ensures.items
    ∙ c.loop-param.invariant
