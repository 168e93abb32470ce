use Rattle.std.proofs.Common.{◌∙◌, ◌++◌, ◌∷◌, [], ◌+◌, ap, List}
use Rattle.jl_prim.specs.declared.numbers.ModuleId.{ModuleId}
use Rattle.jl_layer.proofs.Steps.{numbers_more}
use Rattle.jl_layer.proofs.placing.numbers_from.Goals as goal

pub loop-at-preserved : goal.loop-at-preserved
loop-at-preserved c =
    c.in_ok-push.ensures.items
    ∙ ap (λ (l : List ModuleId). l ++ record { 0 = c.args.first + c.loop-at.at } ∷ []) c.loop-at.invariant
    ∙ numbers_more c.args.first c.loop-at.at
