use Rattle.std.proofs.Common.{◌∙◌, ◌+◌, ap, length, List}
use Rattle.jl_prim.specs.declared.numbers.ConfigId.{ConfigId}
use Rattle.jl_config.specs.Located.{next_id, parents_below, preorder}
use Rattle.jl_config.specs.Walked.{Visited, with_numbers}
use Rattle.jl_config.proofs.Visits.{from_none}
use Rattle.jl_config.proofs.walk.ancestor_numbers.Goals as goal

pub returns : goal.returns
returns c =
    let known = c.args.known.now in
    let all : List ConfigId = preorder (length known + 1) known (parents_below (next_id known) c.args.parents.now) in
    ap (λ (v : Visited). v.numbers) c.visited.view_is ∙ c.in_ok-visit.ensures.numbers ∙ ap (λ (v : Visited). with_numbers v.numbers all) c.in_ok-visited.ensures ∙ from_none all
