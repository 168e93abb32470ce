use Rattle.std.proofs.Common.{◌∙◌, ◌++◌, [], refl, ap, take, List, ℕ}
use Rattle.std.specs.List.{filter_map}
use Rattle.std.specs.Option.{option_to_list}
use Rattle.jl_layer.specs.Meaning.{reaching}
use Rattle.jl_layer.specs.Defining.{with_module}
use Rattle.jl_layer.proofs.Steps.{filter_map_step, modules_behind}
use Rattle.jl_layer.proofs.loader_rows.push_exported.Goals as goal

pub loop-grant-preserved : goal.loop-grant-preserved
loop-grant-preserved c =
    let gs = c.args.grants.now in
    let i = c.loop-grant.grant-index in
    let g = c.grant-item.result in
    let h = reaching c.args.reader.now in
    modules_behind c.args.m (filter_map h (take i gs)) (option_to_list (h g)) c.args.pairs.now c.loop-grant.pairs c.push_reaching.new.pairs c.loop-grant.invariant c.in_ok-push_reaching.ensures
    ∙ ap (λ (l : List (List ℕ)). c.args.pairs.now ++ with_module c.args.m l)
    (filter_map_step h gs i g (filter_map h (take i gs)) (filter_map h (take i gs) ++ option_to_list (h g)) c.loop-grant-test.true c.grant-item.is refl refl)
