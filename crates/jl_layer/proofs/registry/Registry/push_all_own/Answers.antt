use Rattle.std.proofs.Common.{◌∙◌, [], ap, length, take, get_or, List}
use Rattle.jl_prim.specs.declared.numbers.ModuleId.{ModuleId}
use Rattle.jl_layer.specs.declared.loader_rows.Row.{Row}
use Rattle.jl_layer.specs.LoaderRows.{owned, rows_of}
use Rattle.jl_layer.proofs.Steps.{take_step}
use Rattle.jl_layer.proofs.RowSteps.{own_step}
use Rattle.jl_layer.proofs.registry.Registry.push_all_own.Goals as goal

pub loop-m-preserved : goal.loop-m-preserved
loop-m-preserved c =
    let s = c.args.self.now in
    let ms = c.args.modules.now in
    let i = c.loop-m.m-index in
    let d : ModuleId = record { 0 = 0 } in
    let count = length c.args.rows.now.items in
    c.in_ok-push_own.ensures
    ∙ ap (λ (rows : List Row). owned s c.args.first (get_or ms i d) rows) c.loop-m.invariant
    ∙ own_step s c.args.first count (take i ms) (get_or ms i d)
    ∙ ap (λ (l : List ModuleId). rows_of s c.args.first count l []) (take_step ms i d c.loop-m-test.true)
