use Rattle.std.proofs.Common.{◌∙◌, ◌<◌, ap, set, length, ⊎_elim, List, arith}
use Rattle.std.proofs.lemmas.Result.{on_ok_weaker}
use Rattle.jl_layer.specs.declared.loader_rows.Row.{Row}
use Rattle.jl_layer.specs.Defining.{with_module}
use Rattle.jl_layer.specs.LoaderRows.{Pairs, with_own}
use Rattle.jl_layer.proofs.RowSteps.{changed_at, unchanged_before, unchanged_past}
use Rattle.jl_layer.proofs.loader_rows.push_own_row.Goals as goal

pub returns-in-Some : goal.returns-in-Some
returns-in-Some c =
    let rows : List Row = c.args.rows.now.items in
    let r : Row = c.index_mut-row.result.now in
    let p = c.in-Some.place in
    let pairs : Pairs = with_module c.args.m c.args.packages.now in
    let within : p < length rows = omega (arith, c.in-Some.ensures.1, c.len.ensures, c.args.rows.now.ok.0) in
    on_ok_weaker c.push_pairs.result
    (λ grown.
    ap (λ (l : Pairs). let w : Row = record r { own = l } in set rows p w) grown
    ∙ ap (λ (w : Row). set rows p (with_own pairs w)) c.index_mut-row.ensures.value
    ∙ changed_at c.args.first c.args.loader.0 (with_own pairs) rows p r c.in-Some.ensures.0 within)
    c.push_pairs.ensures

pub returns-in-None : goal.returns-in-None
returns-in-None c =
    let rows : List Row = c.args.rows.now.items in
    let pairs : Pairs = with_module c.args.m c.args.packages.now in
    ⊎_elim
    (λ lt. unchanged_before c.args.first c.args.loader.0 (with_own pairs) rows lt)
    (λ le. unchanged_past c.args.first c.args.loader.0 (with_own pairs) rows (omega (arith, le, c.len.ensures, c.args.rows.now.ok.0)))
    c.in-None.ensures
