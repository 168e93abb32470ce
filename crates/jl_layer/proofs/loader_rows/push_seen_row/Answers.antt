use Rattle.std.proofs.Common.{◌∙◌, ◌++◌, ◌<◌, ap, set, length, ⊎_elim, List, arith}
use Rattle.std.proofs.lemmas.Result.{on_ok_weaker}
use Rattle.std.specs.List.{filter_map}
use Rattle.jl_prim.specs.declared.declaration.Grant.{Grant}
use Rattle.jl_layer.specs.declared.loader_rows.Row.{Row}
use Rattle.jl_layer.specs.Defining.{with_module}
use Rattle.jl_layer.specs.Meaning.{exported_to, reaching}
use Rattle.jl_layer.specs.LoaderRows.{Pairs, with_seen}
use Rattle.jl_layer.proofs.RowSteps.{changed_at, unchanged_before, unchanged_past}
use Rattle.jl_layer.proofs.loader_rows.push_seen_row.Goals as goal

pub returns-in-Some : goal.returns-in-Some
returns-in-Some c =
    let rows : List Row = c.args.rows.now.items in
    let r : Row = c.index_mut-row.result.now in
    let p = c.in-Some.place in
    let pairs : Pairs = with_module c.args.m (exported_to c.args.declaration.now c.args.reader.now) in
    let within : p < length rows = omega (arith, c.in-Some.ensures.1, c.len.ensures, c.args.rows.now.ok.0) in
    on_ok_weaker c.push_exported.result
    (λ grown.
    ap (λ (l : Pairs). let w : Row = record r { seen = l } in set rows p w) (grown ∙ ap (λ (gs : List Grant). r.seen ++ with_module c.args.m (filter_map (reaching c.args.reader.now) gs)) c.as_slice.ensures)
    ∙ ap (λ (w : Row). set rows p (with_seen pairs w)) c.index_mut-row.ensures.value
    ∙ changed_at c.args.first c.args.loader.0 (with_seen pairs) rows p r c.in-Some.ensures.0 within)
    c.push_exported.ensures

pub returns-in-None : goal.returns-in-None
returns-in-None c =
    let rows : List Row = c.args.rows.now.items in
    let pairs : Pairs = with_module c.args.m (exported_to c.args.declaration.now c.args.reader.now) in
    ⊎_elim
    (λ lt. unchanged_before c.args.first c.args.loader.0 (with_seen pairs) rows lt)
    (λ le. unchanged_past c.args.first c.args.loader.0 (with_seen pairs) rows (omega (arith, le, c.len.ensures, c.args.rows.now.ok.0)))
    c.in-None.ensures
