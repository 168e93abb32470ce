use Rattle.std.proofs.Common.{◌∙◌, ap, length, take, get_or, List}
use Rattle.jl_prim.specs.declared.numbers.ModuleId.{ModuleId}
use Rattle.jl_layer.specs.declared.loader_rows.Row.{Row}
use Rattle.jl_layer.specs.Layers.{member_of}
use Rattle.jl_layer.specs.LoaderRows.{shown, rows_of}
use Rattle.jl_layer.proofs.Steps.{take_step}
use Rattle.jl_layer.proofs.RowSteps.{seen_step}
use Rattle.jl_layer.proofs.registry.Registry.push_all_seen.Goals as goal

pub loop-reader-preserved : goal.loop-reader-preserved
loop-reader-preserved c = λ ms begun.
    let s = c.args.self.now in
    let rs = c.args.reads.now in
    let i = c.loop-reader.reader-index in
    let m : ModuleId = record { 0 = 0 } in
    let d : ModuleId × ModuleId = (m, m) in
    let r : ModuleId × ModuleId = get_or rs i d in
    let count = length c.args.rows.now.items in
    c.in_ok-push_seen.ensures
    ∙ ap (λ (rows : List Row). shown c.args.first r.1 (member_of s r.0) (member_of s r.1) rows) (c.loop-reader.invariant ms begun)
    ∙ seen_step s c.args.first count ms (take i rs) r.0 r.1
    ∙ ap (λ (l : List (ModuleId × ModuleId)). rows_of s c.args.first count ms l) (take_step rs i d c.loop-reader-test.true)
