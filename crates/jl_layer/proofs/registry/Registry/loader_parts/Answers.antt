use Rattle.std.proofs.Common.{◌≡◌, map, length}
use Rattle.std.proofs.lemmas.Result.{IfOk-weaker}
use Rattle.jl_layer.specs.Defining.{parts_of, loader_numbers}
use Rattle.jl_layer.specs.LoaderRows.{parts_by}
use Rattle.jl_layer.proofs.RowSteps.{rows_begun_long, rows_counted, rows_recounted, parts_made}
use Rattle.jl_layer.proofs.registry.Registry.loader_parts.Goals as goal

pub push_all_own-requires : goal.push_all_own-requires
push_all_own-requires c = rows_begun_long c.args.self.now c.args.first c.args.count c.in_ok-rows.rows.items c.in_ok-rows.ensures

pub returns : goal.returns
returns c =
    let s = c.args.self.now in
    IfOk-weaker c.parts_from.result (λ parts. parts.items ≡ map (parts_by c.args.parent) c.push_all_seen.new.rows.items) (λ parts. parts.items ≡ map (parts_of s c.args.l) (loader_numbers c.args.first c.args.count))
    (λ parts made.
    parts_made s c.args.l c.args.first c.args.count c.args.parent c.args.reads.now c.modules_of.result.now c.in_ok-rows.rows.items c.push_all_seen.new.rows.items parts.items made c.in_ok-rows.ensures
    (rows_recounted s c.args.first (length c.in_ok-rows.rows.items) c.modules_of.result.now c.args.reads.now c.push_all_own.new.rows.items c.push_all_seen.new.rows.items c.in_ok-push_all_own.ensures
    (c.in_ok-push_all_seen.ensures c.modules_of.result.now (rows_counted s c.args.first (length c.in_ok-rows.rows.items) c.modules_of.result.now c.push_all_own.new.rows.items c.in_ok-push_all_own.ensures)))
    c.modules_of.ensures.modules c.requires.reads c.requires.parent)
    c.parts_from.ensures
