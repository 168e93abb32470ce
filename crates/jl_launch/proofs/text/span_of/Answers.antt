use Rattle.std.proofs.Common.{◌≤◌, rules, of_calls}
use Rattle.std.proofs.lemmas.List.Sorted.{IsPartitionPoint-from_clause}
use Rattle.jl_launch.proofs.Windows.{is_before, is_upto, parted_before, parted_upto, ends_ordered, reads_between}
use Rattle.jl_launch.proofs.text.span_of.Goals as goal

pub returns : goal.returns
returns c =
    let name = c.args.reader.now in
    let before = IsPartitionPoint-from_clause (is_before name) _ _ c.partition_point-from.ensures.partitioned (parted_before name _ c.requires) (λ a r q k. search (rules, of_calls)) in
    let upto = IsPartitionPoint-from_clause (is_upto name) _ _ c.partition_point-to.ensures.partitioned (parted_upto name _ c.requires) (λ a r q k. search (rules, of_calls)) in
    let ordered : c.partition_point-from.result ≤ c.partition_point-to.result = ends_ordered name c.args.reads.now _ _ c.partition_point-from.ensures.bound before upto in
    record {
      ordered = ordered;
      bound = c.partition_point-to.ensures.bound;
      cut = reads_between name c.args.reads.now _ _ ordered c.partition_point-to.ensures.bound before upto;
    }
