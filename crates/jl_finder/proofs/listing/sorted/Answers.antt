use Rattle.std.proofs.Common.{rules}
use Rattle.std.specs.Cmp.Lexicographic.{nat_list_cmp_total}
use Rattle.std.specs.Ordering.{is_lt}
use Rattle.std.proofs.lemmas.List.Sorted.{answers_always, ranks_by}
use Rattle.jl_logic.specs.Order.{name_cmp}
use Rattle.jl_tree.specs.declared.entry.Entry.{Entry}
use Rattle.jl_finder.proofs.listing.sorted.Goals as goal

pub returns : goal.returns
returns c = record {
  same = c.in_ok-sort_by.ensures.permutation;
  order = c.in_ok-sort_by.ensures.sorted (λ (a b : Entry). is_lt (name_cmp a.name b.name)) (ranks_by nat_list_cmp_total (λ (x : Entry). x.name)) (answers_always _ _ _ (λ f a r g h. search rules));
}
