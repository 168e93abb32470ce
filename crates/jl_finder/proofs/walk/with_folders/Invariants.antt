use Rattle.std.proofs.Common.{◌≡◌, drop, nat_eq}
use Rattle.std.specs.Cmp.Lexicographic.{pointwise}
use Rattle.indexmap.specs.IndexSet.{insert_all}
use Rattle.jl_finder.specs.Scanning.{walked_in}
use Rattle.jl_finder.proofs.walk.with_folders.Given as goal

abbrev pub invariant-loop-entry : goal.invariant-loop-entry
invariant-loop-entry l = insert_all (pointwise nat_eq) l.more.keys (walked_in l.front (drop l.entry-index l.entries)) ≡ insert_all (pointwise nat_eq) l.fn.folders.keys (walked_in l.front l.entries)
