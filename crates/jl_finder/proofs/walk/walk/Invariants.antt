use Rattle.std.proofs.Common.{◌≡◌, ◌≤◌, ◌⊎◌, List, Some, ◌-◌, IsTrue}
use Rattle.jl_tree.specs.Files.{File}
use Rattle.jl_prim.specs.Limits.{most_folders}
use Rattle.jl_finder.specs.Scanning.{AreEntries}
use Rattle.jl_finder.proofs.Walks.{IsWalking}
use Rattle.jl_finder.proofs.walk.walk.Given as goal

abbrev pub invariant-loop-count : goal.invariant-loop-count
invariant-loop-count g l = record {
  same_files : g.T.Tree.files l.tree ≡ g.T.Tree.files l.initial.tree;
  counts : g.T.Tree.faults l.initial.tree ≤ g.T.Tree.faults l.tree;
  asked : g.T.Tree.asked l.tree ≡ g.T.Tree.asked l.initial.tree;
  exact : IsTrue g.T.Tree.counts_exactly → g.T.Tree.faults l.tree ≡ g.T.Tree.faults l.initial.tree;
  placed : l.listed ≤ l.count;
  few : (l.count ≤ most_folders) ⊎ (l.listed ≡ l.count);
  walking : (files : List File) → g.T.Tree.files l.initial.tree ≡ Some files → AreEntries files l.place l.top → IsWalking files l.place l.walking.folders.keys l.walking.packages.items (l.count - l.listed);
}
