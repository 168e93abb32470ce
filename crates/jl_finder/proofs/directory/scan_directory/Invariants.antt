use Rattle.std.proofs.Common.{◌≡◌, ◌≤◌, [], List, Some, drop, map, take, IsTrue}
use Rattle.jl_tree.specs.Files.{File}
use Rattle.jl_finder.specs.Observed.{scan_entries, name_of}
use Rattle.jl_finder.specs.Scanning.{tally_of}
use Rattle.jl_finder.specs.Asking.{asked_at, place_in, reads_of_entries}
use Rattle.std.specs.List.{flat_map}
use Rattle.jl_finder.proofs.UntilFault.{AsksBefore}
use Rattle.jl_finder.proofs.directory.scan_directory.Given as goal

abbrev pub invariant-loop-entry : goal.invariant-loop-entry
invariant-loop-entry g l = record {
  same_files : g.T.Tree.files l.tree ≡ g.T.Tree.files l.initial.tree;
  counts : g.T.Tree.faults l.initial.tree ≤ g.T.Tree.faults l.tree;
  asked : (files : List File) → g.T.Tree.files l.initial.tree ≡ Some files → g.T.Tree.asked l.tree ≡ asked_at (g.T.Tree.asked l.initial.tree) (flat_map (place_in files l.dir) (take l.entry-index l.entries));
  reads : (files : List File) → g.T.Tree.files l.initial.tree ≡ Some files → AsksBefore (g.T.Tree.asked l.initial.tree) (reads_of_entries files l.dir l.entries [] (tally_of l.fn.counts)) (reads_of_entries files l.dir (drop l.entry-index l.entries) l.kept.modules.items (tally_of l.so_far)) (g.T.Tree.asked l.tree);
  exact : IsTrue g.T.Tree.counts_exactly → g.T.Tree.faults l.tree ≡ g.T.Tree.faults l.initial.tree;
  names : l.kept.names.keys ≡ map name_of l.kept.modules.items;
  gives : (files : List File) → g.T.Tree.files l.initial.tree ≡ Some files → scan_entries files l.dir (drop l.entry-index l.entries) l.kept.modules.items (tally_of l.so_far) ≡ scan_entries files l.dir l.entries [] (tally_of l.fn.counts);
}
