use Rattle.std.proofs.Common.{◌≡◌, ◌≤◌, ◌∷◌, ℕ, List, Some, drop, take, IsTrue}
use Rattle.jl_tree.specs.Files.{File}
use Rattle.jl_finder.specs.Observed.{scan_elements}
use Rattle.jl_finder.specs.Scanning.{tally_of, modules_or, elements_found}
use Rattle.jl_finder.specs.Asking.{asked_at, places_of, reads_of, reads_of_elements}
use Rattle.jl_finder.specs.Paths.{is_archive}
use Rattle.jl_finder.proofs.UntilFault.{AsksBefore}
use Rattle.std.specs.List.{flat_map}
use Rattle.jl_finder.proofs.finding.scan_elements.Given as goal

abbrev pub invariant-loop-element : goal.invariant-loop-element
invariant-loop-element g l = record {
  same_files : g.T.Tree.files l.tree ≡ g.T.Tree.files l.initial.tree;
  counts : g.T.Tree.faults l.initial.tree ≤ g.T.Tree.faults l.tree;
  asked : (files : List File) → g.T.Tree.files l.initial.tree ≡ Some files → g.T.Tree.asked l.tree ≡ asked_at (g.T.Tree.asked l.initial.tree) (flat_map (places_of files) (take l.element-index l.elements));
  reads : (files : List File) → g.T.Tree.files l.initial.tree ≡ Some files → AsksBefore (g.T.Tree.asked l.initial.tree) (reads_of files l.elements) (reads_of_elements files (drop l.element-index l.elements) (tally_of l.counts)) (g.T.Tree.asked l.tree);
  untouched : (element : List ℕ) (rest : List (List ℕ)) → l.elements ≡ element ∷ rest → IsTrue (is_archive element) → (l.tree ≡ l.initial.tree) × (l.element-index ≡ 0);
  exact : IsTrue g.T.Tree.counts_exactly → g.T.Tree.faults l.tree ≡ g.T.Tree.faults l.initial.tree;
  gives : (files : List File) → g.T.Tree.files l.initial.tree ≡ Some files → modules_or (scan_elements files (drop l.element-index l.elements) l.modules.items (tally_of l.counts)) ≡ elements_found files l.elements;
}
