use Rattle.std.proofs.Common.{◌≡◌, length, map}
use Rattle.jl_tree.specs.Memory.{files_of, is_tree}
use Rattle.jl_tree.proofs.mem_tree.are_of_one_tree.Given as goal

abbrev pub invariant-loop-path : goal.invariant-loop-path
invariant-loop-path l = is_tree (map (λ f. f.path) (files_of l.rest)) ≡ is_tree (map (λ f. f.path) (files_of l.files))

abbrev pub decreases-loop-path : goal.decreases-loop-path
decreases-loop-path l = length l.rest
