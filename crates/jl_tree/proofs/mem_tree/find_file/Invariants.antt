use Rattle.std.proofs.Common.{◌≡◌, drop}
use Rattle.jl_tree.specs.Files.{file_at}
use Rattle.jl_tree.specs.Memory.{files_of}
use Rattle.jl_tree.proofs.mem_tree.find_file.Given as goal

abbrev pub invariant-loop-at : goal.invariant-loop-at
invariant-loop-at l = file_at (files_of (drop l.at-index l.files)) l.path ≡ file_at (files_of l.files) l.path
