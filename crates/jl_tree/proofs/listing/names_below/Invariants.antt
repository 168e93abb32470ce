use Rattle.std.proofs.Common.{◌≡◌, [], drop}
use Rattle.jl_tree.specs.Memory.{files_of}
use Rattle.jl_tree.specs.Listing.{names_from}
use Rattle.jl_tree.proofs.listing.names_below.Given as goal

abbrev pub invariant-loop-path : goal.invariant-loop-path
invariant-loop-path l = names_from l.dir l.names.entries (files_of (drop l.path-index l.files)) ≡ names_from l.dir [] (files_of l.files)
