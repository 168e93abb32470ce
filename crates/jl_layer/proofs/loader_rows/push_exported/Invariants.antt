use Rattle.std.proofs.Common.{◌≡◌, ◌++◌, take, filter_map}
use Rattle.jl_layer.specs.Defining.{with_module}
use Rattle.jl_layer.specs.Meaning.{reaching}
use Rattle.jl_layer.proofs.loader_rows.push_exported.Given as goal

abbrev pub invariant-loop-grant : goal.invariant-loop-grant
invariant-loop-grant l = l.pairs ≡ l.fn.pairs ++ with_module l.m (filter_map (reaching l.reader) (take l.grant-index l.grants))
