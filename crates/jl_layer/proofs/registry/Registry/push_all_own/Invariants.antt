use Rattle.std.proofs.Common.{◌≡◌, [], length, take}
use Rattle.jl_layer.specs.LoaderRows.{rows_of}
use Rattle.jl_layer.proofs.registry.Registry.push_all_own.Given as goal

abbrev pub invariant-loop-m : goal.invariant-loop-m
invariant-loop-m l = l.rows.items ≡ rows_of l.self l.first (length l.fn.rows.items) (take l.m-index l.modules) []
