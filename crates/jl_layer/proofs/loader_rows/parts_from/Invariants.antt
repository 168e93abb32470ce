use Rattle.std.proofs.Common.{◌≡◌, map}
use Rattle.jl_layer.specs.LoaderRows.{parts_by}
use Rattle.jl_layer.proofs.loader_rows.parts_from.Given as goal

abbrev pub invariant-loop-row : goal.invariant-loop-row
invariant-loop-row l = l.parts.items ≡ map (parts_by l.parent) l.yielded
