use Rattle.std.proofs.Common.{◌≡◌, map, take}
use Rattle.std.specs.List.{flat_map}
use Rattle.std.specs.String.{string_bytes}
use Rattle.jl_launch.specs.Text as lines
use Rattle.jl_launch.proofs.text.graph_lines.Given as goal

abbrev pub invariant-loop-observed : goal.invariant-loop-observed
invariant-loop-observed l = map string_bytes l.printed.items ≡ flat_map (lines.module_lines l.reads) (take l.observed-index l.observed-items)
