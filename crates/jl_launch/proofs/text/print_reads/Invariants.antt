use Rattle.std.proofs.Common.{◌≡◌, ◌++◌, not, map, filter, take}
use Rattle.std.specs.String.{string_bytes}
use Rattle.jl_logic.specs.Order.{is_text}
use Rattle.jl_launch.specs.Text as lines
use Rattle.jl_launch.proofs.text.print_reads.Given as goal

abbrev pub invariant-loop-read : goal.invariant-loop-read
invariant-loop-read l = map string_bytes l.printed.items ≡ map string_bytes l.fn.printed.items ++ map lines.read_line (filter (λ r. not (is_text r.name l.name)) (take l.read-index l.reads))
