use Rattle.std.proofs.Common.{◌≡◌, ◌++◌, length, take}
use Rattle.std.specs.List.{flat_map}
use Rattle.jl_reading.specs.Reading.{two}
use Rattle.jl_class.specs.Spelling.{handler_bytes}
use Rattle.jl_classw.proofs.members.push_handlers.Given as goal

abbrev pub invariant-loop-handler : goal.invariant-loop-handler
invariant-loop-handler l = l.bytes.items ≡ l.fn.bytes.items ++ (two (length l.handlers) ++ flat_map handler_bytes (take l.handler-index l.handlers))
