use Rattle.std.proofs.Common.{◌≡◌, ◌++◌, length, take}
use Rattle.std.specs.List.{flat_map}
use Rattle.jl_reading.specs.Reading.{two}
use Rattle.jl_classw.specs.Writing.{class_index}
use Rattle.jl_classw.proofs.writing.push_classes.Given as goal

abbrev pub invariant-loop-name : goal.invariant-loop-name
invariant-loop-name l = l.bytes.items ≡ l.fn.bytes.items ++ (two (length l.names) ++ flat_map (λ name. two (class_index l.places name)) (take l.name-index l.names))
