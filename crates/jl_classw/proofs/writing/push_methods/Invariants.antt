use Rattle.std.proofs.Common.{◌≡◌, ◌++◌, length, take}
use Rattle.std.specs.List.{flat_map}
use Rattle.jl_reading.specs.Reading.{two}
use Rattle.jl_class.specs.Spelling.{member_bytes}
use Rattle.jl_classw.specs.Writing.{method_member}
use Rattle.jl_classw.proofs.writing.push_methods.Given as goal

abbrev pub invariant-loop-method : goal.invariant-loop-method
invariant-loop-method l = l.bytes.items ≡ l.fn.bytes.items ++ (two (length l.methods) ++ flat_map (λ m. member_bytes (method_member l.places m)) (take l.method-index l.methods))
