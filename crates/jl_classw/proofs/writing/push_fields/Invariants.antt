use Rattle.std.proofs.Common.{◌≡◌, ◌++◌, length, take}
use Rattle.std.specs.List.{flat_map}
use Rattle.jl_reading.specs.Reading.{two}
use Rattle.jl_class.specs.Spelling.{member_bytes}
use Rattle.jl_classw.specs.Writing.{field_member}
use Rattle.jl_classw.proofs.writing.push_fields.Given as goal

abbrev pub invariant-loop-field : goal.invariant-loop-field
invariant-loop-field l = l.bytes.items ≡ l.fn.bytes.items ++ (two (length l.fields) ++ flat_map (λ f. member_bytes (field_member l.places f)) (take l.field-index l.fields))
