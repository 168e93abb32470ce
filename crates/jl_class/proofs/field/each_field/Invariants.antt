use Rattle.std.proofs.Common.{◌≡◌, ◌-◌, []}
use Rattle.jl_reading.specs.Reading.{each_at}
use Rattle.jl_class.specs.Reading.{field_at}
use Rattle.jl_class.proofs.field.each_field.Given as goal

abbrev pub invariant-loop : goal.invariant-loop
invariant-loop l = record {
  bytes : l.next.bytes.now ≡ l.place.bytes.now;
  reads : each_at (field_at l.in_interface l.pool l.place.bytes.now) l.done (l.count - l.counter) l.next.at ≡ each_at (field_at l.in_interface l.pool l.place.bytes.now) [] l.count l.place.at;
}
