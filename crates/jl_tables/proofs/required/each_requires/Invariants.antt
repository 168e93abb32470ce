use Rattle.std.proofs.Common.{◌≡◌, ◌-◌, []}
use Rattle.jl_reading.specs.Reading.{each_at}
use Rattle.jl_tables.specs.Reading.{requires_at}
use Rattle.jl_tables.proofs.required.each_requires.Given as goal

abbrev pub invariant-loop : goal.invariant-loop
invariant-loop l = record {
  bytes : l.next.bytes.now ≡ l.place.bytes.now;
  reads : each_at (requires_at l.pool l.place.bytes.now) l.done (l.count - l.counter) l.next.at ≡ each_at (requires_at l.pool l.place.bytes.now) [] l.count l.place.at;
}
