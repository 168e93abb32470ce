use Rattle.std.proofs.Common.{◌≡◌, ◌-◌, []}
use Rattle.jl_reading.specs.Reading.{each_at}
use Rattle.jl_tables.specs.Reading.{provides_at}
use Rattle.jl_tables.proofs.provides.each_provides.Given as goal

abbrev pub invariant-loop : goal.invariant-loop
invariant-loop l = record {
  bytes : l.next.bytes.now ≡ l.place.bytes.now;
  reads : each_at (provides_at l.pool l.place.bytes.now) l.done (l.count - l.counter) l.next.at ≡ each_at (provides_at l.pool l.place.bytes.now) [] l.count l.place.at;
}
