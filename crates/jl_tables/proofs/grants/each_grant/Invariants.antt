use Rattle.std.proofs.Common.{◌≡◌, ◌-◌, []}
use Rattle.jl_reading.specs.Reading.{each_at}
use Rattle.jl_tables.specs.Reading.{grant_at}
use Rattle.jl_tables.specs.Kinds.{naming}
use Rattle.jl_tables.proofs.grants.each_grant.Given as goal

abbrev pub invariant-loop : goal.invariant-loop
invariant-loop l = record {
  bytes : l.next.bytes.now ≡ l.place.bytes.now;
  reads : each_at (grant_at l.table (naming l.kind) l.pool l.place.bytes.now) l.done (l.count - l.counter) l.next.at ≡ each_at (grant_at l.table (naming l.kind) l.pool l.place.bytes.now) [] l.count l.place.at;
}
