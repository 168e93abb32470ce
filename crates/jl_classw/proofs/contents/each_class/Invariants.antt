use Rattle.std.proofs.Common.{◌≡◌, ◌-◌, []}
use Rattle.jl_reading.specs.Reading.{each_at}
use Rattle.jl_class.specs.Reading.{named_in}
use Rattle.jl_pool.specs.Pool.{class_named}
use Rattle.jl_classw.proofs.contents.each_class.Given as goal

abbrev pub invariant-loop : goal.invariant-loop
invariant-loop l = record {
  bytes : l.next.bytes.now ≡ l.place.bytes.now;
  reads : each_at (λ done. named_in 0 (class_named l.pool) l.place.bytes.now) l.done.items (l.count - l.counter) l.next.at ≡ each_at (λ done. named_in 0 (class_named l.pool) l.place.bytes.now) [] l.count l.place.at;
}
