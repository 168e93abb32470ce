use Rattle.std.proofs.Common.{◌≡◌, ◌-◌, []}
use Rattle.jl_reading.specs.Reading.{each_at}
use Rattle.jl_class.specs.Reading.{handler_at}
use Rattle.jl_class.proofs.code.each_handler.Given as goal

abbrev pub invariant-loop : goal.invariant-loop
invariant-loop l = record {
  bytes : l.next.bytes.now ≡ l.place.bytes.now;
  reads : each_at (λ done. handler_at l.attribute l.place.bytes.now) l.done.items (l.count - l.counter) l.next.at ≡ each_at (λ done. handler_at l.attribute l.place.bytes.now) [] l.count l.place.at;
}
