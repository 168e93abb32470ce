use Rattle.std.proofs.Common.{◌≡◌, ◌-◌}
use Rattle.jl_reading.specs.Reading.{steps_at}
use Rattle.jl_class.specs.Reading.{component_at}
use Rattle.jl_class.proofs.nests.each_component.Given as goal

abbrev pub invariant-loop : goal.invariant-loop
invariant-loop l = record {
  bytes : l.next.bytes.now ≡ l.place.bytes.now;
  reads : steps_at (λ done. component_at l.pool l.attribute l.place.bytes.now) (l.count - l.counter) tt l.next.at ≡ steps_at (λ done. component_at l.pool l.attribute l.place.bytes.now) l.count tt l.place.at;
}
