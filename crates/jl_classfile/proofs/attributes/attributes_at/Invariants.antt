use Rattle.std.proofs.Common.{◌≡◌, ◌-◌, []}
use Rattle.jl_reading.specs.Reading.{steps_at}
use Rattle.jl_classfile.specs.Attributes.{attribute_at}
use Rattle.jl_classfile.proofs.attributes.attributes_at.Given as goal

abbrev pub invariant-loop : goal.invariant-loop
invariant-loop g l = record {
  bytes : l.next.bytes.now ≡ l.place.bytes.now;
  reads : steps_at (attribute_at (g.R.AttributeReader.reader l.reader) l.pool l.place.bytes.now) (l.count - l.counter) l.done.items l.next.at ≡ steps_at (attribute_at (g.R.AttributeReader.reader l.reader) l.pool l.place.bytes.now) l.count [] l.place.at;
}
