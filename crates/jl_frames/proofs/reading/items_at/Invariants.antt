use Rattle.std.proofs.Common.{◌≡◌, ◌-◌, ◌≤◌, length}
use Rattle.jl_reading.specs.Reading.{each_at}
use Rattle.jl_frames.specs.Reading.{item_at}
use Rattle.jl_frames.proofs.reading.items_at.Given as goal

abbrev pub invariant-loop : goal.invariant-loop
invariant-loop l = record {
  within : l.next ≤ length l.bytes;
  reads : each_at (item_at l.bytes) l.items.items (l.count - l.counter) l.next ≡ each_at (item_at l.bytes) l.fn.before.items l.count l.at;
}
