use Rattle.std.proofs.Common.{◌≡◌, ◌-◌, ◌*◌, ◌≤◌, [], length}
use Rattle.jl_reading.specs.Reading.{each_at}
use Rattle.jl_frames.specs.Reading.{base_after, frame_at}
use Rattle.jl_frames.proofs.reading.each_frame.Given as goal

abbrev pub invariant-loop : goal.invariant-loop
invariant-loop l = record {
  within : l.next ≤ length l.bytes;
  based : l.base ≡ base_after 0 l.frames.items;
  room : l.base ≤ 65536 * l.counter;
  reads : each_at (frame_at l.bytes) l.frames.items (l.count - l.counter) l.next ≡ each_at (frame_at l.bytes) [] l.count l.at;
}
