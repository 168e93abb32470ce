use Rattle.std.proofs.Common.{◌≡◌, ◌-◌, ◌≤◌, ◌<◌, [], ◌∷◌, length}
use Rattle.jl_reading.specs.Reading.{each_at}
use Rattle.jl_pool.specs.Reading.{entry_at}
use Rattle.jl_pool.specs.declared.entry.Entry.TheVariants as entries
use Rattle.jl_pool.proofs.reading.entries_at.Given as goal

abbrev pub invariant-loop-index : goal.invariant-loop-index
invariant-loop-index l = record {
  within : l.next ≤ length l.bytes;
  behind : l.index ≡ length l.entries.items;
  few : l.index < 65536;
  reads : each_at (entry_at l.count l.bytes) l.entries.items (l.count - l.index) l.next ≡ each_at (entry_at l.count l.bytes) (entries.Unused ∷ []) (l.count - 1) l.at;
}
