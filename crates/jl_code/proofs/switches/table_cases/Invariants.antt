use Rattle.std.proofs.Common.{◌≡◌, ◌-◌, ◌≤◌, [], length}
use Rattle.jl_reading.specs.Reading.{each_at}
use Rattle.jl_code.specs.Operands as words
use Rattle.jl_code.proofs.switches.table_cases.Given as goal

abbrev pub invariant-loop-i : goal.invariant-loop-i
invariant-loop-i l = record {
  within : l.after ≤ length l.code;
  on : l.next ≤ l.after;
  counted : length l.cases.items ≡ l.i;
  reads : each_at (words.table_case l.at l.code l.low) l.cases.items (l.count - l.i) l.after ≡ each_at (words.table_case l.at l.code l.low) [] l.count l.next;
}
