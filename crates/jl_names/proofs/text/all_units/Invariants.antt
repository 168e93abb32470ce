use Rattle.std.proofs.Common.{◌≡◌, ◌-◌, length}
use Rattle.jl_names.specs.Text.{units_from, units_read}
use Rattle.jl_names.proofs.TextLoop.{with_front}
use Rattle.jl_names.proofs.text.all_units.Given as goal

abbrev pub invariant-loop : goal.invariant-loop
invariant-loop l = with_front l.units.items (units_from (length l.bytes - l.counter) l.bytes l.at) ≡ units_read l.bytes
