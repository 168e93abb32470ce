use Rattle.std.proofs.Common.{rules, IsTrue}
use Rattle.jl_natives.specs.Outside.{is_clock}
use Rattle.jl_natives.proofs.Undecided.{stays_undecided, clock_is_outside, clock_gives_a_long}
use Rattle.jl_natives.proofs.clock.ClockNativeOp.call.Goals as goal

pub returns-in-Some-clause-decided : goal.returns-in-Some-clause-decided
returns-in-Some-clause-decided g c = let clock : IsTrue (is_clock c.args.self.now.row) = search rules in stays_undecided c.args.self.now.row c.args._args.now _ (clock_is_outside c.args.self.now.row clock)

pub returns-in-Some-clause-from_outside : goal.returns-in-Some-clause-from_outside
returns-in-Some-clause-from_outside g c = let clock : IsTrue (is_clock c.args.self.now.row) = search rules in λ out. clock_gives_a_long c.args.self.now.row _ clock

pub returns-in-None-clause-failed : goal.returns-in-None-clause-failed
returns-in-None-clause-failed g c = let clock : IsTrue (is_clock c.args.self.now.row) = search rules in λ failed. (clock_is_outside c.args.self.now.row clock, search rules)
