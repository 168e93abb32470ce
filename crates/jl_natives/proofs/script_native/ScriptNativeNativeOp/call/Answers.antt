use Rattle.std.proofs.Common.{rules}
use Rattle.jl_natives.proofs.Undecided.{stays_undecided}
use Rattle.jl_natives.proofs.script_native.ScriptNativeNativeOp.call.Goals as goal

pub returns-clause-decided : goal.returns-clause-decided
returns-clause-decided c = stays_undecided c.args.self.now.row c.args.args.now _ (search rules)
