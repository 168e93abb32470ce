use Rattle.std.proofs.Common.{map}
use Rattle.std.specs.String.{string_bytes}
use Rattle.jl_launch.specs.declared.end.LaunchEnd.TheVariants.{ReadFault, NoMemory}
use Rattle.jl_launch.proofs.Written.{written, stopped, ended, stops, refused, completes}
use Rattle.jl_launch.proofs.launching.launch.Goals as goal

pub returns-in-Ok-clause-launched : goal.returns-in-Ok-clause-launched
returns-in-Ok-clause-launched g c =
    written (map string_bytes c.args.words.now) (g.T.Tree.files c.args.tree.now) (g.S.Sink.taken c.args.out.now)
    c.in-Ok.outcome.end (map string_bytes c.in-Ok.outcome.lines.items) c.write_outcome.result (g.S.Sink.taken c.write_outcome.new.out)
    c.in-Ok.ensures.decided c.write_outcome.ensures.comes

pub returns-in-Err-ReadFault-clause-launched : goal.returns-in-Err-ReadFault-clause-launched
returns-in-Err-ReadFault-clause-launched g c =
    stopped (map string_bytes c.args.words.now) (g.T.Tree.files c.args.tree.now) (g.S.Sink.taken c.args.out.now) ReadFault c.launches_always.ensures tt

pub returns-in-Err-NoMemory-clause-launched : goal.returns-in-Err-NoMemory-clause-launched
returns-in-Err-NoMemory-clause-launched g c =
    stopped (map string_bytes c.args.words.now) (g.T.Tree.files c.args.tree.now) (g.S.Sink.taken c.args.out.now) NoMemory c.launches_always.ensures tt

pub returns-in-Ok-clause-refused : goal.returns-in-Ok-clause-refused
returns-in-Ok-clause-refused g c = λ f e.
    refused f (g.S.Sink.taken c.args.out.now) c.in-Ok.outcome.end (map string_bytes c.in-Ok.outcome.lines.items) c.write_outcome.result (g.S.Sink.taken c.write_outcome.new.out)
    (c.in-Ok.ensures.refused f e) c.write_outcome.ensures.comes

pub returns-in-Ok-clause-ended : goal.returns-in-Ok-clause-ended
returns-in-Ok-clause-ended g c =
    ended (map string_bytes c.args.words.now) (g.T.Tree.files c.args.tree.now) (g.S.Sink.taken c.args.out.now)
    c.in-Ok.outcome.end (map string_bytes c.in-Ok.outcome.lines.items) c.write_outcome.result (g.S.Sink.taken c.write_outcome.new.out)
    c.in-Ok.ensures.decided c.write_outcome.ensures.comes

pub returns-in-Err-ReadFault-clause-ended : goal.returns-in-Err-ReadFault-clause-ended
returns-in-Err-ReadFault-clause-ended g c =
    stops (map string_bytes c.args.words.now) (g.T.Tree.files c.args.tree.now) ReadFault c.launches_always.ensures tt

pub returns-in-Err-NoMemory-clause-ended : goal.returns-in-Err-NoMemory-clause-ended
returns-in-Err-NoMemory-clause-ended g c =
    stops (map string_bytes c.args.words.now) (g.T.Tree.files c.args.tree.now) NoMemory c.launches_always.ensures tt

pub returns-in-Err-NoMemory-clause-complete : goal.returns-in-Err-NoMemory-clause-complete
returns-in-Err-NoMemory-clause-complete g c = λ a b d e.
    completes (map string_bytes c.args.words.now) (g.T.Tree.files c.args.tree.now) (g.S.Sink.taken c.args.out.now) c.launches_always.ensures
