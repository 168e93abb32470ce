use Rattle.std.proofs.Common.{◌∙◌, ap, subst}
use Rattle.std.proofs.lemmas.Result.{on_ok_weaker}
use Rattle.jl_loads.specs.Ends.{Asks}
use Rattle.jl_loads.specs.Loading.{with_file}
use Rattle.jl_loads.specs.Worlds.{State, Keeps}
use Rattle.jl_loads.proofs.KeptFiles.{file_entry, keeping, read_asks, read_keeps, whole_read}
use Rattle.jl_loads.proofs.loads.Loads.keep_file.Goals as goal

pub invariant_of-self : goal.invariant_of-self
invariant_of-self g c =
    whole_read c.self.inside.names.entries c.self.inside.base
    (record { layers = c.self.inside.layers; classes = c.self.inside.classes.items; report = c.self.inside.report; slots = c.self.inside.slots.items; kept = c.self.inside.kept.entries })
    c.keep_file.new.kept.entries c.args.path.now (g.T.Tree.asked c.args.tree.now) (g.T.Tree.asked c.keep_file.new.tree) c.keep_file.ensures.reads c.self.invariant

pub returns-clause-file : goal.returns-clause-file
returns-clause-file g c = λ files e.
    let was : State = record { layers = c.self.inside.layers; classes = c.self.inside.classes.items; report = c.self.inside.report; slots = c.self.inside.slots.items; kept = c.self.inside.kept.entries } in
    on_ok_weaker c.keep_file.result (λ k. file_entry files c.args.path.now was c.keep_file.new.kept.entries k ∙ ap (λ (s : State). with_file files c.args.path.now s) c.self.view_is) (c.keep_file.ensures.keeps files e)

pub returns-clause-keeps : goal.returns-clause-keeps
returns-clause-keeps g c =
    let was : State = record { layers = c.self.inside.layers; classes = c.self.inside.classes.items; report = c.self.inside.report; slots = c.self.inside.slots.items; kept = c.self.inside.kept.entries } in
    subst (λ (s : State). Keeps s (keeping was c.keep_file.new.kept.entries)) c.self.view_is
    (read_keeps was c.keep_file.new.kept.entries c.args.path.now (g.T.Tree.asked c.args.tree.now) (g.T.Tree.asked c.keep_file.new.tree) c.keep_file.ensures.reads)

pub returns-clause-asks : goal.returns-clause-asks
returns-clause-asks g c =
    let was : State = record { layers = c.self.inside.layers; classes = c.self.inside.classes.items; report = c.self.inside.report; slots = c.self.inside.slots.items; kept = c.self.inside.kept.entries } in
    subst (λ (s : State). Asks s (keeping was c.keep_file.new.kept.entries) (g.T.Tree.asked c.args.tree.now) (g.T.Tree.asked c.keep_file.new.tree)) c.self.view_is
    (read_asks was c.keep_file.new.kept.entries c.args.path.now (g.T.Tree.asked c.args.tree.now) (g.T.Tree.asked c.keep_file.new.tree) c.keep_file.ensures.reads)
