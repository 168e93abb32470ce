use Rattle.std.proofs.Common.{◌∙◌, ap, sym}
use Rattle.jl_loads.specs.Worlds.{State}
use Rattle.jl_loads.proofs.Waiting.{defined_same, on_ok_any}
use Rattle.jl_loads.proofs.KeptFiles.{unlinked_told}
use Rattle.jl_loads.proofs.loads.Loads.read_unlinked.Goals as goal

pub returns-clause-reads : goal.returns-clause-reads
returns-clause-reads g c = λ files e.
    unlinked_told files c.args.self.now c.keep_file.new.self c.args.home c.args.key.now c.in_ok-path.path c.unlinked.result
    (sym c.is_base.ensures ∙ c.if-is_base.false) c.in_ok-path.ensures (c.in_ok-keep_file.ensures.file files e) c.unlinked.ensures.gives

pub returns-clause-fresh : goal.returns-clause-fresh
returns-clause-fresh g c =
    on_ok_any c.unlinked.result
    (defined_same c.args.self.now c.keep_file.new.self c.args.key.now.loader c.args.key.now.name (ap (λ (w : State). w.classes) c.keep_file.ensures.others) ∙ c.requires.fresh)
