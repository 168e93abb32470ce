use Rattle.std.proofs.Common.{subst}
use Rattle.jl_class.specs.Tables.{AreTables}
use Rattle.jl_loads.proofs.KeptFiles.{new_unlinked}
use Rattle.jl_loads.proofs.loads.Loads.unlinked.Goals as goal

pub returns-clause-new : goal.returns-clause-new
returns-clause-new c =
    new_unlinked c.args.self.now c.args.key.now c.args.home c.in_ok-declared.declared.value c.unlinked.result c.requires.module c.requires.loader c.requires.owner c.in_ok-declared.ensures.named
    (subst AreTables c.deref.ensures c.tables_stand.ensures) c.unlinked.ensures
