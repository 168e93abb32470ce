use Rattle.std.specs.Prelude.{slice_get}
use Rattle.jl_verify.proofs.Passing.{accepted}
use Rattle.jl_verify.proofs.verifying.verify.Goals as goal

pub returns-clause-typed : goal.returns-clause-typed
returns-clause-typed g c = accepted g.H.Hierarchy.step c.args.class.now (slice_get c.args.class.now.methods c.args.method) c.args.h.now c.verify_method.result c.verify_method.new.h c.verify_method.ensures
