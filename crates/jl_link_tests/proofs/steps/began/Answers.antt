use Rattle.jl_link_tests.proofs.Begun.{no_class}
use Rattle.jl_link_tests.proofs.steps.began.Goals as goal

pub new-requires-2-clause-begin : goal.new-requires-2-clause-begin
new-requires-2-clause-begin c = no_class _ c.new.result c.new.ensures
