use Rattle.jl_link.proofs.HostsKept.{host_kept, same_host}
use Rattle.jl_link.proofs.accessing.of_one_nest.Goals as goal

pub returns-in-Ok-host_of-clause-found : goal.returns-in-Ok-host_of-clause-found
returns-in-Ok-host_of-clause-found g c = λ e.
    let first = host_kept c.host_of.new.loads c.host_of-in-Ok.new.loads c.args.d c.in-Ok.host c.host_of-in-Ok.ensures.keeps c.in-Ok.ensures.found in
    same_host c.host_of-in-Ok.new.loads c.args.d c.args.m.now.owner c.in-Ok.host c.in-Ok-host_of.other first c.in-Ok-host_of.ensures.found e
