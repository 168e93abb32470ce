use Rattle.std.proofs.Common.{rules, Some}
use Rattle.jl_link.proofs.Reaching.{class_there}
use Rattle.jl_link.proofs.Hosts.{host_is}
use Rattle.jl_link.proofs.nests.host_of.Goals as goal

pub returns-clause-hosts : goal.returns-clause-hosts
returns-clause-hosts g c = λ files told.
    let x = class_there c.args.loads.now c.args.c c.requires in
    let declared = rw x.1 at c.class.ensures in
    host_is files c.args.at c.args.loads.now c.host_named.new.loads c.args.c x.0 (Some c.in-Some.name.now) c.host_named.result x.1 (search rules) (c.host_named.ensures.hosts files x.0 told x.1 (search rules))

pub returns-clause-found : goal.returns-clause-found
returns-clause-found g c =
    let x = class_there c.args.loads.now c.args.c c.requires in
    let declared = rw x.1 at c.class.ensures in
    c.host_named.ensures.found x.0 x.1 (search rules) (search rules)
