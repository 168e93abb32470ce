use Rattle.std.proofs.Common.{rules, false}
use Rattle.jl_link_tests.proofs.Keepable.{may_be_kept}
use Rattle.jl_link_tests.proofs.making.resolved.Goals as goal

pub returns : goal.returns
returns c = may_be_kept c.args.layers.now c.configurations-known.result.now c.args.modules.now.modules c.args.parents.now c.new.result c.as_slice-2.result.now false c.in_ok-cf.cf
    c.resolved_is_keepable.ensures c.are_sound.ensures (search rules) (search rules) (search rules) (search rules) c.in_ok-cf.ensures.resolves
