use Rattle.std.proofs.Common.{rules, slice_index_or}
use Rattle.std.proofs.lemmas.Option.{slice_get-get_or}
use Rattle.jl_prim.specs.declared.numbers.ClassId.{ClassId}
use Rattle.jl_loads.proofs.Once.{more_step, more_all}
use Rattle.jl_loads.proofs.above.add_all.Goals as goal

pub loop-c-preserved : goal.loop-c-preserved
loop-c-preserved c =
    let none : ClassId = record { 0 = 0 } in
    more_step c.args.more.now c.args.list.now.items c.loop-c.list.items c.add.new.list.items c.loop-c.c-index (slice_index_or c.args.more.now c.loop-c.c-index none) (slice_get-get_or c.args.more.now c.loop-c.c-index none c.loop-c-test.true) (search rules) c.loop-c.invariant

pub returns : goal.returns
returns c = more_all c.args.more.now c.args.list.now.items c.loop-c.list.items c.loop-c.c-index (search rules) c.loop-c.invariant
