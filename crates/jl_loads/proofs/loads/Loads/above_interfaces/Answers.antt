use Rattle.std.proofs.Common.{◌∙◌, ap, rules, slice_index_or}
use Rattle.std.proofs.lemmas.Option.{slice_get-get_or}
use Rattle.jl_prim.specs.declared.numbers.ClassId.{ClassId}
use Rattle.jl_loads.specs.Ranks.{with_more}
use Rattle.jl_loads.specs.Worlds.{each_once}
use Rattle.jl_loads.proofs.Once.{above_step}
use Rattle.jl_loads.proofs.loads.Loads.above_interfaces.Goals as goal

pub loop-interface-init : goal.loop-interface-init
unfolding each_once
loop-interface-init c = c.new-above.ensures.items

pub loop-interface-preserved : goal.loop-interface-preserved
loop-interface-preserved c =
    let none : ClassId = record { 0 = 0 } in
    let i : ClassId = slice_index_or c.args.interfaces.now c.loop-interface.interface-index none in
    above_step c.args.self.now c.args.interfaces.now c.loop-interface.above.items c.add_all.new.list.items c.add.new.list.items c.loop-interface.interface-index i
    (slice_get-get_or c.args.interfaces.now c.loop-interface.interface-index none c.loop-interface-test.true) c.loop-interface.invariant
    (c.in_ok-add_all.ensures ∙ ap (with_more c.loop-interface.above.items) c.above.ensures) (search rules)
