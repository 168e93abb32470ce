use Rattle.std.proofs.Common.{◌∙◌, ap, sym, get_or, drop, suc, to_z, w32, add-one, arith}
use Rattle.jl_natives.specs.Rows.{hash_from}
use Rattle.jl_natives.proofs.Searching.{hash_more}
use Rattle.jl_natives.proofs.Wrapping.{step_is}
use Rattle.jl_natives.proofs.units.hash_code.Goals as goal

pub loop-unit-preserved : goal.loop-unit-preserved
loop-unit-preserved c =
    let u = get_or c.args.text.now c.loop-unit.unit-index 0 in
    let step = step_is c.loop-unit.hash-bits u (omega (arith, c.loop-unit.auto.hash-fits)) (omega (arith, c.type_inv.text c.loop-unit.unit-index)) in
    rw (c.from.ensures, add-one) (ap (λ h. hash_from h (drop (suc c.loop-unit.unit-index) c.args.text.now)) step
    ∙ (sym (hash_more (to_z w32 c.loop-unit.hash-bits) c.args.text.now c.loop-unit.unit-index c.loop-unit-test.true) ∙ c.loop-unit.invariant))
