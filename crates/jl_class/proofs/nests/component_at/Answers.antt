use Rattle.std.proofs.Common.{◌∙◌}
use Rattle.jl_class.proofs.NestLoops.{component_from}
use Rattle.jl_class.proofs.nests.component_at.Goals as goal

pub returns : goal.returns
returns c =
    let first = c.in_ok-place.ensures.0 in
    let second = c.in_ok-place-2.ensures.0 ∙ first in (
      c.in_ok-place-3.ensures.0 ∙ second,
      component_from c.args.pool.now c.args.attribute c.args.place.bytes.now c.in_ok-place.place.bytes.now c.in_ok-place-2.place.bytes.now c.args.place.at c.in_ok-place.place.at c.in_ok-place-2.place.at c.in_ok-place-3.place.at
          c.in_ok-place.field-0-0.now c.in_ok-place-2.field-0-0.now c.in_ok-place-3.field-0-0 first second c.in_ok-place.ensures.1 c.in_ok-place-2.ensures.1 c.in_ok-place-3.ensures.1,
    )
