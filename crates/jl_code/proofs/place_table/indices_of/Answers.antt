use Rattle.std.proofs.Common.{arith}
use Rattle.jl_code.specs.Sound.{starts}
use Rattle.jl_code.proofs.IndexLaws.{Kept, kept_more, filled_all, length-starts}
use Rattle.jl_code.proofs.place_table.indices_of.Goals as goal

pub loop-rest-preserved : goal.loop-rest-preserved
loop-rest-preserved c =
    let k : Kept c.args.instructions.now c.loop-rest.rest.now c.loop-rest.index c.args.len c.loop-rest.indices.items = record {
      size = c.loop-rest.invariant.size;
      left = c.loop-rest.invariant.left;
      counted = c.loop-rest.invariant.counted;
      inside = c.loop-rest.invariant.inside;
      filled = c.loop-rest.invariant.filled;
    } in
    let m = kept_more c.args.instructions.now c.loop-rest.rest.now c.loop-rest.index c.args.len c.instr-item.result c.loop-rest.indices.items c.in-len1-up.len_at_least c.instr-item.is k in
    record { size = m.size; left = m.left; counted = m.counted; inside = m.inside; filled = m.filled }

pub returns : goal.returns
returns c = filled_all (starts c.args.instructions.now) c.loop-rest.index c.loop-rest.indices.items (omega (arith, c.loop-rest.invariant.counted, c.in_default.len_below, length-starts c.args.instructions.now)) c.loop-rest.invariant.filled
