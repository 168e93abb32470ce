use Rattle.std.proofs.Common.{arith}
use Rattle.jl_loads.proofs.Counting.{fields_fit, fields_among}
use Rattle.jl_loads.proofs.loads.Loads.field_id.Goals as goal

pub overflow_cast-result : goal.overflow_cast-result
overflow_cast-result c =
    let fit = fields_fit c.args.self.now c.is_sound.ensures in
    let among = fields_among c.args.self.now c.args.c c.requires.class in
    omega (arith, fit, among, c.requires.within)

pub overflow_add-result : goal.overflow_add-result
overflow_add-result c =
    let fit = fields_fit c.args.self.now c.is_sound.ensures in
    let among = fields_among c.args.self.now c.args.c c.requires.class in
    omega (arith, fit, among, c.requires.within, c.fields_before.ensures)

pub returns-clause-there : goal.returns-clause-there
returns-clause-there c =
    let among = fields_among c.args.self.now c.args.c c.requires.class in
    omega (arith, among, c.requires.within, c.fields_before.ensures)
