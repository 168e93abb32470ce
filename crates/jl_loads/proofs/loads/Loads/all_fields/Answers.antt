use Rattle.std.proofs.Common.{◌∙◌, arith, ap₂, ◌+◌, sym}
use Rattle.jl_loads.proofs.Counting.{fields_fit, fields_among, fields_whole}
use Rattle.jl_loads.specs.Worlds.{IsClass}
use Rattle.jl_prim.specs.declared.numbers.ClassId.{ClassId}
use Rattle.jl_loads.proofs.loads.Loads.all_fields.Goals as goal

pub overflow_add-result : goal.overflow_add-result
overflow_add-result c =
    let last : ClassId = record { 0 = c.classes.result } in
    let there : IsClass c.args.self.now last = (omega (arith, c.if-last-eq0.false), omega (arith, c.classes.ensures)) in
    let fit = fields_fit c.args.self.now c.is_sound.ensures in
    let among = fields_among c.args.self.now last there in
    omega (arith, fit, among, c.fields_before.ensures, c.field_count.ensures)

pub returns : goal.returns
returns c =
    let last : ClassId = record { 0 = c.classes.result } in
    let there : IsClass c.args.self.now last = (omega (arith, c.if-last-eq0.false), omega (arith, c.classes.ensures)) in
    ap₂ (λ m n. m + n) c.fields_before.ensures c.field_count.ensures ∙ sym (fields_whole c.args.self.now last there c.classes.ensures)
