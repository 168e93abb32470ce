use Rattle.std.proofs.Common.{sym}
use Rattle.jl_base.specs.Rows.{member_of}
use Rattle.jl_base.proofs.Conditions.{may_add_field, may_add_method}
use Rattle.jl_base.proofs.building.add_member.Goals as goal

pub add_field-requires : goal.add_field-requires
add_field-requires c = may_add_field c.args.builder.now.class (member_of c.args.member.now) (sym c.if-is_field.ensures) c.requires

pub add_method-requires : goal.add_method-requires
add_method-requires c = may_add_method c.args.builder.now.class (member_of c.args.member.now) (sym c.if-is_field.ensures) c.requires
