use Rattle.jl_base.proofs.Conditions.{ready_by}
use Rattle.jl_base.specs.Rows.{row_of}
use Rattle.jl_base.proofs.building.named.Goals as goal

pub new-requires-clause-flags : goal.new-requires-clause-flags
new-requires-clause-flags c = (ready_by (row_of c.args.row.now) c.requires).begin.flags

pub new-requires-clause-name : goal.new-requires-clause-name
new-requires-clause-name c = rw c.as_bytes.ensures.value (ready_by (row_of c.args.row.now) c.requires).begin.name

pub new-requires-clause-short : goal.new-requires-clause-short
new-requires-clause-short c = rw c.as_bytes.ensures.value (ready_by (row_of c.args.row.now) c.requires).begin.short

pub new-requires-clause-superclass : goal.new-requires-clause-superclass
new-requires-clause-superclass c = rw c.as_bytes-2.ensures.value (ready_by (row_of c.args.row.now) c.requires).begin.superclass

pub new-requires-clause-extends : goal.new-requires-clause-extends
new-requires-clause-extends c = rw (c.as_bytes.ensures.value, c.as_bytes-2.ensures.value) (ready_by (row_of c.args.row.now) c.requires).begin.extends
