use Rattle.jl_link.proofs.Imposed.{agreed_all, agreed_none}
use Rattle.jl_link.proofs.constraining.agree_on.Goals as goal

pub returns-in-Ok-clause-agrees : goal.returns-in-Ok-clause-agrees
returns-in-Ok-clause-agrees c =
    let read = rw c.as_bytes.ensures.value at c.in-Ok.ensures.exact in
    agreed_all c.args.a c.args.b c.args.loads.now c.args.desc.now c.in-Ok.found c.impose_all.result c.impose_all.new.loads c.if-a-b.false read c.impose_all.ensures.imposes

pub returns-in-Err-BadText-clause-agrees : goal.returns-in-Err-BadText-clause-agrees
returns-in-Err-BadText-clause-agrees c =
    let read = rw c.in-Err-BadText.field-0-is at (rw c.as_bytes.ensures.value at c.in-Err-BadText.ensures.exact) in
    agreed_none c.args.a c.args.b c.args.loads.now c.args.desc.now _ c.if-a-b.false read
