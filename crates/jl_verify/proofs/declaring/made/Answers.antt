use Rattle.std.proofs.Common.{◌≡◌, ◌∙◌, not, sym, ap, arith}
use Rattle.jl_code.specs.Sound.{starts}
use Rattle.jl_code.specs.Places.{stands}
use Rattle.jl_verify.specs.Declaring.{made}
use Rattle.jl_verify.proofs.MadeLists.{start_if, wrong_at, none_at, one_at, at_end}
use Rattle.jl_verify.proofs.declaring.made.Goals as goal

pub returns-then-is_none : goal.returns-then-is_none
returns-then-is_none c = λ instrs all.
    let stands_not : stands (starts instrs) c.frame-item.result.offset ≡ not c.is_none.result = start_if (starts instrs) c.frame-item.result.offset c.index_of.result c.is_none.result c.is_none.ensures (rw c.index_of.ensures (all c.frame-item.result.offset)) in
    wrong_at c.args.pool.now (stands (starts instrs)) (made c.args.pool.now (stands (starts instrs)) c.args.first.items c.args.stated.now) c.loop-frame.declared.items c.loop-frame.locals c.args.stated.now
    c.loop-frame.frame-index c.frame-item.result (omega arith) c.frame-item.is (c.loop-frame.invariant instrs all) (stands_not ∙ ap not c.if-is_none.true)

pub returns-in_default : goal.returns-in_default
returns-in_default c = λ instrs all.
    let stands_there : stands (starts instrs) c.frame-item.result.offset ≡ not c.is_none.result = start_if (starts instrs) c.frame-item.result.offset c.index_of.result c.is_none.result c.is_none.ensures (rw c.index_of.ensures (all c.frame-item.result.offset)) in
    none_at c.args.pool.now (stands (starts instrs)) (made c.args.pool.now (stands (starts instrs)) c.args.first.items c.args.stated.now) c.loop-frame.declared.items c.loop-frame.locals c.args.stated.now
    c.loop-frame.frame-index c.frame-item.result (omega arith) c.frame-item.is (c.loop-frame.invariant instrs all) (stands_there ∙ ap not c.if-is_none.false)
    (rw c.as_slice.ensures at (sym c.in_ok-types.ensures ∙ c.in_default.is))

pub loop-frame-preserved : goal.loop-frame-preserved
loop-frame-preserved c = λ instrs all.
    let stands_there : stands (starts instrs) c.frame-item.result.offset ≡ not c.is_none.result = start_if (starts instrs) c.frame-item.result.offset c.index_of.result c.is_none.result c.is_none.ensures (rw c.index_of.ensures (all c.frame-item.result.offset)) in
    let one = one_at c.args.pool.now (stands (starts instrs)) (made c.args.pool.now (stands (starts instrs)) c.args.first.items c.args.stated.now) c.loop-frame.declared.items c.loop-frame.locals c.args.stated.now
    c.loop-frame.frame-index c.frame-item.result (omega arith) c.frame-item.is (c.loop-frame.invariant instrs all) c.in-Some.types (stands_there ∙ ap not c.if-is_none.false)
    (rw c.as_slice.ensures at (sym c.in_ok-types.ensures ∙ c.in-Some.is)) in
    rw c.in_ok-push.ensures.items (rw c.in_ok-frame_of.ensures one)

pub returns : goal.returns
returns c = λ instrs all.
    at_end c.args.pool.now (stands (starts instrs)) (made c.args.pool.now (stands (starts instrs)) c.args.first.items c.args.stated.now) c.loop-frame.declared.items c.loop-frame.locals c.args.stated.now
    c.loop-frame.frame-index (omega arith) (c.loop-frame.invariant instrs all)
