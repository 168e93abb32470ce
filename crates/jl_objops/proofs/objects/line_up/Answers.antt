use Rattle.std.proofs.Common.{◌-◌, ◌<◌, ◌++◌, ◌∷◌, [], sym, ◌∙◌, ap, arith}
use Rattle.std.proofs.lemmas.List.{append-nil}
use Rattle.jl_loads.specs.Worlds.{line_by}
use Rattle.jl_objops.proofs.Lines.{added_next, line_ended, line_none, none_of}
use Rattle.jl_objops.proofs.objects.line_up.Goals as goal

pub returns-then-left-eq0 : goal.returns-then-left-eq0
returns-then-left-eq0 c =
    sym (append-nil c.loop-next.line.items) ∙ (ap (λ l. c.loop-next.line.items ++ l) (sym (line_ended c.args.world.now c.loop-next.left c.loop-next.next c.if-left-eq0.true)) ∙ c.loop-next.invariant)

pub loop-next-preserved : goal.loop-next-preserved
loop-next-preserved c =
    let more : 0 < c.loop-next.left = omega (arith, c.if-left-eq0.false) in
    ap (λ l. l ++ line_by (c.loop-next.left - 1) c.args.world.now c.super_of-next.result) c.in_ok-push.ensures.items
    ∙ (ap (λ o. (c.loop-next.line.items ++ c.in-Some.here ∷ []) ++ line_by (c.loop-next.left - 1) c.args.world.now o) c.super_of-next.ensures
    ∙ (added_next c.args.world.now c.loop-next.line.items c.loop-next.left c.loop-next.next c.in-Some.here c.in-Some.is more ∙ c.loop-next.invariant))

pub returns : goal.returns
returns c =
    sym (append-nil c.loop-next.line.items) ∙ (ap (λ l. c.loop-next.line.items ++ l) (sym (line_none c.args.world.now c.loop-next.left c.loop-next.next (none_of c.loop-next.next c.in_default.not-Some))) ∙ c.loop-next.invariant)
