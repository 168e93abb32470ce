use Rattle.std.proofs.Common.{◌-◌, ◌∙◌, ap, arith, refl, sym, true, false}
use Rattle.jl_loads.specs.Worlds.{is_among, line_by, super_of}
use Rattle.jl_loads.proofs.Superclasses.{line_at, line_nothing, line_top}
use Rattle.jl_loads.proofs.loads.Loads.is_subclass.Goals as goal

pub returns-then-most-eq0 : goal.returns-then-most-eq0
returns-then-most-eq0 c = sym (line_nothing c.loop-at.most c.args.self.now c.loop-at.at c.args.d c.if-most-eq0.true) ∙ c.loop-at.invariant

pub returns-then-eq : goal.returns-then-eq
returns-then-eq c =
    sym (line_at c.loop-at.most (c.loop-at.most - 1) c.args.self.now c.loop-at.at c.in-Some.here c.args.d true (super_of c.args.self.now c.in-Some.here)
    c.in-Some.is (omega (arith, c.if-most-eq0.false)) (sym c.if-eq.true ∙ c.eq.ensures) refl)
    ∙ c.loop-at.invariant

pub loop-at-preserved : goal.loop-at-preserved
loop-at-preserved c =
    sym (line_at c.loop-at.most (c.loop-at.most - 1) c.args.self.now c.loop-at.at c.in-Some.here c.args.d false c.superclass-at.result
    c.in-Some.is (omega (arith, c.if-most-eq0.false)) (sym c.if-eq.false ∙ c.eq.ensures) c.superclass-at.ensures)
    ∙ c.loop-at.invariant

pub returns : goal.returns
returns c =
    sym (ap (λ o. is_among c.args.d (line_by c.loop-at.most c.args.self.now o)) c.in_default.is ∙ line_top c.loop-at.most c.args.self.now c.args.d) ∙ c.loop-at.invariant
