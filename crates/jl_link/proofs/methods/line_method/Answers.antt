use Rattle.std.proofs.Common.{◌-◌, ◌∙◌, ap, arith, sym, Option}
use Rattle.jl_prim.specs.declared.numbers.ClassId.{ClassId}
use Rattle.jl_loads.specs.Worlds.{line_by}
use Rattle.jl_link.specs.Members.{first_given, own_method, wanted}
use Rattle.jl_link.proofs.Looking.{line_nothing, line_ends, line_found, line_goes}
use Rattle.jl_link.proofs.methods.line_method.Goals as goal

pub returns-then-most-eq0-clause-found : goal.returns-then-most-eq0-clause-found
returns-then-most-eq0-clause-found c =
    sym (line_nothing (own_method c.args.loads.now (wanted c.args.name.now c.args.desc.now)) c.args.loads.now c.loop-at.most c.loop-at.at c.if-most-eq0.true) ∙ c.loop-at.invariant

pub returns-in-Some-own_method-clause-found : goal.returns-in-Some-own_method-clause-found
returns-in-Some-own_method-clause-found c =
    sym (line_found (own_method c.args.loads.now (wanted c.args.name.now c.args.desc.now)) c.args.loads.now c.loop-at.most (c.loop-at.most - 1) c.loop-at.at c.in-Some.here c.in-Some-own_method.m
    c.in-Some.is (omega (arith, c.if-most-eq0.false)) (sym c.own_method.ensures.found ∙ c.in-Some-own_method.is))
    ∙ c.loop-at.invariant

pub loop-at-preserved : goal.loop-at-preserved
loop-at-preserved c =
    ap (λ (o : Option ClassId). first_given (own_method c.args.loads.now (wanted c.args.name.now c.args.desc.now)) (line_by (c.loop-at.most - 1) c.args.loads.now o)) c.superclass-at.ensures
    ∙ sym (line_goes (own_method c.args.loads.now (wanted c.args.name.now c.args.desc.now)) c.args.loads.now c.loop-at.most (c.loop-at.most - 1) c.loop-at.at c.in-Some.here
    c.in-Some.is (omega (arith, c.if-most-eq0.false)) (sym c.own_method.ensures.found ∙ c.in_default-own_method.is))
    ∙ c.loop-at.invariant

pub returns-clause-found : goal.returns-clause-found
returns-clause-found c =
    sym (line_ends (own_method c.args.loads.now (wanted c.args.name.now c.args.desc.now)) c.args.loads.now c.loop-at.most c.loop-at.at c.in_default.is) ∙ c.loop-at.invariant
