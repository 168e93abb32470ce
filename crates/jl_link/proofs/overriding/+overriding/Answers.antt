use Rattle.std.proofs.Common.{◌-◌, ◌∙◌, ap, arith, sym, Option}
use Rattle.std.specs.List.{list_any}
use Rattle.jl_prim.specs.declared.numbers.ClassId.{ClassId}
use Rattle.jl_loads.specs.Worlds.{line_by}
use Rattle.jl_link.specs.Members.{wanted}
use Rattle.jl_link.specs.Selection.{overrides_by, is_way}
use Rattle.jl_link.proofs.Choosing.{any_nothing, any_ends, any_found, any_goes, overrides_nothing, overrides_not, overrides_seen, overrides_far}
use Rattle.jl_link.proofs.overriding.+overriding.Goals as goal

pub has_way-returns-then-left-eq0 : goal.has_way-returns-then-left-eq0
has_way-returns-then-left-eq0 t c =
    sym (any_nothing (is_way (overrides_by c.args.most c.args.loads.now (wanted c.args.name.now c.args.desc.now)) c.args.loads.now (wanted c.args.name.now c.args.desc.now) c.args.b.now c.args.a.now) c.args.loads.now c.loop-at.left c.loop-at.at c.if-left-eq0.true) ∙ c.loop-at.invariant

pub has_way-returns-then-is_way : goal.has_way-returns-then-is_way
has_way-returns-then-is_way t c =
    sym (any_found (is_way (overrides_by c.args.most c.args.loads.now (wanted c.args.name.now c.args.desc.now)) c.args.loads.now (wanted c.args.name.now c.args.desc.now) c.args.b.now c.args.a.now) c.args.loads.now c.loop-at.left (c.loop-at.left - 1) c.loop-at.at c.in-Some.here
    c.in-Some.is (omega (arith, c.if-left-eq0.false)) (sym c.is_way.ensures ∙ c.if-is_way.true))
    ∙ c.loop-at.invariant

pub has_way-loop-at-preserved : goal.has_way-loop-at-preserved
has_way-loop-at-preserved t c =
    ap (λ (o : Option ClassId). list_any (is_way (overrides_by c.args.most c.args.loads.now (wanted c.args.name.now c.args.desc.now)) c.args.loads.now (wanted c.args.name.now c.args.desc.now) c.args.b.now c.args.a.now) (line_by (c.loop-at.left - 1) c.args.loads.now o)) c.superclass-at.ensures
    ∙ sym (any_goes (is_way (overrides_by c.args.most c.args.loads.now (wanted c.args.name.now c.args.desc.now)) c.args.loads.now (wanted c.args.name.now c.args.desc.now) c.args.b.now c.args.a.now) c.args.loads.now c.loop-at.left (c.loop-at.left - 1) c.loop-at.at c.in-Some.here
    c.in-Some.is (omega (arith, c.if-left-eq0.false)) (sym c.is_way.ensures ∙ c.if-is_way.false))
    ∙ c.loop-at.invariant

pub has_way-returns : goal.has_way-returns
has_way-returns t c =
    sym (any_ends (is_way (overrides_by c.args.most c.args.loads.now (wanted c.args.name.now c.args.desc.now)) c.args.loads.now (wanted c.args.name.now c.args.desc.now) c.args.b.now c.args.a.now) c.args.loads.now c.loop-at.left c.loop-at.at c.in_default.is) ∙ c.loop-at.invariant

pub overrides-returns-then-most-eq0 : goal.overrides-returns-then-most-eq0
overrides-returns-then-most-eq0 t c = sym (overrides_nothing c.args.most c.args.loads.now (wanted c.args.name.now c.args.desc.now) c.args.b.now c.args.a.now c.if-most-eq0.true)

pub overrides-returns-then-not-is_inherited : goal.overrides-returns-then-not-is_inherited
overrides-returns-then-not-is_inherited t c =
    sym (overrides_not c.args.most c.args.loads.now (wanted c.args.name.now c.args.desc.now) c.args.b.now c.args.a.now (sym c.is_inherited.ensures ∙ c.if-not-is_inherited.true))

pub overrides-returns-then-is_seen_from : goal.overrides-returns-then-is_seen_from
overrides-returns-then-is_seen_from t c =
    c.if-is_seen_from.true ∙ sym (overrides_seen c.args.most (c.args.most - 1) c.args.loads.now (wanted c.args.name.now c.args.desc.now) c.args.b.now c.args.a.now
    (omega (arith, c.if-most-eq0.false)) (sym c.is_inherited.ensures ∙ c.if-not-is_inherited.false) (sym c.is_seen_from.ensures ∙ c.if-is_seen_from.true))

pub overrides-returns-else-is_seen_from : goal.overrides-returns-else-is_seen_from
overrides-returns-else-is_seen_from t c =
    c.has_way.ensures ∙ sym (overrides_far c.args.most (c.args.most - 1) c.args.loads.now (wanted c.args.name.now c.args.desc.now) c.args.b.now c.args.a.now
    (omega (arith, c.if-most-eq0.false)) (sym c.is_inherited.ensures ∙ c.if-not-is_inherited.false) (sym c.is_seen_from.ensures ∙ c.if-is_seen_from.false))
