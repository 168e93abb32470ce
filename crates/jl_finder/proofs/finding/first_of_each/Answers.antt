use Rattle.std.proofs.Common.{◌∙◌, sym, ap, map}
use Rattle.std.proofs.lemmas.Bool.{not-true, not-false}
use Rattle.jl_finder.proofs.Firsts.{kept_more, kept_same, first_none}
use Rattle.jl_finder.specs.Observed.{name_of}
use Rattle.jl_finder.proofs.finding.first_of_each.Goals as goal

pub loop-module-preserved-in_ok-push : goal.loop-module-preserved-in_ok-push
loop-module-preserved-in_ok-push c =
    let new = not-true _ (sym c.in_ok-insert.ensures.added ∙ c.if-branch.true) in
    let r = kept_more c.loop-module.yielded c.loop-module.kept.items c.loop-module.seen.keys c.in-Some.module c.in_ok-copy.field-0 c.loop-module.invariant.kept c.loop-module.invariant.seen c.in_ok-copy.ensures new in
    record {
      kept = c.in_ok-push.ensures.items ∙ r.0;
      seen = c.in_ok-insert.ensures.keys ∙ r.1 ∙ ap (λ os. map (λ o. o.declaration.name) os) (sym c.in_ok-push.ensures.items);
    }

pub loop-module-preserved : goal.loop-module-preserved
loop-module-preserved c =
    let old = not-false _ (sym c.in_ok-insert.ensures.added ∙ c.if-branch.false) in
    let r = kept_same c.loop-module.yielded c.loop-module.kept.items c.loop-module.seen.keys c.in-Some.module c.in_ok-copy.field-0 c.loop-module.invariant.kept c.loop-module.invariant.seen c.in_ok-copy.ensures old in
    record {
      kept = r.0;
      seen = c.in_ok-insert.ensures.keys ∙ r.1;
    }

pub loop-module-init : goal.loop-module-init
loop-module-init c = record {
  kept = c.new-kept.ensures.items ∙ sym first_none;
  seen = c.new-seen.ensures.empty ∙ sym (ap (λ os. map name_of os) c.new-kept.ensures.items);
}
