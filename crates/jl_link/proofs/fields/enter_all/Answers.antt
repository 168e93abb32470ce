use Rattle.std.proofs.Common.{arith, ◌-◌, ◌∷◌, ◌++◌, [], List, ◌∙◌, ap, sym, get_or}
use Rattle.std.proofs.lemmas.Option.{slice_get-get_or}
use Rattle.jl_prim.specs.declared.numbers.ClassId.{ClassId}
use Rattle.jl_link.specs.declared.fields.Step.{Step}
use Rattle.jl_link.specs.declared.fields.Step.TheVariants.{Enter}
use Rattle.jl_link.proofs.Searched.{entered_more, entered_none}
use Rattle.jl_link.proofs.fields.enter_all.Goals as goal

pub loop-left-init : goal.loop-left-init
loop-left-init c = record { within = omega arith; pushed = entered_none c.args.steps.now.items c.args.classes.now }

pub loop-left-preserved : goal.loop-left-preserved
loop-left-preserved c =
    let none : ClassId = record { 0 = 0 } in
    let here : ClassId = get_or c.args.classes.now (c.loop-left.left - 1) none in
    record {
      within = omega (arith, c.loop-left.invariant.within);
      pushed = c.in_ok-push.ensures.items ∙ ap (λ (xs : List Step). xs ++ Enter here ∷ []) c.loop-left.invariant.pushed
          ∙ sym (entered_more c.args.steps.now.items c.args.classes.now c.loop-left.left (c.loop-left.left - 1) here (omega (arith, c.loop-left-test.true))
          (slice_get-get_or c.args.classes.now (c.loop-left.left - 1) none (omega (arith, c.loop-left.invariant.within, c.loop-left-test.true))));
    }
