use Rattle.std.proofs.Common.{◌∷◌, ◌++◌, [], List, ◌∙◌, ap, sym, subst}
use Rattle.jl_prim.specs.declared.numbers.ClassId.{ClassId}
use Rattle.jl_link.specs.declared.fields.Step.{Step}
use Rattle.jl_link.specs.Members.{own_field, wanted}
use Rattle.jl_link.specs.Searching.{IsEntered}
use Rattle.jl_link.proofs.Looking.{field_there}
use Rattle.jl_link.proofs.Searched.{entered_gives, entered_goes, enters_class, searched_first, searched_entered, searched_found, searched_leaves, searched_none}
use Rattle.jl_link.proofs.fields.field_of.Goals as goal
use Rattle.jl_link.proofs.fields.field_of.Goals.{in-Leave+in_ok-push-in-Leave, in-Enter+in_ok-m-in-Enter+in_default-2}

pub looking-init : goal.looking-init
looking-init c =
    searched_first c.args.loads.now (wanted c.args.name.now c.args.desc.now) c.args.c c.new-steps.result.items c.push.new.self.items c.new-vain.result.items
    c.requires c.new-steps.ensures.items c.new-vain.ensures.items c.in_ok-push.ensures.items

pub returns-in_default-clause-found : goal.returns-in_default-clause-found
returns-in_default-clause-found c =
    searched_none c.args.loads.now (wanted c.args.name.now c.args.desc.now) c.args.c c.looking.steps.items c.looking.vain.items c.looking.invariant c.in_default.ensures

pub enter-requires : goal.enter-requires
enter-requires c =
    enters_class c.args.loads.now (wanted c.args.name.now c.args.desc.now) c.args.c c.looking.steps.items c.take_last.new.steps.items c.looking.vain.items c.in-Enter.d
    c.looking.invariant (c.in-Some.ensures ∙ ap (λ (x : Step). c.take_last.new.steps.items ++ x ∷ []) c.in-Enter.is)

pub returns-in-Some-2-clause-found : goal.returns-in-Some-2-clause-found
returns-in-Some-2-clause-found c =
    searched_found c.args.loads.now (wanted c.args.name.now c.args.desc.now) c.is_sound.ensures c.args.c c.looking.steps.items c.take_last.new.steps.items c.looking.vain.items c.in-Enter.d c.in-Some-2.m
    c.looking.invariant (c.in-Some.ensures ∙ ap (λ (x : Step). c.take_last.new.steps.items ++ x ∷ []) c.in-Enter.is)
    (entered_gives _ (own_field c.args.loads.now (wanted c.args.name.now c.args.desc.now) c.in-Enter.d) c.in_ok-m-in-Enter.field-0 c.in-Some-2.m c.in-Some-2.is c.in_ok-m-in-Enter.ensures)

pub returns-in-Some-2-clause-there : goal.returns-in-Some-2-clause-there
returns-in-Some-2-clause-there c =
    field_there c.args.loads.now (wanted c.args.name.now c.args.desc.now) c.args.c c.in-Some-2.m (sym (returns-in-Some-2-clause-found c))

pub looking-preserved : goal.looking-preserved
looking-preserved c = elim c.match-step.branch [
  | in-Leave+in_ok-push-in-Leave w ↦ rw (w.steps-is, w.vain-is) (searched_leaves c.args.loads.now (wanted c.args.name.now c.args.desc.now) c.args.c c.looking.steps.items c.take_last.new.steps.items c.looking.vain.items w.push-in-Leave.new.self.items w.in-Leave.d
      c.looking.invariant (c.in-Some.ensures ∙ ap (λ (x : Step). c.take_last.new.steps.items ++ x ∷ []) w.in-Leave.is) w.in_ok-push-in-Leave.ensures.items)
  | in-Enter+in_ok-m-in-Enter+in_default-2 w ↦ rw (w.steps-is, w.vain-is) (searched_entered c.args.loads.now (wanted c.args.name.now c.args.desc.now) c.is_sound.ensures c.args.c c.looking.steps.items c.take_last.new.steps.items w.enter.new.steps.items c.looking.vain.items w.in-Enter.d
      c.looking.invariant (c.in-Some.ensures ∙ ap (λ (x : Step). c.take_last.new.steps.items ++ x ∷ []) w.in-Enter.is)
      (subst (λ (seen : List ClassId). IsEntered c.args.loads.now (wanted c.args.name.now c.args.desc.now) seen w.in-Enter.d c.take_last.new.steps.items w.enter.new.steps.items) w.deref.ensures.value
      (entered_goes _ (own_field c.args.loads.now (wanted c.args.name.now c.args.desc.now) w.in-Enter.d) w.in_ok-m-in-Enter.field-0 w.in_default-2.is w.in_ok-m-in-Enter.ensures)))
]
