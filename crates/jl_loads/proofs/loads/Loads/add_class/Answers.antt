use Rattle.std.proofs.Common.{◌≡◌, length, ap, ap₂, sym, subst, ◌∙◌, ◌++◌, ◌∷◌, [], arith}
use Rattle.jl_loads.specs.Laws.{IsNew}
use Rattle.jl_loads.specs.Ranks.{rank_new}
use Rattle.jl_loads.specs.Worlds.{State}
use Rattle.jl_loads.proofs.Defined.{found_new, whole_more}
use Rattle.jl_loads.proofs.Leaving.{keeps_same}
use Rattle.jl_loads.proofs.loads.Loads.add_class.Goals as goal

pub returns-in_err-reserve-2-clause-keeps : goal.returns-in_err-reserve-2-clause-keeps
returns-in_err-reserve-2-clause-keeps c =
    keeps_same _ _ (sym c.self.view_is ∙ ap₂ (λ cs ss. record { layers = c.self.inside.layers; classes = cs; report = c.self.inside.report; slots = ss; kept = c.self.inside.kept.entries }) (sym c.reserve.ensures.items) (sym c.reserve-2.ensures.items))

pub returns-in_err-reserve-3-clause-keeps : goal.returns-in_err-reserve-3-clause-keeps
returns-in_err-reserve-3-clause-keeps c =
    keeps_same _ _ (sym c.self.view_is ∙ ap₂ (λ cs ss. record { layers = c.self.inside.layers; classes = cs; report = c.self.inside.report; slots = ss; kept = c.self.inside.kept.entries }) (sym c.reserve.ensures.items) (sym c.reserve-2.ensures.items))

pub returns-in_err-enter-clause-keeps : goal.returns-in_err-enter-clause-keeps
returns-in_err-enter-clause-keeps c =
    keeps_same _ _ (sym c.self.view_is ∙ ap₂ (λ cs ss. record { layers = c.self.inside.layers; classes = cs; report = c.self.inside.report; slots = ss; kept = c.self.inside.kept.entries }) (sym c.reserve.ensures.items) (sym c.reserve-2.ensures.items))

pub invariant_of-self-2 : goal.invariant_of-self-2
invariant_of-self-2 c =
    let before : State = record { layers = c.self.inside.layers; classes = c.self.inside.classes.items; report = c.self.inside.report; slots = c.self.inside.slots.items; kept = c.self.inside.kept.entries } in
    let count : c.len-2.result ≡ length c.self.inside.classes.items = omega (arith, c.len-2.ensures, c.self.inside.classes.ok.0) in
    whole_more c.self.inside.names.entries c.enter.new.names.entries c.self.inside.ranks.items c.push_reserved.new.self.items c.in_ok-rank.rank c.self.inside.base before _ c.args.class c.args.key
    (ap₂ (λ cs ss. record { layers = c.self.inside.layers; classes = cs; report = c.self.inside.report; slots = ss; kept = c.self.inside.kept.entries })
    (sym (c.push_reserved-3.ensures.items ∙ ap (λ cs. cs ++ c.args.class ∷ []) c.reserve.ensures.items))
    (sym (c.push_reserved-2.ensures.items ∙ ap (λ ss. ss ++ c.in_ok-slots.slots ∷ []) c.reserve-2.ensures.items ∙ ap (λ x. c.self.inside.slots.items ++ x ∷ []) c.in_ok-slots.ensures)))
    c.requires.loader c.requires.name
    (subst (λ w. IsNew w c.args.class) (sym c.self.view_is) c.requires.new)
    (omega (arith, c.len.ensures, c.if-len-ge-MOST_CLASSES.false))
    (c.in_ok-rank.ensures ∙ ap (λ w. rank_new w c.args.class) (sym c.self.view_is))
    (c.push_reserved.ensures.items ∙ ap (λ rs. rs ++ c.in_ok-rank.rank ∷ []) c.reserve-3.ensures.items)
    (λ q. simp count at (c.in_ok-enter.ensures.entered q))
    c.self.invariant

pub returns-clause-defined : goal.returns-clause-defined
returns-clause-defined c =
    let before : State = record { layers = c.self.inside.layers; classes = c.self.inside.classes.items; report = c.self.inside.report; slots = c.self.inside.slots.items; kept = c.self.inside.kept.entries } in
    let count : c.len-2.result ≡ length c.self.inside.classes.items = omega (arith, c.len-2.ensures, c.self.inside.classes.ok.0) in
    found_new before _ c.args.class c.len-2.result
    (ap₂ (λ cs ss. record { layers = c.self.inside.layers; classes = cs; report = c.self.inside.report; slots = ss; kept = c.self.inside.kept.entries })
    (sym (c.push_reserved-3.ensures.items ∙ ap (λ cs. cs ++ c.args.class ∷ []) c.reserve.ensures.items))
    (sym (c.push_reserved-2.ensures.items ∙ ap (λ ss. ss ++ c.in_ok-slots.slots ∷ []) c.reserve-2.ensures.items ∙ ap (λ x. c.self.inside.slots.items ++ x ∷ []) c.in_ok-slots.ensures)))
    (subst (λ w. IsNew w c.args.class) (sym c.self.view_is) c.requires.new)
    count
