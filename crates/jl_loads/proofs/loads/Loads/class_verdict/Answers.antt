use Rattle.std.proofs.Common.{◌≡◌, ◌∙◌, ap}
use Rattle.jl_class.specs.Meaning.{is_public}
use Rattle.jl_loads.specs.Worlds.{place_of}
use Rattle.jl_loads.proofs.Modules.{verdict_at}
use Rattle.jl_loads.proofs.loads.Loads.class_verdict.Goals as goal

pub returns : goal.returns
returns c = λ to e.
    let same : c.class_at-to.result.now ≡ to = cc (c.class_at-to.ensures.class, e) in
    verdict_at c.class_verdict.result _ _ _ _ _ _ _ _ c.class_verdict.ensures (c.facts.ensures ∙ ap (λ w. w.layers.facts) c.self.view_is) c.in_ok-caller.ensures
    (c.in_ok-place.ensures ∙ ap place_of same)
    (c.is_public-is_public.ensures ∙ ap is_public (c.flags.ensures ∙ ap (λ d. d.flags) (c.deref.ensures ∙ c.declared.ensures ∙ ap (λ x. x.declared) same)))
