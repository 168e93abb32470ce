use Rattle.std.proofs.Common.{◌≡◌, ◌++◌, ◌∷◌, [], List, ℕ, ap, sym, subst, ◌∙◌}
use Rattle.jl_loaders.specs.Loaders.{State, IsLoader}
use Rattle.jl_loaders.specs.Constraints.{constraint, with_constraint, IsViolated}
use Rattle.jl_loaders.proofs.Sound.{sound_imposed}
use Rattle.jl_loaders.proofs.loaders.Loaders.impose.Goals as goal

pub invariant_of-self-2 : goal.invariant_of-self-2
invariant_of-self-2 c =
    let s : State = record { loaders = c.self.inside.loaders.items; base = c.self.inside.base; constraints = c.self.inside.constraints.items; spare = c.self.inside.spare } in
    let g : State = record { loaders = c.self.inside.loaders.items; base = c.self.inside.base; constraints = c.push.new.self.items; spare = c.self.inside.spare } in
    let name = c.args.name.now in
    let is : g ≡ with_constraint name c.args.l c.args.l2 s =
    ap (λ cs. let x : State = record { loaders = s.loaders; base = s.base; constraints = cs; spare = s.spare } in x)
    (c.in_ok-push.ensures.items ∙ ap (λ (n : List ℕ). s.constraints ++ constraint n c.args.l c.args.l2 ∷ []) c.in_ok-name.ensures.named) in (
      sound_imposed s g name c.args.l c.args.l2 c.self.invariant.0
          (subst (λ w. IsLoader w c.args.l) (sym c.self.view_is) c.requires.one)
          (subst (λ w. IsLoader w c.args.l2) (sym c.self.view_is) c.requires.other)
          (subst (λ w. IsViolated (with_constraint name c.args.l c.args.l2 w) → ⊥) (sym c.self.view_is) c.in_ok-name.ensures.stands)
          is,
      c.self.invariant.1,
      c.self.invariant.2,
    )
