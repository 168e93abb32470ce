use Rattle.std.proofs.Common.{◌∙◌, ◌++◌, ◌∷◌, ◌+◌, [], ap}
use Rattle.jl_prim.specs.declared.numbers.LoaderId.{LoaderId}
use Rattle.jl_prim.specs.declared.declaration.Observed.{Observed}
use Rattle.jl_layer.specs.declared.layer.Member.{Member}
use Rattle.jl_layer.specs.Placing.{loader_place}
use Rattle.jl_layer.proofs.Members.{no_members, members_step}
use Rattle.jl_layer.proofs.placing.members_of.Goals as goal

pub loop-at-init : goal.loop-at-init
loop-at-init c = c.in_ok-made.ensures.items ∙ no_members c.args.mode c.args.layer c.args.first

pub loop-at-preserved : goal.loop-at-preserved
loop-at-preserved c =
    let made = c.loop-at.made.items in
    members_step c.args.mode c.args.layer c.args.first c.loop-at.at c.args.observed.now c.index-observed-at.result made c.push.new.self.items c.loop-at-test.true c.index-observed-at.is c.loop-at.invariant
    (c.in_ok-push.ensures.items
    ∙ ap (λ (l : LoaderId). made ++ record { layer = c.args.layer; loader = l; observed = c.in_ok-copy.field-0 } ∷ []) c.loader_at.ensures
    ∙ ap (λ (o : Observed). let m : Member = record { layer = c.args.layer; loader = record { 0 = c.args.first + loader_place c.args.mode c.loop-at.at }; observed = o } in made ++ m ∷ []) c.in_ok-copy.ensures)
