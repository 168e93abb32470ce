use Rattle.std.proofs.Common.{◌≡◌, ◌∙◌, ℕ, List, get_or, ap, sym, refl, below_more, arith}
use Rattle.jl_prim.specs.declared.numbers.ConfigId.{ConfigId}
use Rattle.jl_prim.specs.declared.numbers.LayerId.{LayerId}
use Rattle.jl_layer.specs.Deciding.{config_at}
use Rattle.jl_layer.proofs.OwnClaims.{all_match}
use Rattle.jl_layer.proofs.registry.Registry.are_parents.Goals as goal

pub loop-at-preserved : goal.loop-at-preserved
loop-at-preserved c =
    let s = c.args.self.now in
    let wanted : List ConfigId = c.parents_in-wanted.result.now in
    let P : ℕ → Type 0 = λ k. config_at s c.args.parents.now k ≡ (get_or wanted k (record { 0 = 0 })).0 in
    let here : P c.loop-at.at = sym (ap (λ (k : ConfigId). k.0) c.config_of.ensures) ∙ c.if-config_of-wanted.false in
    below_more P c.loop-at.at c.loop-at.invariant here

pub returns : goal.returns
returns c =
    let s = c.args.self.now in
    let ls : List LayerId = c.args.parents.now in
    let wanted : List ConfigId = c.parents_in-wanted.result.now in
    let same = all_match s ls wanted c.if-wanted-parents.false (λ k lt. c.loop-at.invariant k (omega arith)) in
    (λ t. same ∙ c.parents_in-wanted.ensures, λ e. refl)
