use Rattle.std.proofs.Common.{◌∙◌, ◌++◌, refl, ap, take, List, ℕ, subst, length, ◌<◌, get_or}
use Rattle.std.specs.List.{filter_map}
use Rattle.std.specs.Option.{option_to_list}
use Rattle.jl_prim.specs.declared.declaration.Grant.{Grant}
use Rattle.jl_layer.specs.declared.claims.Claim.{Claim}
use Rattle.jl_layer.specs.Meaning.{reaching}
use Rattle.jl_layer.specs.Claims.{taken_from}
use Rattle.jl_layer.proofs.Steps.{filter_map_step, mapped_behind}
use Rattle.jl_layer.proofs.refusals.push_exports.Goals as goal

pub loop-grant-preserved : goal.loop-grant-preserved
loop-grant-preserved c =
    let x = c.args.member.now in
    let gs : List Grant = x.observed.declaration.exports in
    let i = c.loop-grant.grant-index in
    let g = c.grant-item.result in
    let h = reaching c.args.reader.now in
    let e = c.as_slice-grant-items.ensures in
    let make : List ℕ → Claim = λ p. record { «package» = p; name = x.observed.declaration.name; owner = x.loader.0 } in
    mapped_behind make (filter_map h (take i gs)) (option_to_list (h g)) c.args.claims.now.items c.loop-grant.claims.items c.push_export.new.claims.items c.loop-grant.invariant c.in_ok-push_export.ensures
    ∙ ap (λ (l : List (List ℕ)). c.args.claims.now.items ++ taken_from x l)
    (filter_map_step h gs i g (filter_map h (take i gs)) (filter_map h (take i gs) ++ option_to_list (h g)) (subst (λ (l : List Grant). i < length l) e c.loop-grant-test.true) (c.grant-item.is ∙ ap (λ (l : List Grant). get_or l i g) e) refl refl)
