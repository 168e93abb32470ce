use Rattle.std.proofs.Common.{◌∙◌, ◌++◌, ap, subst, List, ℕ, arith}
use Rattle.std.specs.Prelude.{Contains}
use Rattle.std.specs.List.{filter}
use Rattle.std.proofs.lemmas.List.{take_all}
use Rattle.jl_logic.specs.Order.{name_cmp}
use Rattle.jl_prim.specs.declared.declaration.Observed.{Observed}
use Rattle.jl_config.specs.Places.{IsLeastSome}
use Rattle.jl_layer.specs.Refusals.{is_java}
use Rattle.jl_layer.specs.Deciding.{java_packages}
use Rattle.jl_layer.proofs.Steps.{flat_map_step}
use Rattle.jl_layer.proofs.registry.Registry.least_java.Goals as goal

pub loop-module-preserved : goal.loop-module-preserved
loop-module-preserved c =
    let os : List Observed = c.observed_in-module-items.result.now in
    let found = c.loop-module.found.items in
    flat_map_step (λ (o : Observed). filter is_java o.declaration.packages) os c.loop-module.module-index c.module-item.result found c.push_java.new.found.items c.loop-module-test.true c.module-item.is c.loop-module.invariant
    (c.in_ok-push_java.ensures ∙ ap (λ (l : List (List ℕ)). found ++ filter is_java l) c.as_slice.ensures)

pub returns : goal.returns
returns c =
    let os : List Observed = c.observed_in-module-items.result.now in
    let whole = c.loop-module.invariant ∙ ap java_packages (take_all c.loop-module.module-index os (omega arith) ∙ c.observed_in-module-items.ensures) in
    subst (λ (l : List (List ℕ)). IsLeastSome name_cmp (Contains l) c.least_of.result) whole c.least_of.ensures
