use Rattle.std.proofs.Common.{rules, ◌∙◌, ℕ, ap, sym, find, List}
use Rattle.std.proofs.lemmas.Fn.{always_returns_same}
use Rattle.jl_logic.specs.Order.{name_cmp}
use Rattle.jl_prim.specs.declared.numbers.ModuleId.{ModuleId}
use Rattle.jl_layer.specs.Layers.{has_name}
use Rattle.jl_layer.specs.Orderly.{name_at}
use Rattle.jl_layer.proofs.Searching.{found_in, missing_in, names_alike}
use Rattle.jl_layer.proofs.registry.Registry.named_in.Goals as goal

pub returns-in-Ok : goal.returns-in-Ok
returns-in-Ok c =
    let s = c.args.self.now in
    let name = c.args.name.now in
    let ms = c.modules_of-modules.result.now in
    let d : ModuleId = record { 0 = 0 } in
    let key : ModuleId → List ℕ = λ m. name_at s.modules m in
    sym (found_in key name ms c.in-Ok.at d c.modules_of-modules.ensures.order.rise c.in-Ok.ensures.bound (c.in-Ok.ensures.position (λ (m : ModuleId). name_cmp (key m) name) (always_returns_same _ _ _ (λ a r q k. search rules)) d))
    ∙ sym (names_alike s.modules name ms c.modules_of-modules.ensures.order)
    ∙ ap (find (has_name s name)) c.modules_of-modules.ensures.modules

pub returns-in-Err : goal.returns-in-Err
returns-in-Err c =
    let s = c.args.self.now in
    let name = c.args.name.now in
    let ms = c.modules_of-modules.result.now in
    let key : ModuleId → List ℕ = λ m. name_at s.modules m in
    sym (missing_in key name ms c.in-Err.field-0 c.modules_of-modules.ensures.order.rise (c.in-Err.ensures.position (λ (m : ModuleId). name_cmp (key m) name) (always_returns_same _ _ _ (λ a r q k. search rules))))
    ∙ sym (names_alike s.modules name ms c.modules_of-modules.ensures.order)
    ∙ ap (find (has_name s name)) c.modules_of-modules.ensures.modules
