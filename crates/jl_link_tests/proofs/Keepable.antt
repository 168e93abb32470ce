-- That what a resolution gives may be kept (`Configuration.resolve`).
use Rattle.std.proofs.Common.{◌≡◌, ◌≤◌, ◌<◌, ℕ, List, [], length, Bool, true, false, ◌&&◌, Ok, get_or, refl, sym, subst}
use Rattle.std.specs.Prelude.{All}
use Rattle.std.specs.List.{list_all}
use Rattle.std.specs.Cmp.Lexicographic.{bytes_decides}
use Rattle.std.proofs.lemmas.List.Elements.{All-nil}
use Rattle.std.proofs.lemmas.List.Sums.{AllPass-from_list_all}
use Rattle.std.proofs.lemmas.Map.Views.{Contains-from_any}
use Rattle.jl_logic.specs.Order.{RisesBy}
use Rattle.jl_prim.specs.declared.numbers.ConfigId.{ConfigId}
use Rattle.jl_prim.specs.declared.declaration.Grant.{Grant}
use Rattle.jl_prim.specs.declared.declaration.Observed.{Observed}
use Rattle.jl_config.specs.Configurations.{Configuration}
use Rattle.jl_config.specs.Orders.{module_cmp}
use Rattle.jl_config.specs.Resolves.{asked, Resolves}
use Rattle.jl_layer.specs.Keeping.{AreAmong, AreKept, IsKeepable}
use Rattle.jl_layer.specs.Layers.{State}
use Rattle.jl_layer.specs.Resolved.{AsksOfKept, HasItsGrants, ResolvedIsKeepable}
use Rattle.jl_layer.specs.Sound.{AreSound}
use Rattle.jl_link_tests.specs.Grants.{has_package, has_its_grants}

among : (packages : List (List ℕ)) (gs : List Grant) → list_all (has_package packages) gs ≡ true → AreAmong packages gs
among packages gs e = λ k d lt. Contains-from_any (λ a b f. (bytes_decides a b).0 f) (get_or gs k d).«package» packages (AllPass-from_list_all (has_package packages) gs e k d lt)

both : (o : Observed) (x y : Bool) → list_all (has_package o.declaration.packages) o.declaration.exports ≡ x → list_all (has_package o.declaration.packages) o.declaration.opens ≡ y → (x && y) ≡ true → HasItsGrants o
both o true true e f g = (among o.declaration.packages o.declaration.exports e, among o.declaration.packages o.declaration.opens f)
both o true false e f g = absurd cc
both o false y e f g = absurd cc

granted : (os : List Observed) → list_all has_its_grants os ≡ true → All HasItsGrants os
granted os e = λ k d lt. both (get_or os k d) _ _ refl refl (AllPass-from_list_all has_its_grants os e k d lt)

pub may_be_kept : (s : State) (known : List Configuration) (before : List Observed) (parents : List ConfigId) (after : List Observed) (roots : List (List ℕ)) (binds : Bool) (g : Configuration)
    → ResolvedIsKeepable → AreSound s → known ≡ s.configurations → All (λ (p : ConfigId). p.0 ≤ length known) parents → list_all has_its_grants before ≡ true → after ≡ []
    → Resolves (asked known before parents after roots binds) (Ok g) → IsKeepable s.configurations g
may_be_kept s known before parents after roots binds g law sound e there grants nothing r =
    let kept : AreKept [] known = subst (λ (k : List Configuration). AreKept [] k) (sym e) sound.kept in
    let rise : All (λ (x : Configuration). RisesBy module_cmp x.modules) known = subst (All (λ (x : Configuration). RisesBy module_cmp x.modules)) (sym e) sound.rise in
    let none : All HasItsGrants after = subst (All HasItsGrants) (sym nothing) (All-nil HasItsGrants) in
    let asks : AsksOfKept (asked known before parents after roots binds) = record { known = kept; rise = rise; parents = there; before = granted before grants; after = none } in
    subst (λ (k : List Configuration). IsKeepable k g) e (law (asked known before parents after roots binds) g asks r)
