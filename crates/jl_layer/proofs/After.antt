-- What holds of layers after each call (`ModuleLayer`).
use Rattle.std.proofs.Common.{◌≡◌, ◌<◌, ◌≤◌, ◌+◌, ℕ, zero, suc, List, [], ◌∷◌, length, refl, sym, ◌∙◌, ap, subst, Result, Ok, Err, All, inl, ⊎_elim, append-nil, arith}
use Rattle.std.specs.Prelude.{Contains, codes, OnOk, OnErr}
use Rattle.jl_prim.specs.Limits.{most_modules}
use Rattle.jl_prim.specs.declared.numbers.ConfigId.{ConfigId}
use Rattle.jl_prim.specs.declared.numbers.LayerId.{LayerId}
use Rattle.jl_prim.specs.declared.numbers.LoaderId.{LoaderId}
use Rattle.jl_loaders.specs.Constraints.{with_constraint}
use Rattle.jl_prim.specs.declared.declaration.Observed.{Observed}
use Rattle.jl_config.specs.Configurations.{Configuration}
use Rattle.jl_config.specs.Located.{configuration_of, name_of}
use Rattle.jl_access.specs.Facts as access
use Rattle.jl_access.specs.declared.statement.Statement.{Statement}
use Rattle.std.proofs.lemmas.Bool.{cases_lt}
use Rattle.jl_layer.specs.declared.fault.LayerFault.{LayerFault}
use Rattle.jl_layer.specs.declared.fault.LayerFault.TheVariants.{TooMany}
use Rattle.jl_layer.specs.Changes.{KeepsAllButFacts, with_loaders}
use Rattle.jl_layer.specs.Layers.{State, IsConfiguration, IsLayer, named_in}
use Rattle.jl_layer.specs.Leads.{boot_layer}
use Rattle.jl_layer.specs.Keeping.{AreKept}
use Rattle.jl_layer.specs.Defining.{Asked, asked_modules, boot, IsAsBefore, IsDefined}
use Rattle.jl_layer.specs.Refusals.{Applies, AppliesToBoot}
use Rattle.jl_layer.specs.Laws.{Grows}
use Rattle.jl_layer.specs.Sound.{AreSound}
use Rattle.jl_layer.proofs.Calls.{defined_sound, define_grows, boot_sound, boot_grows, IsAlike, alike_sound, alike_grows, before_alike}
use Rattle.jl_layer.proofs.Taken.{same_before}
use Rattle.jl_layer.proofs.KeptBehind.{kept_of, configuration_zero}

-- a configuration that is there has few modules
pub few_of : (known : List Configuration) (c : ConfigId) → AreKept [] known → c.0 ≤ length known → length (configuration_of known c).modules ≤ most_modules
few_of known c kept le = by c.0 refl
  where
    by : (n : ℕ) → c.0 ≡ n → length (configuration_of known c).modules ≤ most_modules
    by zero e = subst (λ (g : Configuration). length g.modules ≤ most_modules) (sym (configuration_zero known c e)) (omega arith)
    by (suc n) e = let r = kept_of known c kept (omega arith) le in r.2.few_modules

-- what is not refused is few
pub few_if_not_refused : (s : State) (q : Asked) → ((f : LayerFault) → Applies s q f → ⊥) → length s.modules + length (asked_modules s q) ≤ most_modules
few_if_not_refused s q none =
    ⊎_elim (λ lt. absurd (none TooMany (inl lt))) (λ le. le) (cases_lt most_modules (length s.modules + length (asked_modules s q)))

pub after_define : (old new : State) (q : Asked) (r : Result LayerId LayerFault) → AreSound old → 0 < length old.layers → IsConfiguration old q.config → All (IsLayer old) q.parents
    → OnOk r (IsDefined old q new) → new.loaders.base ≡ old.loaders.base → OnOk r ((f : LayerFault) → Applies old q f → ⊥) → OnErr r (IsAsBefore old new) → AreSound new × Grows old new
after_define old new q (Ok l) sound lt known parents defined base none before = (defined_sound old new q sound lt known parents none defined base, define_grows old new q defined base)
after_define old new q (Err e) sound lt known parents defined base none before = (alike_sound old new (before_alike old new before) sound, alike_grows old new (before_alike old new before))

pub after_boot : (old new : State) (c : ConfigId) (r : Result LayerId LayerFault) → AreSound old → old.layers ≡ [] → IsConfiguration old c
    → (o : Observed) × Contains (configuration_of old.configurations c).modules o × (name_of o ≡ codes "java.base") → (configuration_of old.configurations c).parents ≡ record { 0 = 0 } ∷ []
    → OnOk r (IsDefined old (boot c) new) → OnOk r (new.loaders.base ≡ named_in new boot_layer (codes "java.base")) → OnOk r ((f : LayerFault) → AppliesToBoot old (boot c) f → ⊥) → OnErr r (IsAsBefore old new) → AreSound new × Grows old new
after_boot old new c (Ok l) sound first known base parents defined based none before = (boot_sound old new c sound first known base parents none defined based, boot_grows old new c sound first defined)
after_boot old new c (Err e) sound first known base parents defined based none before = (alike_sound old new (before_alike old new before) sound, alike_grows old new (before_alike old new before))

-- a statement more, or none
stated_alike : (old new : State) → KeepsAllButFacts old new → access.Grows old.facts new.facts → new.facts.modules ≡ old.facts.modules → IsAlike old new
stated_alike old new others grows same = record {
  configurations = others.configurations;
  layers = others.layers;
  modules = others.modules;
  loaders = ap (λ l. l.loaders) others.loaders;
  base = ap (λ l. l.base) others.loaders;
  declared = same;
  statements = grows.statements;
}

pub after_adding : {T E : Type 0} (old new : State) (x : Statement) (r : Result T E) → AreSound old → OnOk r (access.Adds x old.facts new.facts) → OnErr r (access.IsAsBefore old.facts new.facts) → KeepsAllButFacts old new → AreSound new × Grows old new
after_adding old new x (Ok l) sound adds before others =
    let same = stated_alike old new others (record { modules = ([], adds.modules ∙ sym (append-nil old.facts.modules)); statements = (x ∷ [], adds.statements) }) adds.modules in
    (alike_sound old new same sound, alike_grows old new same)
after_adding old new x (Err e) sound adds before others =
    let same = stated_alike old new others (record { modules = ([], before.modules ∙ sym (append-nil old.facts.modules)); statements = ([], before.statements ∙ sym (append-nil old.facts.statements)) }) before.modules in
    (alike_sound old new same sound, alike_grows old new same)

-- the same but for constraints
constrained_alike : (old : State) (name : List ℕ) (a b : LoaderId) → IsAlike old (with_loaders (with_constraint name a b old.loaders) old)
constrained_alike old name a b = record {
  configurations = refl;
  layers = refl;
  modules = refl;
  loaders = refl;
  base = refl;
  declared = refl;
  statements = ([], sym (append-nil old.facts.statements));
}

pub after_imposing : {T E : Type 0} (old new : State) (name : List ℕ) (a b : LoaderId) (r : Result T E) → AreSound old → OnOk r (new ≡ with_loaders (with_constraint name a b old.loaders) old) → OnErr r (new ≡ old) → AreSound new × Grows old new
after_imposing old new name a b (Ok l) sound adds before =
    let t : State = with_loaders (with_constraint name a b old.loaders) old in
    let same : IsAlike old t = constrained_alike old name a b in
    (subst AreSound (sym adds) (alike_sound old t same sound), subst (Grows old) (sym adds) (alike_grows old t same))
after_imposing old new name a b (Err e) sound adds before =
    let same : IsAlike old new = before_alike old new (same_before old new before) in
    (alike_sound old new same sound, alike_grows old new same)
