-- What a defined layer adds to the counts (`ModuleLayer.defineModules`).
use Rattle.std.proofs.Common.{◌≡◌, ◌+◌, ℕ, suc, List, [], ◌∷◌, ◌++◌, length, length-append, map, refl, sym, ◌∙◌, ap, arith}
use Rattle.std.proofs.lemmas.List.{length-map}
use Rattle.std.proofs.lemmas.List.FromFn.{length-map-range_with_len}
use Rattle.jl_prim.specs.declared.numbers.ConfigId.{ConfigId}
use Rattle.jl_prim.specs.declared.numbers.LayerId.{LayerId}
use Rattle.jl_prim.specs.declared.numbers.LoaderId.{LoaderId}
use Rattle.jl_prim.specs.declared.declaration.Observed.{Observed}
use Rattle.jl_config.specs.Configurations.{Configuration}
use Rattle.jl_config.specs.Located.{configuration_of}
use Rattle.jl_layer.specs.declared.layer.Mode.{Mode}
use Rattle.jl_layer.specs.declared.layer.Mode.TheVariants.{One, Many}
use Rattle.jl_layer.specs.Layers.{State}
use Rattle.jl_layer.specs.Defining.{Asked, boot, asked_modules, members, new_members, new_layer, new_loaders, next_layer, next_loader, loader_count, parts_of, placed, declared_module, IsDefined}
use Rattle.jl_link_tests.specs.Counts.{AreCounts}

length_members : (mode : Mode) (layer : LayerId) (n : ℕ) (os : List Observed) → length (members mode layer n os) ≡ length os
unfolding members
length_members One layer n [] = refl
length_members Many layer n [] = refl
length_members One layer n (o ∷ os) = ap suc (length_members One layer n os)
length_members Many layer n (o ∷ os) = ap suc (length_members Many layer (n + 1) os)

counts_defined : (old new : State) (q : Asked) (layers modules loaders : ℕ) → AreCounts old layers modules loaders → IsDefined old q new
    → AreCounts new (layers + 1) (modules + length (asked_modules old q)) (loaders + loader_count q.mode (asked_modules old q))
counts_defined old new q layers modules loaders c d =
    let os = asked_modules old q in
    let count : length (new_members old q) ≡ length os = length_members q.mode (next_layer old) (next_loader old) os in
    let facts : length (map declared_module (new_members old q)) ≡ length (new_members old q) = length-map (new_members old q) declared_module in
    let parts = parts_of (placed old q) (next_layer old) in
    let led : length (map parts (new_loaders old q)) ≡ loader_count q.mode os =
    length-map (new_loaders old q) parts ∙ length-map-range_with_len (λ (n : ℕ). let l : LoaderId = record { 0 = n } in l) (next_loader old) (loader_count q.mode os) in
    let added : length new.layers ≡ length (old.layers ++ new_layer old q ∷ []) = ap length d.layers in
    let more : length new.modules ≡ length (old.modules ++ new_members old q) = ap length d.modules in
    let known : length new.facts.modules ≡ length (old.facts.modules ++ map declared_module (new_members old q)) = ap length d.facts in
    let others : length new.loaders.loaders ≡ length (old.loaders.loaders ++ map parts (new_loaders old q)) = ap length d.loaders in
    record {
      layers = omega (arith, added, c.layers, length-append old.layers (new_layer old q ∷ []));
      modules = omega (arith, more, c.modules, count, length-append old.modules (new_members old q));
      facts = omega (arith, known, c.facts, count, facts, length-append old.facts.modules (map declared_module (new_members old q)));
      loaders = omega (arith, others, c.loaders, led, length-append old.loaders.loaders (map parts (new_loaders old q)));
    }

pub counts_by : (old new : State) (q : Asked) (defined placed led : ℕ) (known : List Configuration) (os : List Observed) (n : ℕ) → AreCounts old defined placed led → IsDefined old q new
    → known ≡ old.configurations → os ≡ (configuration_of known q.config).modules → n ≡ loader_count q.mode os → AreCounts new (defined + 1) (placed + length os) (led + n)
counts_by old new q defined placed led known os n c d e f g =
    let same : asked_modules old q ≡ os = sym (f ∙ ap (λ (k : List Configuration). (configuration_of k q.config).modules) e) in
    let counts = counts_defined old new q defined placed led c d in
    record {
      layers = counts.layers;
      modules = counts.modules ∙ ap (λ (xs : List Observed). placed + length xs) same;
      facts = counts.facts ∙ ap (λ (xs : List Observed). placed + length xs) same;
      loaders = counts.loaders ∙ ap (λ (xs : List Observed). led + loader_count q.mode xs) same ∙ ap (λ (k : ℕ). led + k) (sym g);
    }
