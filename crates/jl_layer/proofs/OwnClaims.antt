-- What modules claim, one by one (`java.lang.LayerInstantiationException`), and configurations of parents in order.
use Rattle.std.proofs.Common.{◌≡◌, ◌<◌, ◌+◌, ℕ, zero, suc, List, [], ◌∷◌, ◌++◌, length, map, take, get_or, refl, sym, ◌∙◌, ap, ap₂, append_assoc, arith}
use Rattle.std.proofs.lemmas.List.{take_more, length-take, length-map, append-nil}
use Rattle.jl_prim.specs.declared.numbers.ConfigId.{ConfigId}
use Rattle.jl_prim.specs.declared.numbers.LayerId.{LayerId}
use Rattle.jl_prim.specs.declared.declaration.Observed.{Observed}
use Rattle.jl_layer.specs.declared.claims.Claim.{Claim}
use Rattle.jl_layer.specs.Layers.{State, layer_at}
use Rattle.jl_layer.specs.Claims.{claims_by, own_claims}
use Rattle.jl_layer.specs.Deciding.{config_at}

own_more : (n : ℕ) (xs : List Observed) (o : Observed) → own_claims n (xs ++ o ∷ []) ≡ own_claims n xs ++ claims_by (n + length xs) o
own_more n [] o = let e : n ≡ n + 0 = omega arith in append-nil (claims_by n o) ∙ ap (λ (k : ℕ). claims_by k o) e
own_more n (x ∷ xs) o =
    let e : n + 1 + length xs ≡ n + suc (length xs) = omega arith in
    ap (λ (l : List Claim). claims_by n x ++ l) (own_more (n + 1) xs o ∙ ap (λ (k : ℕ). own_claims (n + 1) xs ++ claims_by k o) e)
    ∙ sym (append_assoc (claims_by n x) (own_claims (n + 1) xs) (claims_by (n + suc (length xs)) o))

pub own_claims_step : (os : List Observed) (i : ℕ) (o : Observed) (old new : List Claim) → i < length os → o ≡ get_or os i o → old ≡ own_claims 0 (take i os) → new ≡ old ++ claims_by i o → new ≡ own_claims 0 (take (i + 1) os)
own_claims_step os i o old new lt is e f =
    let long : i ≡ 0 + length (take i os) = omega (arith, length-take i os) in
    f ∙ ap₂ (λ (l : List Claim) (k : ℕ). l ++ claims_by k o) e long ∙ sym (own_more 0 (take i os) o)
    ∙ ap (own_claims 0) (ap (λ (x : Observed). take i os ++ x ∷ []) is ∙ sym (take_more os i o lt))

-- lists of numbers that agree at each place are the same
same_configs : (xs ys : List ConfigId) → length xs ≡ length ys → ((k : ℕ) → k < length xs → (get_or xs k (record { 0 = 0 })).0 ≡ (get_or ys k (record { 0 = 0 })).0) → xs ≡ ys
same_configs [] [] e h = refl
same_configs [] (y ∷ ys) e h = absurd (omega arith)
same_configs (x ∷ xs) [] e h = absurd (omega arith)
same_configs (x ∷ xs) (y ∷ ys) e h =
    ap₂ (λ (c : ℕ) (l : List ConfigId). let k : ConfigId = record { 0 = c } in k ∷ l) (h 0 (omega arith)) (same_configs xs ys (omega arith) (λ k lt. h (suc k) (omega arith)))

config_mapped : (s : State) (ls : List LayerId) (k : ℕ) → k < length ls → (get_or (map (λ (l : LayerId). (layer_at s l).config) ls) k (record { 0 = 0 })).0 ≡ config_at s ls k
config_mapped s [] k lt = absurd (omega arith)
config_mapped s (l ∷ ls) zero lt = refl
config_mapped s (l ∷ ls) (suc k) lt = config_mapped s ls k (omega arith)

module _ (s : State) (ls : List LayerId) (wanted : List ConfigId) where
  pub all_match : length wanted ≡ length ls → ((k : ℕ) → k < length ls → config_at s ls k ≡ (get_or wanted k (record { 0 = 0 })).0) → map (λ (l : LayerId). (layer_at s l).config) ls ≡ wanted
  all_match e h =
      same_configs (map (λ (l : LayerId). (layer_at s l).config) ls) wanted (length-map ls (λ (l : LayerId). (layer_at s l).config) ∙ sym e)
      (λ k lt. let in_ls : k < length ls = omega (arith, lt, length-map ls (λ (l : LayerId). (layer_at s l).config)) in config_mapped s ls k in_ls ∙ h k in_ls)

  pub long_if_match : map (λ (l : LayerId). (layer_at s l).config) ls ≡ wanted → length wanted ≡ length ls
  long_if_match e = sym (ap (λ (l : List ConfigId). length l) e) ∙ length-map ls (λ (l : LayerId). (layer_at s l).config)

  pub each_matches : map (λ (l : LayerId). (layer_at s l).config) ls ≡ wanted → (k : ℕ) → k < length ls → config_at s ls k ≡ (get_or wanted k (record { 0 = 0 })).0
  each_matches e k lt = sym (config_mapped s ls k lt) ∙ ap (λ (l : List ConfigId). (get_or l k (record { 0 = 0 })).0) e
