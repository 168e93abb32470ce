-- The modules of a new layer, one by one (`ModuleLayer.defineModules`).
use Rattle.std.proofs.Common.{◌≡◌, ◌<◌, ◌+◌, ℕ, suc, List, [], ◌∷◌, ◌++◌, length, take, get_or, refl, sym, ◌∙◌, ap, arith}
use Rattle.std.proofs.lemmas.List.{take_more, length-take}
use Rattle.jl_prim.specs.declared.numbers.LayerId.{LayerId}
use Rattle.jl_prim.specs.declared.declaration.Observed.{Observed}
use Rattle.jl_layer.specs.declared.layer.Member.{Member}
use Rattle.jl_layer.specs.declared.layer.Mode.{Mode}
use Rattle.jl_layer.specs.declared.layer.Mode.TheVariants.{One, Many}
use Rattle.jl_layer.specs.Defining.{members}
use Rattle.jl_layer.specs.Placing.{loader_place}

-- a module with the loader with a number
abbrev pub with_number : LayerId → Observed → ℕ → Member
with_number layer o k = record { layer = layer; loader = record { 0 = k }; observed = o }

pub no_members : (mode : Mode) (layer : LayerId) (n : ℕ) → [] ≡ members mode layer n []
unfolding members
no_members One layer n = refl
no_members Many layer n = refl

members_more : (mode : Mode) (layer : LayerId) (n : ℕ) (xs : List Observed) (o : Observed) → members mode layer n (xs ++ o ∷ []) ≡ members mode layer n xs ++ with_number layer o (n + loader_place mode (length xs)) ∷ []
unfolding members
members_more One layer n [] o = let e : n ≡ n + 0 = omega arith in ap (λ (k : ℕ). with_number layer o k ∷ []) e
members_more Many layer n [] o = let e : n ≡ n + 0 = omega arith in ap (λ (k : ℕ). with_number layer o k ∷ []) e
members_more One layer n (x ∷ xs) o = ap (λ (l : List Member). with_number layer x n ∷ l) (members_more One layer n xs o)
members_more Many layer n (x ∷ xs) o =
    let e : n + 1 + length xs ≡ n + suc (length xs) = omega arith in
    ap (λ (l : List Member). with_number layer x n ∷ l) (members_more Many layer (n + 1) xs o ∙ ap (λ (k : ℕ). members Many layer (n + 1) xs ++ with_number layer o k ∷ []) e)

pub members_step : (mode : Mode) (layer : LayerId) (n i : ℕ) (os : List Observed) (o : Observed) (old new : List Member) → i < length os → o ≡ get_or os i o → old ≡ members mode layer n (take i os) → new ≡ old ++ with_number layer o (n + loader_place mode i) ∷ [] → new ≡ members mode layer n (take (i + 1) os)
members_step mode layer n i os o old new lt is e f =
    let long : i ≡ length (take i os) = omega (arith, length-take i os) in
    f
    ∙ ap (λ (l : List Member). l ++ with_number layer o (n + loader_place mode i) ∷ []) e
    ∙ ap (λ (k : ℕ). members mode layer n (take i os) ++ with_number layer o (n + loader_place mode k) ∷ []) long
    ∙ sym (members_more mode layer n (take i os) o)
    ∙ ap (members mode layer n) (ap (λ (x : Observed). take i os ++ x ∷ []) is ∙ sym (take_more os i o lt))
