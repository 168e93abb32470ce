-- How far the refusals of a layer are decided (`ModuleLayer.defineModules`). No public clause cites these.
use Rattle.std.specs.Prelude.{◌≡◌, ℕ, ◌≤◌, List, Option, None, Some, MatchOption, IsSorted, IsPermutation, option_map, slice_index_or}
use Rattle.jl_logic.specs.Order.{IsLeast}
use Rattle.jl_layer.specs.declared.claims.Claim.{Claim}
use Rattle.jl_layer.specs.declared.claims.Clash.{Clash}
use Rattle.jl_layer.specs.declared.fault.LayerFault.TheVariants.{Overlap, Split}
use Rattle.jl_layer.specs.Claims.{IsClashOf, claim_cmp, clash_cmp}
use Rattle.jl_prim.specs.declared.numbers.LayerId.{LayerId}
use Rattle.jl_layer.specs.Layers.{State, layer_at}
use Rattle.std.specs.List.{filter, flat_map}
use Rattle.jl_prim.specs.declared.declaration.Observed.{Observed}
use Rattle.jl_layer.specs.declared.fault.LayerFault.{LayerFault}
use Rattle.jl_layer.specs.Refusals.{rank, Refuses, is_java}

-- no refusal applies that is decided before the k-th
abbrev pub StartsAt : (LayerFault → Type 0) → ℕ → Type 0
StartsAt P k = (f : LayerFault) → P f → k ≤ rank f

-- the refusal is the answer, or none applies before the k-th
abbrev pub Settles : (LayerFault → Type 0) → ℕ → Option LayerFault → Type 0
Settles P k None = StartsAt P k
Settles P k (Some f) = Refuses P f

-- the packages of modules that are Java's
abbrev pub java_packages : List Observed → List (List ℕ)
java_packages os = flat_map (λ (o : Observed). filter is_java o.declaration.packages) os

-- the number of the configuration of the layer at a place
abbrev pub config_at : State → List LayerId → ℕ → ℕ
config_at s ls k = (layer_at s (slice_index_or ls k (record { 0 = 0 }))).config.0

-- the clash is the least, or there is none
abbrev pub IsLeastClash : List Claim → Option Clash → Type 0
IsLeastClash claims o = MatchOption o ((c : Clash) → IsClashOf claims c → ⊥) (IsLeast clash_cmp (IsClashOf claims))

-- the refusals by clashes
abbrev pub overlap_fault : Clash → LayerFault
overlap_fault c = Overlap c.«package» c.one c.other

abbrev pub split_fault : Clash → LayerFault
split_fault c = Split c.«package» c.one c.other

-- a refusal by the least clash of claims, if there is one
abbrev pub IsByClash : (Clash → LayerFault) → List Claim → Option LayerFault → Type 0
IsByClash make claims found = (o : Option Clash) × IsLeastClash claims o × (found ≡ option_map make o)

-- the claims in order
pub record AreOrdered (claims sorted : List Claim) : Type 0 where
  pub order : IsSorted claim_cmp sorted
  pub same : IsPermutation claims sorted
