-- The layers above one, each once at its first place: how a name is looked for (`ModuleLayer.findModule`). No public clause cites these.
use Rattle.std.specs.Prelude.{◌≡◌, ℕ, zero, suc, ◌+◌, ◌-◌, ◌<◌, ◌≤◌, List, [], ◌∷◌, ◌++◌, length, Bool, ◌==◌, ◌&&◌, nat_le, nat_lt, if◌then◌else◌, slice_index_or, Contains}
use Rattle.std.specs.List.{flat_map, list_any}
use Rattle.jl_prim.specs.declared.numbers.LayerId.{LayerId}
use Rattle.jl_layer.specs.declared.layer.Layer.{Layer}
use Rattle.jl_layer.specs.Layers.{empty_layer}

-- the layer with a number, among layers
abbrev pub layer_in : List Layer → LayerId → Layer
layer_in layers l = slice_index_or (empty_layer ∷ layers) l.0 empty_layer

-- some layers, each followed by its own parents and theirs, n deep
unfoldable pub line_in : ℕ → List Layer → List LayerId → List LayerId
line_in zero layers ls = []
line_in (suc n) layers ls = flat_map (λ (l : LayerId). l ∷ line_in n layers (layer_in layers l).parents) ls

-- some layers and those above them
abbrev pub above_in : List Layer → List LayerId → List LayerId
above_in layers ls = line_in (length layers + 1) layers ls

-- the same layer
abbrev pub is_layer : LayerId → LayerId → Bool
is_layer k l = l.0 == k.0

-- layers with one more behind them, unless it is among them
abbrev pub with_layer : List LayerId → LayerId → List LayerId
with_layer ls k = if list_any (is_layer k) ls then ls else ls ++ k ∷ []

-- layers with more behind them, each once at its first place
abbrev pub joined : List LayerId → List LayerId → List LayerId
joined ls [] = ls
joined ls (k ∷ ks) = joined (with_layer ls k) ks

-- the layer and those above it, each once at its first place
abbrev pub line_of : List Layer → LayerId → List LayerId
line_of layers l = joined [] (above_in layers (l ∷ []))

-- that of a layer that is there, but for the empty one
abbrev pub kept_line : List Layer → LayerId → List LayerId
kept_line layers l = if nat_lt 0 l.0 && nat_le l.0 (length layers) then line_of layers l else []

-- A line is kept for each layer, whose parents have lower numbers.
pub record AreLines (layers : List Layer) (lines : List (List LayerId)) : Type 0 where
  pub one_each : length lines ≡ length layers
  pub below : (l p : LayerId) → Contains (layer_in layers l).parents p → p.0 < l.0
  pub is : (l : LayerId) → 0 < l.0 → l.0 ≤ length layers → slice_index_or lines (l.0 - 1) [] ≡ line_of layers l
