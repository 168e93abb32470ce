-- The lines that are kept of layers: one more with a new layer, and fewer where layers are taken back (`ModuleLayer`).
use Rattle.std.proofs.Common.{◌≡◌, ◌⊎◌, ◌<◌, ◌≤◌, ◌+◌, ◌-◌, ℕ, List, [], ◌∷◌, ◌++◌, length, get_or, take, drop, inl, inr, refl, sym, ◌∙◌, ap, subst, min, arith}
use Rattle.std.specs.Prelude.{Contains}
use Rattle.std.proofs.lemmas.Bool.{cases_lt}
use Rattle.std.proofs.lemmas.List.{get_or_append_left, get_or_push, length_push, get_or-take, length-take, get_or_past, take-append-drop}
use Rattle.jl_logic.specs.Lists.{IsFront}
use Rattle.jl_logic.proofs.Rising.{contains_nothing}
use Rattle.jl_prim.specs.declared.numbers.LayerId.{LayerId}
use Rattle.jl_layer.specs.declared.layer.Layer.{Layer}
use Rattle.jl_layer.specs.Layers.{empty_layer}
use Rattle.jl_layer.specs.Lines.{layer_in, above_in, joined, line_of, AreLines}
use Rattle.jl_layer.proofs.Listed.{front_or}
use Rattle.jl_layer.proofs.LayerLines.{AreBelow, line_parents, line_still, above_still}

-- no layers have no lines
pub no_lines : AreLines [] []
no_lines = record { one_each = refl; below = λ l p c. contains_nothing p (subst (λ (x : Layer). Contains x.parents p) (none l) c); is = λ l lt le. absurd (omega arith) }
  where
    none : (l : LayerId) → layer_in [] l ≡ empty_layer
    none l = by (cases_lt 0 l.0)
      where
        by : (0 < l.0) ⊎ (l.0 ≤ 0) → layer_in [] l ≡ empty_layer
        by (inl lt) = get_or_past (empty_layer ∷ []) l.0 empty_layer (omega arith)
        by (inr le) = let e : l.0 ≡ 0 = omega arith in ap (λ (n : ℕ). get_or (empty_layer ∷ []) n empty_layer) e

-- ---- one more layer

module _ (layers : List Layer) (lines : List (List LayerId)) (h : AreLines layers lines) (x : Layer) (parents : (p : LayerId) → Contains x.parents p → p.0 ≤ length layers) (next : LayerId) (number : next.0 ≡ length layers + 1) where
  abbrev More : List Layer
  More = layers ++ x ∷ []

  front : IsFront layers More
  front = (x ∷ [], refl)

  last_layer : (l : LayerId) → l.0 ≡ length layers + 1 → layer_in More l ≡ x
  last_layer l e = get_or_push (empty_layer ∷ layers) x empty_layer l.0 (omega arith)

  more_below : AreBelow More
  more_below l p c = by (cases_lt l.0 (length layers + 1)) c
    where
      past : length layers + 1 ≤ l.0 → (length layers + 1 < l.0) ⊎ (l.0 ≤ length layers + 1) → Contains (layer_in More l).parents p → p.0 < l.0
      past ge (inl gt) d =
          contains_nothing p (subst (λ (y : Layer). Contains y.parents p) (get_or_past (empty_layer ∷ More) l.0 empty_layer (omega (arith, length_push layers x))) d)
      past ge (inr le) d =
          let low : p.0 ≤ length layers = parents p (subst (λ (y : Layer). Contains y.parents p) (last_layer l (omega arith)) d) in
          omega arith

      by : (l.0 < length layers + 1) ⊎ (length layers + 1 ≤ l.0) → Contains (layer_in More l).parents p → p.0 < l.0
      by (inl lt) d = h.below l p (subst (λ (y : Layer). Contains y.parents p) (front_or empty_layer layers More l.0 front (omega arith)) d)
      by (inr ge) d = past ge (cases_lt (length layers + 1) l.0) d

  line_last : (l : LayerId) → l ≡ next → line_of More l ≡ joined (next ∷ []) (above_in layers x.parents)
  line_last l e =
      ap (line_of More) e
      ∙ line_parents More next more_below (omega (arith, length_push layers x))
      ∙ ap (λ (y : Layer). joined (next ∷ []) (above_in More y.parents)) (last_layer next number)
      ∙ ap (joined (next ∷ [])) (above_still layers More front h.below x.parents parents)

  -- its line is it, and then those above its parents
  pub more_lines : AreLines More (lines ++ joined (next ∷ []) (above_in layers x.parents) ∷ [])
  more_lines = record {
    one_each = omega (arith, h.one_each, length_push layers x, length_push lines (joined (next ∷ []) (above_in layers x.parents)));
    below = more_below;
    is = λ l lt le. at l lt (cases_lt l.0 (length layers + 1)) (let k : l.0 ≤ length layers + 1 = omega (arith, length_push layers x) in k);
  }
    where
      at : (l : LayerId) → 0 < l.0 → (l.0 < length layers + 1) ⊎ (length layers + 1 ≤ l.0) → l.0 ≤ length layers + 1 → get_or (lines ++ joined (next ∷ []) (above_in layers x.parents) ∷ []) (l.0 - 1) [] ≡ line_of More l
      at l lt (inl low) le =
          get_or_append_left lines (joined (next ∷ []) (above_in layers x.parents) ∷ []) [] (l.0 - 1) (omega (arith, h.one_each))
          ∙ h.is l lt (omega arith)
          ∙ sym (line_still layers More front h.below l (omega arith))
      at l lt (inr ge) le =
          let e : l.0 ≡ next.0 = omega arith in
          let same : l ≡ next = ap (λ (n : ℕ). let k : LayerId = record { 0 = n } in k) e in
          get_or_push lines (joined (next ∷ []) (above_in layers x.parents)) [] (l.0 - 1) (omega (arith, h.one_each)) ∙ sym (line_last l same)

-- ---- fewer layers

module _ (layers : List Layer) (lines : List (List LayerId)) (h : AreLines layers lines) (n : ℕ) where
  front_taken : IsFront (take n layers) layers
  front_taken = (drop n layers, sym (take-append-drop n layers))

  fewer_below : AreBelow (take n layers)
  fewer_below l p c = by (cases_lt (length (take n layers)) l.0)
    where
      by : (length (take n layers) < l.0) ⊎ (l.0 ≤ length (take n layers)) → p.0 < l.0
      by (inl gt) = contains_nothing p (subst (λ (y : Layer). Contains y.parents p) (get_or_past (empty_layer ∷ take n layers) l.0 empty_layer (omega arith)) c)
      by (inr le) = h.below l p (subst (λ (y : Layer). Contains y.parents p) (sym (front_or empty_layer (take n layers) layers l.0 front_taken le)) c)

  pub fewer_lines : AreLines (take n layers) (take n lines)
  fewer_lines = record {
    one_each = length-take n lines ∙ ap (min n) h.one_each ∙ sym (length-take n layers);
    below = fewer_below;
    is = λ l lt le. at l lt le;
  }
    where
      at : (l : LayerId) → 0 < l.0 → l.0 ≤ length (take n layers) → get_or (take n lines) (l.0 - 1) [] ≡ line_of (take n layers) l
      at l lt le =
          get_or-take n lines (l.0 - 1) [] (omega (arith, length-take n layers))
          ∙ h.is l lt (omega (arith, length-take n layers))
          ∙ line_still (take n layers) layers front_taken fewer_below l le
