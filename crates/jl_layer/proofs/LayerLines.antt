-- Lines of layers: what is above a layer depends on the layers before it, and a search meets the same in a line (`ModuleLayer.findModule`).
use Rattle.std.proofs.Common.{◌≡◌, ◌⊎◌, ◌<◌, ◌≤◌, ◌+◌, ◌&&◌, ℕ, zero, suc, List, [], ◌∷◌, ◌++◌, length, get_or, Option, Some, None, Bool, nat_lt, nat_le, if◌then◌else◌, inl, inr, refl, sym, ◌∙◌, ap, ap₂, subst, append-nil, add-one, arith}
use Rattle.std.specs.Prelude.{Contains}
use Rattle.std.specs.Option.{option_or}
use Rattle.std.proofs.lemmas.Bool.{cases_lt, lt-ltb, le-leb, lt-leb}
use Rattle.std.proofs.lemmas.List.{get_or_past}
use Rattle.std.proofs.lemmas.List.Concat.{flat_map-append}
use Rattle.jl_logic.specs.Lists.{IsFront}
use Rattle.jl_logic.proofs.Rising.{contains_head, contains_nothing, contains_cases}
use Rattle.jl_prim.specs.declared.numbers.LayerId.{LayerId}
use Rattle.jl_layer.specs.declared.layer.Layer.{Layer}
use Rattle.jl_layer.specs.Layers.{State, empty_layer, line, above, first_given}
use Rattle.jl_layer.specs.Lines.{layer_in, line_in, above_in, with_layer, joined, line_of, kept_line}
use Rattle.jl_layer.proofs.Listed.{front_or, front_long, flat_map_alike}
use Rattle.jl_layer.proofs.EachOnce.{with_itself, joined_append, joined_once, first_append, first_joined}

-- ---- the same as the lines of a state

line_is : (n : ℕ) (s : State) (ls : List LayerId) → line n s ls ≡ line_in n s.layers ls
unfolding line line_in
line_is zero s ls = refl
line_is (suc n) s ls =
    flat_map_alike (λ (l : LayerId). l ∷ line n s (layer_in s.layers l).parents) (λ (l : LayerId). l ∷ line_in n s.layers (layer_in s.layers l).parents) ls
    (λ l c. ap (λ (ks : List LayerId). l ∷ ks) (line_is n s (layer_in s.layers l).parents))

pub above_is : (s : State) (ls : List LayerId) → above s ls ≡ above_in s.layers ls
above_is s ls = line_is (length s.layers + 1) s ls

-- ---- how lines begin

lines_append : (n : ℕ) (layers : List Layer) (xs ys : List LayerId) → line_in n layers (xs ++ ys) ≡ line_in n layers xs ++ line_in n layers ys
unfolding line_in
lines_append zero layers xs ys = refl
lines_append (suc n) layers xs ys = flat_map-append (λ (l : LayerId). l ∷ line_in n layers (layer_in layers l).parents) xs ys

pub above_append : (layers : List Layer) (xs ys : List LayerId) → above_in layers (xs ++ ys) ≡ above_in layers xs ++ above_in layers ys
above_append layers xs ys = lines_append (length layers + 1) layers xs ys

lines_nothing : (n : ℕ) (layers : List Layer) → line_in n layers [] ≡ []
unfolding line_in
lines_nothing zero layers = refl
lines_nothing (suc n) layers = refl

pub above_none : (layers : List Layer) → above_in layers [] ≡ []
above_none layers = lines_nothing (length layers + 1) layers

line_one : (n : ℕ) (layers : List Layer) (l : LayerId) → line_in (suc n) layers (l ∷ []) ≡ l ∷ line_in n layers (layer_in layers l).parents
unfolding line_in
line_one n layers l = append-nil (l ∷ line_in n layers (layer_in layers l).parents)

one_first : (layers : List Layer) (l : LayerId) → above_in layers (l ∷ []) ≡ l ∷ line_in (length layers) layers (layer_in layers l).parents
one_first layers l = ap (λ (n : ℕ). line_in n layers (l ∷ [])) (add-one (length layers)) ∙ line_one (length layers) layers l

-- a line begins with its layer
pub line_first : (layers : List Layer) (l : LayerId) → line_of layers l ≡ joined (l ∷ []) (line_in (length layers) layers (layer_in layers l).parents)
line_first layers l = ap (joined []) (one_first layers l)

-- above the empty layer, and above none, there is nothing
line_alone : (layers : List Layer) (l : LayerId) → layer_in layers l ≡ empty_layer → line_of layers l ≡ l ∷ []
line_alone layers l e = line_first layers l ∙ ap (λ (x : Layer). joined (l ∷ []) (line_in (length layers) layers x.parents)) e ∙ ap (joined (l ∷ [])) (lines_nothing (length layers) layers)

-- ---- where parents have lower numbers

abbrev pub AreBelow : List Layer → Type 0
AreBelow layers = (l p : LayerId) → Contains (layer_in layers l).parents p → p.0 < l.0

lines_deep : (layers : List Layer) → AreBelow layers → (n m : ℕ) (ls : List LayerId) → ((p : LayerId) → Contains ls p → (p.0 < n) × (p.0 < m)) → line_in n layers ls ≡ line_in m layers ls
unfolding line_in
lines_deep layers below zero zero ls h = refl
lines_deep layers below zero (suc m) [] h = refl
lines_deep layers below zero (suc m) (p ∷ ls) h = let r = h p (contains_head p ls) in absurd (omega (arith, r.0))
lines_deep layers below (suc n) zero [] h = refl
lines_deep layers below (suc n) zero (p ∷ ls) h = let r = h p (contains_head p ls) in absurd (omega (arith, r.1))
lines_deep layers below (suc n) (suc m) ls h =
    flat_map_alike (λ (l : LayerId). l ∷ line_in n layers (layer_in layers l).parents) (λ (l : LayerId). l ∷ line_in m layers (layer_in layers l).parents) ls
    (λ p c. ap (λ (ks : List LayerId). p ∷ ks) (lines_deep layers below n m (layer_in layers p).parents (λ r d. lower p r (h p c) d)))
  where
    lower : (p r : LayerId) → (p.0 < suc n) × (p.0 < suc m) → Contains (layer_in layers p).parents r → (r.0 < n) × (r.0 < m)
    lower p r h d = let lt : r.0 < p.0 = below p r d in (omega (arith, h.0), omega (arith, h.1))

-- a line goes on with what is above the parents
pub line_parents : (layers : List Layer) (l : LayerId) → AreBelow layers → l.0 ≤ length layers → line_of layers l ≡ joined (l ∷ []) (above_in layers (layer_in layers l).parents)
line_parents layers l below le =
    line_first layers l ∙ ap (joined (l ∷ [])) (lines_deep layers below (length layers) (length layers + 1) (layer_in layers l).parents (λ p c. lower p c))
  where
    lower : (p : LayerId) → Contains (layer_in layers l).parents p → (p.0 < length layers) × (p.0 < length layers + 1)
    lower p c = let lt : p.0 < l.0 = below l p c in (omega arith, omega arith)

-- ---- layers behind those

module _ (old new : List Layer) (front : IsFront old new) (below : AreBelow old) where
  layer_still : (l : LayerId) → l.0 ≤ length old → layer_in new l ≡ layer_in old l
  layer_still l le = front_or empty_layer old new l.0 front le

  lines_still : (n : ℕ) (ls : List LayerId) → ((p : LayerId) → Contains ls p → p.0 ≤ length old) → line_in n new ls ≡ line_in n old ls
  unfolding line_in
  lines_still zero ls there = refl
  lines_still (suc n) ls there =
      flat_map_alike (λ (l : LayerId). l ∷ line_in n new (layer_in new l).parents) (λ (l : LayerId). l ∷ line_in n old (layer_in old l).parents) ls
      (λ p c.
      ap (λ (x : Layer). p ∷ line_in n new x.parents) (layer_still p (there p c))
      ∙ ap (λ (ks : List LayerId). p ∷ ks) (lines_still n (layer_in old p).parents (λ r d. lower p r (there p c) d)))
    where
      lower : (p r : LayerId) → p.0 ≤ length old → Contains (layer_in old p).parents r → r.0 ≤ length old
      lower p r le d = let lt : r.0 < p.0 = below p r d in omega arith

  pub above_still : (ls : List LayerId) → ((p : LayerId) → Contains ls p → p.0 ≤ length old) → above_in new ls ≡ above_in old ls
  above_still ls there =
      let long : length old ≤ length new = front_long old new front in
      lines_still (length new + 1) ls there ∙ lines_deep old below (length new + 1) (length old + 1) ls (λ p c. let le : p.0 ≤ length old = there p c in within p le long)
    where
      within : (p : LayerId) → p.0 ≤ length old → length old ≤ length new → (p.0 < length new + 1) × (p.0 < length old + 1)
      within p le long = (omega arith, omega arith)

  pub line_still : (l : LayerId) → l.0 ≤ length old → line_of new l ≡ line_of old l
  line_still l le = ap (joined []) (above_still (l ∷ []) (λ p c. only p c))
    where
      only : (p : LayerId) → Contains (l ∷ []) p → p.0 ≤ length old
      only p c = elim (contains_cases l p [] c) [ inl e ↦ subst (λ (k : LayerId). k.0 ≤ length old) e le | inr d ↦ contains_nothing p d ]

-- ---- kept lines

-- a line is kept, or there is nothing above the layer
line_cases : (layers : List Layer) (l : LayerId) → (kept_line layers l ≡ line_of layers l) ⊎ ((kept_line layers l ≡ []) × (layer_in layers l ≡ empty_layer))
line_cases layers l = by l.0 refl (cases_lt (length layers) l.0)
  where
    by : (k : ℕ) → l.0 ≡ k → (length layers < l.0) ⊎ (l.0 ≤ length layers) → (kept_line layers l ≡ line_of layers l) ⊎ ((kept_line layers l ≡ []) × (layer_in layers l ≡ empty_layer))
    by zero e r =
        inr (ap (λ (n : ℕ). if nat_lt 0 n && nat_le n (length layers) then line_of layers l else []) e, ap (λ (n : ℕ). get_or (empty_layer ∷ layers) n empty_layer) e)
    by (suc k) e (inl gt) =
        inr (
          ap₂ (λ (a b : Bool). if a && b then line_of layers l else []) (lt-ltb 0 l.0 (omega arith)) (lt-leb l.0 (length layers) gt),
          get_or_past (empty_layer ∷ layers) l.0 empty_layer (omega arith),
        )
    by (suc k) e (inr le) = inl (ap₂ (λ (a b : Bool). if a && b then line_of layers l else []) (lt-ltb 0 l.0 (omega arith)) (le-leb l.0 (length layers) le))

-- a layer that stands at the end of a line is not put there again
with_again : (ls : List LayerId) (k : LayerId) → with_layer (with_layer ls k) k ≡ with_layer ls k
with_again ls k = ap (λ (b : Bool). if b then with_layer ls k else with_layer ls k ++ k ∷ []) (with_itself ls k)

-- a layer and then the line that is kept for it join as its line does
pub kept_joins : (layers : List Layer) (ls : List LayerId) (p : LayerId) → joined (with_layer ls p) (kept_line layers p) ≡ joined ls (line_of layers p)
kept_joins layers ls p = by (line_cases layers p)
  where
    rest : List LayerId
    rest = line_in (length layers) layers (layer_in layers p).parents

    by : (kept_line layers p ≡ line_of layers p) ⊎ ((kept_line layers p ≡ []) × (layer_in layers p ≡ empty_layer)) → joined (with_layer ls p) (kept_line layers p) ≡ joined ls (line_of layers p)
    by (inl e) =
        ap (joined (with_layer ls p)) (e ∙ line_first layers p)
        ∙ joined_once (with_layer ls p) (p ∷ []) rest
        ∙ ap (λ (x : List LayerId). joined x rest) (with_again ls p)
        ∙ sym (joined_once ls (p ∷ []) rest)
        ∙ ap (joined ls) (sym (line_first layers p))
    by (inr (none, alone)) = ap (joined (with_layer ls p)) none ∙ ap (joined ls) (sym (line_alone layers p alone))

-- the line of a layer, and then those of the others
pub lines_join : (layers : List Layer) (ls ps : List LayerId) (p : LayerId) → joined ls (above_in layers (p ∷ ps)) ≡ joined (joined (with_layer ls p) (kept_line layers p)) (above_in layers ps)
lines_join layers ls ps p =
    ap (joined ls) (above_append layers (p ∷ []) ps)
    ∙ joined_append ls (above_in layers (p ∷ [])) (above_in layers ps)
    ∙ ap (λ (x : List LayerId). joined x (above_in layers ps)) (sym (joined_once ls [] (above_in layers (p ∷ []))) ∙ sym (kept_joins layers ls p))

-- ---- searches

module _ {Y : Type 0} (f : LayerId → Option Y) (layers : List Layer) where
  again : (o p : Option Y) → option_or o (option_or o p) ≡ option_or o p
  again None p = refl
  again (Some y) p = refl

  or_nothing : (o : Option Y) → option_or o None ≡ o
  or_nothing None = refl
  or_nothing (Some y) = refl

  first_line : (p : LayerId) → first_given f (line_of layers p) ≡ option_or (option_or (f p) None) (first_given f (line_in (length layers) layers (layer_in layers p).parents))
  first_line p = ap (first_given f) (line_first layers p) ∙ first_joined f (p ∷ []) (line_in (length layers) layers (layer_in layers p).parents)

  -- by a layer, or else in the line that is kept for it
  pub first_kept : (p : LayerId) → option_or (f p) (first_given f (kept_line layers p)) ≡ first_given f (above_in layers (p ∷ []))
  first_kept p = by (line_cases layers p) ∙ first_joined f [] (above_in layers (p ∷ []))
    where
      by : (kept_line layers p ≡ line_of layers p) ⊎ ((kept_line layers p ≡ []) × (layer_in layers p ≡ empty_layer)) → option_or (f p) (first_given f (kept_line layers p)) ≡ first_given f (line_of layers p)
      by (inl e) =
          ap (λ (ks : List LayerId). option_or (f p) (first_given f ks)) e
          ∙ ap (option_or (f p)) (first_line p ∙ ap (λ (o : Option Y). option_or o (first_given f (line_in (length layers) layers (layer_in layers p).parents))) (or_nothing (f p)))
          ∙ again (f p) (first_given f (line_in (length layers) layers (layer_in layers p).parents))
          ∙ sym (first_line p ∙ ap (λ (o : Option Y). option_or o (first_given f (line_in (length layers) layers (layer_in layers p).parents))) (or_nothing (f p)))
      by (inr (none, alone)) = ap (λ (ks : List LayerId). option_or (f p) (first_given f ks)) none ∙ ap (first_given f) (sym (line_alone layers p alone))

-- ---- searches in a state

module _ {Y : Type 0} (f : LayerId → Option Y) (s : State) where
  -- along a layer and those above it, and then along others
  pub first_along : (p : LayerId) (ps : List LayerId) → first_given f (above s (p ∷ ps)) ≡ option_or (option_or (f p) (first_given f (kept_line s.layers p))) (first_given f (above s ps))
  first_along p ps =
      ap (first_given f) (above_is s (p ∷ ps) ∙ above_append s.layers (p ∷ []) ps)
      ∙ first_append f (above_in s.layers (p ∷ [])) (above_in s.layers ps)
      ∙ ap₂ (λ (a b : Option Y). option_or a b) (sym (first_kept f s.layers p)) (ap (first_given f) (sym (above_is s ps)))

  pub first_nowhere : first_given f (above s []) ≡ None
  first_nowhere = ap (first_given f) (above_is s [] ∙ above_none s.layers)

  -- along one layer and those above it
  pub first_alone : (l : LayerId) → option_or (f l) (first_given f (kept_line s.layers l)) ≡ first_given f (above s (l ∷ []))
  first_alone l = first_kept f s.layers l ∙ ap (first_given f) (sym (above_is s (l ∷ [])))
