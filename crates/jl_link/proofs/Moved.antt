-- States that move: by nothing, by what is loaded, and by one change behind another.
use Rattle.std.proofs.Common.{◌≡◌, List, [], ◌++◌, length, map, drop, append_assoc, inr, refl, sym, ◌∙◌, ap, ap₂, subst}
use Rattle.std.proofs.Math.Seq.{drop-length, drop-append_seam}
use Rattle.std.proofs.lemmas.List.{append-nil, map-append}
use Rattle.jl_logic.specs.Lists.{IsFront}
use Rattle.jl_access.specs.Facts as access
use Rattle.jl_loaders.proofs.Sound.{grows_onward}
use Rattle.jl_layer.specs.Layers as layers
use Rattle.jl_layer.specs.Laws as over
use Rattle.jl_loads.specs.Worlds.{State, Loaded, Keeps, blank, with_layers}
use Rattle.jl_link.specs.Moving.{Moves}

-- ---- lists

pub front_same : {X : Type 0} (xs : List X) → IsFront xs xs
front_same xs = ([], sym (append-nil xs))

pub front_onward : {X : Type 0} (xs ys zs : List X) → IsFront xs ys → IsFront ys zs → IsFront xs zs
front_onward {X} xs ys zs a b = (a.0 ++ b.0, b.1 ∙ ap (λ (l : List X). l ++ b.0) a.1 ∙ append_assoc xs a.0 b.0)

-- what comes behind a front
behind : {X : Type 0} (xs ys : List X) (front : IsFront xs ys) → drop (length xs) ys ≡ front.0
behind xs ys front = ap (drop (length xs)) front.1 ∙ drop-append_seam xs front.0

-- rows for what comes behind, and again
module _ {X Y : Type 0} (f : X → Y) where
  pub rows_same : (xs : List X) (ys : List Y) → ys ≡ ys ++ map f (drop (length xs) xs)
  rows_same xs ys = sym (ap (λ (l : List X). ys ++ map f l) (drop-length xs) ∙ append-nil ys)

  pub rows_onward : (a b c : List X) (xs ys zs : List Y) → IsFront a b → IsFront b c
      → ys ≡ xs ++ map f (drop (length a) b) → zs ≡ ys ++ map f (drop (length b) c) → zs ≡ xs ++ map f (drop (length a) c)
  unfolding front_onward
  rows_onward a b c xs ys zs h k i j =
      j ∙ ap₂ (λ (l : List Y) (r : List X). l ++ map f r) (i ∙ ap (λ (r : List X). xs ++ map f r) (behind a b h)) (behind b c k)
      ∙ append_assoc xs (map f h.0) (map f k.0)
      ∙ ap (λ (r : List Y). xs ++ r) (sym (map-append f h.0 k.0) ∙ ap (map f) (sym (behind a c (front_onward a b c h k))))

-- ---- layers

pub facts_onward : (f g h : access.State) → access.Grows f g → access.Grows g h → access.Grows f h
facts_onward f g h a b = record { modules = front_onward f.modules g.modules h.modules a.modules b.modules; statements = front_onward f.statements g.statements h.statements a.statements b.statements }

pub layers_same : (s : layers.State) → over.Grows s s
layers_same s = record {
  configurations = front_same s.configurations;
  layers = front_same s.layers;
  modules = front_same s.modules;
  loaders = record { loaders = front_same s.loaders.loaders; base = inr refl };
  facts = record { modules = front_same s.facts.modules; statements = front_same s.facts.statements };
}

pub layers_onward : (f g h : layers.State) → over.Grows f g → over.Grows g h → over.Grows f h
layers_onward f g h a b = record {
  configurations = front_onward f.configurations g.configurations h.configurations a.configurations b.configurations;
  layers = front_onward f.layers g.layers h.layers a.layers b.layers;
  modules = front_onward f.modules g.modules h.modules a.modules b.modules;
  loaders = grows_onward f.loaders g.loaders h.loaders a.loaders b.loaders;
  facts = facts_onward f.facts g.facts h.facts a.facts b.facts;
}

-- ---- states

pub moves_same : (f : State) → Moves f f
moves_same f = record {
  layers = layers_same f.layers;
  constraints = front_same f.layers.loaders.constraints;
  classes = front_same f.classes;
  slots = rows_same blank f.classes f.slots;
  kept = front_same f.kept;
}

pub keeps_moves : (f g : State) → Keeps f g → Moves f g
keeps_moves f g h = record {
  layers = subst (over.Grows f.layers) (sym h.layers) (layers_same f.layers);
  constraints = subst (λ (l : layers.State). IsFront f.layers.loaders.constraints l.loaders.constraints) (sym h.layers) (front_same f.layers.loaders.constraints);
  classes = h.classes;
  slots = h.slots;
  kept = h.kept;
}

pub moves_onward : (f g h : State) → Moves f g → Moves g h → Moves f h
moves_onward f g h a b = record {
  layers = layers_onward f.layers g.layers h.layers a.layers b.layers;
  constraints = front_onward f.layers.loaders.constraints g.layers.loaders.constraints h.layers.loaders.constraints a.constraints b.constraints;
  classes = front_onward f.classes g.classes h.classes a.classes b.classes;
  slots = rows_onward blank f.classes g.classes h.classes f.slots g.slots h.slots a.classes b.classes a.slots b.slots;
  kept = front_onward f.kept g.kept h.kept a.kept b.kept;
}

-- layers alone
pub layers_move : (f g : State) → over.Grows f.layers g.layers → IsFront f.layers.loaders.constraints g.layers.loaders.constraints → g ≡ with_layers g.layers f → Moves f g
layers_move f g grows more others = record {
  layers = grows;
  constraints = more;
  classes = ([], ap (λ (s : State). s.classes) others ∙ sym (append-nil f.classes));
  slots = ap (λ (s : State). s.slots) others ∙ rows_same blank f.classes f.slots ∙ ap (λ (l : List Loaded). f.slots ++ map blank (drop (length f.classes) l)) (sym (ap (λ (s : State). s.classes) others));
  kept = ([], ap (λ (s : State). s.kept) others ∙ sym (append-nil f.kept));
}

-- ---- what is kept

pub keeps_same : (f : State) → Keeps f f
keeps_same f = record { layers = refl; classes = front_same f.classes; slots = rows_same blank f.classes f.slots; kept = front_same f.kept }

pub keeps_onward : (f g h : State) → Keeps f g → Keeps g h → Keeps f h
keeps_onward f g h a b = record {
  layers = b.layers ∙ a.layers;
  classes = front_onward f.classes g.classes h.classes a.classes b.classes;
  slots = rows_onward blank f.classes g.classes h.classes f.slots g.slots h.slots a.classes b.classes a.slots b.slots;
  kept = front_onward f.kept g.kept h.kept a.kept b.kept;
}
