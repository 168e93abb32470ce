-- All references of a world stand: from the start, and after each call.
use Rattle.std.proofs.Common.{◌≡◌, ℕ, zero, suc, List, [], ◌∷◌, ◌++◌, map, Result, Ok, Err, refl, sym, ◌∙◌, ap, subst}
use Rattle.std.specs.Prelude.{OnOk, OnErr}
use Rattle.std.proofs.Math.Seq.{drop-append_seam}
use Rattle.std.proofs.lemmas.List.{append-nil}
use Rattle.jl_logic.specs.Lists.{IsFront}
use Rattle.jl_prim.specs.declared.numbers.ClassId.{ClassId}
use Rattle.jl_prim.specs.declared.numbers.LoaderId.{LoaderId}
use Rattle.jl_class.specs.Classes.{Class}
use Rattle.jl_access.specs.declared.report.Key.{Key}
use Rattle.jl_loaders.specs.Constraints.{constraint, with_constraint}
use Rattle.jl_layer.specs.Layers as layers
use Rattle.jl_layer.specs.Laws as over
use Rattle.jl_layer.specs.Defining.{Asked, IsDefined, IsAsBefore}
use Rattle.jl_layer.specs.Changes.{with_configuration, with_loaders, KeepsAllButFacts}
use Rattle.jl_config.specs.Configurations.{Configuration}
use Rattle.jl_loads.specs.declared.slot.PoolSlot.TheVariants.{Empty}
use Rattle.jl_loads.specs.Beginning.{begun, begun_by, base_class}
use Rattle.jl_loads.specs.Laws.{AreSound}
use Rattle.jl_loads.specs.Worlds.{State, Loaded, Keeps, bare, blank, slot_at, with_class, with_layers, with_note}
use Rattle.jl_link.specs.Laws.{AllStand, DecidedStays}
use Rattle.jl_link.specs.Moving.{Moves}
use Rattle.jl_link.proofs.Moved.{front_same, rows_same, layers_same, moves_same, moves_onward, layers_move}
use Rattle.jl_link.proofs.Onwards.{passed_filled, moves_on, moves_empty, keeps_on, keeps_empty}

-- ---- from the start

defined_moves : (s : State) (c : Loaded) → Moves s (with_class c s)
defined_moves s c = record {
  layers = layers_same s.layers;
  constraints = front_same s.layers.loaders.constraints;
  classes = (c ∷ [], refl);
  slots = ap (λ (l : List Loaded). s.slots ++ map blank l) (sym (drop-append_seam s.classes (c ∷ [])));
  kept = front_same s.kept;
}

begun_moves : (cs : List Class) (s : State) → Moves s (begun_by s cs)
unfolding begun_by
begun_moves [] s = moves_same s
begun_moves (c ∷ cs) s = moves_onward s (with_class (base_class s c) s) (begun_by (with_class (base_class s c) s) cs) (defined_moves s (base_class s c)) (begun_moves cs (with_class (base_class s c) s))

bare_empty : (l : layers.State) (d : ClassId) (i : ℕ) → slot_at (bare l) d i ≡ Empty
bare_empty l d i = by d.0
  where
    by : (n : ℕ) → slot_at (bare l) (record { 0 = n }) i ≡ Empty
    by zero = refl
    by (suc n) = refl

pub begun_stand : (l : layers.State) (cs : List Class) (s : State) → s ≡ begun l cs → AllStand s
begun_stand l cs s e = subst AllStand (sym e) (record {
  passed = λ d i t h. absurd (passed_filled t (sym h ∙ empty d i));
  there = λ d i h. absurd (h (empty d i));
})
  where
    empty : (d : ClassId) (i : ℕ) → slot_at (begun l cs) d i ≡ Empty
    empty d i = moves_empty (bare l) (begun l cs) (begun_moves cs (bare l)) d i (bare_empty l d i)

-- ---- after each call

module _ (law : DecidedStays) (f g : State) (sound : AreSound f) where
  pub stand_moves : Moves f g → AllStand f → AllStand g
  stand_moves h all = law.stand f g sound (moves_on f g h) (moves_empty f g h) all

  pub stand_keeps : Keeps f g → AllStand f → AllStand g
  stand_keeps h all = law.stand f g sound (keeps_on f g h) (keeps_empty f g h) all

  pub stand_layers : over.Grows f.layers g.layers → IsFront f.layers.loaders.constraints g.layers.loaders.constraints → g ≡ with_layers g.layers f → AllStand f → AllStand g
  stand_layers grows more others all = stand_moves (layers_move f g grows more others) all

  -- the constraints are the same
  pub stand_alike : over.Grows f.layers g.layers → g.layers.loaders.constraints ≡ f.layers.loaders.constraints → g ≡ with_layers g.layers f → AllStand f → AllStand g
  stand_alike grows same others all = stand_layers grows ([], same ∙ sym (append-nil f.layers.loaders.constraints)) others all

  pub stand_facts : over.Grows f.layers g.layers → KeepsAllButFacts f.layers g.layers → g ≡ with_layers g.layers f → AllStand f → AllStand g
  stand_facts grows facts others all = stand_alike grows (ap (λ s. s.constraints) facts.loaders) others all

  pub stand_kept : {T E : Type 0} (cf : Configuration) (r : Result T E) → OnOk r (g.layers ≡ with_configuration cf f.layers) → OnErr r (g.layers ≡ f.layers) → over.Grows f.layers g.layers → g ≡ with_layers g.layers f → AllStand f → AllStand g
  stand_kept cf (Ok x) ok err grows others all = stand_alike grows (ap (λ (s : layers.State). s.loaders.constraints) ok) others all
  stand_kept cf (Err e) ok err grows others all = stand_alike grows (ap (λ (s : layers.State). s.loaders.constraints) err) others all

  pub stand_defined : {T E : Type 0} (q : Asked) (r : Result T E) → OnOk r (IsDefined f.layers q g.layers) → OnErr r (IsAsBefore f.layers g.layers) → over.Grows f.layers g.layers → g ≡ with_layers g.layers f → AllStand f → AllStand g
  stand_defined q (Ok x) ok err grows others all = stand_alike grows ok.constraints others all
  stand_defined q (Err e) ok err grows others all = stand_alike grows err.constraints others all

  pub stand_imposed : {T E : Type 0} (name : List ℕ) (a b : LoaderId) (r : Result T E) → OnOk r (g.layers ≡ with_loaders (with_constraint name a b f.layers.loaders) f.layers) → OnErr r (g.layers ≡ f.layers)
      → over.Grows f.layers g.layers → g ≡ with_layers g.layers f → AllStand f → AllStand g
  stand_imposed name a b (Ok x) ok err grows others all = stand_layers grows (constraint name a b ∷ [], ap (λ (s : layers.State). s.loaders.constraints) ok) others all
  stand_imposed name a b (Err e) ok err grows others all = stand_alike grows (ap (λ (s : layers.State). s.loaders.constraints) err) others all

noted_keeps : (f : State) (key : Key) (step : ℕ) → Keeps f (with_note key step f)
noted_keeps f key step = record { layers = refl; classes = front_same f.classes; slots = rows_same blank f.classes f.slots; kept = front_same f.kept }

pub stand_noted : {T E : Type 0} → DecidedStays → (f g : State) → AreSound f → (key : Key) (step : ℕ) (r : Result T E) → OnOk r (g ≡ with_note key step f) → OnErr r (g ≡ f) → AllStand f → AllStand g
stand_noted law f g sound key step (Ok x) ok err all = subst AllStand (sym ok) (stand_keeps law f (with_note key step f) sound (noted_keeps f key step) all)
stand_noted law f g sound key step (Err e) ok err all = subst AllStand (sym err) all
