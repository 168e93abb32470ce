-- Lines of a report go on, whatever is noted; and states grow.
use Rattle.std.proofs.Common.{◌≡◌, ◌≢◌, ◌<◌, ◌≤◌, ◌-◌, ◌==◌, ◌⊎◌, ℕ, zero, suc, List, [], ◌∷◌, ◌++◌, append_assoc, drop, length, map, slice_get, slice_set, unwrap_or, Option, Some, None, Bool, true, false, eq-eqb, eqb-true, inl, inr, refl, sym, ◌∙◌, ap, ap₂, subst, if◌then◌else◌, arith}
use Rattle.std.proofs.Math.Seq.{drop-append_seam, drop-length}
use Rattle.std.proofs.lemmas.List.{append-nil, map-append}
use Rattle.std.proofs.Math.Dec.{ltb}
use Rattle.std.proofs.lemmas.Bool.{ltb-true, ltb-false}
use Rattle.jl_logic.specs.Counts.{last_count, raised}
use Rattle.jl_logic.specs.Lists.{IsFront}
use Rattle.jl_prim.specs.declared.numbers.ClassId.{ClassId}
use Rattle.jl_access.specs.declared.report.Key.{Key}
use Rattle.jl_access.specs.Reports.{Line, is_same_key, one_more, noted}
use Rattle.jl_layer.specs.Layers as layers
use Rattle.jl_layer.specs.Layers.{numbered}
use Rattle.jl_layer.specs.Laws as over
use Rattle.jl_loads.specs.declared.slot.PoolSlot.{PoolSlot}
use Rattle.jl_loads.specs.declared.slot.PoolSlot.TheVariants.{Empty}
use Rattle.jl_loads.specs.Worlds.{State, Loaded, Content, Keeps, IsClass, blank, slot_at, with_class, with_layers, with_slot, with_note, with_kept}
use Rattle.jl_loads.specs.Laws.{IsLater, GoOn, SlotsStay, Grows, GrowsInClasses}
use Rattle.jl_loads.proofs.Entries.{set_apart, set_there}
use Rattle.jl_loads.proofs.Places.{front_same, front_onward, numbered_kept, numbered_there}

-- ---- reports

count_raised : (n : ℕ) → (n ≤ raised n) ⊎ (last_count ≤ raised n)
count_raised n = by (ltb n last_count) refl
  where
    by : (b : Bool) → ltb n last_count ≡ b → (n ≤ raised n) ⊎ (last_count ≤ raised n)
    by true e = let lt : n < last_count = ltb-true n last_count e in inl (omega arith)
    by false e = let le : last_count ≤ n = ltb-false n last_count e in inr (omega arith)

later_same : (l : Line) → IsLater l l
later_same l = record { key = refl; first = refl; count = inl (omega arith) }

later_more : (l : Line) → IsLater l (one_more l)
later_more l = record { key = refl; first = refl; count = count_raised l.count }

count_onward : (a b c n : ℕ) → (a ≤ b) ⊎ (n ≤ b) → (b ≤ c) ⊎ (n ≤ c) → (a ≤ c) ⊎ (n ≤ c)
count_onward a b c n h (inr k) = inr k
count_onward a b c n (inl h) (inl k) = inl (omega arith)
count_onward a b c n (inr h) (inl k) = inr (omega arith)

later_onward : (l m n : Line) → IsLater l m → IsLater m n → IsLater l n
later_onward l m n h k = record { key = k.key ∙ h.key; first = k.first ∙ h.first; count = count_onward l.count m.count n.count last_count h.count k.count }

pub go_on_same : (ls : List Line) → GoOn ls ls
go_on_same [] = tt
go_on_same (l ∷ ls) = (later_same l, go_on_same ls)

pub go_on_onward : (xs ys zs : List Line) → GoOn xs ys → GoOn ys zs → GoOn xs zs
go_on_onward [] ys zs h k = tt
go_on_onward (x ∷ xs) [] zs h k = absurd h
go_on_onward (x ∷ xs) (y ∷ ys) [] h k = absurd k
go_on_onward (x ∷ xs) (y ∷ ys) (z ∷ zs) h k = (later_onward x y z h.0 k.0, go_on_onward xs ys zs h.1 k.1)

-- one note more
pub go_on_noted : (key : Key) (at : ℕ) (ls : List Line) → GoOn ls (noted key at ls)
unfolding noted
go_on_noted key at [] = tt
go_on_noted key at (l ∷ ls) = by (is_same_key l.key key) (go_on_noted key at ls)
  where
    by : (b : Bool) → GoOn ls (noted key at ls) → GoOn (l ∷ ls) (if b then one_more l ∷ ls else l ∷ noted key at ls)
    by true more = (later_more l, go_on_same ls)
    by false more = (later_same l, more)

-- ---- states

layers_same : (s : layers.State) → over.Grows s s
layers_same s = record {
  configurations = front_same s.configurations;
  layers = front_same s.layers;
  modules = front_same s.modules;
  loaders = record { loaders = front_same s.loaders.loaders; base = inr refl };
  facts = record { modules = front_same s.facts.modules; statements = front_same s.facts.statements };
}

-- What is decided and what is kept stay where classes are the same.
pub keeps_same : (s : State) → Keeps s s
keeps_same s = record {
  layers = refl;
  classes = front_same s.classes;
  slots = sym (append-nil s.slots) ∙ ap (λ (cs : List Loaded). s.slots ++ map blank cs) (sym (drop-length s.classes));
  kept = front_same s.kept;
}

pub keeps_beside : (s t : State) → t.layers ≡ s.layers → t.classes ≡ s.classes → t.slots ≡ s.slots → IsFront s.kept t.kept → Keeps s t
keeps_beside s t l c d k =
    let same = keeps_same s in
    record {
      layers = l;
      classes = ([], c ∙ sym (append-nil s.classes));
      slots = d ∙ same.slots ∙ ap (λ (cs : List Loaded). s.slots ++ map blank (drop (length s.classes) cs)) (sym c);
      kept = k;
    }

-- one class more, of which nothing is decided
pub keeps_with : (s : State) (c : Loaded) → Keeps s (with_class c s)
keeps_with s c = record {
  layers = refl;
  classes = (c ∷ [], refl);
  slots = ap (λ (cs : List Loaded). s.slots ++ map blank cs) (sym (drop-append_seam s.classes (c ∷ [])));
  kept = front_same s.kept;
}

-- what stands behind a front
behind_front : (xs ys : List Loaded) (front : IsFront xs ys) → drop (length xs) ys ≡ front.0
behind_front xs ys front = ap (drop (length xs)) front.1 ∙ drop-append_seam xs front.0

pub keeps_onward : (f g h : State) → Keeps f g → Keeps g h → Keeps f h
keeps_onward f g h a b =
    let all : IsFront f.classes h.classes = (a.classes.0 ++ b.classes.0, b.classes.1 ∙ ap (λ (l : List Loaded). l ++ b.classes.0) a.classes.1 ∙ append_assoc f.classes a.classes.0 b.classes.0) in
    record {
      layers = b.layers ∙ a.layers;
      classes = all;
      slots =
          b.slots
          ∙ ap (λ (r : List (List PoolSlot)). r ++ map blank (drop (length g.classes) h.classes)) a.slots
          ∙ append_assoc f.slots (map blank (drop (length f.classes) g.classes)) (map blank (drop (length g.classes) h.classes))
          ∙ ap₂ (λ (u v : List Loaded). f.slots ++ (map blank u ++ map blank v)) (behind_front f.classes g.classes a.classes) (behind_front g.classes h.classes b.classes)
          ∙ ap (λ (r : List (List PoolSlot)). f.slots ++ r) (sym (map-append blank a.classes.0 b.classes.0))
          ∙ ap (λ (u : List Loaded). f.slots ++ map blank u) (sym (behind_front f.classes h.classes all));
      kept = front_onward f.kept g.kept h.kept a.kept b.kept;
    }

-- ---- references that are decided

-- a row of a class, as its slots are asked
abbrev slot_in : ℕ → Option (List PoolSlot) → PoolSlot
slot_in i row = unwrap_or (slice_get (unwrap_or row []) i) Empty

pub slots_front : (f g : State) → IsFront f.slots g.slots → SlotsStay f g
slots_front f g front c i filled = by (numbered f.slots c.0) refl
  where
    by : (o : Option (List PoolSlot)) → numbered f.slots c.0 ≡ o → slot_at g c i ≡ slot_at f c i
    by None e = absurd (filled (ap (slot_in i) e))
    by (Some row) e = ap (slot_in i) (numbered_kept f.slots g.slots c.0 front (numbered_there f.slots c.0 row e).1)

slots_onward : (f g h : State) → SlotsStay f g → SlotsStay g h → SlotsStay f h
slots_onward f g h a b c i filled = let e = a c i filled in b c i (λ x. filled (sym e ∙ x)) ∙ e

pub grows_within : (f g : State) → GrowsInClasses f g → Grows f g
grows_within f g h = record {
  layers = subst (over.Grows f.layers) (sym h.keeps.layers) (layers_same f.layers);
  classes = h.keeps.classes;
  report = h.report;
  slots = slots_front f g (map blank (drop (length f.classes) g.classes), h.keeps.slots);
  kept = h.keeps.kept;
}

pub within_same : (f : State) → GrowsInClasses f f
within_same f = record { keeps = keeps_same f; report = go_on_same f.report }

pub within_onward : (f g h : State) → GrowsInClasses f g → GrowsInClasses g h → GrowsInClasses f h
within_onward f g h a b = record { keeps = keeps_onward f g h a.keeps b.keeps; report = go_on_onward f.report g.report h.report a.report b.report }

-- one note more
pub within_noted : (f : State) (key : Key) (step : ℕ) → GrowsInClasses f (with_note key step f)
within_noted f key step = record { keeps = keeps_beside f (with_note key step f) refl refl refl (front_same f.kept); report = go_on_noted key step f.report }

-- one path more
pub within_kept : (f : State) (path : List ℕ) (what : Content) → GrowsInClasses f (with_kept path what f)
within_kept f path what = record { keeps = keeps_beside f (with_kept path what f) refl refl refl ((path, what) ∷ [], refl); report = go_on_same f.report }

pub grows_onward : over.LayersStay → (f g h : State) → Grows f g → Grows g h → Grows f h
grows_onward stay f g h a b = record {
  layers = stay.onward f.layers g.layers h.layers a.layers b.layers;
  classes = front_onward f.classes g.classes h.classes a.classes b.classes;
  report = go_on_onward f.report g.report h.report a.report b.report;
  slots = slots_onward f g h a.slots b.slots;
  kept = front_onward f.kept g.kept h.kept a.kept b.kept;
}

pub grows_layered : (f : State) (l : layers.State) → over.Grows f.layers l → Grows f (with_layers l f)
grows_layered f l h = record {
  layers = h;
  classes = front_same f.classes;
  report = go_on_same f.report;
  slots = λ c i filled. refl;
  kept = front_same f.kept;
}

-- ---- one reference more

less_one : (n : ℕ) → suc n - 1 ≡ n
less_one n = omega arith

-- in one row
row_filled : (row : List PoolSlot) (i j : ℕ) (x : PoolSlot) → slot_in i (Some row) ≡ Empty → slot_in j (Some row) ≢ Empty → slot_in j (Some (slice_set row i x)) ≡ slot_in j (Some row)
row_filled row i j x empty filled = ap (λ (o : Option PoolSlot). unwrap_or o Empty) (set_apart row i j x (λ e. filled (sym (ap (λ (k : ℕ). slot_in k (Some row)) e) ∙ empty)))

-- in the rows of all
rows_filled : (rows : List (List PoolSlot)) (m n i j : ℕ) (x : PoolSlot) → 0 < m → slot_in i (numbered rows m) ≡ Empty → slot_in j (numbered rows n) ≢ Empty
    → slot_in j (numbered (slice_set rows (m - 1) (slice_set (unwrap_or (numbered rows m) []) i x)) n) ≡ slot_in j (numbered rows n)
rows_filled rows zero n i j x pos empty filled = absurd (omega arith)
rows_filled rows (suc m) zero i j x pos empty filled = refl
rows_filled rows (suc m) (suc n) i j x pos empty filled =
    ap (λ (k : ℕ). slot_in j (slice_get (slice_set rows k (slice_set (unwrap_or (slice_get rows m) []) i x)) n)) (less_one m) ∙ by (m == n) refl
  where
    there : (o : Option (List PoolSlot)) → slice_get rows m ≡ o → m ≡ n → slot_in j (slice_get (slice_set rows m (slice_set (unwrap_or (slice_get rows m) []) i x)) n) ≡ slot_in j (slice_get rows n)
    there None e same = absurd (filled (ap (slot_in j) (ap (slice_get rows) (sym same) ∙ e)))
    there (Some row) e same =
        let before : slice_get rows n ≡ Some row = ap (slice_get rows) (sym same) ∙ e in
        ap (λ (k : ℕ). slot_in j (slice_get (slice_set rows m (slice_set (unwrap_or (slice_get rows m) []) i x)) k)) (sym same)
        ∙ ap (slot_in j) (set_there rows m row (slice_set (unwrap_or (slice_get rows m) []) i x) e)
        ∙ ap (λ (o : Option (List PoolSlot)). slot_in j (Some (slice_set (unwrap_or o []) i x))) e
        ∙ row_filled row i j x (sym (ap (slot_in i) e) ∙ empty) (λ y. filled (ap (slot_in j) before ∙ y))
        ∙ ap (slot_in j) (sym before)

    by : (b : Bool) → (m == n) ≡ b → slot_in j (slice_get (slice_set rows m (slice_set (unwrap_or (slice_get rows m) []) i x)) n) ≡ slot_in j (slice_get rows n)
    by true e = there (slice_get rows m) refl (eqb-true m n e)
    by false e = ap (slot_in j) (set_apart rows m n (slice_set (unwrap_or (slice_get rows m) []) i x) (λ same. let yes : (m == n) ≡ true = eq-eqb m n same in absurd cc))

pub grows_filled : (f : State) (c : ClassId) (i : ℕ) (x : PoolSlot) → IsClass f c → slot_at f c i ≡ Empty → Grows f (with_slot c i x f)
grows_filled f c i x there empty = record {
  layers = layers_same f.layers;
  classes = front_same f.classes;
  report = go_on_same f.report;
  slots = λ d j filled. rows_filled f.slots c.0 d.0 i j x there.0 empty filled;
  kept = front_same f.kept;
}
