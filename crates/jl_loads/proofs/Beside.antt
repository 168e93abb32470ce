-- What is loaded stays sound where notes, what is decided and what was read change alone.
use Rattle.std.proofs.Common.{◌≡◌, ◌<◌, ◌-◌, ℕ, zero, suc, List, [], ◌∷◌, ◌++◌, length, length-set, map, slice_get, slice_set, unwrap_or, Option, Some, None, inl, inr, refl, ◌∙◌, ap, arith}
use Rattle.std.specs.Prelude.{Contains}
use Rattle.std.proofs.lemmas.List.Elements.{Contains-push_cases}
use Rattle.jl_logic.specs.Lists.{AreDistinct}
use Rattle.jl_prim.specs.declared.numbers.ClassId.{ClassId}
use Rattle.jl_class.specs.Classes.{Class}
use Rattle.jl_class.specs.Tables.{AreTables}
use Rattle.jl_access.specs.declared.report.Key.{Key}
use Rattle.jl_access.specs.Reports.{Line, noted}
use Rattle.jl_layer.specs.Layers.{numbered}
use Rattle.jl_loads.specs.declared.slot.PoolSlot.{PoolSlot}
use Rattle.jl_loads.specs.Worlds.{State, Content, Declares, IsClass, row_of, with_note, with_slot, with_kept}
use Rattle.jl_loads.specs.Laws.{AreSound, IsUnread}
use Rattle.jl_loads.proofs.Entries.{set_alike, set_nothing}
use Rattle.jl_loads.proofs.Remembered.{kept_distinct}

-- the layers and the classes are the same, and the rest is as it should be
pub sound_beside : (s : State) (report : List Line) (slots : List (List PoolSlot)) (kept : List (List ℕ × Content)) → map length slots ≡ map length s.slots
    → AreDistinct (map (λ (f : List ℕ × Content). f.0) kept) → ((f : List ℕ × Content) (c : Class) → Contains kept f → f.1 ≡ Declares c → AreTables c)
    → AreSound s → AreSound (record s { report = report; slots = slots; kept = kept })
sound_beside s report slots kept same read files h = record {
  modules = h.modules;
  loaders = h.loaders;
  leads = h.leads;
  classes = λ c x e. let i = h.classes c x e in record { super = i.super; interfaces = i.interfaces; home = i.home; loader = i.loader };
  once = h.once;
  few = h.few;
  tables = h.tables;
  rows = same ∙ h.rows;
  read = read;
  files = files;
}

pub sound_noted : (s : State) (k : Key) (at : ℕ) → AreSound s → AreSound (with_note k at s)
sound_noted s k at h = sound_beside s (noted k at s.report) s.slots s.kept refl h.read h.files h

-- a path more, of which nothing was kept
pub sound_kept : (s : State) (path : List ℕ) (what : Content) → IsUnread s path what → AreSound s → AreSound (with_kept path what s)
sound_kept s path what new h =
    sound_beside s s.report s.slots (s.kept ++ (path, what) ∷ []) refl (kept_distinct s path what new.fresh h.read)
    (λ f c there e. elim (Contains-push_cases s.kept (path, what) f there) [
      | inl i ↦ h.files f c i e
      | inr i ↦ new.tables c (ap (λ (g : List ℕ × Content). g.1) i ∙ e)
    ]) h

less_one : (n : ℕ) → suc n - 1 ≡ n
less_one n = omega arith

-- a reference is decided: no row is longer or shorter
rows_alike : (rows : List (List PoolSlot)) (n i : ℕ) (x : PoolSlot) → map length (slice_set rows n (slice_set (unwrap_or (slice_get rows n) []) i x)) ≡ map length rows
rows_alike rows n i x = by (slice_get rows n) refl
  where
    by : (o : Option (List PoolSlot)) → slice_get rows n ≡ o → map length (slice_set rows n (slice_set (unwrap_or (slice_get rows n) []) i x)) ≡ map length rows
    by None e = ap (map length) (set_nothing rows n (slice_set (unwrap_or (slice_get rows n) []) i x) e)
    by (Some row) e =
        set_alike length rows n row (slice_set (unwrap_or (slice_get rows n) []) i x) e
        (ap (λ (o : Option (List PoolSlot)). length (slice_set (unwrap_or o []) i x)) e ∙ length-set row i x)

numbered_alike : (rows : List (List PoolSlot)) (n i : ℕ) (x : PoolSlot) → 0 < n → map length (slice_set rows (n - 1) (slice_set (unwrap_or (numbered rows n) []) i x)) ≡ map length rows
numbered_alike rows zero i x pos = absurd (omega arith)
numbered_alike rows (suc n) i x pos = ap (λ (k : ℕ). map length (slice_set rows k (slice_set (unwrap_or (slice_get rows n) []) i x))) (less_one n) ∙ rows_alike rows n i x

pub sound_filled : (s : State) (c : ClassId) (i : ℕ) (x : PoolSlot) → AreSound s → IsClass s c → AreSound (with_slot c i x s)
sound_filled s c i x h there =
    sound_beside s s.report (slice_set s.slots (c.0 - 1) (slice_set (row_of s c) i x)) s.kept (numbered_alike s.slots c.0 i x there.0) h.read h.files h
