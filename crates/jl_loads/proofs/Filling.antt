-- Each class has a row of slots, one for each index of its pool.
use Rattle.std.proofs.Common.{◌≡◌, ◌<◌, ◌≤◌, ◌-◌, ℕ, zero, suc, List, [], ◌∷◌, length, map, slice_get, slice_index_or, slice_set, unwrap_or, Option, Some, None, refl, sym, ◌∙◌, ap, subst, arith}
use Rattle.std.specs.Prelude.{IfSome, option_map}
use Rattle.std.proofs.lemmas.List.{length-map}
use Rattle.std.proofs.lemmas.Option.{none-some, same_Some, slice_get-map}
use Rattle.jl_prim.specs.declared.numbers.ClassId.{ClassId}
use Rattle.jl_layer.specs.Layers.{numbered}
use Rattle.jl_loads.specs.declared.slot.PoolSlot.{PoolSlot}
use Rattle.jl_loads.specs.Worlds.{State, Loaded, IsClass, class_at, row_of, with_slot}
use Rattle.jl_loads.specs.Whole.{IsWhole}
use Rattle.jl_loads.specs.declared.rank.Rank.{Rank}
use Rattle.jl_loads.specs.declared.class_key.ClassKey.{ClassKey}
use Rattle.jl_prim.specs.declared.numbers.ModuleId.{ModuleId}
use Rattle.jl_loads.proofs.Layered.{whole_filled}
use Rattle.jl_loads.specs.Laws.{AreSound}

pool_length : Loaded → ℕ
pool_length x = length x.declared.pool

row_alike : {X : Type 0} (rows : List (List X)) (cs : List Loaded) (k : ℕ) (x : Loaded) → map length rows ≡ map pool_length cs → slice_get cs k ≡ Some x → length (unwrap_or (slice_get rows k) []) ≡ pool_length x
row_alike {X = X} rows cs k x e at = by (slice_get rows k) refl
  where
    found : option_map length (slice_get rows k) ≡ Some (pool_length x)
    found = sym (slice_get-map length rows k) ∙ ap (λ ns. slice_get ns k) e ∙ slice_get-map pool_length cs k ∙ ap (option_map pool_length) at

    by : (o : Option (List X)) → slice_get rows k ≡ o → length (unwrap_or o []) ≡ pool_length x
    by None i = absurd (none-some (pool_length x) (ap (option_map length) (sym i) ∙ found))
    by (Some row) i = same_Some (length row) (pool_length x) (ap (option_map length) (sym i) ∙ found)

row_numbered : {X : Type 0} (rows : List (List X)) (cs : List Loaded) (n : ℕ) (x : Loaded) → map length rows ≡ map pool_length cs → numbered cs n ≡ Some x → length (unwrap_or (numbered rows n) []) ≡ pool_length x
row_numbered rows cs zero x e at = absurd (none-some x at)
row_numbered rows cs (suc n) x e at = row_alike rows cs n x e at

-- the row of a class is as long as its pool
pub row_long : (s : State) (c : ClassId) (row : List PoolSlot) → AreSound s → row ≡ row_of s c → IfSome (class_at s c) (λ x. length row ≡ length x.declared.pool)
unfolding pool_length
row_long s c row sound e = by (class_at s c) refl
  where
    by : (o : Option Loaded) → class_at s c ≡ o → IfSome o (λ x. length row ≡ length x.declared.pool)
    by None at = tt
    by (Some x) at = ap length e ∙ row_numbered s.slots s.classes c.0 x sound.rows at

-- and there are as many rows as classes
pub rows_many : (s : State) → AreSound s → length s.slots ≡ length s.classes
unfolding pool_length
rows_many s sound = sym (length-map s.slots (λ (r : List PoolSlot). length r)) ∙ ap (λ (ns : List ℕ). length ns) sound.rows ∙ length-map s.classes pool_length

-- ---- a reference is decided

less_one : (n : ℕ) → suc n - 1 ≡ n
less_one n = omega arith

or_row : (rows : List (List PoolSlot)) (k : ℕ) (row : List PoolSlot) → k < length rows → slice_index_or rows k row ≡ unwrap_or (slice_get rows k) []
or_row [] k row lt = absurd (omega arith)
or_row (r ∷ rows) zero row lt = refl
or_row (r ∷ rows) (suc k) row lt = or_row rows k row (omega arith)

-- the row of a class is the one at its place
row_at : (rows : List (List PoolSlot)) (n : ℕ) (row : List PoolSlot) → 0 < n → n ≤ length rows → row ≡ slice_index_or rows (n - 1) row → row ≡ unwrap_or (numbered rows n) []
row_at rows zero row pos le e = absurd (omega arith)
row_at rows (suc n) row pos le e = e ∙ ap (λ (k : ℕ). slice_index_or rows k row) (less_one n) ∙ or_row rows n row (omega arith)

-- the slot is set in it
pub slot_set : (s t : State) (c : ClassId) (i : ℕ) (x : PoolSlot) (old new : List PoolSlot) → AreSound s → s ≡ t → IsClass t c → old ≡ slice_index_or s.slots (c.0 - 1) old → new ≡ slice_set old i x
    → record s { slots = slice_set s.slots (c.0 - 1) new } ≡ with_slot c i x t
slot_set s t c i x old new sound same there at e =
    let here : IsClass s c = subst (λ (u : State). IsClass u c) (sym same) there in
    ap (λ (row : List PoolSlot). record s { slots = slice_set s.slots (c.0 - 1) row }) (e ∙ ap (λ (row : List PoolSlot). slice_set row i x) (row_at s.slots c.0 old here.0 (omega (arith, here.1, rows_many s sound)) at))
    ∙ ap (with_slot c i x) same

pub whole_slot : {ranks : List Rank} (entries : List (ClassKey × ClassId)) (base : ModuleId) (s t : State) (c : ClassId) (i : ℕ) (x : PoolSlot) (old new : List PoolSlot) → s ≡ t → IsClass t c
    → old ≡ slice_index_or s.slots (c.0 - 1) old → new ≡ slice_set old i x → IsWhole entries ranks base s → IsWhole entries ranks base (record s { slots = slice_set s.slots (c.0 - 1) new })
whole_slot {ranks = ranks} entries base s t c i x old new same there at e w =
    let here : IsClass s c = subst (λ (u : State). IsClass u c) (sym same) there in
    subst (IsWhole entries ranks base) (sym (slot_set s s c i x old new w.sound refl here at e)) (whole_filled entries base s c i x here w)

-- a row that is lent
pub row_lent : (s t : State) (c : ClassId) (row : List PoolSlot) → s ≡ t → AreSound t → IsClass t c → row ≡ slice_index_or s.slots (c.0 - 1) row → row ≡ row_of t c
row_lent s t c row same sound there at =
    row_at t.slots c.0 row there.0 (omega (arith, there.1, rows_many t sound)) (at ∙ ap (λ (u : State). slice_index_or u.slots (c.0 - 1) row) same)
