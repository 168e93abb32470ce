-- What the rows of loaders become when a module or a read is added (JVMS 5.3).
use Rattle.std.proofs.Common.{◌≡◌, ◌≢◌, ◌<◌, ◌≤◌, ◌+◌, ℕ, zero, suc, List, [], ◌∷◌, ◌++◌, length, map, get_or, set, replicate, refl, sym, ◌∙◌, ap, ap₂, Option, Some, None, Bool, true, false, cond, not, ◌&&◌, ◌==◌, inl, inr, ◌⊎◌, arith}
use Rattle.std.specs.List.{flat_map, range_with_len}
use Rattle.std.specs.Option.{option_map_or}
use Rattle.std.proofs.lemmas.List.{append-nil, length-replicate}
use Rattle.std.proofs.lemmas.Bool.{ne_eqb, eq-eqb}
use Rattle.std.proofs.lemmas.Bool.Decides.{eqb_tells}
use Rattle.std.proofs.lemmas.Simd.{map-map}
use Rattle.std.proofs.lemmas.List.FromFn.{length-map-range_with_len}
use Rattle.jl_prim.specs.declared.numbers.ModuleId.{ModuleId}
use Rattle.jl_prim.specs.declared.numbers.LoaderId.{LoaderId}
use Rattle.jl_prim.specs.declared.numbers.LayerId.{LayerId}
use Rattle.jl_prim.specs.declared.declaration.ParentLoader.{ParentLoader}
use Rattle.jl_loaders.specs.Loaders as delegation
use Rattle.jl_layer.specs.declared.layer.Member.{Member}
use Rattle.jl_layer.specs.declared.loader_rows.Row.{Row}
use Rattle.jl_layer.specs.Layers.{State, member_of, layer_at}
use Rattle.jl_layer.specs.Meaning.{exported_to, reads_of}
use Rattle.jl_layer.specs.Defining.{own_of, seen_of, with_module, exported_by, parts_of, loader_numbers}
use Rattle.jl_layer.specs.LoaderRows.{Pairs, with_own, with_seen, changed, row_of, rows_of, owned, shown, parts_by}
use Rattle.jl_layer.proofs.Steps.{flat_map_push, map_alike}

-- ---- one row

pub unchanged_before : (first k : ℕ) (u : Row → Row) (rows : List Row) → k < first → rows ≡ changed first k u rows
unchanged_before first k u [] lt = refl
unchanged_before first k u (r ∷ rs) lt = ap₂ (λ (b : Bool) (t : List Row). cond b (u r) r ∷ t) (sym (ne_eqb k first (λ e. absurd (omega arith)))) (unchanged_before (first + 1) k u rs (omega arith))

pub unchanged_past : (first k : ℕ) (u : Row → Row) (rows : List Row) → first + length rows ≤ k → rows ≡ changed first k u rows
unchanged_past first k u [] le = refl
unchanged_past first k u (r ∷ rs) le = ap₂ (λ (b : Bool) (t : List Row). cond b (u r) r ∷ t) (sym (ne_eqb k first (λ e. absurd (omega arith)))) (unchanged_past (first + 1) k u rs (omega arith))

pub changed_at : (first k : ℕ) (u : Row → Row) (rows : List Row) (p : ℕ) (d : Row) → k ≡ first + p → p < length rows → set rows p (u (get_or rows p d)) ≡ changed first k u rows
changed_at first k u [] p d e lt = absurd (omega arith)
changed_at first k u (r ∷ rs) zero d e lt = ap₂ (λ (b : Bool) (t : List Row). cond b (u r) r ∷ t) (sym (eq-eqb k first (omega arith))) (unchanged_before (first + 1) k u rs (omega arith))
changed_at first k u (r ∷ rs) (suc p) d e lt = ap₂ (λ (b : Bool) (t : List Row). cond b (u r) r ∷ t) (sym (ne_eqb k first (λ f. absurd (omega arith)))) (changed_at (first + 1) k u rs p d (omega arith) (omega arith))

changed_map : (first count k : ℕ) (u : Row → Row) (g : ℕ → Row) → changed first k u (map g (range_with_len first count)) ≡ map (λ (n : ℕ). cond (k == n) (u (g n)) (g n)) (range_with_len first count)
changed_map first zero k u g = refl
changed_map first (suc count) k u g = ap (λ (t : List Row). cond (k == first) (u (g first)) (g first) ∷ t) (changed_map (first + 1) count k u g)

-- ---- a module more

own_if : (b : Bool) (pairs : Pairs) (r : Row) → cond b (with_own pairs r) r ≡ record { own = r.own ++ cond b pairs []; seen = r.seen }
own_if true pairs r = refl
own_if false pairs r = ap (λ (l : Pairs). let w : Row = record { own = l; seen = r.seen } in w) (sym (append-nil r.own))

seen_if : (b : Bool) (pairs : Pairs) (r : Row) → cond b (with_seen pairs r) r ≡ record { own = r.own; seen = r.seen ++ cond b pairs [] }
seen_if true pairs r = refl
seen_if false pairs r = ap (λ (l : Pairs). let w : Row = record { own = r.own; seen = l } in w) (sym (append-nil r.seen))

-- a module's packages, where it is of the loader with the number
own_by : ModuleId → Option Member → ℕ → Pairs
own_by m o n = cond (option_map_or (λ (x : Member). x.loader.0 == n) o false) (with_module m (option_map_or (λ (x : Member). x.observed.declaration.packages) o [])) []

owned_by : ℕ → ModuleId → Option Member → List Row → List Row
owned_by first m o rows = option_map_or (λ (x : Member). changed first x.loader.0 (with_own (with_module m x.observed.declaration.packages)) rows) o rows

own_rows : (first count : ℕ) (m : ModuleId) (o : Option Member) (g : ℕ → Row) → owned_by first m o (map g (range_with_len first count)) ≡ map (λ (n : ℕ). let w : Row = record { own = (g n).own ++ own_by m o n; seen = (g n).seen } in w) (range_with_len first count)
unfolding own_by owned_by
own_rows first count m None g = map_alike g (λ (n : ℕ). record { own = (g n).own ++ []; seen = (g n).seen }) (λ n. own_if false [] (g n)) (range_with_len first count)
own_rows first count m (Some x) g =
    let pairs : Pairs = with_module m x.observed.declaration.packages in
    changed_map first count x.loader.0 (with_own pairs) g
    ∙ map_alike (λ (n : ℕ). cond (x.loader.0 == n) (with_own pairs (g n)) (g n)) (λ (n : ℕ). record { own = (g n).own ++ cond (x.loader.0 == n) pairs []; seen = (g n).seen }) (λ n. own_if (x.loader.0 == n) pairs (g n)) (range_with_len first count)

pub own_step : (s : State) (first count : ℕ) (xs : List ModuleId) (m : ModuleId) → owned s first m (rows_of s first count xs []) ≡ rows_of s first count (xs ++ m ∷ []) []
unfolding own_by owned_by
own_step s first count xs m =
    own_rows first count m (member_of s m) (row_of s xs [])
    ∙ map_alike (λ (n : ℕ). record { own = flat_map (own_of s (record { 0 = n })) xs ++ own_by m (member_of s m) n; seen = [] }) (row_of s (xs ++ m ∷ []) [])
    (λ n. ap (λ (l : Pairs). let w : Row = record { own = l; seen = [] } in w) (sym (flat_map_push (own_of s (record { 0 = n })) xs m))) (range_with_len first count)

-- ---- a read more

seen_by : ModuleId → Option Member → Option Member → ℕ → Pairs
seen_by m a b n = cond (option_map_or (λ (x : Member). x.loader.0 == n) a false && not (option_map_or (λ (x : Member). x.loader.0 == n) b false)) (with_module m (exported_by b a)) []

-- of one loader
both_or_none : (k n : ℕ) → ((k == n) && not (k == n)) ≡ false
both_or_none k n = by (k == n)
  where
    by : (b : Bool) → (b && not b) ≡ false
    by true = refl
    by false = refl

-- of two loaders
first_alone : (j k n : ℕ) → j ≢ k → ((j == n) && not (k == n)) ≡ (j == n)
first_alone j k n apart = by (eqb_tells j n)
  where
    by : ((j == n) ≡ true × (j ≡ n)) ⊎ ((j == n) ≡ false × (j ≢ n)) → ((j == n) && not (k == n)) ≡ (j == n)
    by (inl e) = rw (e.0, ne_eqb k n (λ f. apart (e.1 ∙ sym f))) refl
    by (inr e) = rw (e.0) refl

nothing_more : (first count : ℕ) (g : ℕ → Row) (h : ℕ → Pairs) → ((n : ℕ) → h n ≡ []) → map g (range_with_len first count) ≡ map (λ (n : ℕ). let w : Row = record { own = (g n).own; seen = (g n).seen ++ h n } in w) (range_with_len first count)
nothing_more first count g h none =
    map_alike g (λ (n : ℕ). record { own = (g n).own; seen = (g n).seen ++ h n })
    (λ n. ap (λ (l : Pairs). let w : Row = record { own = (g n).own; seen = l } in w) (sym (append-nil (g n).seen) ∙ ap (λ (l : Pairs). (g n).seen ++ l) (sym (none n)))) (range_with_len first count)

abbrev no_pairs : Pairs
no_pairs = []

cond_none : (b : Bool) → cond b no_pairs no_pairs ≡ no_pairs
cond_none true = refl
cond_none false = refl

abbrev shown_pairs : ModuleId → Member → Member → Pairs
shown_pairs m x y = with_module m (exported_to y.observed.declaration x.observed.declaration.name)

seen_rows : (first count : ℕ) (m : ModuleId) (a b : Option Member) (g : ℕ → Row) → shown first m a b (map g (range_with_len first count)) ≡ map (λ (n : ℕ). let w : Row = record { own = (g n).own; seen = (g n).seen ++ seen_by m a b n } in w) (range_with_len first count)
unfolding seen_by
seen_rows first count m None b g = nothing_more first count g (seen_by m None b) (λ n. refl)
seen_rows first count m (Some x) None g = nothing_more first count g (seen_by m (Some x) None) (λ n. cond_none ((x.loader.0 == n) && true))
seen_rows first count m (Some x) (Some y) g = by (eqb_tells x.loader.0 y.loader.0)
  where
    by : ((x.loader.0 == y.loader.0) ≡ true × (x.loader.0 ≡ y.loader.0)) ⊎ ((x.loader.0 == y.loader.0) ≡ false × (x.loader.0 ≢ y.loader.0))
        → shown first m (Some x) (Some y) (map g (range_with_len first count)) ≡ map (λ (n : ℕ). let w : Row = record { own = (g n).own; seen = (g n).seen ++ seen_by m (Some x) (Some y) n } in w) (range_with_len first count)
    by (inl e) =
        ap (λ (b : Bool). cond b (map g (range_with_len first count)) (changed first x.loader.0 (with_seen (shown_pairs m x y)) (map g (range_with_len first count)))) e.0
        ∙ nothing_more first count g (seen_by m (Some x) (Some y)) (λ n. ap (λ (k : ℕ). cond ((x.loader.0 == n) && not (k == n)) (shown_pairs m x y) []) (sym e.1) ∙ ap (λ (b : Bool). cond b (shown_pairs m x y) []) (both_or_none x.loader.0 n))
    by (inr e) =
        ap (λ (b : Bool). cond b (map g (range_with_len first count)) (changed first x.loader.0 (with_seen (shown_pairs m x y)) (map g (range_with_len first count)))) e.0
        ∙ changed_map first count x.loader.0 (with_seen (shown_pairs m x y)) g
        ∙ map_alike (λ (n : ℕ). cond (x.loader.0 == n) (with_seen (shown_pairs m x y) (g n)) (g n)) (λ (n : ℕ). record { own = (g n).own; seen = (g n).seen ++ seen_by m (Some x) (Some y) n })
        (λ n. seen_if (x.loader.0 == n) (shown_pairs m x y) (g n) ∙ ap (λ (b : Bool). let w : Row = record { own = (g n).own; seen = (g n).seen ++ cond b (shown_pairs m x y) [] } in w) (sym (first_alone x.loader.0 y.loader.0 n e.1))) (range_with_len first count)

pub seen_step : (s : State) (first count : ℕ) (ms : List ModuleId) (rs : List (ModuleId × ModuleId)) (a m : ModuleId) → shown first m (member_of s a) (member_of s m) (rows_of s first count ms rs) ≡ rows_of s first count ms (rs ++ (a, m) ∷ [])
unfolding seen_by
seen_step s first count ms rs a m =
    seen_rows first count m (member_of s a) (member_of s m) (row_of s ms rs)
    ∙ map_alike (λ (n : ℕ). record { own = flat_map (own_of s (record { 0 = n })) ms; seen = flat_map (seen_of s (record { 0 = n })) rs ++ seen_by m (member_of s a) (member_of s m) n }) (row_of s ms (rs ++ (a, m) ∷ []))
    (λ n. ap (λ (l : Pairs). let w : Row = record { own = flat_map (own_of s (record { 0 = n })) ms; seen = l } in w) (sym (flat_map_push (seen_of s (record { 0 = n })) rs (a, m)))) (range_with_len first count)

-- ---- at the start, and at the end

pub rows_begun : (s : State) (first count : ℕ) → replicate count (record { own = []; seen = [] }) ≡ rows_of s first count [] []
rows_begun s first zero = refl
rows_begun s first (suc count) = ap (λ (t : List Row). let w : Row = record { own = []; seen = [] } in w ∷ t) (rows_begun s (first + 1) count)

pub rows_begun_long : (s : State) (first count : ℕ) (rows : List Row) → rows ≡ replicate count (record { own = []; seen = [] }) → rows ≡ rows_of s first (length rows) [] []
rows_begun_long s first count rows e =
    e ∙ rows_begun s first count ∙ sym (ap (λ (n : ℕ). rows_of s first n [] []) (ap (λ (l : List Row). length l) e ∙ length-replicate count _))

rows_long : (s : State) (first count : ℕ) (ms : List ModuleId) (rs : List (ModuleId × ModuleId)) (rows : List Row) → rows ≡ rows_of s first count ms rs → length rows ≡ count
rows_long s first count ms rs rows e = ap (λ (w : List Row). length w) e ∙ length-map-range_with_len (row_of s ms rs) first count

-- rows of modules, whose number is that of the rows
pub rows_counted : (s : State) (first count : ℕ) (ms : List ModuleId) (rows : List Row) → rows ≡ rows_of s first count ms [] → rows ≡ rows_of s first (length rows) ms []
rows_counted s first count ms rows e = e ∙ sym (ap (λ (n : ℕ). rows_of s first n ms []) (rows_long s first count ms [] rows e))

pub rows_recounted : (s : State) (first count : ℕ) (ms : List ModuleId) (rs : List (ModuleId × ModuleId)) (rows new : List Row) → rows ≡ rows_of s first count ms [] → new ≡ rows_of s first (length rows) ms rs → new ≡ rows_of s first count ms rs
rows_recounted s first count ms rs rows new e f = f ∙ ap (λ (n : ℕ). rows_of s first n ms rs) (rows_long s first count ms [] rows e)

-- the parts that the rows make are those of the loaders
pub parts_made : (s : State) (l : LayerId) (first count : ℕ) (parent : ParentLoader) (reads : List (ModuleId × ModuleId)) (ms : List ModuleId) (begun rows : List Row) (parts : List delegation.Parts)
    → parts ≡ map (parts_by parent) rows → begun ≡ replicate count (record { own = []; seen = [] }) → rows ≡ rows_of s first (length begun) ms reads
    → ms ≡ (layer_at s l).modules → reads ≡ reads_of s l → parent ≡ (layer_at s l).parent_loader → parts ≡ map (parts_of s l) (loader_numbers first count)
parts_made s l first count parent reads ms begun rows parts e b f g h k =
    let long : length begun ≡ count = ap (λ (w : List Row). length w) b ∙ length-replicate count _ in
    let by_number : ℕ → delegation.Parts = λ n. parts_by parent (row_of s ms reads n) in
    let number : ℕ → LoaderId = λ n. record { 0 = n } in
    e
    ∙ ap (map (parts_by parent)) (f ∙ ap (λ (n : ℕ). rows_of s first n ms reads) long)
    ∙ map-map (parts_by parent) (row_of s ms reads) (range_with_len first count)
    ∙ map_alike by_number (λ (n : ℕ). parts_of s l (number n))
    (λ n. ap (λ (w : List ModuleId). parts_by parent (row_of s w reads n)) g
    ∙ ap (λ (w : List (ModuleId × ModuleId)). parts_by parent (row_of s (layer_at s l).modules w n)) h
    ∙ ap (λ (w : ParentLoader). parts_by w (row_of s (layer_at s l).modules (reads_of s l) n)) k) (range_with_len first count)
    ∙ sym (map-map (parts_of s l) number (range_with_len first count))
