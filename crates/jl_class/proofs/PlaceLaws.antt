-- The least place of an entry with a property, and the places of a pool that was read.
use Rattle.std.proofs.Common.{◌≡◌, ℕ, zero, suc, ◌+◌, ◌≤◌, ◌<◌, true, false, ltb, List, [], ◌∷◌, length, None, Some, Ok, refl, sym, ap, subst, ◌∙◌, arith, inl, inr}
use Rattle.std.specs.Prelude.{position}
use Rattle.std.specs.List.{position_or_len, flat_map}
use Rattle.std.proofs.lemmas.Bool.{le-ltb, lt-ltb}
use Rattle.jl_reading.specs.Reading.{number_at, two}
use Rattle.jl_reading.proofs.Stands.{Stands-splits, number_again}
use Rattle.jl_reading.proofs.Steps.{ok_is}
use Rattle.jl_pool.specs.declared.entry.Entry.{Entry}
use Rattle.jl_pool.specs.declared.entry.Entry.TheVariants as entries
use Rattle.jl_pool.specs.Spelling.{StandsPool, IsCount, entry_bytes}
use Rattle.jl_class.specs.Faults.{short}
use Rattle.jl_class.specs.Meaning.{is_of_modules, has_of_modules}

least : (es : List Entry) (i : ℕ) → ((k : ℕ) → k < i → has_of_modules es k ≡ false) → has_of_modules es i ≡ true → (position_or_len is_of_modules es ≡ i) × (i < length es)
least [] i before here = absurd cc
least (e ∷ es) zero before here = (rw here refl, omega arith)
least (e ∷ es) (suc i) before here =
    let first : is_of_modules e ≡ false = before 0 (omega arith) in
    let rest = least es i (λ k lt. before (suc k) (omega arith)) here in
    (rw first (omega (arith, rest.0)), omega (arith, rest.1))

pub place_here : (es : List Entry) (i : ℕ) → ((k : ℕ) → k < i → has_of_modules es k ≡ false) → has_of_modules es i ≡ true → position is_of_modules es ≡ Some i
place_here es i before here =
    let l = least es i before here in
    let within : ltb i (length es) ≡ true = lt-ltb i (length es) l.1 in
    rw (l.0, within) refl

none_least : (es : List Entry) → ((k : ℕ) → has_of_modules es k ≡ false) → length es ≤ position_or_len is_of_modules es
none_least [] none = omega arith
none_least (e ∷ es) none =
    let first : is_of_modules e ≡ false = none 0 in
    let rest = none_least es (λ k. none (suc k)) in
    rw first (omega (arith, rest))

pub place_none : (es : List Entry) → ((k : ℕ) → has_of_modules es k ≡ false) → position is_of_modules es ≡ None
place_none es none =
    let past : ltb (position_or_len is_of_modules es) (length es) ≡ false = le-ltb _ _ (none_least es none) in
    rw past refl

-- ---- past the count of a pool

nothing_past : (es : List Entry) (k : ℕ) → length es ≤ k → has_of_modules es k ≡ false
nothing_past [] k le = refl
nothing_past (e ∷ es) zero le = absurd (omega arith)
nothing_past (e ∷ es) (suc k) le = nothing_past es k (omega arith)

nothing_behind : (es : List Entry) (count : ℕ) → IsCount count es → (k : ℕ) → count ≤ k → has_of_modules (entries.Unused ∷ es) k ≡ false
nothing_behind es count (inl e) k le = nothing_past (entries.Unused ∷ es) k (omega arith)
nothing_behind es count (inr h) zero le = refl
nothing_behind es count (inr h) (suc k) le = nothing_past es k (let none : length es ≡ 0 = ap length h.1 in omega (arith, none))

count_small : (es : List Entry) (count : ℕ) → IsCount count es → length es < 65535 → count < 65536
count_small es count (inl e) few = omega arith
count_small es count (inr h) few = omega (arith, h.0)

pub pool_begins : (bytes : List ℕ) (at : ℕ) (pool : List Entry) (end : ℕ) → StandsPool bytes at pool end → at + 2 ≤ length bytes
pool_begins bytes at pool end s = (Stands-splits bytes at (two s.count) (flat_map entry_bytes s.es) end s.stands).first.within

pub past_count : (bytes : List ℕ) (at count next : ℕ) (pool : List Entry) (end : ℕ) → StandsPool bytes at pool end → number_at short 2 bytes at ≡ Ok (count, next) → (k : ℕ) → count ≤ k → has_of_modules pool k ≡ false
past_count bytes at count next pool end s e k le =
    let parts = Stands-splits bytes at (two s.count) (flat_map entry_bytes s.es) end s.stands in
    let again = number_again short 2 bytes at s.count (at + 2) (count_small s.es s.count s.counts s.right.few) parts.first in
    let same : count ≡ s.count = ap (λ (p : ℕ × ℕ). p.0) (ok_is _ _ (sym e ∙ again)) in
    subst (λ (p : List Entry). has_of_modules p k ≡ false) (sym s.first_unused) (nothing_behind s.es s.count s.counts k (omega arith))
