-- Whole pools: what is read is spelled so, and what is spelled so is read.
use Rattle.std.proofs.Common.{◌≡◌, ℕ, zero, suc, ◌+◌, ◌-◌, ◌<◌, ◌≤◌, Bool, true, false, not, cond, ltb, List, [], ◌∷◌, length, Option, None, Some, Result, Ok, Err, refl, sym, ap, subst, ◌∙◌, arith, inl, inr}
use Rattle.std.specs.Prelude.{position, IsTrue, IfOk}
use Rattle.std.specs.List.{flat_map, AllByRecursion, prefix_len}
use Rattle.std.proofs.lemmas.Bool.{cond_both, ltb-false, le-ltb}
use Rattle.jl_logic.specs.Answers.{Gives}
use Rattle.jl_reading.specs.Reading.{◌>>=◌, number_at, each_at, IsBytes, two}
use Rattle.jl_reading.proofs.Steps.{bind_ok, ok_is}
use Rattle.jl_reading.proofs.Stands.{Stands-then, Stands-splits, number_stands, number_again, Along, each_stands, each_again}
use Rattle.jl_pool.specs.declared.entry.Entry.{Entry}
use Rattle.jl_pool.specs.declared.entry.Entry.TheVariants as entries
use Rattle.jl_pool.specs.declared.fault.PoolFault.{PoolFault}
use Rattle.jl_pool.specs.declared.fault.PoolFault.TheVariants as faults
use Rattle.jl_pool.specs.Pool.{refers_rightly}
use Rattle.jl_pool.specs.Reading.{told, entry_at, refers_or, pool_at}
use Rattle.jl_pool.specs.Spelling.{entry_bytes, EntryFits, AreSpaced, IsCount, StandsPool}
use Rattle.jl_pool.proofs.Entries.{Fit, entry_stands, entry_again, spaced_along, along_spaced, fits_along}

-- a pool whose count and entries are read and whose references are right is read
pub whole_read : (bytes : List ℕ) (at count first : ℕ) (es : List Entry) (next : ℕ)
    → number_at faults.Short 2 bytes at ≡ Ok (count, first)
    → each_at (entry_at count bytes) (entries.Unused ∷ []) (count - 1) first ≡ Ok (es, next)
    → position (λ e. not (refers_rightly es e)) es ≡ None
    → pool_at bytes at ≡ Ok (es, next)
unfolding pool_at
whole_read bytes at count first es next counted read right = rw (counted, read, right) refl

-- ---- references

refers_or_ok : (o : Option ℕ) (read y : List Entry × ℕ) → refers_or o read ≡ Ok y → (o ≡ None) × (read ≡ y)
refers_or_ok None read y e = (refl, ok_is read y e)
refers_or_ok (Some index) read y e = absurd cc

all_long : (p : Entry → Bool) (es : List Entry) → length es ≤ prefix_len p es → AllByRecursion (λ e. IsTrue (p e)) es
all_long p [] le = tt
all_long p (e ∷ es) le =
    cond_both (p e) (1 + prefix_len p es) 0 (λ n. length (e ∷ es) ≤ n → AllByRecursion (λ e. IsTrue (p e)) (e ∷ es))
    (λ h more. (h, all_long p es (omega arith))) (λ h more. absurd (omega arith)) le

long_all : (p : Entry → Bool) (es : List Entry) → AllByRecursion (λ e. IsTrue (p e)) es → length es ≤ prefix_len p es
long_all p [] all = omega arith
long_all p (e ∷ es) all = let rest = long_all p es all.1 in rw all.0 (omega arith)

no_place : (i n : ℕ) → cond (ltb i n) (Some i) None ≡ None → n ≤ i
no_place i n = cond_both (ltb i n) (Some i) None (λ o. o ≡ None → n ≤ i) (λ lt e. absurd cc) (λ ge e. ltb-false i n ge)

not_not : (b : Bool) → not (not b) ≡ b
not_not true = refl
not_not false = refl

all_as : (p q : Entry → Bool) (same : (e : Entry) → p e ≡ q e) (es : List Entry) → AllByRecursion (λ e. IsTrue (p e)) es → AllByRecursion (λ e. IsTrue (q e)) es
all_as p q same [] all = tt
all_as p q same (e ∷ es) all = (sym (same e) ∙ all.0, all_as p q same es all.1)

pub right_none : (r : Entry → Bool) (es : List Entry) → position (λ e. not (r e)) es ≡ None → AllByRecursion (λ e. IsTrue (r e)) es
right_none r es e = all_as (λ e. not (not (r e))) r (λ e. not_not (r e)) es (all_long (λ e. not (not (r e))) es (no_place _ (length es) e))

pub none_right : (r : Entry → Bool) (es : List Entry) → AllByRecursion (λ e. IsTrue (r e)) es → position (λ e. not (r e)) es ≡ None
none_right r es all =
    let long : length es ≤ prefix_len (λ e. not (not (r e))) es = long_all (λ e. not (not (r e))) es (all_as r (λ e. not (not (r e))) (λ e. sym (not_not (r e))) es all) in
    let past : ltb (prefix_len (λ e. not (not (r e))) es) (length es) ≡ false = le-ltb _ _ long in
    rw past refl

-- ---- the two laws

spaced_first : (count : ℕ) (es : List Entry) → length es ≡ count - 1 → Along (Fit count) (entries.Unused ∷ []) es → AreSpaced false es
spaced_first zero [] size along = tt
spaced_first zero (e ∷ es) size along = absurd (omega arith)
spaced_first (suc n) es size along = spaced_along (suc n) (entries.Unused ∷ []) es (omega arith) (λ w. absurd cc) along

along_first : (count : ℕ) (es : List Entry) → IsCount count es → AreSpaced false es → AllByRecursion EntryFits es → Along (Fit count) (entries.Unused ∷ []) es
along_first count es (inl e) s fits = along_spaced count (entries.Unused ∷ []) es (omega arith) s fits
along_first count es (inr h) s fits = subst (λ (xs : List Entry). Along (Fit count) (entries.Unused ∷ []) xs) (sym h.1) tt

counts_first : (count : ℕ) (es : List Entry) → length es ≡ count - 1 → IsCount count es
counts_first zero [] size = inr (refl, refl)
counts_first zero (e ∷ es) size = absurd (omega arith)
counts_first (suc n) es size = inl (omega arith)

size_first : (count : ℕ) (es : List Entry) → IsCount count es → (length es ≡ count - 1) × (length es < 65535 → count < 65536)
size_first count es (inl e) = (omega arith, λ lt. omega arith)
size_first count es (inr h) = let none : length es ≡ 0 = ap length h.1 in (omega (arith, h.0), λ lt. omega (arith, h.0))

pub pool_stands : (bytes : List ℕ) (at : ℕ) (pool : List Entry) (next : ℕ) → IsBytes bytes → pool_at bytes at ≡ Ok (pool, next) → StandsPool bytes at pool next
unfolding pool_at
pool_stands bytes at pool next fits e =
    let a = bind_ok (number_at faults.Short 2 bytes at) (λ count. each_at (entry_at count.0 bytes) (entries.Unused ∷ []) (count.0 - 1) count.1 >>= λ read. refers_or (position (λ e. not (refers_rightly read.0 e)) read.0) read) (pool, next) e in
    let count = a.0.0 in
    let b = bind_ok (each_at (entry_at count bytes) (entries.Unused ∷ []) (count - 1) a.0.1) (λ read. refers_or (position (λ e. not (refers_rightly read.0 e)) read.0) read) (pool, next) a.2 in
    let r = refers_or_ok (position (λ e. not (refers_rightly b.0.0 e)) b.0.0) b.0 (pool, next) b.2 in
    let s = number_stands faults.Short 2 bytes at count a.0.1 fits a.1 in
    let f = each_stands bytes entry_bytes (Fit count) (entry_at count bytes) (entry_stands count bytes fits) (count - 1) (entries.Unused ∷ []) a.0.1 b.0.0 b.0.1 s.0.within b.1 in
    let refer : AllByRecursion (λ e. IsTrue (refers_rightly (entries.Unused ∷ f.xs) e)) (entries.Unused ∷ f.xs) =
    right_none (refers_rightly (entries.Unused ∷ f.xs)) (entries.Unused ∷ f.xs) (subst (λ (es : List Entry). position (λ e. not (refers_rightly es e)) es ≡ None) f.parts r.0) in
    let stands : StandsPool bytes at b.0.0 b.0.1 = record {
      es = f.xs;
      count = count;
      first_unused = f.parts;
      counts = counts_first count f.xs f.count;
      right = record {
        few = omega (arith, f.count, s.1);
        spaced = spaced_first count f.xs f.count f.along;
        fit = fits_along count (entries.Unused ∷ []) f.xs f.along;
        refer = refer.1;
      };
      stands = Stands-then bytes at (two count) a.0.1 (flat_map entry_bytes f.xs) b.0.1 s.0 f.stand;
    } in
    subst (λ (p : List Entry × ℕ). StandsPool bytes at p.0 p.1) r.1 stands

pub pool_again : (bytes : List ℕ) (at : ℕ) (pool : List Entry) (next : ℕ) → StandsPool bytes at pool next → pool_at bytes at ≡ Ok (pool, next)
pool_again bytes at pool next p =
    let size = size_first p.count p.es p.counts in
    let parts = Stands-splits bytes at (two p.count) (flat_map entry_bytes p.es) next p.stands in
    let counted = number_again faults.Short 2 bytes at p.count (at + 2) (size.1 p.right.few) parts.first in
    let along = along_first p.count p.es p.counts p.right.spaced p.right.fit in
    let read = each_again bytes entry_bytes (Fit p.count) (entry_at p.count bytes) (entry_again p.count bytes) p.es (entries.Unused ∷ []) (at + 2) next along parts.second in
    let read-first : each_at (entry_at p.count bytes) (entries.Unused ∷ []) (p.count - 1) (at + 2) ≡ Ok (entries.Unused ∷ p.es, next) = ap (λ (n : ℕ). each_at (entry_at p.count bytes) (entries.Unused ∷ []) n (at + 2)) (sym size.0) ∙ read in
    let right = none_right (refers_rightly (entries.Unused ∷ p.es)) (entries.Unused ∷ p.es) (refl, p.right.refer) in
    whole_read bytes at p.count (at + 2) (entries.Unused ∷ p.es) next counted read-first right ∙ ap (λ (es : List Entry). Ok (es, next)) (sym p.first_unused)

-- what a reader answered
pub is_found : {X : Type 0} (view : X → List Entry × ℕ) (bytes : List ℕ) (at : ℕ) (r : Result X PoolFault) → IsBytes bytes → Gives told view r (pool_at bytes at) → IfOk r (λ x. StandsPool bytes at (view x).0 (view x).1)
is_found view bytes at (Ok x) fits given = pool_stands bytes at (view x).0 (view x).1 fits given
is_found view bytes at (Err e) fits given = tt

pub is_only : {X : Type 0} (view : X → List Entry × ℕ) (bytes : List ℕ) (at : ℕ) (r : Result X PoolFault) → Gives told view r (pool_at bytes at) → (pool : List Entry) (next : ℕ) → StandsPool bytes at pool next → Gives told view r (Ok (pool, next))
is_only view bytes at r given pool next s = subst (λ (d : Result (List Entry × ℕ) PoolFault). Gives told view r d) (pool_again bytes at pool next s) given
