-- Reading units one after the other, as a loop does.
use Rattle.std.proofs.Common.{◌≡◌, ℕ, zero, suc, ◌-◌, ◌+◌, ◌≤◌, ◌<◌, List, [], ◌∷◌, ◌++◌, length, Result, Ok, Err, refl, sym, ap, ◌∙◌, append_assoc, arith}
use Rattle.std.proofs.lemmas.Bool.{lt-ltb, le-ltb}
use Rattle.std.proofs.lemmas.List.{append-nil}
use Rattle.jl_logic.specs.Answers.{Fails}
use Rattle.jl_reading.specs.Reading.{◌>>=◌}
use Rattle.jl_names.specs.declared.fault.TextFault.{TextFault}
use Rattle.jl_names.specs.declared.fault.TextFault.TheVariants.{BadText, NoMemory}
use Rattle.jl_names.specs.Text.{told, unit_at, units_from, units_read}

-- what was read before, and what is still read
abbrev pub with_front : List ℕ → Result (List ℕ) TextFault → Result (List ℕ) TextFault
with_front front read = read >>= λ us. Ok (front ++ us)

with_none : (read : Result (List ℕ) TextFault) → with_front [] read ≡ read
with_none (Ok us) = refl
with_none (Err f) = refl

pub begins : (bytes : List ℕ) → with_front [] (units_from (length bytes - 0) bytes 0) ≡ units_read bytes
unfolding units_read
begins bytes =
    let k : length bytes - 0 ≡ length bytes = omega arith in
    with_none (units_from (length bytes - 0) bytes 0) ∙ ap (λ (n : ℕ). units_from n bytes 0) k

regroup : (front : List ℕ) (u : ℕ) (read : Result (List ℕ) TextFault) → with_front front (read >>= λ us. Ok (u ∷ us)) ≡ with_front (front ++ u ∷ []) read
regroup front u (Ok us) = ap (λ (x : List ℕ). Ok x) (sym (append_assoc front (u ∷ []) us))
regroup front u (Err f) = refl

pub goes_on : (front : List ℕ) (n i at : ℕ) (bytes : List ℕ) (u next : ℕ) (total : Result (List ℕ) TextFault) → i < n → at < length bytes → unit_at bytes at ≡ Ok (u, next)
    → with_front front (units_from (n - i) bytes at) ≡ total → with_front (front ++ u ∷ []) (units_from (n - (i + 1)) bytes next) ≡ total
unfolding units_from
goes_on front n i at bytes u next total lt within h so_far =
    let k : n - i ≡ suc (n - (i + 1)) = omega arith in
    let one : with_front front (units_from (n - i) bytes at) ≡ with_front (front ++ u ∷ []) (units_from (n - (i + 1)) bytes next) =
    rw (k, lt-ltb at (length bytes) within, h) (regroup front u (units_from (n - (i + 1)) bytes next)) in
    sym one ∙ so_far

pub told_as : {A : Type 0} (e : TextFault) (total : Result A TextFault) → total ≡ Err e → Fails told e total
told_as (BadText at) total h = h
told_as NoMemory total h = tt

pub stops : (e : TextFault) (front : List ℕ) (n i at : ℕ) (bytes : List ℕ) (total : Result (List ℕ) TextFault) → i < n → at < length bytes → unit_at bytes at ≡ Err e
    → with_front front (units_from (n - i) bytes at) ≡ total → Fails told e total
unfolding units_from
stops e front n i at bytes total lt within h so_far =
    let k : n - i ≡ suc (n - (i + 1)) = omega arith in
    let one : with_front front (units_from (n - i) bytes at) ≡ Err e = rw (k, lt-ltb at (length bytes) within, h) refl in
    told_as e total (sym so_far ∙ one)

ended : (front : List ℕ) (n at : ℕ) (bytes : List ℕ) → length bytes ≤ at → with_front front (units_from n bytes at) ≡ Ok front
unfolding units_from
ended front zero at bytes le = ap (λ (x : List ℕ). Ok x) (append-nil front)
ended front (suc n) at bytes le = rw (le-ltb at (length bytes) le) (ap (λ (x : List ℕ). Ok x) (append-nil front))

pub ends : (front : List ℕ) (n at : ℕ) (bytes : List ℕ) (total : Result (List ℕ) TextFault) → length bytes ≤ at → with_front front (units_from n bytes at) ≡ total → total ≡ Ok front
ends front n at bytes total le so_far = sym so_far ∙ ended front n at bytes le

pub is_done : (front : List ℕ) (n i at : ℕ) (bytes : List ℕ) (total : Result (List ℕ) TextFault) → n ≤ i → with_front front (units_from (n - i) bytes at) ≡ total → total ≡ Ok front
unfolding units_from
is_done front n i at bytes total le so_far =
    let k : n - i ≡ 0 = omega arith in
    let one : with_front front (units_from (n - i) bytes at) ≡ Ok front = rw k (ap (λ (x : List ℕ). Ok x) (append-nil front)) in
    sym so_far ∙ one
