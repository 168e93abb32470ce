-- Reading parameters one after the other, as a loop does.
use Rattle.std.proofs.Common.{◌≡◌, ℕ, zero, suc, ◌+◌, ◌-◌, ◌≤◌, ◌<◌, true, false, List, [], ◌∷◌, ◌++◌, length, Result, Ok, Err, refl, sym, ap, subst, ◌∙◌, append_assoc, arith}
use Rattle.std.proofs.lemmas.List.{append-nil}
use Rattle.jl_logic.specs.Answers.{Fails}
use Rattle.jl_reading.specs.Reading.{◌>>=◌}
use Rattle.jl_names.specs.declared.fault.TextFault.{TextFault}
use Rattle.jl_names.specs.declared.types.FieldType.{FieldType}
use Rattle.jl_names.specs.Text.{told}
use Rattle.jl_names.specs.Descriptors.{has_at, param_at, params_at, slots_of}
use Rattle.jl_names.proofs.TextLoop.{told_as}

-- what was read before, and what is still read
abbrev with_front : List FieldType → Result (List FieldType × ℕ) TextFault → Result (List FieldType × ℕ) TextFault
with_front front read = read >>= λ ts. Ok (front ++ ts.0, ts.1)

with_none : (read : Result (List FieldType × ℕ) TextFault) → with_front [] read ≡ read
with_none (Ok ts) = refl
with_none (Err f) = refl

regroup : (front : List FieldType) (t : FieldType) (read : Result (List FieldType × ℕ) TextFault) → with_front front (read >>= λ ts. Ok (t ∷ ts.0, ts.1)) ≡ with_front (front ++ t ∷ []) read
regroup front t (Ok ts) = ap (λ (x : List FieldType). Ok (x, ts.1)) (sym (append_assoc front (t ∷ []) ts.0))
regroup front t (Err f) = refl

-- Parameters were read up to a place, and the rest is read from there.
pub record Reads (text : List ℕ) (front : List FieldType) (taken at : ℕ) : Type 0 where
  pub fuel : ℕ
  pub enough : length text < at + fuel
  pub few : taken < 256
  pub within : at ≤ length text
  pub rest : with_front front (params_at fuel taken text at) ≡ params_at (length text) 0 text 1

pub reads_first : (text : List ℕ) → 1 ≤ length text → Reads text [] 0 1
reads_first text long = record { fuel = length text; enough = omega arith; few = omega arith; within = long; rest = with_none (params_at (length text) 0 text 1) }

more_read : (fuel : ℕ) (text : List ℕ) (front : List FieldType) (taken at : ℕ) (t : FieldType) (next : ℕ) (total : Result (List FieldType × ℕ) TextFault)
    → has_at text at 41 ≡ false → param_at taken text at ≡ Ok (t, next) → with_front front (params_at (suc fuel) taken text at) ≡ total
    → with_front (front ++ t ∷ []) (params_at fuel (taken + slots_of t) text next) ≡ total
unfolding params_at
more_read fuel text front taken at t next total open_still read so_far =
    let one : with_front front (params_at (suc fuel) taken text at) ≡ with_front (front ++ t ∷ []) (params_at fuel (taken + slots_of t) text next) =
    rw (open_still, read) (regroup front t (params_at fuel (taken + slots_of t) text next)) in
    sym one ∙ so_far

pub reads_more : (text : List ℕ) (front : List FieldType) (taken at : ℕ) (t : FieldType) (next : ℕ) → Reads text front taken at
    → has_at text at 41 ≡ false → param_at taken text at ≡ Ok (t, next) → at < next → next ≤ length text → taken + slots_of t < 256
    → Reads text (front ++ t ∷ []) (taken + slots_of t) next
reads_more text front taken at t next r open_still read past within few =
    let k : r.fuel ≡ suc (r.fuel - 1) = omega (arith, r.enough, r.within) in
    record {
      fuel = r.fuel - 1;
      enough = omega (arith, r.enough);
      few = few;
      within = within;
      rest = more_read (r.fuel - 1) text front taken at t next (params_at (length text) 0 text 1) open_still read
          (subst (λ (n : ℕ). with_front front (params_at n taken text at) ≡ params_at (length text) 0 text 1) k r.rest);
    }

stopped : (fuel : ℕ) (text : List ℕ) (front : List FieldType) (taken at : ℕ) (e : TextFault) → has_at text at 41 ≡ false → param_at taken text at ≡ Err e
    → with_front front (params_at (suc fuel) taken text at) ≡ Err e
unfolding params_at
stopped fuel text front taken at e open_still read = rw (open_still, read) refl

pub reads_fault : (text : List ℕ) (front : List FieldType) (taken at : ℕ) (e : TextFault) → Reads text front taken at
    → has_at text at 41 ≡ false → param_at taken text at ≡ Err e → Fails told e (params_at (length text) 0 text 1)
reads_fault text front taken at e r open_still read =
    let k : r.fuel ≡ suc (r.fuel - 1) = omega (arith, r.enough, r.within) in
    told_as e (params_at (length text) 0 text 1) (sym (subst (λ (n : ℕ). with_front front (params_at n taken text at) ≡ params_at (length text) 0 text 1) k r.rest) ∙ stopped (r.fuel - 1) text front taken at e open_still read)

closed : (fuel : ℕ) (text : List ℕ) (front : List FieldType) (taken at : ℕ) → has_at text at 41 ≡ true → with_front front (params_at fuel taken text at) ≡ Ok (front, at)
unfolding params_at
closed zero text front taken at closes = ap (λ (x : List FieldType). Ok (x, at)) (append-nil front)
closed (suc n) text front taken at closes = rw closes (ap (λ (x : List FieldType). Ok (x, at)) (append-nil front))

pub reads_all : (text : List ℕ) (front : List FieldType) (taken at : ℕ) → Reads text front taken at → has_at text at 41 ≡ true → params_at (length text) 0 text 1 ≡ Ok (front, at)
reads_all text front taken at r closes = sym r.rest ∙ closed r.fuel text front taken at closes
