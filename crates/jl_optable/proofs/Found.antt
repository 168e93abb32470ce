-- The row of an opcode stands in the table at the opcode's place.
use Rattle.std.proofs.Common.{◌≡◌, ℕ, zero, suc, ◌+◌, ◌-◌, ◌≤◌, ◌<◌, inl, inr, length, None, Some, true, refl, subst, arith}
use Rattle.std.specs.Prelude.{slice_get}
use Rattle.std.proofs.lemmas.Bool.{le-leb, lt-leb, cases_lt}
use Rattle.jl_optable.specs.Rows.{has_row, row_of, form_of, rows_from, table}

-- the rows from an opcode on, where each has one
at_index : (n from k : ℕ) → k < n → ((j : ℕ) → j ≤ k → has_row (from + j) ≡ true) → slice_get (rows_from n from) k ≡ Some (row_of (from + k))
unfolding rows_from
at_index zero from k lt all = absurd (omega arith)
at_index (suc n) from zero lt all =
    let e : from + 0 ≡ from = omega arith in
    let here : has_row from ≡ true = subst (λ (m : ℕ). has_row m ≡ true) e (all 0 (omega arith)) in
    rw (here, e) refl
at_index (suc n) from (suc k) lt all =
    let first : from + 0 ≡ from = omega arith in
    let here : has_row from ≡ true = subst (λ (m : ℕ). has_row m ≡ true) first (all 0 (omega arith)) in
    let later : (j : ℕ) → j ≤ k → has_row (from + 1 + j) ≡ true = λ j le. (let e : from + 1 + j ≡ from + suc j = omega arith in rw e (all (suc j) (omega arith))) in
    let e : from + 1 + k ≡ from + suc k = omega arith in
    rw here (subst (λ (m : ℕ). slice_get (rows_from n (from + 1)) k ≡ Some (row_of m)) e (at_index n (from + 1) k (omega arith) later))

low : (op : ℕ) → op < 168 → has_row op ≡ true
unfolding has_row
low op lt = rw (le-leb op 200 (omega arith), lt-leb 168 op lt) refl

high : (op : ℕ) → 170 ≤ op → op ≤ 200 → has_row op ≡ true
unfolding has_row
high op ge le = rw (le-leb op 200 le, le-leb 168 op (omega arith), lt-leb op 169 (omega arith)) refl

-- the two gaps are passed by
at_gaps : (n k : ℕ) → k ≤ 30 → k + 3 ≤ n → slice_get (rows_from n 168) k ≡ Some (row_of (170 + k))
unfolding rows_from has_row
at_gaps zero k le lt = absurd (omega arith)
at_gaps (suc zero) k le lt = absurd (omega arith)
at_gaps (suc (suc n)) k le lt = at_index n 170 k (omega arith) (λ j h. high (170 + j) (omega arith) (omega arith))

behind_gaps : (d n from k : ℕ) → from + d ≡ 168 → k ≤ 30 → d + k + 3 ≤ n → slice_get (rows_from n from) (d + k) ≡ Some (row_of (170 + k))
unfolding rows_from
behind_gaps zero n from k e le lt =
    let here : from ≡ 168 = omega arith in
    let there : 0 + k ≡ k = omega arith in
    rw (here, there) (at_gaps n k le (omega arith))
behind_gaps (suc d) zero from k e le lt = absurd (omega arith)
behind_gaps (suc d) (suc n) from k e le lt =
    let there : suc d + k ≡ suc (d + k) = omega arith in
    rw (low from (omega arith), there) (behind_gaps d n (from + 1) k (omega arith) le (omega arith))

has_form : (op : ℕ) → has_row op ≡ true → form_of op ≡ Some (row_of op)
unfolding form_of
has_form op h = rw h refl

pub below_gaps : (op : ℕ) → op ≤ 167 → slice_get table op ≡ form_of op
unfolding table
below_gaps op le =
    let e : 0 + op ≡ op = omega arith in
    rw (has_form op (low op (omega arith))) (subst (λ (m : ℕ). slice_get (rows_from 256 0) op ≡ Some (row_of m)) e (at_index 256 0 op (omega arith) (λ j h. low (0 + j) (omega arith))))

pub above_gaps : (op : ℕ) → 170 ≤ op → op ≤ 200 → slice_get table (op - 2) ≡ form_of op
unfolding table
above_gaps op ge le =
    let k : ℕ = op - 170 in
    let place : 168 + k ≡ op - 2 = omega arith in
    let e : 170 + k ≡ op = omega arith in
    rw (has_form op (high op ge le), ← place) (subst (λ (m : ℕ). slice_get (rows_from 256 0) (168 + k) ≡ Some (row_of m)) e (behind_gaps 168 256 0 k (omega arith) (omega arith) (omega arith)))

in_gaps : (op : ℕ) → 168 ≤ op → op ≤ 169 → form_of op ≡ None
unfolding form_of has_row
in_gaps op ge le = rw (le-leb op 200 (omega arith), le-leb 168 op ge, le-leb op 169 le) refl

past_all : (op : ℕ) → 201 ≤ op → form_of op ≡ None
unfolding form_of has_row
past_all op ge = rw (lt-leb op 200 (omega arith)) refl

pub table-length : length table ≡ 199
unfolding table rows_from has_row
table-length = refl

-- an opcode that is not below the gaps and not above them has no row
pub no_form : (op : ℕ) → (op ≤ 167 → ⊥) → (170 ≤ op → op ≤ 200 → ⊥) → form_of op ≡ None
no_form op not_below not_above =
    elim (cases_lt 200 op) [
      | inl more ↦ past_all op (omega arith)
      | inr le ↦ elim (cases_lt op 170) [
        | inl less ↦ in_gaps op (elim (cases_lt 167 op) [ inl lt ↦ omega arith | inr ge ↦ absurd (not_below ge) ]) (omega arith)
        | inr ge ↦ absurd (not_above ge le)
      ]
    ]
