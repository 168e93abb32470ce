-- Where descriptors of methods, and whole descriptors, stop.
use Rattle.std.proofs.Common.{◌≡◌, ℕ, zero, suc, ◌+◌, ◌<◌, ◌≤◌, true, false, cond, ltb, eqb, List, [], ◌∷◌, ◌++◌, length, take, drop, get_or, Option, None, Some, Result, Ok, Err, refl, sym, ap, subst, ◌∙◌, arith, inl, inr}
use Rattle.std.specs.Prelude.{◌⊎◌}
use Rattle.std.proofs.Math.Seq.{get_or-append_seam}
use Rattle.std.proofs.lemmas.Bool.{cond_both, ltb-true, lt-ltb, le-ltb, eqb-true, eqb-false, ne_eqb, and_parts, cases_Bool, cases_lt}
use Rattle.std.proofs.lemmas.List.{length-append, length-take-le, get_or-append-add, take-append-drop, append-nil}
use Rattle.jl_logic.specs.Answers.{Gives}
use Rattle.jl_reading.specs.Reading.{◌>>=◌, Stands}
use Rattle.jl_names.specs.Bad.{IsBadAt}
use Rattle.jl_names.specs.Text.{told}
use Rattle.jl_names.specs.declared.fault.TextFault.{TextFault}
use Rattle.jl_names.specs.declared.fault.TextFault.TheVariants.{BadText, NoMemory}
use Rattle.jl_names.specs.declared.types.BaseType.{BaseType}
use Rattle.jl_names.specs.declared.types.BaseType.TheVariants.{Prim, Class}
use Rattle.jl_names.specs.declared.types.FieldType.{FieldType}
use Rattle.jl_names.specs.declared.types.Descriptor.{Descriptor}
use Rattle.jl_names.specs.declared.types.Descriptor.TheVariants.{Field, Method}
use Rattle.jl_names.specs.Descriptors.{is_wide, slots_of, type_bytes, StandsType, has_at, type_at, param_at, params_at, result_at, method_at, field_at, front_of, whole_or, descriptor_read, IsSomeDescriptor}
use Rattle.jl_names.proofs.TypeLaws.{type_stands, typed}
use Rattle.jl_names.proofs.DescriptorLaws.{has_from, has_parts, type_not, param_stands, closed_here, param_first, result_again, front_method, front_field, front_stands, descriptor_again}
use Rattle.jl_names.proofs.BadPlaces.{reach, Spans, spans_reach, spans_from, spans_bind, stays_bind, bind_bad, index_same, spans_bad, spans_ok, begun_inside, is_bad}
use Rattle.jl_names.proofs.DescriptorBad.{type_end, type_spans, type_stays, type_completes, Completes}

-- ---- a parameter

abbrev fitting : ℕ → ℕ → FieldType × ℕ → Result (FieldType × ℕ) TextFault
fitting taken at t = cond (ltb 255 (taken + slots_of t.0)) (Err (BadText at)) (Ok t)

param_full : (taken : ℕ) (text : List ℕ) (at : ℕ) → 255 ≤ taken → param_at taken text at ≡ Err (BadText at)
unfolding param_at
param_full taken text at full = rw (le-ltb taken 255 full) refl

param_tried : (taken : ℕ) (text : List ℕ) (at : ℕ) → taken < 255 → param_at taken text at ≡ (type_at text at >>= fitting taken at)
unfolding param_at
param_tried taken text at less = rw (lt-ltb taken 255 less) refl

param_spans : (taken : ℕ) (text : List ℕ) (at : ℕ) → at ≤ length text → Spans type_end at (length text) (param_at taken text at)
param_spans taken text at le =
    elim (cases_lt taken 255) [
      | inr full ↦ rw (param_full taken text at full) (omega arith, le)
      | inl less ↦
          rw (param_tried taken text at less) (spans_bind type_end type_end at (length text) (type_at text at) (fitting taken at) (type_spans text at le)
          (λ t e lt within. cond_both (ltb 255 (taken + slots_of t.0)) (Err (BadText at)) (Ok t) (λ r. Spans type_end at (length text) r) (λ much. (omega arith, le)) (λ fine. (lt, within))))
    ]

wide_place : (text : List ℕ) (at d : ℕ) (b : BaseType) (next : ℕ) → is_wide (typed d b) ≡ true → Stands text at (type_bytes text (typed d b)) next → next ≡ at + 1
wide_place text at zero (Prim b) next wide s = omega (arith, s.ends)
wide_place text at zero (Class from to) next wide s = absurd cc
wide_place text at (suc d) b next wide s = let p = and_parts (eqb (suc d) 0) _ wide in let none : suc d ≡ 0 = eqb-true (suc d) 0 p.0 in absurd (omega arith)

-- what takes two slots is one byte
two_slots : (text : List ℕ) (at : ℕ) (t : FieldType) (next : ℕ) → 1 < slots_of t → StandsType text at t next → next ≡ at + 1
two_slots text at t next many s =
    cond_both (is_wide t) 2 1 (λ n. 1 < n → next ≡ at + 1) (λ wide more. wide_place text at t.dims t.base next wide s.stands) (λ narrow more. absurd (omega arith)) many

param_stays : (taken : ℕ) (p u v : List ℕ) (at : ℕ) → at ≤ length (p ++ u) → reach type_end (param_at taken (p ++ u) at) ≤ length p → param_at taken (p ++ v) at ≡ param_at taken (p ++ u) at
param_stays taken p u v at le near =
    elim (cases_lt taken 255) [
      | inr full ↦ param_full taken (p ++ v) at full ∙ sym (param_full taken (p ++ u) at full)
      | inl less ↦
          let near_tried : reach type_end (type_at (p ++ u) at >>= fitting taken at) ≤ length p = subst (λ (r : Result (FieldType × ℕ) TextFault). reach type_end r ≤ length p) (param_tried taken (p ++ u) at less) near in
          param_tried taken (p ++ v) at less
          ∙ stays_bind type_end type_end (length p) (type_at (p ++ u) at) (type_at (p ++ v) at) (fitting taken at) (fitting taken at) (type_stays p u v at le)
          (λ t e close.
          let place : t.1 ≤ length p = cond_both (ltb 255 (taken + slots_of t.0)) (Err (BadText at)) (Ok t) (λ r. reach type_end r ≤ length p → t.1 ≤ length p)
          (λ much h. let more = ltb-true 255 (taken + slots_of t.0) much in let short = two_slots (p ++ u) at t.0 t.1 (omega arith) (type_stands (p ++ u) at t.0 t.1 le e) in omega arith) (λ fine h. h) close in
          (place, refl)) near_tried
          ∙ sym (param_tried taken (p ++ u) at less)
    ]

param_narrow : (taken : ℕ) (text : List ℕ) (at : ℕ) (t : FieldType) (next : ℕ) → taken < 255 → is_wide t ≡ false → type_at text at ≡ Ok (t, next) → param_at taken text at ≡ Ok (t, next)
unfolding param_at
param_narrow taken text at t next less narrow read = rw (lt-ltb taken 255 less, read, narrow, le-ltb 255 (taken + 1) (omega arith)) refl

abbrev bad_param : ℕ → Result (FieldType × ℕ) TextFault
bad_param k = Err (BadText k)

param_completes : (taken : ℕ) (p u : List ℕ) (at : ℕ) → at ≤ length (p ++ u) → param_at taken (p ++ u) at ≡ Err (BadText (length p)) → (at ≡ length p) ⊎ Completes {X = FieldType} p (λ text. param_at taken text at)
param_completes taken p u at le e =
    elim (cases_lt taken 255) [
      | inr full ↦ let same : bad_param at ≡ bad_param (length p) = sym (param_full taken (p ++ u) at full) ∙ e in inl cc
      | inl less ↦ elim (bind_bad (type_at (p ++ u) at) (fitting taken at) (length p) (sym (param_tried taken (p ++ u) at less) ∙ e)) [
        | inl failed ↦
            let t = type_completes p u at le failed in
            inr (record { rest = t.done.rest; found = t.done.found; reads = λ tail. param_narrow taken (p ++ (t.done.rest ++ tail)) at t.done.found (length p + length t.done.rest) less t.narrow (t.done.reads tail) })
        | inr x ↦ inl (cond_both (ltb 255 (taken + slots_of x.0.0)) (Err (BadText at)) (Ok x.0) (λ r. r ≡ Err (BadText (length p)) → at ≡ length p) (λ much h. cc) (λ fine h. absurd cc) x.2)
      ]
    ]

-- ---- parameters

abbrev close_end : List FieldType × ℕ → ℕ
close_end ts = ts.1 + 1

abbrev behind : FieldType → Result (List FieldType × ℕ) TextFault → Result (List FieldType × ℕ) TextFault
behind t read = read >>= λ ts. Ok (t ∷ ts.0, ts.1)

abbrev params_behind : ℕ → ℕ → List ℕ → FieldType × ℕ → Result (List FieldType × ℕ) TextFault
params_behind m taken text t = behind t.0 (params_at m (taken + slots_of t.0) text t.1)

params_more : (m taken : ℕ) (text : List ℕ) (at : ℕ) → has_at text at 41 ≡ false → params_at (suc m) taken text at ≡ (param_at taken text at >>= params_behind m taken text)
unfolding params_at
params_more m taken text at still = rw still refl

behind_reach : (t : FieldType) (r : Result (List FieldType × ℕ) TextFault) → reach close_end (behind t r) ≡ reach close_end r
behind_reach t (Ok ts) = refl
behind_reach t (Err (BadText k)) = refl
behind_reach t (Err NoMemory) = refl

behind_bad : (t : FieldType) (k : ℕ) (r : Result (List FieldType × ℕ) TextFault) → behind t r ≡ Err (BadText k) → r ≡ Err (BadText k)
behind_bad t k (Ok ts) e = absurd cc
behind_bad t k (Err d) e = let same : d ≡ BadText k = cc in ap (λ (x : TextFault). Err x) same

params_spans : (m taken : ℕ) (text : List ℕ) (at : ℕ) → at ≤ length text → length text < at + m → Spans close_end at (length text) (params_at m taken text at)
params_spans zero taken text at le enough = absurd (omega arith)
params_spans (suc m) taken text at le enough =
    elim (cases_Bool (has_at text at 41)) [
      | inl closes ↦ let p = has_parts text at 41 closes in rw (closed_here (suc m) taken text at closes) (omega arith, omega (arith, p.0))
      | inr still ↦
          rw (params_more m taken text at still) (spans_bind type_end close_end at (length text) (param_at taken text at) (params_behind m taken text) (param_spans taken text at le)
          (λ t e lt within. spans_bind close_end close_end at (length text) (params_at m (taken + slots_of t.0) text t.1) (λ ts. Ok (t.0 ∷ ts.0, ts.1))
          (spans_from close_end at t.1 (length text) (params_at m (taken + slots_of t.0) text t.1) (omega arith) (params_spans m (taken + slots_of t.0) text t.1 within (omega arith)))
          (λ ts h past inside. (past, inside))))
    ]

has_same : (p u v : List ℕ) (at b : ℕ) → at < length p → has_at (p ++ v) at b ≡ has_at (p ++ u) at b
has_same p u v at b lt = rw (lt-ltb at (length (p ++ v)) (begun_inside p v at lt), lt-ltb at (length (p ++ u)) (begun_inside p u at lt), index_same p u v at lt) refl

params_stays : (m again taken : ℕ) (p u v : List ℕ) (at : ℕ) → at ≤ length (p ++ u) → length (p ++ u) < at + m → length (p ++ v) < at + again
    → reach close_end (params_at m taken (p ++ u) at) ≤ length p → params_at again taken (p ++ v) at ≡ params_at m taken (p ++ u) at
params_stays zero again taken p u v at le enough more near = absurd (omega arith)
params_stays (suc m) zero taken p u v at le enough more near =
    absurd (omega (arith, spans_reach close_end at (length (p ++ u)) (params_at (suc m) taken (p ++ u) at) (params_spans (suc m) taken (p ++ u) at le enough), length-append p v))
params_stays (suc m) (suc again) taken p u v at le enough more near =
    let lt : at < length p = omega (arith, spans_reach close_end at (length (p ++ u)) (params_at (suc m) taken (p ++ u) at) (params_spans (suc m) taken (p ++ u) at le enough)) in
    let same = has_same p u v at 41 lt in
    elim (cases_Bool (has_at (p ++ u) at 41)) [
      | inl closes ↦ closed_here (suc again) taken (p ++ v) at (same ∙ closes) ∙ sym (closed_here (suc m) taken (p ++ u) at closes)
      | inr still ↦
          let close : reach close_end (param_at taken (p ++ u) at >>= params_behind m taken (p ++ u)) ≤ length p =
          subst (λ (r : Result (List FieldType × ℕ) TextFault). reach close_end r ≤ length p) (params_more m taken (p ++ u) at still) near in
          params_more again taken (p ++ v) at (same ∙ still)
          ∙ stays_bind type_end close_end (length p) (param_at taken (p ++ u) at) (param_at taken (p ++ v) at) (params_behind m taken (p ++ u)) (params_behind again taken (p ++ v)) (param_stays taken p u v at le)
          (λ t e far.
          let place = spans_ok type_end at (length (p ++ u)) t (param_at taken (p ++ u) at) (param_spans taken (p ++ u) at le) e in
          let rest = params_at m (taken + slots_of t.0) (p ++ u) t.1 in
          let far_rest : reach close_end rest ≤ length p = subst (λ (n : ℕ). n ≤ length p) (behind_reach t.0 rest) far in
          let begun = spans_reach close_end t.1 (length (p ++ u)) rest (params_spans m (taken + slots_of t.0) (p ++ u) t.1 place.1 (omega (arith, place.0))) in
          (omega arith, ap (behind t.0) (params_stays m again (taken + slots_of t.0) p u v t.1 place.1 (omega (arith, place.0)) (omega (arith, place.0)) far_rest))) close
          ∙ sym (params_more m taken (p ++ u) at still)
    ]

-- ---- parameters that were cut

-- the ) behind what completes them
close_stands : (p rest tail : List ℕ) → has_at (p ++ (rest ++ 41 ∷ tail)) (length p + length rest) 41 ≡ true
close_stands p rest tail =
    has_from (p ++ (rest ++ 41 ∷ tail)) (length p + length rest) 41 (omega (arith, length-append p (rest ++ 41 ∷ tail), length-append rest (41 ∷ tail)))
    (get_or-append-add p (rest ++ 41 ∷ tail) (length rest) 0 ∙ get_or-append_seam rest 41 tail 0)

record ParamsDone (p : List ℕ) (taken at : ℕ) : Type 0 where
  pub rest : List ℕ
  pub found : List FieldType
  pub reads : (tail : List ℕ) (m : ℕ) → length (p ++ (rest ++ 41 ∷ tail)) < at + m → params_at m taken (p ++ (rest ++ 41 ∷ tail)) at ≡ Ok (found, length p + length rest)

abbrev params_of : List FieldType → ℕ → Result (List FieldType × ℕ) TextFault
params_of ts at = Ok (ts, at)

closed_at_end : (p : List ℕ) (taken at : ℕ) → at ≡ length p → ParamsDone p taken at
closed_at_end p taken at e = record {
  rest = [];
  found = [];
  reads = λ tail m enough.
      let place : length p + 0 ≡ at = omega arith in
      closed_here m taken (p ++ 41 ∷ tail) at (subst (λ (n : ℕ). has_at (p ++ 41 ∷ tail) n 41 ≡ true) place (close_stands p [] tail)) ∙ ap (params_of []) (sym place);
}

param_opens : (taken : ℕ) (text : List ℕ) (at : ℕ) (t : FieldType) (next : ℕ) → at ≤ length text → param_at taken text at ≡ Ok (t, next) → has_at text at 41 ≡ false
param_opens taken text at t next le read = type_not text at 41 t next refl (param_stands taken text at t next le read).stands

last_param : (p rest : List ℕ) (taken at : ℕ) (t : FieldType) → at ≤ length p → ((tail : List ℕ) → param_at taken (p ++ (rest ++ tail)) at ≡ Ok (t, length p + length rest)) → (tail : List ℕ) (m : ℕ)
    → length (p ++ (rest ++ 41 ∷ tail)) < at + m → params_at m taken (p ++ (rest ++ 41 ∷ tail)) at ≡ Ok (t ∷ [], length p + length rest)
last_param p rest taken at t le reads tail zero enough = absurd (omega (arith, length-append p (rest ++ 41 ∷ tail)))
last_param p rest taken at t le reads tail (suc m) enough =
    let text = p ++ (rest ++ 41 ∷ tail) in
    let close = length p + length rest in
    param_first m taken text at t close [] close (param_opens taken text at t close (omega (arith, length-append p (rest ++ 41 ∷ tail))) (reads (41 ∷ tail))) (reads (41 ∷ tail))
    (closed_here m (taken + slots_of t) text close (close_stands p rest tail))

one_more : (p : List ℕ) (taken at : ℕ) (t : FieldType) (next : ℕ) → at ≤ length p → at < next → ((w : List ℕ) → param_at taken (p ++ w) at ≡ Ok (t, next)) → ParamsDone p (taken + slots_of t) next → ParamsDone p taken at
one_more p taken at t next le lt reads d = record { rest = d.rest; found = t ∷ d.found; reads = go }
  where
    go : (tail : List ℕ) (m : ℕ) → length (p ++ (d.rest ++ 41 ∷ tail)) < at + m → params_at m taken (p ++ (d.rest ++ 41 ∷ tail)) at ≡ Ok (t ∷ d.found, length p + length d.rest)
    go tail zero enough = absurd (omega (arith, length-append p (d.rest ++ 41 ∷ tail)))
    go tail (suc m) enough =
        let w = d.rest ++ 41 ∷ tail in
        param_first m taken (p ++ w) at t next d.found (length p + length d.rest) (param_opens taken (p ++ w) at t next (omega (arith, length-append p w)) (reads w)) (reads w) (d.reads tail m (omega arith))

params_completes : (m taken : ℕ) (p u : List ℕ) (at : ℕ) → at ≤ length (p ++ u) → length (p ++ u) < at + m → params_at m taken (p ++ u) at ≡ Err (BadText (length p)) → ParamsDone p taken at
params_completes zero taken p u at le enough e = absurd (omega arith)
params_completes (suc m) taken p u at le enough e =
    let begun = spans_bad close_end at (length (p ++ u)) (length p) (params_at (suc m) taken (p ++ u) at) (params_spans (suc m) taken (p ++ u) at le enough) e in
    elim (cases_Bool (has_at (p ++ u) at 41)) [
      | inl closes ↦ let bad : params_of [] at ≡ Err (BadText (length p)) = sym (closed_here (suc m) taken (p ++ u) at closes) ∙ e in absurd cc
      | inr still ↦ elim (bind_bad (param_at taken (p ++ u) at) (params_behind m taken (p ++ u)) (length p) (sym (params_more m taken (p ++ u) at still) ∙ e)) [
        | inl failed ↦ elim (param_completes taken p u at le failed) [
          | inl place ↦ closed_at_end p taken at place
          | inr c ↦ record { rest = c.rest; found = c.found ∷ []; reads = last_param p c.rest taken at c.found begun.0 c.reads }
        ]
        | inr x ↦
            let t = x.0 in
            let place = spans_ok type_end at (length (p ++ u)) t (param_at taken (p ++ u) at) (param_spans taken (p ++ u) at le) x.1 in
            let rest = params_at m (taken + slots_of t.0) (p ++ u) t.1 in
            let failed : rest ≡ Err (BadText (length p)) = behind_bad t.0 (length p) rest x.2 in
            let before = spans_bad close_end t.1 (length (p ++ u)) (length p) rest (params_spans m (taken + slots_of t.0) (p ++ u) t.1 place.1 (omega (arith, place.0))) failed in
            let near : reach type_end (param_at taken (p ++ u) at) ≤ length p = subst (λ (r : Result (FieldType × ℕ) TextFault). reach type_end r ≤ length p) (sym x.1) before.0 in
            one_more p taken at t.0 t.1 begun.0 place.0 (λ w. param_stays taken p u w at le near ∙ x.1)
            (params_completes m (taken + slots_of t.0) p u t.1 place.1 (omega (arith, place.0)) failed)
      ]
    ]

-- ---- results

abbrev result_end : Option FieldType × ℕ → ℕ
result_end r = r.1

abbrev some_of : Result (FieldType × ℕ) TextFault → Result (Option FieldType × ℕ) TextFault
some_of read = read >>= λ t. Ok (Some t.0, t.1)

some_reach : (r : Result (FieldType × ℕ) TextFault) → reach result_end (some_of r) ≡ reach type_end r
some_reach (Ok t) = refl
some_reach (Err (BadText k)) = refl
some_reach (Err NoMemory) = refl

some_bad : (k : ℕ) (r : Result (FieldType × ℕ) TextFault) → some_of r ≡ Err (BadText k) → r ≡ Err (BadText k)
some_bad k (Ok t) e = absurd cc
some_bad k (Err d) e = let same : d ≡ BadText k = cc in ap (λ (x : TextFault). Err x) same

abbrev result_of : Option FieldType → ℕ → Result (Option FieldType × ℕ) TextFault
result_of r at = Ok (r, at)

result_void : (text : List ℕ) (at : ℕ) → has_at text at 86 ≡ true → result_at text at ≡ Ok (None, at + 1)
unfolding result_at
result_void text at void = rw void refl

result_typed : (text : List ℕ) (at : ℕ) → has_at text at 86 ≡ false → result_at text at ≡ some_of (type_at text at)
unfolding result_at
result_typed text at other = rw other refl

result_spans : (text : List ℕ) (at : ℕ) → at ≤ length text → Spans result_end at (length text) (result_at text at)
result_spans text at le =
    elim (cases_Bool (has_at text at 86)) [
      | inl void ↦ let p = has_parts text at 86 void in rw (result_void text at void) (omega arith, omega (arith, p.0))
      | inr other ↦ rw (result_typed text at other) (spans_bind type_end result_end at (length text) (type_at text at) (λ t. Ok (Some t.0, t.1)) (type_spans text at le) (λ t e lt within. (lt, within)))
    ]

result_stays : (p u v : List ℕ) (at : ℕ) → at ≤ length (p ++ u) → reach result_end (result_at (p ++ u) at) ≤ length p → result_at (p ++ v) at ≡ result_at (p ++ u) at
result_stays p u v at le near =
    let lt : at < length p = omega (arith, spans_reach result_end at (length (p ++ u)) (result_at (p ++ u) at) (result_spans (p ++ u) at le)) in
    let same = has_same p u v at 86 lt in
    elim (cases_Bool (has_at (p ++ u) at 86)) [
      | inl void ↦ result_void (p ++ v) at (same ∙ void) ∙ sym (result_void (p ++ u) at void)
      | inr other ↦
          let close : reach type_end (type_at (p ++ u) at) ≤ length p =
          subst (λ (n : ℕ). n ≤ length p) (ap (reach result_end) (result_typed (p ++ u) at other) ∙ some_reach (type_at (p ++ u) at)) near in
          result_typed (p ++ v) at (same ∙ other) ∙ ap some_of (type_stays p u v at le close) ∙ sym (result_typed (p ++ u) at other)
    ]

result_completes : (p u : List ℕ) (at : ℕ) → at ≤ length (p ++ u) → result_at (p ++ u) at ≡ Err (BadText (length p)) → Completes {X = Option FieldType} p (λ text. result_at text at)
result_completes p u at le e =
    elim (cases_Bool (has_at (p ++ u) at 86)) [
      | inl void ↦ let bad : result_of None (at + 1) ≡ Err (BadText (length p)) = sym (result_void (p ++ u) at void) ∙ e in absurd cc
      | inr other ↦
          let failed = some_bad (length p) (type_at (p ++ u) at) (sym (result_typed (p ++ u) at other) ∙ e) in
          let begun = spans_bad type_end at (length (p ++ u)) (length p) (type_at (p ++ u) at) (type_spans (p ++ u) at le) failed in
          let t = type_completes p u at le failed in
          record {
            rest = t.done.rest;
            found = Some t.done.found;
            reads = λ tail. result_again (p ++ (t.done.rest ++ tail)) at (Some t.done.found) (length p + length t.done.rest)
                (type_stands (p ++ (t.done.rest ++ tail)) at t.done.found (length p + length t.done.rest) (omega (arith, length-append p (t.done.rest ++ tail))) (t.done.reads tail));
          }
    ]

-- ---- methods

abbrev pub front_end : Descriptor × ℕ → ℕ
front_end d = d.1

abbrev method_of : List FieldType → Result (Option FieldType × ℕ) TextFault → Result (Descriptor × ℕ) TextFault
method_of ts read = read >>= λ r. Ok (Method ts r.0, r.1)

abbrev method_behind : List ℕ → List FieldType × ℕ → Result (Descriptor × ℕ) TextFault
method_behind text ts = method_of ts.0 (result_at text (ts.1 + 1))

method_reach : (ts : List FieldType) (r : Result (Option FieldType × ℕ) TextFault) → reach front_end (method_of ts r) ≡ reach result_end r
method_reach ts (Ok x) = refl
method_reach ts (Err (BadText k)) = refl
method_reach ts (Err NoMemory) = refl

method_bad : (ts : List FieldType) (k : ℕ) (r : Result (Option FieldType × ℕ) TextFault) → method_of ts r ≡ Err (BadText k) → r ≡ Err (BadText k)
method_bad ts k (Ok x) e = absurd cc
method_bad ts k (Err d) e = let same : d ≡ BadText k = cc in ap (λ (x : TextFault). Err x) same

method_is : (text : List ℕ) → method_at text ≡ (params_at (length text) 0 text 1 >>= method_behind text)
unfolding method_at
method_is text = refl

first_spans : (text : List ℕ) → 1 ≤ length text → Spans close_end 1 (length text) (params_at (length text) 0 text 1)
first_spans text le = params_spans (length text) 0 text 1 le (omega arith)

method_spans : (text : List ℕ) → 1 ≤ length text → Spans front_end 0 (length text) (method_at text)
method_spans text le =
    rw (method_is text) (spans_bind close_end front_end 0 (length text) (params_at (length text) 0 text 1) (method_behind text) (spans_from close_end 0 1 (length text) (params_at (length text) 0 text 1) (omega arith) (first_spans text le))
    (λ ts e lt within. spans_bind result_end front_end 0 (length text) (result_at text (ts.1 + 1)) (λ r. Ok (Method ts.0 r.0, r.1))
    (spans_from result_end 0 (ts.1 + 1) (length text) (result_at text (ts.1 + 1)) (omega arith) (result_spans text (ts.1 + 1) within)) (λ r h past inside. (past, inside))))

method_stays : (p u v : List ℕ) → 1 ≤ length (p ++ u) → reach front_end (method_at (p ++ u)) ≤ length p → method_at (p ++ v) ≡ method_at (p ++ u)
method_stays p u v le near =
    let close = subst (λ (r : Result (Descriptor × ℕ) TextFault). reach front_end r ≤ length p) (method_is (p ++ u)) near in
    method_is (p ++ v)
    ∙ stays_bind close_end front_end (length p) (params_at (length (p ++ u)) 0 (p ++ u) 1) (params_at (length (p ++ v)) 0 (p ++ v) 1) (method_behind (p ++ u)) (method_behind (p ++ v))
    (params_stays (length (p ++ u)) (length (p ++ v)) 0 p u v 1 le (omega arith) (omega arith))
    (λ ts e far.
    let place = spans_ok close_end 1 (length (p ++ u)) ts (params_at (length (p ++ u)) 0 (p ++ u) 1) (first_spans (p ++ u) le) e in
    let far_result : reach result_end (result_at (p ++ u) (ts.1 + 1)) ≤ length p = subst (λ (n : ℕ). n ≤ length p) (method_reach ts.0 (result_at (p ++ u) (ts.1 + 1))) far in
    let begun = spans_reach result_end (ts.1 + 1) (length (p ++ u)) (result_at (p ++ u) (ts.1 + 1)) (result_spans (p ++ u) (ts.1 + 1) place.1) in
    (omega arith, ap (method_of ts.0) (result_stays p u v (ts.1 + 1) place.1 far_result))) close
    ∙ sym (method_is (p ++ u))

-- a text that begins so and is a descriptor
pub record FrontDone (p : List ℕ) : Type 0 where
  pub rest : List ℕ
  pub found : Descriptor
  pub reads : front_of (p ++ rest) ≡ Ok (found, length (p ++ rest))

void_last : (p rest : List ℕ) → get_or (p ++ (rest ++ 41 ∷ 86 ∷ [])) (length p + length rest + 1) 0 ≡ 86
void_last p rest =
    let place : length p + length rest + 1 ≡ length p + (length rest + 1) = omega arith in
    ap (λ (n : ℕ). get_or (p ++ (rest ++ 41 ∷ 86 ∷ [])) n 0) place ∙ get_or-append-add p (rest ++ 41 ∷ 86 ∷ []) (length rest + 1) 0 ∙ get_or-append-add rest (41 ∷ 86 ∷ []) 1 0

method_completes : (p u : List ℕ) → has_at (p ++ u) 0 40 ≡ true → method_at (p ++ u) ≡ Err (BadText (length p)) → FrontDone p
method_completes p u opens e =
    let le : 1 ≤ length (p ++ u) = (has_parts (p ++ u) 0 40 opens).0 in
    elim (bind_bad (params_at (length (p ++ u)) 0 (p ++ u) 1) (method_behind (p ++ u)) (length p) (sym (method_is (p ++ u)) ∙ e)) [
      | inl failed ↦
          let begun = spans_bad close_end 1 (length (p ++ u)) (length p) (params_at (length (p ++ u)) 0 (p ++ u) 1) (first_spans (p ++ u) le) failed in
          let d = params_completes (length (p ++ u)) 0 p u 1 le (omega arith) failed in
          let end = d.rest ++ 41 ∷ 86 ∷ [] in
          let text = p ++ end in
          let close = length p + length d.rest in
          let size : length text ≡ close + 2 = omega (arith, length-append p end, length-append d.rest (41 ∷ 86 ∷ [])) in
          let last : get_or text (close + 1) 0 ≡ 86 = void_last p d.rest in
          record {
            rest = end;
            found = Method d.found None;
            reads = front_method text d.found close None (length text) (has_same p u end 0 40 begun.0 ∙ opens) (d.reads (86 ∷ []) (length text) (omega arith))
                (result_void text (close + 1) (has_from text (close + 1) 86 (omega arith) last) ∙ ap (result_of None) (omega arith));
          }
      | inr x ↦
          let ts = x.0 in
          let place = spans_ok close_end 1 (length (p ++ u)) ts (params_at (length (p ++ u)) 0 (p ++ u) 1) (first_spans (p ++ u) le) x.1 in
          let failed = method_bad ts.0 (length p) (result_at (p ++ u) (ts.1 + 1)) x.2 in
          let begun = spans_bad result_end (ts.1 + 1) (length (p ++ u)) (length p) (result_at (p ++ u) (ts.1 + 1)) (result_spans (p ++ u) (ts.1 + 1) place.1) failed in
          let c = result_completes p u (ts.1 + 1) place.1 failed in
          let text = p ++ c.rest in
          let near : reach close_end (params_at (length (p ++ u)) 0 (p ++ u) 1) ≤ length p = subst (λ (r : Result (List FieldType × ℕ) TextFault). reach close_end r ≤ length p) (sym x.1) begun.0 in
          let result : result_at text (ts.1 + 1) ≡ Ok (c.found, length text) =
          subst (λ (l : List ℕ). result_at (p ++ l) (ts.1 + 1) ≡ Ok (c.found, length p + length c.rest)) (append-nil c.rest) (c.reads []) ∙ ap (result_of c.found) (sym (length-append p c.rest)) in
          record {
            rest = c.rest;
            found = Method ts.0 c.found;
            reads = front_method text ts.0 ts.1 c.found (length text) (has_same p u c.rest 0 40 (omega (arith, begun.0)) ∙ opens)
                (params_stays (length (p ++ u)) (length text) 0 p u c.rest 1 le (omega arith) (omega arith) near ∙ x.1) result;
          }
    ]

-- ---- fields

abbrev field_of : Result (FieldType × ℕ) TextFault → Result (Descriptor × ℕ) TextFault
field_of read = read >>= λ t. Ok (Field t.0, t.1)

field_reach : (r : Result (FieldType × ℕ) TextFault) → reach front_end (field_of r) ≡ reach type_end r
field_reach (Ok t) = refl
field_reach (Err (BadText k)) = refl
field_reach (Err NoMemory) = refl

field_bad : (k : ℕ) (r : Result (FieldType × ℕ) TextFault) → field_of r ≡ Err (BadText k) → r ≡ Err (BadText k)
field_bad k (Ok t) e = absurd cc
field_bad k (Err d) e = let same : d ≡ BadText k = cc in ap (λ (x : TextFault). Err x) same

field_is : (text : List ℕ) → field_at text ≡ field_of (type_at text 0)
unfolding field_at
field_is text = refl

field_spans : (text : List ℕ) → Spans front_end 0 (length text) (field_at text)
field_spans text = rw (field_is text) (spans_bind type_end front_end 0 (length text) (type_at text 0) (λ t. Ok (Field t.0, t.1)) (type_spans text 0 (omega arith)) (λ t e lt within. (lt, within)))

field_stays : (p u v : List ℕ) → reach front_end (field_at (p ++ u)) ≤ length p → field_at (p ++ v) ≡ field_at (p ++ u)
field_stays p u v near =
    let close : reach type_end (type_at (p ++ u) 0) ≤ length p = subst (λ (n : ℕ). n ≤ length p) (ap (reach front_end) (field_is (p ++ u)) ∙ field_reach (type_at (p ++ u) 0)) near in
    field_is (p ++ v) ∙ ap field_of (type_stays p u v 0 (omega arith) close) ∙ sym (field_is (p ++ u))

abbrev type_found : FieldType → ℕ → Result (FieldType × ℕ) TextFault
type_found t at = Ok (t, at)

field_completes : (p u : List ℕ) → field_at (p ++ u) ≡ Err (BadText (length p)) → FrontDone p
field_completes p u e =
    let t = type_completes p u 0 (omega arith) (field_bad (length p) (type_at (p ++ u) 0) (sym (field_is (p ++ u)) ∙ e)) in
    let rest = t.done.rest in
    let read : type_at (p ++ rest) 0 ≡ Ok (t.done.found, length p + length rest) = subst (λ (l : List ℕ). type_at (p ++ l) 0 ≡ Ok (t.done.found, length p + length rest)) (append-nil rest) (t.done.reads []) in
    record {
      rest = rest;
      found = Field t.done.found;
      reads = front_field (p ++ rest) t.done.found (length (p ++ rest)) (read ∙ ap (type_found t.done.found) (sym (length-append p rest)));
    }

-- ---- whole texts

abbrev failed_at : ℕ → Result Descriptor TextFault
failed_at k = Err (BadText k)

abbrev read_of : Descriptor → Result Descriptor TextFault
read_of d = Ok d

front_opens : (text : List ℕ) → has_at text 0 40 ≡ true → front_of text ≡ method_at text
front_opens text opens = rw opens refl

front_other : (text : List ℕ) → has_at text 0 40 ≡ false → front_of text ≡ field_at text
front_other text other = rw other refl

front_spans : (text : List ℕ) → Spans front_end 0 (length text) (front_of text)
front_spans text =
    elim (cases_Bool (has_at text 0 40)) [
      | inl opens ↦ let p = has_parts text 0 40 opens in rw (front_opens text opens) (method_spans text (omega (arith, p.0)))
      | inr other ↦ rw (front_other text other) (field_spans text)
    ]

front_stays : (p u v : List ℕ) → reach front_end (front_of (p ++ u)) ≤ length p → front_of (p ++ v) ≡ front_of (p ++ u)
front_stays p u v near =
    let lt : 0 < length p = omega (arith, spans_reach front_end 0 (length (p ++ u)) (front_of (p ++ u)) (front_spans (p ++ u))) in
    let same = has_same p u v 0 40 lt in
    elim (cases_Bool (has_at (p ++ u) 0 40)) [
      | inl opens ↦
          let close : reach front_end (method_at (p ++ u)) ≤ length p = subst (λ (r : Result (Descriptor × ℕ) TextFault). reach front_end r ≤ length p) (front_opens (p ++ u) opens) near in
          front_opens (p ++ v) (same ∙ opens) ∙ method_stays p u v (has_parts (p ++ u) 0 40 opens).0 close ∙ sym (front_opens (p ++ u) opens)
      | inr other ↦
          let close : reach front_end (field_at (p ++ u)) ≤ length p = subst (λ (r : Result (Descriptor × ℕ) TextFault). reach front_end r ≤ length p) (front_other (p ++ u) other) near in
          front_other (p ++ v) (same ∙ other) ∙ field_stays p u v close ∙ sym (front_other (p ++ u) other)
    ]

front_completes : (p u : List ℕ) → front_of (p ++ u) ≡ Err (BadText (length p)) → FrontDone p
front_completes p u e =
    elim (cases_Bool (has_at (p ++ u) 0 40)) [
      | inl opens ↦ method_completes p u opens (sym (front_opens (p ++ u) opens) ∙ e)
      | inr other ↦ field_completes p u (sym (front_other (p ++ u) other) ∙ e)
    ]

read_is : (text : List ℕ) → descriptor_read text ≡ (front_of text >>= whole_or text)
unfolding descriptor_read
read_is text = refl

-- the place behind what does not end the text
left_over : (text : List ℕ) (d : Descriptor × ℕ) (k : ℕ) → whole_or text d ≡ Err (BadText k) → (d.1 ≡ k) × (d.1 ≡ length text → ⊥)
left_over text d k e =
    cond_both (eqb d.1 (length text)) (Ok d.0) (Err (BadText d.1)) (λ r. r ≡ Err (BadText k) → (d.1 ≡ k) × (d.1 ≡ length text → ⊥))
    (λ whole h. absurd cc) (λ other h. let place : d.1 ≡ k = cc in (place, eqb-false d.1 (length text) other)) e

abbrev front_found : Descriptor → ℕ → Result (Descriptor × ℕ) TextFault
front_found d at = Ok (d, at)

read_stays : (p u v : List ℕ) (k : ℕ) → k < length p → descriptor_read (p ++ u) ≡ Err (BadText k) → descriptor_read (p ++ v) ≡ Err (BadText k)
read_stays p u v k lt e =
    elim (bind_bad (front_of (p ++ u)) (whole_or (p ++ u)) k (sym (read_is (p ++ u)) ∙ e)) [
      | inl failed ↦
          let near : reach front_end (front_of (p ++ u)) ≤ length p = subst (λ (r : Result (Descriptor × ℕ) TextFault). reach front_end r ≤ length p) (sym failed) (omega arith) in
          read_is (p ++ v) ∙ rw (front_stays p u v near ∙ failed) refl
      | inr x ↦
          let d = x.0 in
          let left = left_over (p ++ u) d k x.2 in
          let near : reach front_end (front_of (p ++ u)) ≤ length p = subst (λ (r : Result (Descriptor × ℕ) TextFault). reach front_end r ≤ length p) (sym x.1) (omega (arith, left.0)) in
          let more : d.1 ≡ length (p ++ v) → ⊥ = λ (h : d.1 ≡ length (p ++ v)). omega (arith, left.0, length-append p v) in
          read_is (p ++ v) ∙ rw (front_stays p u v near ∙ x.1, ne_eqb d.1 (length (p ++ v)) more) (ap (λ (n : ℕ). failed_at n) left.0)
    ]

read_completes : (p u : List ℕ) → descriptor_read (p ++ u) ≡ Err (BadText (length p)) → FrontDone p
read_completes p u e =
    elim (bind_bad (front_of (p ++ u)) (whole_or (p ++ u)) (length p) (sym (read_is (p ++ u)) ∙ e)) [
      | inl failed ↦ front_completes p u failed
      | inr x ↦
          let d = x.0 in
          let left = left_over (p ++ u) d (length p) x.2 in
          let near : reach front_end (front_of (p ++ u)) ≤ length p = subst (λ (r : Result (Descriptor × ℕ) TextFault). reach front_end r ≤ length p) (sym x.1) (omega (arith, left.0)) in
          let place : d.1 ≡ length (p ++ []) = omega (arith, left.0, length-append p []) in
          record { rest = []; found = d.0; reads = front_stays p u [] near ∙ x.1 ∙ ap (front_found d.0) place }
    ]

read_inside : (text : List ℕ) (k : ℕ) → descriptor_read text ≡ Err (BadText k) → k ≤ length text
read_inside text k e =
    elim (bind_bad (front_of text) (whole_or text) k (sym (read_is text) ∙ e)) [
      | inl failed ↦ (spans_bad front_end 0 (length text) k (front_of text) (front_spans text) failed).1
      | inr x ↦
          let left = left_over text x.0 k x.2 in
          let spans = spans_ok front_end 0 (length text) x.0 (front_of text) (front_spans text) x.1 in
          omega (arith, left.0, spans.1)
    ]

not_both : (text : List ℕ) (k : ℕ) → descriptor_read text ≡ Err (BadText k) → IsSomeDescriptor text → ⊥
not_both text k e is = let bad : read_of is.0 ≡ Err (BadText k) = sym (descriptor_again text is.0 is.1) ∙ e in absurd cc

pub descriptor_bad : (text : List ℕ) (k : ℕ) → descriptor_read text ≡ Err (BadText k) → IsBadAt IsSomeDescriptor text k
descriptor_bad text k e =
    let le = read_inside text k e in
    let size : length (take k text) ≡ k = length-take-le k text le in
    let cut : descriptor_read (take k text ++ drop k text) ≡ Err (BadText (length (take k text))) =
    ap descriptor_read (take-append-drop k text) ∙ e ∙ ap (λ (n : ℕ). failed_at n) (sym size) in
    let done = read_completes (take k text) (drop k text) cut in
    is_bad IsSomeDescriptor text k le done.rest (done.found, front_stands (take k text ++ done.rest) done.found done.reads) (not_both text k e)
    (λ lt more is.
    let longer : length (take (k + 1) text) ≡ k + 1 = length-take-le (k + 1) text (omega arith) in
    let again : descriptor_read (take (k + 1) text ++ drop (k + 1) text) ≡ Err (BadText k) = ap descriptor_read (take-append-drop (k + 1) text) ∙ e in
    not_both (take (k + 1) text ++ more) k (read_stays (take (k + 1) text) (drop (k + 1) text) more k (omega arith) again) is)

-- what a call answered
pub bad_place : (text : List ℕ) (r : Result Descriptor TextFault) → Gives told (λ d. d) r (descriptor_read text) → (at : ℕ) → r ≡ Err (BadText at) → IsBadAt IsSomeDescriptor text at
bad_place text r given at e = descriptor_bad text at (subst (λ (x : Result Descriptor TextFault). Gives told (λ d. d) x (descriptor_read text)) e given)
