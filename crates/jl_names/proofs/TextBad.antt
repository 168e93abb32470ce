-- Where texts stop.
use Rattle.std.proofs.Common.{◌≡◌, ℕ, zero, suc, ◌+◌, ◌-◌, ◌*◌, ◌<◌, ◌≤◌, Bool, true, false, ◌&&◌, ◌||◌, ltb, leb, eqb, List, [], ◌∷◌, ◌++◌, length, take, drop, get_or, slice_index, Result, Ok, Err, refl, sym, ap, subst, ◌∙◌, arith, inl, inr}
use Rattle.std.specs.Prelude.{◌⊎◌}
use Rattle.std.proofs.Math.Seq.{get_or-append_seam}
use Rattle.std.proofs.lemmas.Bool.{ltb-true, lt-ltb, le-ltb, eqb-true, ne_eqb, and_parts, or_cases, cases_Bool, cases_lt, cases_eq}
use Rattle.std.proofs.lemmas.List.{length-append, length-take-le, get_or-append-add, get_or_past, take-append-drop}
use Rattle.jl_logic.specs.Answers.{Gives}
use Rattle.jl_reading.specs.Reading.{◌>>=◌, IsBytes}
use Rattle.jl_reading.proofs.Stands.{IsBytes-take}
use Rattle.jl_names.specs.Bad.{IsBadAt}
use Rattle.jl_names.specs.declared.fault.TextFault.{TextFault}
use Rattle.jl_names.specs.declared.fault.TextFault.TheVariants.{BadText}
use Rattle.jl_names.specs.Text.{told, is_tail, may_follow, begins_two, begins_three, unit_at, units_from, units_read, IsText}
use Rattle.jl_names.proofs.TextLaws.{one_read, two_read, three_read, between, units_found, units_again}
use Rattle.jl_names.proofs.BadPlaces.{reach, Spans, spans_bad, spans_ok, bind_bad, index_same, begun_inside, is_bad}

-- ---- one unit

abbrev ascii : ℕ → Bool
ascii b = ltb 0 b && ltb b 128

-- the second byte is there and may follow
abbrev goes_on : List ℕ → ℕ → Bool
goes_on bytes at = ltb (at + 1) (length bytes) && may_follow (slice_index bytes at) (slice_index bytes (at + 1))

abbrev ends_on : List ℕ → ℕ → Bool
ends_on bytes at = ltb (at + 2) (length bytes) && is_tail (slice_index bytes (at + 2))

-- how a unit is read
data UnitRead (bytes : List ℕ) (at : ℕ) : Type 0 where
  one : ascii (slice_index bytes at) ≡ true → UnitRead bytes at
  none : ascii (slice_index bytes at) ≡ false → (begins_two (slice_index bytes at) || begins_three (slice_index bytes at)) ≡ false → UnitRead bytes at
  no_second : ascii (slice_index bytes at) ≡ false → (begins_two (slice_index bytes at) || begins_three (slice_index bytes at)) ≡ true → goes_on bytes at ≡ false → UnitRead bytes at
  two : ascii (slice_index bytes at) ≡ false → begins_two (slice_index bytes at) ≡ true → goes_on bytes at ≡ true → UnitRead bytes at
  no_third : ascii (slice_index bytes at) ≡ false → begins_two (slice_index bytes at) ≡ false → begins_three (slice_index bytes at) ≡ true → goes_on bytes at ≡ true → ends_on bytes at ≡ false → UnitRead bytes at
  three : ascii (slice_index bytes at) ≡ false → begins_two (slice_index bytes at) ≡ false → begins_three (slice_index bytes at) ≡ true → goes_on bytes at ≡ true → ends_on bytes at ≡ true → UnitRead bytes at

unit_read : (bytes : List ℕ) (at : ℕ) → UnitRead bytes at
unit_read bytes at =
    let b = slice_index bytes at in
    elim (cases_Bool (ascii b)) [
      | inl a ↦ one a
      | inr a ↦ elim (cases_Bool (begins_two b || begins_three b)) [
        | inr n ↦ none a n
        | inl begun ↦ elim (cases_Bool (goes_on bytes at)) [
          | inr n ↦ no_second a begun n
          | inl second ↦ elim (cases_Bool (begins_two b)) [
            | inl is_two ↦ two a is_two second
            | inr not_two ↦
                let is_three : begins_three b ≡ true = (rw not_two at begun) in
                elim (cases_Bool (ends_on bytes at)) [
                  | inl third ↦ three a not_two is_three second third
                  | inr n ↦ no_third a not_two is_three second n
                ]
          ]
        ]
      ]
    ]

none_read : (bytes : List ℕ) (at b : ℕ) → slice_index bytes at ≡ b → ascii b ≡ false → (begins_two b || begins_three b) ≡ false → unit_at bytes at ≡ Err (BadText at)
unfolding unit_at
none_read bytes at b here a n = rw (here, a, n) refl

no_second_read : (bytes : List ℕ) (at b : ℕ) → slice_index bytes at ≡ b → ascii b ≡ false → (begins_two b || begins_three b) ≡ true → goes_on bytes at ≡ false → unit_at bytes at ≡ Err (BadText (at + 1))
unfolding unit_at
no_second_read bytes at b here a begun n =
    let m : (ltb (at + 1) (length bytes) && may_follow b (slice_index bytes (at + 1))) ≡ false = rw here at n in
    rw (here, a, begun, m) refl

no_third_read : (bytes : List ℕ) (at b : ℕ) → slice_index bytes at ≡ b → ascii b ≡ false → begins_two b ≡ false → begins_three b ≡ true → goes_on bytes at ≡ true → ends_on bytes at ≡ false → unit_at bytes at ≡ Err (BadText (at + 2))
unfolding unit_at
no_third_read bytes at b here a not_two is_three second n =
    let m : (ltb (at + 1) (length bytes) && may_follow b (slice_index bytes (at + 1))) ≡ true = rw here at second in
    rw (here, a, not_two, is_three, m, n) refl

two_here : (bytes : List ℕ) (at b c : ℕ) → slice_index bytes at ≡ b → slice_index bytes (at + 1) ≡ c → ascii b ≡ false → begins_two b ≡ true → goes_on bytes at ≡ true → unit_at bytes at ≡ Ok ((b - 192) * 64 + (c - 128), at + 2)
two_here bytes at b c here there a is_two second =
    let p = and_parts (ltb (at + 1) (length bytes)) (may_follow (slice_index bytes at) (slice_index bytes (at + 1))) second in
    two_read bytes at b c here there (ltb-true (at + 1) (length bytes) p.0) a is_two (rw (here, there) at p.1)

three_here : (bytes : List ℕ) (at b c d : ℕ) → slice_index bytes at ≡ b → slice_index bytes (at + 1) ≡ c → slice_index bytes (at + 2) ≡ d → ascii b ≡ false → begins_two b ≡ false → begins_three b ≡ true → goes_on bytes at ≡ true → ends_on bytes at ≡ true
    → unit_at bytes at ≡ Ok ((b - 224) * 4096 + (c - 128) * 64 + (d - 128), at + 3)
three_here bytes at b c d here there last a not_two is_three second third =
    let p = and_parts (ltb (at + 1) (length bytes)) (may_follow (slice_index bytes at) (slice_index bytes (at + 1))) second in
    let q = and_parts (ltb (at + 2) (length bytes)) (is_tail (slice_index bytes (at + 2))) third in
    three_read bytes at b c d here there last (ltb-true (at + 2) (length bytes) q.0) a not_two is_three (rw (here, there) at p.1) (rw last at q.1)

abbrev unit_end : ℕ × ℕ → ℕ
unit_end u = u.1

unit_spans : (bytes : List ℕ) (at : ℕ) → at < length bytes → Spans unit_end at (length bytes) (unit_at bytes at)
unit_spans bytes at lt =
    elim (unit_read bytes at) [
      | one a ↦ rw (one_read bytes at (slice_index bytes at) refl a) (omega arith, omega arith)
      | none a n ↦ rw (none_read bytes at (slice_index bytes at) refl a n) (omega arith, omega arith)
      | no_second a begun n ↦ rw (no_second_read bytes at (slice_index bytes at) refl a begun n) (omega arith, omega arith)
      | two a is_two second ↦
          let p = and_parts (ltb (at + 1) (length bytes)) (may_follow (slice_index bytes at) (slice_index bytes (at + 1))) second in
          let far = ltb-true (at + 1) (length bytes) p.0 in
          rw (two_here bytes at (slice_index bytes at) (slice_index bytes (at + 1)) refl refl a is_two second) (omega arith, omega arith)
      | no_third a not_two is_three second n ↦
          let p = and_parts (ltb (at + 1) (length bytes)) (may_follow (slice_index bytes at) (slice_index bytes (at + 1))) second in
          let far = ltb-true (at + 1) (length bytes) p.0 in
          rw (no_third_read bytes at (slice_index bytes at) refl a not_two is_three second n) (omega arith, omega arith)
      | three a not_two is_three second third ↦
          let q = and_parts (ltb (at + 2) (length bytes)) (is_tail (slice_index bytes (at + 2))) third in
          let far = ltb-true (at + 2) (length bytes) q.0 in
          rw (three_here bytes at (slice_index bytes at) (slice_index bytes (at + 1)) (slice_index bytes (at + 2)) refl refl refl a not_two is_three second third) (omega arith, omega arith)
    ]

-- ---- units of texts with the same front

goes_same : (p u v : List ℕ) (at : ℕ) → at + 1 < length p → goes_on (p ++ v) at ≡ goes_on (p ++ u) at
goes_same p u v at lt =
    rw (lt-ltb (at + 1) (length (p ++ v)) (begun_inside p v (at + 1) lt), lt-ltb (at + 1) (length (p ++ u)) (begun_inside p u (at + 1) lt), index_same p u v at (omega arith), index_same p u v (at + 1) lt) refl

ends_same : (p u v : List ℕ) (at : ℕ) → at + 2 < length p → ends_on (p ++ v) at ≡ ends_on (p ++ u) at
ends_same p u v at lt = rw (lt-ltb (at + 2) (length (p ++ v)) (begun_inside p v (at + 2) lt), lt-ltb (at + 2) (length (p ++ u)) (begun_inside p u (at + 2) lt), index_same p u v (at + 2) lt) refl

abbrev Near : List ℕ → Result (ℕ × ℕ) TextFault → Type 0
Near p r = reach unit_end r ≤ length p

unit_stays : (p u v : List ℕ) (at : ℕ) → at < length (p ++ u) → Near p (unit_at (p ++ u) at) → unit_at (p ++ v) at ≡ unit_at (p ++ u) at
unit_stays p u v at lt near =
    let x = p ++ u in
    let y = p ++ v in
    let b = slice_index x at in
    let c = slice_index x (at + 1) in
    let d = slice_index x (at + 2) in
    elim (unit_read x at) [
      | one a ↦
          let is = one_read x at b refl a in
          let far : at + 1 ≤ length p = subst (Near p) is near in
          one_read y at b (index_same p u v at (omega arith)) a ∙ sym is
      | none a n ↦
          let is = none_read x at b refl a n in
          let far : at + 1 ≤ length p = subst (Near p) is near in
          none_read y at b (index_same p u v at (omega arith)) a n ∙ sym is
      | no_second a begun n ↦
          let is = no_second_read x at b refl a begun n in
          let far : (at + 1) + 1 ≤ length p = subst (Near p) is near in
          no_second_read y at b (index_same p u v at (omega arith)) a begun (goes_same p u v at (omega arith) ∙ n) ∙ sym is
      | two a is_two second ↦
          let is = two_here x at b c refl refl a is_two second in
          let far : at + 2 ≤ length p = subst (Near p) is near in
          two_here y at b c (index_same p u v at (omega arith)) (index_same p u v (at + 1) (omega arith)) a is_two (goes_same p u v at (omega arith) ∙ second) ∙ sym is
      | no_third a not_two is_three second n ↦
          let is = no_third_read x at b refl a not_two is_three second n in
          let far : (at + 2) + 1 ≤ length p = subst (Near p) is near in
          no_third_read y at b (index_same p u v at (omega arith)) a not_two is_three (goes_same p u v at (omega arith) ∙ second) (ends_same p u v at (omega arith) ∙ n) ∙ sym is
      | three a not_two is_three second third ↦
          let is = three_here x at b c d refl refl refl a not_two is_three second third in
          let far : at + 3 ≤ length p = subst (Near p) is near in
          three_here y at b c d (index_same p u v at (omega arith)) (index_same p u v (at + 1) (omega arith)) (index_same p u v (at + 2) (omega arith)) a not_two is_three (goes_same p u v at (omega arith) ∙ second) (ends_same p u v at (omega arith) ∙ third) ∙ sym is
    ]

-- ---- units that were cut

two_follow : (b : ℕ) → begins_two b ≡ true → may_follow b 128 ≡ true
two_follow b begun =
    elim (cases_eq b 192) [
      | inl is ↦ rw is refl
      | inr not_192 ↦ elim (or_cases (eqb b 192) (leb 194 b && ltb b 224) begun) [
        | inl e ↦ absurd (not_192 (eqb-true b 192 e))
        | inr e ↦
            let r = between 194 224 b e in
            let not_224 : b ≡ 224 → ⊥ = λ (h : b ≡ 224). omega (arith, r.1) in
            rw (ne_eqb b 192 not_192, ne_eqb b 224 not_224) refl
      ]
    ]

three_follow : (b : ℕ) → begins_three b ≡ true → may_follow b 160 ≡ true
three_follow b begun =
    let r = between 224 240 b begun in
    let not_192 : b ≡ 192 → ⊥ = λ (h : b ≡ 192). omega (arith, r.0) in
    elim (cases_eq b 224) [
      | inl is ↦ rw is refl
      | inr not_224 ↦ rw (ne_eqb b 192 not_192, ne_eqb b 224 not_224) refl
    ]

bytes_none : IsBytes []
bytes_none i = let e = get_or_past {X = ℕ} [] i 0 (omega arith) in omega arith

bytes_cons : (b : ℕ) (xs : List ℕ) → b < 256 → IsBytes xs → IsBytes (b ∷ xs)
bytes_cons b xs lt fits = go
  where
    go : (i : ℕ) → slice_index (b ∷ xs) i < 256
    go zero = lt
    go (suc i) = fits i

bytes_both : (p q : List ℕ) → IsBytes p → IsBytes q → IsBytes (p ++ q)
bytes_both [] q a b = b
bytes_both (x ∷ p) q a b = bytes_cons x (p ++ q) (a 0) (bytes_both p q (λ i. a (suc i)) b)

record UnitDone (p : List ℕ) (at : ℕ) : Type 0 where
  pub rest : List ℕ
  pub small : IsBytes rest
  pub found : ℕ
  pub reads : unit_at (p ++ rest) at ≡ Ok (found, length (p ++ rest))
  pub inside : at < length p

abbrev unit_found : ℕ → ℕ → Result (ℕ × ℕ) TextFault
unit_found u next = Ok (u, next)

abbrev bad_unit : ℕ → Result (ℕ × ℕ) TextFault
bad_unit k = Err (BadText k)

seam : (p rest : List ℕ) (b i : ℕ) → i ≡ length p → slice_index (p ++ b ∷ rest) i ≡ b
seam p rest b i e = ap (λ (n : ℕ). get_or (p ++ b ∷ rest) n 0) e ∙ get_or-append_seam p b rest 0

-- 128 ends a unit of two bytes
two_done : (p u : List ℕ) (at : ℕ) → at + 1 ≡ length p → ascii (slice_index (p ++ u) at) ≡ false → begins_two (slice_index (p ++ u) at) ≡ true → UnitDone p at
two_done p u at place a is_two =
    let b = slice_index (p ++ u) at in
    let size = length-append p (128 ∷ []) in
    let end : at + 2 ≡ length (p ++ 128 ∷ []) = omega arith in
    record {
      rest = 128 ∷ [];
      small = bytes_cons 128 [] (omega arith) bytes_none;
      found = (b - 192) * 64 + (128 - 128);
      reads = two_read (p ++ 128 ∷ []) at b 128 (index_same p u (128 ∷ []) at (omega arith)) (seam p [] 128 (at + 1) place) (omega arith) a is_two (two_follow b is_two) ∙ ap (unit_found ((b - 192) * 64 + (128 - 128))) end;
      inside = omega arith;
    }

-- 160 and 128 end a unit of three bytes
three_done : (p u : List ℕ) (at : ℕ) → at + 1 ≡ length p → ascii (slice_index (p ++ u) at) ≡ false → begins_two (slice_index (p ++ u) at) ≡ false → begins_three (slice_index (p ++ u) at) ≡ true → UnitDone p at
three_done p u at place a not_two is_three =
    let b = slice_index (p ++ u) at in
    let rest : List ℕ = 160 ∷ 128 ∷ [] in
    let size = length-append p rest in
    let end : at + 3 ≡ length (p ++ rest) = omega arith in
    let one_on : at + 2 ≡ length p + 1 = omega arith in
    let last : slice_index (p ++ rest) (at + 2) ≡ 128 = ap (λ (n : ℕ). get_or (p ++ rest) n 0) one_on ∙ get_or-append-add p rest 1 0 in
    record {
      rest = rest;
      small = bytes_cons 160 (128 ∷ []) (omega arith) (bytes_cons 128 [] (omega arith) bytes_none);
      found = (b - 224) * 4096 + (160 - 128) * 64 + (128 - 128);
      reads = three_read (p ++ rest) at b 160 128 (index_same p u rest at (omega arith)) (seam p (128 ∷ []) 160 (at + 1) place) last (omega arith) a not_two is_three (three_follow b is_three) refl
          ∙ ap (unit_found ((b - 224) * 4096 + (160 - 128) * 64 + (128 - 128))) end;
      inside = omega arith;
    }

-- 128 ends a unit of three bytes
last_done : (p u : List ℕ) (at : ℕ) → at + 2 ≡ length p → ascii (slice_index (p ++ u) at) ≡ false → begins_two (slice_index (p ++ u) at) ≡ false → begins_three (slice_index (p ++ u) at) ≡ true → goes_on (p ++ u) at ≡ true → UnitDone p at
last_done p u at place a not_two is_three second =
    let b = slice_index (p ++ u) at in
    let c = slice_index (p ++ u) (at + 1) in
    let rest : List ℕ = 128 ∷ [] in
    let size = length-append p rest in
    let end : at + 3 ≡ length (p ++ rest) = omega arith in
    let follows = and_parts (ltb (at + 1) (length (p ++ u))) (may_follow b c) second in
    record {
      rest = rest;
      small = bytes_cons 128 [] (omega arith) bytes_none;
      found = (b - 224) * 4096 + (c - 128) * 64 + (128 - 128);
      reads = three_read (p ++ rest) at b c 128 (index_same p u rest at (omega arith)) (index_same p u rest (at + 1) (omega arith)) (seam p [] 128 (at + 2) place) (omega arith) a not_two is_three follows.1 refl
          ∙ ap (unit_found ((b - 224) * 4096 + (c - 128) * 64 + (128 - 128))) end;
      inside = omega arith;
    }

unit_completes : (p u : List ℕ) (at : ℕ) → unit_at (p ++ u) at ≡ Err (BadText (length p)) → (at ≡ length p) ⊎ UnitDone p at
unit_completes p u at e =
    let x = p ++ u in
    let b = slice_index x at in
    let c = slice_index x (at + 1) in
    let d = slice_index x (at + 2) in
    elim (unit_read x at) [
      | one a ↦ let bad : unit_found b (at + 1) ≡ bad_unit (length p) = sym (one_read x at b refl a) ∙ e in absurd cc
      | none a n ↦ let same : bad_unit at ≡ bad_unit (length p) = sym (none_read x at b refl a n) ∙ e in inl cc
      | no_second a begun n ↦
          let same : bad_unit (at + 1) ≡ bad_unit (length p) = sym (no_second_read x at b refl a begun n) ∙ e in
          let place : at + 1 ≡ length p = cc in
          elim (cases_Bool (begins_two b)) [
            | inl is_two ↦ inr (two_done p u at place a is_two)
            | inr not_two ↦ let is_three : begins_three b ≡ true = rw not_two at begun in inr (three_done p u at place a not_two is_three)
          ]
      | two a is_two second ↦ let bad : unit_found ((b - 192) * 64 + (c - 128)) (at + 2) ≡ bad_unit (length p) = sym (two_here x at b c refl refl a is_two second) ∙ e in absurd cc
      | no_third a not_two is_three second n ↦
          let same : bad_unit (at + 2) ≡ bad_unit (length p) = sym (no_third_read x at b refl a not_two is_three second n) ∙ e in
          let place : at + 2 ≡ length p = cc in
          inr (last_done p u at place a not_two is_three second)
      | three a not_two is_three second third ↦
          let bad : unit_found ((b - 224) * 4096 + (c - 128) * 64 + (d - 128)) (at + 3) ≡ bad_unit (length p) = sym (three_here x at b c d refl refl refl a not_two is_three second third) ∙ e in absurd cc
    ]

-- ---- all units

abbrev failed_at : ℕ → Result (List ℕ) TextFault
failed_at k = Err (BadText k)

abbrev behind : ℕ → Result (List ℕ) TextFault → Result (List ℕ) TextFault
behind u read = read >>= λ us. Ok (u ∷ us)

abbrev units_behind : ℕ → List ℕ → ℕ × ℕ → Result (List ℕ) TextFault
units_behind n bytes u = behind u.0 (units_from n bytes u.1)

behind_bad : (u k : ℕ) (r : Result (List ℕ) TextFault) → behind u r ≡ Err (BadText k) → r ≡ Err (BadText k)
behind_bad u k (Ok us) e = absurd cc
behind_bad u k (Err d) e = let same : d ≡ BadText k = cc in ap (λ (x : TextFault). Err x) same

units_more : (n : ℕ) (bytes : List ℕ) (at : ℕ) → at < length bytes → units_from (suc n) bytes at ≡ (unit_at bytes at >>= units_behind n bytes)
unfolding units_from
units_more n bytes at lt = rw (lt-ltb at (length bytes) lt) refl

units_past : (n : ℕ) (bytes : List ℕ) (at : ℕ) → length bytes ≤ at → units_from n bytes at ≡ Ok []
unfolding units_from
units_past zero bytes at le = refl
units_past (suc n) bytes at le = rw (le-ltb at (length bytes) le) refl

units_none : (bytes : List ℕ) (at : ℕ) → units_from 0 bytes at ≡ Ok []
unfolding units_from
units_none bytes at = refl

abbrev units_found_as : List ℕ → Result (List ℕ) TextFault
units_found_as us = Ok us

-- how units are cut: the first is bad, or the rest
data UnitsCut (n : ℕ) (bytes : List ℕ) (at k : ℕ) : Type 0 where
  first : at < length bytes → unit_at bytes at ≡ Err (BadText k) → UnitsCut n bytes at k
  later : (u next : ℕ) → at < length bytes → unit_at bytes at ≡ Ok (u, next) → at < next → next ≤ length bytes → units_from n bytes next ≡ Err (BadText k) → UnitsCut n bytes at k

units_cut : (n : ℕ) (bytes : List ℕ) (at k : ℕ) → units_from (suc n) bytes at ≡ Err (BadText k) → UnitsCut n bytes at k
units_cut n bytes at k e =
    elim (cases_lt at (length bytes)) [
      | inr le ↦ let bad : units_found_as [] ≡ Err (BadText k) = sym (units_past (suc n) bytes at le) ∙ e in absurd cc
      | inl lt ↦ elim (bind_bad (unit_at bytes at) (units_behind n bytes) k (sym (units_more n bytes at lt) ∙ e)) [
        | inl failed ↦ first lt failed
        | inr x ↦
            let place = spans_ok unit_end at (length bytes) x.0 (unit_at bytes at) (unit_spans bytes at lt) x.1 in
            later x.0.0 x.0.1 lt x.1 place.0 place.1 (behind_bad x.0.0 k (units_from n bytes x.0.1) x.2)
      ]
    ]

units_within : (n : ℕ) (bytes : List ℕ) (at k : ℕ) → units_from n bytes at ≡ Err (BadText k) → (at ≤ k) × (k ≤ length bytes)
units_within zero bytes at k e = let bad : units_found_as [] ≡ Err (BadText k) = sym (units_none bytes at) ∙ e in absurd cc
units_within (suc n) bytes at k e =
    elim (units_cut n bytes at k e) [
      | first lt failed ↦ spans_bad unit_end at (length bytes) k (unit_at bytes at) (unit_spans bytes at lt) failed
      | later u next lt read past inside failed ↦ let p = units_within n bytes next k failed in (omega (arith, p.0), p.1)
    ]

units_stay : (n again : ℕ) (p u v : List ℕ) (at k : ℕ) → units_from n (p ++ u) at ≡ Err (BadText k) → k < length p → length (p ++ v) ≤ at + again → units_from again (p ++ v) at ≡ Err (BadText k)
units_stay zero again p u v at k e lt enough = let bad : units_found_as [] ≡ Err (BadText k) = sym (units_none (p ++ u) at) ∙ e in absurd cc
units_stay (suc n) zero p u v at k e lt enough = let w = units_within (suc n) (p ++ u) at k e in absurd (omega (arith, w.0, length-append p v))
units_stay (suc n) (suc again) p u v at k e lt enough =
    let w = units_within (suc n) (p ++ u) at k e in
    let here = begun_inside p v at (omega (arith, w.0)) in
    elim (units_cut n (p ++ u) at k e) [
      | first inside failed ↦
          let near : Near p (unit_at (p ++ u) at) = subst (Near p) (sym failed) (omega arith) in
          units_more again (p ++ v) at here ∙ rw (unit_stays p u v at inside near ∙ failed) refl
      | later x next inside read past within failed ↦
          let rest = units_within n (p ++ u) next k failed in
          let near : Near p (unit_at (p ++ u) at) = subst (Near p) (sym read) (omega (arith, rest.0)) in
          units_more again (p ++ v) at here ∙ rw (unit_stays p u v at inside near ∙ read, units_stay n again p u v next k failed lt (omega arith)) refl
    ]

record UnitsDone (p : List ℕ) (at : ℕ) : Type 0 where
  pub rest : List ℕ
  pub small : IsBytes rest
  pub found : List ℕ
  pub reads : (m : ℕ) → length (p ++ rest) ≤ at + m → units_from m (p ++ rest) at ≡ Ok found

one_more : (p rest found : List ℕ) (at u next : ℕ) → at < length p → at < next → unit_at (p ++ rest) at ≡ Ok (u, next) → ((m : ℕ) → length (p ++ rest) ≤ next + m → units_from m (p ++ rest) next ≡ Ok found)
    → (m : ℕ) → length (p ++ rest) ≤ at + m → units_from m (p ++ rest) at ≡ Ok (u ∷ found)
one_more p rest found at u next lt past read reads zero enough = absurd (omega (arith, length-append p rest))
one_more p rest found at u next lt past read reads (suc m) enough = units_more m (p ++ rest) at (begun_inside p rest at lt) ∙ rw (read, reads m (omega arith)) refl

units_complete : (n : ℕ) (p u : List ℕ) (at : ℕ) → units_from n (p ++ u) at ≡ Err (BadText (length p)) → UnitsDone p at
units_complete zero p u at e = let bad : units_found_as [] ≡ Err (BadText (length p)) = sym (units_none (p ++ u) at) ∙ e in absurd cc
units_complete (suc n) p u at e =
    elim (units_cut n (p ++ u) at (length p) e) [
      | first inside failed ↦ elim (unit_completes p u at failed) [
        | inl place ↦ record { rest = []; small = bytes_none; found = []; reads = λ m enough. units_past m (p ++ []) at (omega (arith, length-append p [])) }
        | inr d ↦ record {
          rest = d.rest;
          small = d.small;
          found = d.found ∷ [];
          reads = one_more p d.rest [] at d.found (length (p ++ d.rest)) d.inside (begun_inside p d.rest at d.inside) d.reads (λ m enough. units_past m (p ++ d.rest) (length (p ++ d.rest)) (omega arith));
        }
      ]
      | later x next inside read past within failed ↦
          let before = units_within n (p ++ u) next (length p) failed in
          let near : Near p (unit_at (p ++ u) at) = subst (Near p) (sym read) before.0 in
          let d = units_complete n p u next failed in
          record {
            rest = d.rest;
            small = d.small;
            found = x ∷ d.found;
            reads = one_more p d.rest d.found at x next (omega (arith, before.0)) past (unit_stays p u d.rest at inside near ∙ read) d.reads;
          }
    ]

-- ---- whole texts

read_is : (bytes : List ℕ) → units_read bytes ≡ units_from (length bytes) bytes 0
unfolding units_read
read_is bytes = refl

not_both : (bytes : List ℕ) (k : ℕ) → units_read bytes ≡ Err (BadText k) → IsText bytes → ⊥
not_both bytes k e is =
    let bad : units_found_as is.0 ≡ Err (BadText k) = sym (units_again is.0 is.1) ∙ ap units_read is.2 ∙ e in absurd cc

pub units_bad : (bytes : List ℕ) (k : ℕ) → IsBytes bytes → units_read bytes ≡ Err (BadText k) → IsBadAt IsText bytes k
units_bad bytes k fits e =
    let begun : units_from (length bytes) bytes 0 ≡ Err (BadText k) = sym (read_is bytes) ∙ e in
    let le = (units_within (length bytes) bytes 0 k begun).1 in
    let p = take k bytes in
    let size : length p ≡ k = length-take-le k bytes le in
    let cut : units_from (length bytes) (p ++ drop k bytes) 0 ≡ Err (BadText (length p)) =
    ap (λ (l : List ℕ). units_from (length bytes) l 0) (take-append-drop k bytes) ∙ begun ∙ ap (λ (n : ℕ). failed_at n) (sym size) in
    let done = units_complete (length bytes) p (drop k bytes) 0 cut in
    let whole : units_read (p ++ done.rest) ≡ Ok done.found = read_is (p ++ done.rest) ∙ done.reads (length (p ++ done.rest)) (omega arith) in
    let found = units_found (p ++ done.rest) done.found (bytes_both p done.rest (IsBytes-take k bytes fits) done.small) whole in
    is_bad IsText bytes k le done.rest (done.found, found.0, found.1) (not_both bytes k e)
    (λ lt more is.
    let longer : length (take (k + 1) bytes) ≡ k + 1 = length-take-le (k + 1) bytes (omega arith) in
    let again : units_from (length bytes) (take (k + 1) bytes ++ drop (k + 1) bytes) 0 ≡ Err (BadText k) = ap (λ (l : List ℕ). units_from (length bytes) l 0) (take-append-drop (k + 1) bytes) ∙ begun in
    let text = take (k + 1) bytes ++ more in
    not_both text k (read_is text ∙ units_stay (length bytes) (length text) (take (k + 1) bytes) (drop (k + 1) bytes) more 0 k again (omega arith) (omega arith)) is)

-- what a call answered
pub bad_place : (bytes : List ℕ) (r : Result (List ℕ) TextFault) → IsBytes bytes → Gives told (λ units. units) r (units_read bytes) → (at : ℕ) → r ≡ Err (BadText at) → IsBadAt IsText bytes at
bad_place bytes r fits given at e = units_bad bytes at fits (subst (λ (x : Result (List ℕ) TextFault). Gives told (λ units. units) x (units_read bytes)) e given)
