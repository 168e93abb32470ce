-- The units of a text: what is read is spelled so, and what is spelled so is read.
use Rattle.std.proofs.Common.{◌≡◌, ℕ, zero, suc, ◌+◌, ◌-◌, ◌*◌, ◌/◌, ◌%◌, ◌<◌, ◌≤◌, true, false, not, cond, ◌&&◌, ◌||◌, ltb, leb, eqb, nat_lt, nat_le, List, [], ◌∷◌, length, take, drop, get_or, slice_index, Result, Ok, Err, refl, sym, ap, subst, ◌∙◌, arith, inl, inr}
use Rattle.std.specs.Prelude.{◌⊎◌}
use Rattle.std.proofs.lemmas.Bool.{cond_both, ltb-true, ltb-false, leb-true, lt-ltb, le-ltb, le-leb, eqb-true, eq-eqb, ne_eqb, and_parts, and_cases, and_from, and_right, or_cases, or_right, or_from, not-false, cases_eq}
use Rattle.std.proofs.lemmas.List.{drop_more, get_or-drop, take_all}
use Rattle.std.proofs.lemmas.List.Concat.{flat_map-cons}
use Rattle.jl_reading.specs.Reading.{◌>>=◌, Stands, IsBytes}
use Rattle.jl_reading.proofs.Steps.{bind_ok, guard_ok, ok_is}
use Rattle.jl_reading.proofs.Stands.{Stands-parts, Stands-from_parts, Stands-nothing, Stands-then, Stands-splits}
use Rattle.jl_names.specs.declared.fault.TextFault.{TextFault}
use Rattle.jl_names.specs.declared.fault.TextFault.TheVariants.{BadText}
use Rattle.jl_names.specs.Text.{unit_bytes, text_bytes, AreUnits, is_tail, may_follow, begins_two, begins_three, unit_at, units_from, units_read}

-- ---- bytes at places

pub byte_stands : (bytes : List ℕ) (at : ℕ) → at < length bytes → Stands bytes at (slice_index bytes at ∷ []) (at + 1)
byte_stands bytes at lt = Stands-from_parts bytes at (slice_index bytes at ∷ []) (drop (at + 1) bytes) (at + 1) (drop_more bytes at 0 lt) refl (omega arith)

two_stand : (bytes : List ℕ) (at : ℕ) → at + 1 < length bytes → Stands bytes at (slice_index bytes at ∷ slice_index bytes (at + 1) ∷ []) (at + 2)
two_stand bytes at lt =
    let place : (at + 1) + 1 ≡ at + 2 = omega arith in
    subst (λ (n : ℕ). Stands bytes at (slice_index bytes at ∷ slice_index bytes (at + 1) ∷ []) n) place
    (Stands-then bytes at (slice_index bytes at ∷ []) (at + 1) (slice_index bytes (at + 1) ∷ []) ((at + 1) + 1) (byte_stands bytes at (omega arith)) (byte_stands bytes (at + 1) lt))

three_stand : (bytes : List ℕ) (at : ℕ) → at + 2 < length bytes → Stands bytes at (slice_index bytes at ∷ slice_index bytes (at + 1) ∷ slice_index bytes (at + 2) ∷ []) (at + 3)
three_stand bytes at lt =
    let place : (at + 2) + 1 ≡ at + 3 = omega arith in
    subst (λ (n : ℕ). Stands bytes at (slice_index bytes at ∷ slice_index bytes (at + 1) ∷ slice_index bytes (at + 2) ∷ []) n) place
    (Stands-then bytes at (slice_index bytes at ∷ slice_index bytes (at + 1) ∷ []) (at + 2) (slice_index bytes (at + 2) ∷ []) ((at + 2) + 1) (two_stand bytes at (omega arith)) (byte_stands bytes (at + 2) lt))

pub record Begins (bytes : List ℕ) (at x : ℕ) (xs : List ℕ) (next : ℕ) : Type 0 where
  pub here : slice_index bytes at ≡ x
  pub rest : Stands bytes (at + 1) xs next
  pub within : at < length bytes

pub begins : (bytes : List ℕ) (at x : ℕ) (xs : List ℕ) (next : ℕ) → Stands bytes at (x ∷ xs) next → Begins bytes at x xs next
begins bytes at x xs next s =
    let place : at ≡ at + 0 = omega arith in
    record {
      here = ap (λ (n : ℕ). get_or bytes n 0) place ∙ sym (get_or-drop at bytes 0 0) ∙ ap (λ (l : List ℕ). get_or l 0 0) (Stands-parts bytes at (x ∷ xs) next s);
      rest = (Stands-splits bytes at (x ∷ []) xs next s).second;
      within = omega (arith, s.ends, s.within);
    }

-- ---- tests and numbers

pub between : (low high n : ℕ) → (nat_le low n && nat_lt n high) ≡ true → (low ≤ n) × (n < high)
between low high n e = let p = and_parts (leb low n) (ltb n high) e in (leb-true low n p.0, ltb-true n high p.1)

pub is_between : (low high n : ℕ) → low ≤ n → n < high → (nat_le low n && nat_lt n high) ≡ true
is_between low high n le lt = and_from (leb low n) (ltb n high) (le-leb low n le) (lt-ltb n high lt)

abbrev TwoRange : ℕ → ℕ → Type 0
TwoRange b c = ((b ≡ 192) × (c ≡ 128)) ⊎ ((194 ≤ b) × (b < 224) × (128 ≤ c) × (c < 192))

two_range : (b c : ℕ) → begins_two b ≡ true → may_follow b c ≡ true → TwoRange b c
two_range b c first second =
    elim (or_cases (eqb b 192) (leb 194 b && ltb b 224) first) [
      | inl e ↦ let tail : eqb c 128 ≡ true = rw e at second in inl (eqb-true b 192 e, eqb-true c 128 tail)
      | inr h ↦
          let r = between 194 224 b h in
          let not_192 : eqb b 192 ≡ false = ne_eqb b 192 (λ e. absurd (omega (arith, r.0))) in
          let not_224 : eqb b 224 ≡ false = ne_eqb b 224 (λ e. absurd (omega (arith, r.1))) in
          let tail : is_tail c ≡ true = rw (not_192, not_224) at second in
          let t = between 128 192 c tail in
          inr (r.0, r.1, t.0, t.1)
    ]

record ThreeRange (b c : ℕ) : Type 0 where
  pub low : 224 ≤ b
  pub high : b < 240
  pub tail_low : 128 ≤ c
  pub tail_high : c < 192
  pub shortest : b ≡ 224 → 160 ≤ c

three_range : (b c : ℕ) → begins_three b ≡ true → may_follow b c ≡ true → ThreeRange b c
three_range b c first second =
    let r = between 224 240 b first in
    let not_192 : eqb b 192 ≡ false = ne_eqb b 192 (λ e. absurd (omega (arith, r.0))) in
    elim (cases_eq b 224) [
      | inl e ↦
          let tail : (leb 160 c && ltb c 192) ≡ true = rw (not_192, eq-eqb b 224 e) at second in
          let t = between 160 192 c tail in
          record { low = r.0; high = r.1; tail_low = omega (arith, t.0); tail_high = t.1; shortest = λ _. t.0 }
      | inr h ↦
          let tail : is_tail c ≡ true = rw (not_192, ne_eqb b 224 h) at second in
          let t = between 128 192 c tail in
          record { low = r.0; high = r.1; tail_low = t.0; tail_high = t.1; shortest = λ e. absurd (h e) }
    ]

two_spell : (b c u : ℕ) → TwoRange b c → u ≡ (b - 192) * 64 + (c - 128) → (unit_bytes u ≡ b ∷ c ∷ []) × (u < 65536)
two_spell b c u (inl h) e =
    let u-is : u ≡ 0 = omega (arith, h.0, h.1) in
    (rw (u-is, h.0, h.1) refl, omega arith)
two_spell b c u (inr h) e =
    let r0 = h.0 in
    let r1 = h.1 in
    let r2 = h.2 in
    let r3 = h.3 in
    let long : (ltb 0 u && ltb u 128) ≡ false = and_right (ltb 0 u) (ltb u 128) (le-ltb u 128 (omega arith)) in
    let short : ltb u 2048 ≡ true = lt-ltb u 2048 (omega arith) in
    let one : 192 + u / 64 ≡ b = omega arith in
    let other : 128 + u % 64 ≡ c = omega arith in
    (rw (long, short, one, other) refl, omega arith)

three_spell : (b c d u : ℕ) → ThreeRange b c → 128 ≤ d → d < 192 → u ≡ (b - 224) * 4096 + (c - 128) * 64 + (d - 128) → (unit_bytes u ≡ b ∷ c ∷ d ∷ []) × (u < 65536)
three_spell b c d u r low high e =
    let r0 = r.low in
    let r1 = r.high in
    let r2 = r.tail_low in
    let r3 = r.tail_high in
    let large : 2048 ≤ u = elim (cases_eq b 224) [
      | inl is ↦ let s = r.shortest is in omega arith
      | inr more ↦ let above : 225 ≤ b = omega arith in omega arith
    ] in
    let long : (ltb 0 u && ltb u 128) ≡ false = and_right (ltb 0 u) (ltb u 128) (le-ltb u 128 (omega arith)) in
    let longer : ltb u 2048 ≡ false = le-ltb u 2048 large in
    let one : 224 + u / 4096 ≡ b = omega arith in
    let second : 128 + u / 64 % 64 ≡ c = omega arith in
    let third : 128 + u % 64 ≡ d = omega arith in
    (rw (long, longer, one, second, third) refl, omega arith)

-- ---- one unit

abbrev UnitStands : List ℕ → ℕ → ℕ → ℕ → Type 0
UnitStands bytes at u next = Stands bytes at (unit_bytes u) next × (u < 65536)

abbrev ok_of : {A : Type 0} → A → Result A TextFault
ok_of x = Ok x

ok_pair : (bytes : List ℕ) (at v end u next : ℕ) → UnitStands bytes at v end → ok_of {A = ℕ × ℕ} (v, end) ≡ Ok (u, next) → UnitStands bytes at u next
ok_pair bytes at v end u next s e = subst (λ (p : ℕ × ℕ). UnitStands bytes at p.0 p.1) (ok_is (v, end) (u, next) e) s

unit_stands : (bytes : List ℕ) (at u next : ℕ) → at < length bytes → unit_at bytes at ≡ Ok (u, next) → UnitStands bytes at u next
unfolding unit_at
unit_stands bytes at u next lt =
    let b = slice_index bytes at in
    let c = slice_index bytes (at + 1) in
    let d = slice_index bytes (at + 2) in
    let third : Result (ℕ × ℕ) TextFault = cond (not (ltb (at + 2) (length bytes) && is_tail d)) (Err (BadText (at + 2))) (Ok ((b - 224) * 4096 + (c - 128) * 64 + (d - 128), at + 3)) in
    let second : Result (ℕ × ℕ) TextFault = cond (begins_two b) (Ok ((b - 192) * 64 + (c - 128), at + 2)) third in
    let first : Result (ℕ × ℕ) TextFault = cond (not (ltb (at + 1) (length bytes) && may_follow b c)) (Err (BadText (at + 1))) second in
    cond_both (ltb 0 b && ltb b 128) (Ok (b, at + 1)) (cond (not (begins_two b || begins_three b)) (Err (BadText at)) first) (λ r. r ≡ Ok (u, next) → UnitStands bytes at u next)
    (λ t e.
    let below = ltb-true b 128 (and_parts (ltb 0 b) (ltb b 128) t).1 in
    let spelled : unit_bytes b ≡ b ∷ [] = rw t refl in
    ok_pair bytes at b (at + 1) u next (subst (λ (text : List ℕ). Stands bytes at text (at + 1)) (sym spelled) (byte_stands bytes at lt), omega arith) e)
    (λ t e.
    let g = guard_ok (not (begins_two b || begins_three b)) (BadText at) first (u, next) e in
    let h = guard_ok (not (ltb (at + 1) (length bytes) && may_follow b c)) (BadText (at + 1)) second (u, next) g.1 in
    let more = and_parts (ltb (at + 1) (length bytes)) (may_follow b c) (not-false (ltb (at + 1) (length bytes) && may_follow b c) h.0) in
    let far : at + 1 < length bytes = ltb-true (at + 1) (length bytes) more.0 in
    cond_both (begins_two b) (Ok ((b - 192) * 64 + (c - 128), at + 2)) third (λ r. r ≡ Ok (u, next) → UnitStands bytes at u next)
    (λ is_two k.
    let s = two_spell b c ((b - 192) * 64 + (c - 128)) (two_range b c is_two more.1) refl in
    ok_pair bytes at ((b - 192) * 64 + (c - 128)) (at + 2) u next (subst (λ (text : List ℕ). Stands bytes at text (at + 2)) (sym s.0) (two_stand bytes at far), s.1) k)
    (λ not_two k.
    let begun : begins_three b ≡ true = elim (or_cases (begins_two b) (begins_three b) (not-false (begins_two b || begins_three b) g.0)) [ inl h2 ↦ absurd (cc (h2, not_two)) | inr h3 ↦ h3 ] in
    let i = guard_ok (not (ltb (at + 2) (length bytes) && is_tail d)) (BadText (at + 2)) (Ok ((b - 224) * 4096 + (c - 128) * 64 + (d - 128), at + 3)) (u, next) k in
    let last = and_parts (ltb (at + 2) (length bytes)) (is_tail d) (not-false (ltb (at + 2) (length bytes) && is_tail d) i.0) in
    let tail = between 128 192 d last.1 in
    let s = three_spell b c d ((b - 224) * 4096 + (c - 128) * 64 + (d - 128)) (three_range b c begun more.1) tail.0 tail.1 refl in
    ok_pair bytes at ((b - 224) * 4096 + (c - 128) * 64 + (d - 128)) (at + 3) u next (subst (λ (text : List ℕ). Stands bytes at text (at + 3)) (sym s.0) (three_stand bytes at (ltb-true (at + 2) (length bytes) last.0)), s.1) i.1)
    h.1)

pub one_read : (bytes : List ℕ) (at b : ℕ) → slice_index bytes at ≡ b → (ltb 0 b && ltb b 128) ≡ true → unit_at bytes at ≡ Ok (b, at + 1)
unfolding unit_at
one_read bytes at b here t = rw (here, t) refl

pub two_read : (bytes : List ℕ) (at b c : ℕ) → slice_index bytes at ≡ b → slice_index bytes (at + 1) ≡ c → at + 1 < length bytes → (ltb 0 b && ltb b 128) ≡ false → begins_two b ≡ true → may_follow b c ≡ true
    → unit_at bytes at ≡ Ok ((b - 192) * 64 + (c - 128), at + 2)
unfolding unit_at
two_read bytes at b c here there lt t first second = rw (here, there, t, first, lt-ltb (at + 1) (length bytes) lt, second) refl

pub three_read : (bytes : List ℕ) (at b c d : ℕ) → slice_index bytes at ≡ b → slice_index bytes (at + 1) ≡ c → slice_index bytes (at + 2) ≡ d → at + 2 < length bytes → (ltb 0 b && ltb b 128) ≡ false → begins_two b ≡ false → begins_three b ≡ true → may_follow b c ≡ true → is_tail d ≡ true
    → unit_at bytes at ≡ Ok ((b - 224) * 4096 + (c - 128) * 64 + (d - 128), at + 3)
unfolding unit_at
three_read bytes at b c d here there last lt t no_two first second third = rw (here, there, last, t, no_two, first, lt-ltb (at + 1) (length bytes) (omega arith), second, lt-ltb (at + 2) (length bytes) lt, third) refl

two_begins : (u : ℕ) → (ltb 0 u && ltb u 128) ≡ false → u < 2048 → (begins_two (192 + u / 64) ≡ true) × (may_follow (192 + u / 64) (128 + u % 64) ≡ true)
two_begins u t lt =
    elim (cases_eq u 0) [
      | inl e ↦ rw e (refl, refl)
      | inr more ↦
          let large : 128 ≤ u = elim (and_cases (ltb 0 u) (ltb u 128) t) [ inl z ↦ let le = ltb-false 0 u z in absurd (more (omega arith)) | inr z ↦ ltb-false u 128 z ] in
          let not_192 : eqb (192 + u / 64) 192 ≡ false = ne_eqb (192 + u / 64) 192 (λ e. absurd (omega arith)) in
          let not_224 : eqb (192 + u / 64) 224 ≡ false = ne_eqb (192 + u / 64) 224 (λ e. absurd (omega arith)) in (
            or_right (eqb (192 + u / 64) 192) (leb 194 (192 + u / 64) && ltb (192 + u / 64) 224) (is_between 194 224 (192 + u / 64) (omega arith) (omega arith)),
            rw (not_192, not_224) (is_between 128 192 (128 + u % 64) (omega arith) (omega arith)),
          )
    ]

record ThreeBegins (u : ℕ) : Type 0 where
  pub no_two : begins_two (224 + u / 4096) ≡ false
  pub first : begins_three (224 + u / 4096) ≡ true
  pub second : may_follow (224 + u / 4096) (128 + u / 64 % 64) ≡ true
  pub third : is_tail (128 + u % 64) ≡ true

three_begins : (u : ℕ) → 2048 ≤ u → u < 65536 → ThreeBegins u
three_begins u le lt =
    let b = 224 + u / 4096 in
    let c = 128 + u / 64 % 64 in
    let not_192 : eqb b 192 ≡ false = ne_eqb b 192 (λ e. absurd (omega arith)) in
    record {
      no_two = or_from (eqb b 192) (leb 194 b && ltb b 224) not_192 (and_right (leb 194 b) (ltb b 224) (le-ltb b 224 (omega arith)));
      first = is_between 224 240 b (omega arith) (omega arith);
      second = elim (cases_eq b 224) [
        | inl e ↦ rw (not_192, eq-eqb b 224 e) (is_between 160 192 c (omega arith) (omega arith))
        | inr h ↦ rw (not_192, ne_eqb b 224 h) (is_between 128 192 c (omega arith) (omega arith))
      ];
      third = is_between 128 192 (128 + u % 64) (omega arith) (omega arith);
    }

unit_again : (bytes : List ℕ) (at u next : ℕ) → u < 65536 → Stands bytes at (unit_bytes u) next → unit_at bytes at ≡ Ok (u, next)
unit_again bytes at u next below =
    cond_both (ltb 0 u && ltb u 128) (u ∷ []) (cond (ltb u 2048) ((192 + u / 64) ∷ (128 + u % 64) ∷ []) ((224 + u / 4096) ∷ (128 + u / 64 % 64) ∷ (128 + u % 64) ∷ []))
    (λ text. Stands bytes at text next → unit_at bytes at ≡ Ok (u, next))
    (λ t s.
    let p = begins bytes at u [] next s in
    let ends : at + 1 ≡ next = omega (arith, s.ends) in
    one_read bytes at u p.here t ∙ rw ends refl)
    (λ t. cond_both (ltb u 2048) ((192 + u / 64) ∷ (128 + u % 64) ∷ []) ((224 + u / 4096) ∷ (128 + u / 64 % 64) ∷ (128 + u % 64) ∷ [])
    (λ text. Stands bytes at text next → unit_at bytes at ≡ Ok (u, next))
    (λ small s.
    let b = 192 + u / 64 in
    let c = 128 + u % 64 in
    let p = begins bytes at b (c ∷ []) next s in
    let q = begins bytes (at + 1) c [] next p.rest in
    let begun = two_begins u t (ltb-true u 2048 small) in
    let ends : at + 2 ≡ next = omega (arith, s.ends) in
    let back : (b - 192) * 64 + (c - 128) ≡ u = omega arith in
    let high : (ltb 0 b && ltb b 128) ≡ false = and_right (ltb 0 b) (ltb b 128) (le-ltb b 128 (omega arith)) in
    two_read bytes at b c p.here q.here q.within high begun.0 begun.1 ∙ rw (back, ends) refl)
    (λ large s.
    let b = 224 + u / 4096 in
    let c = 128 + u / 64 % 64 in
    let d = 128 + u % 64 in
    let p = begins bytes at b (c ∷ d ∷ []) next s in
    let q = begins bytes (at + 1) c (d ∷ []) next p.rest in
    let place : (at + 1) + 1 ≡ at + 2 = omega arith in
    let r = begins bytes (at + 2) d [] next (subst (λ (n : ℕ). Stands bytes n (d ∷ []) next) place q.rest) in
    let begun = three_begins u (ltb-false u 2048 large) below in
    let ends : at + 3 ≡ next = omega (arith, s.ends) in
    let back : (b - 224) * 4096 + (c - 128) * 64 + (d - 128) ≡ u = omega arith in
    let high : (ltb 0 b && ltb b 128) ≡ false = and_right (ltb 0 b) (ltb b 128) (le-ltb b 128 (omega arith)) in
    three_read bytes at b c d p.here q.here r.here r.within high begun.no_two begun.first begun.second begun.third ∙ rw (back, ends) refl))

-- ---- all units

unit_long : (u : ℕ) → 0 < length (unit_bytes u)
unit_long u =
    cond_both (ltb 0 u && ltb u 128) (u ∷ []) (cond (ltb u 2048) ((192 + u / 64) ∷ (128 + u % 64) ∷ []) ((224 + u / 4096) ∷ (128 + u / 64 % 64) ∷ (128 + u % 64) ∷ [])) (λ text. 0 < length text)
    (λ t. omega arith)
    (λ t. cond_both (ltb u 2048) ((192 + u / 64) ∷ (128 + u % 64) ∷ []) ((224 + u / 4096) ∷ (128 + u / 64 % 64) ∷ (128 + u % 64) ∷ []) (λ text. 0 < length text) (λ s. omega arith) (λ s. omega arith))

abbrev AllStand : List ℕ → ℕ → List ℕ → Type 0
AllStand bytes at us = Stands bytes at (text_bytes us) (length bytes) × AreUnits us

none_stand : (bytes : List ℕ) (at : ℕ) (us : List ℕ) → at ≡ length bytes → ok_of {A = List ℕ} [] ≡ Ok us → AllStand bytes at us
none_stand bytes at us e h =
    subst (λ (vs : List ℕ). AllStand bytes at vs) (ok_is [] us h) (subst (λ (n : ℕ). Stands bytes at [] n) e (Stands-nothing bytes at (omega arith)), tt)

units_stand : (n : ℕ) (bytes : List ℕ) (at : ℕ) (us : List ℕ) → at ≤ length bytes → length bytes ≤ at + n → units_from n bytes at ≡ Ok us → AllStand bytes at us
unfolding units_from
units_stand zero bytes at us le enough e = none_stand bytes at us (omega arith) e
units_stand (suc n) bytes at us le enough h =
    cond_both (ltb at (length bytes)) (unit_at bytes at >>= λ u. units_from n bytes u.1 >>= λ vs. Ok (u.0 ∷ vs)) (Ok []) (λ r. r ≡ Ok us → AllStand bytes at us)
    (λ t e.
    let a = bind_ok (unit_at bytes at) (λ u. units_from n bytes u.1 >>= λ vs. Ok (u.0 ∷ vs)) us e in
    let b = bind_ok (units_from n bytes a.0.1) (λ vs. Ok (a.0.0 ∷ vs)) us a.2 in
    let s = unit_stands bytes at a.0.0 a.0.1 (ltb-true at (length bytes) t) a.1 in
    let rest = units_stand n bytes a.0.1 b.0 s.0.within (omega (arith, s.0.ends, unit_long a.0.0)) b.1 in
    subst (λ (vs : List ℕ). AllStand bytes at vs) (ok_is (a.0.0 ∷ b.0) us b.2)
    (rw (flat_map-cons unit_bytes a.0.0 b.0) (Stands-then bytes at (unit_bytes a.0.0) a.0.1 (text_bytes b.0) (length bytes) s.0 rest.0), (s.1, rest.1)))
    (λ t e. let past = ltb-false at (length bytes) t in none_stand bytes at us (omega arith) e) h

units_back : (us : List ℕ) (n : ℕ) (bytes : List ℕ) (at : ℕ) → length bytes ≤ at + n → AreUnits us → Stands bytes at (text_bytes us) (length bytes) → units_from n bytes at ≡ Ok us
unfolding units_from
units_back [] zero bytes at enough fits s = refl
units_back [] (suc n) bytes at enough fits s =
    let past : ltb at (length bytes) ≡ false = le-ltb at (length bytes) (omega (arith, s.ends)) in
    rw past refl
units_back (u ∷ us) zero bytes at enough fits s =
    let p = Stands-splits bytes at (unit_bytes u) (text_bytes us) (length bytes) s in
    absurd (omega (arith, p.first.within, p.second.ends, p.second.within, unit_long u))
units_back (u ∷ us) (suc n) bytes at enough fits s =
    let p = Stands-splits bytes at (unit_bytes u) (text_bytes us) (length bytes) s in
    let long = unit_long u in
    let inside : ltb at (length bytes) ≡ true = lt-ltb at (length bytes) (omega (arith, p.first.within)) in
    let first = unit_again bytes at u (at + length (unit_bytes u)) fits.0 p.first in
    let rest = units_back us n bytes (at + length (unit_bytes u)) (omega arith) fits.1 p.second in
    rw (inside, first, rest) refl

-- ---- whole texts

pub units_found : (bytes us : List ℕ) → IsBytes bytes → units_read bytes ≡ Ok us → AreUnits us × (text_bytes us ≡ bytes)
unfolding units_read
units_found bytes us fits e =
    let s = units_stand (length bytes) bytes 0 us (omega arith) (omega arith) e in
    let whole : take (length (text_bytes us)) bytes ≡ text_bytes us = s.0.there in
    let size : length bytes ≡ length (text_bytes us) = omega (arith, s.0.ends) in
    (s.1, sym whole ∙ take_all (length (text_bytes us)) bytes (omega arith))

pub units_again : (us : List ℕ) → AreUnits us → units_read (text_bytes us) ≡ Ok us
unfolding units_read
units_again us fits =
    let bytes = text_bytes us in
    let s : Stands bytes 0 bytes (length bytes) = record { there = take_all (length bytes) bytes (omega arith); ends = omega arith; within = omega arith } in
    units_back us (length bytes) bytes 0 (omega arith) fits s
