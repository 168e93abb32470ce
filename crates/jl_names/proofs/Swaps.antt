-- One character in place of another, character by character.
use Rattle.std.proofs.Common.{◌≡◌, ℕ, ◌+◌, ◌≤◌, ◌<◌, ◌==◌, ◌/◌, ◌%◌, List, [], ◌∷◌, ◌++◌, map, Bool, true, false, cond, refl, sym, ap, ◌∙◌, inl, inr, arith}
use Rattle.std.specs.Prelude.{encode_utf8, nat_lt}
use Rattle.std.proofs.Math.Utf8.{encode}
use Rattle.std.proofs.lemmas.Bool.{cases_lt, le-ltb, eqb-true, true≢false}
use Rattle.std.proofs.lemmas.List.{map-append, append_assoc}
use Rattle.std.proofs.lemmas.Str.{encode_ascii}
use Rattle.jl_names.specs.Dots.{swapped}

module _ (a b : ℕ) (a_low : a < 128) (b_low : b < 128) where
  high : (c : ℕ) → 128 ≤ c → swapped a b c ≡ c
  high c h = by (c == a) refl
    where
      by : (t : Bool) → (c == a) ≡ t → cond t b c ≡ c
      by true e = absurd (omega (arith, eqb-true c a e))
      by false e = refl

  low : (c : ℕ) → c < 128 → swapped a b c < 128
  low c h = by (c == a)
    where
      by : (t : Bool) → cond t b c < 128
      by true = b_low
      by false = h

  ascii : (c : ℕ) → c < 128 → map (swapped a b) (encode_utf8 c) ≡ encode_utf8 (swapped a b c)
  ascii c h = rw (encode_ascii c h, encode_ascii (swapped a b c) (low c h)) refl

  beyond : (c : ℕ) → 128 ≤ c → map (swapped a b) (encode_utf8 c) ≡ encode_utf8 c
  unfolding encode
  beyond c past = by (nat_lt c 128) (nat_lt c 2048) (nat_lt c 65536) (le-ltb c 128 past)
    where
      tail : (n : ℕ) → swapped a b (128 + n % 64) ≡ 128 + n % 64
      tail n = high (128 + n % 64) (omega arith)

      lead : (k n : ℕ) → 128 ≤ k → swapped a b (k + n) ≡ k + n
      lead k n h = high (k + n) (omega arith)

      by : (x y z : Bool) → x ≡ false
          → map (swapped a b) (cond x (c ∷ []) (cond y ((192 + c / 64) ∷ (128 + c % 64) ∷ []) (cond z ((224 + c / 4096) ∷ (128 + c / 64 % 64) ∷ (128 + c % 64) ∷ []) ((240 + c / 262144) ∷ (128 + c / 4096 % 64) ∷ (128 + c / 64 % 64) ∷ (128 + c % 64) ∷ []))))
          ≡ cond x (c ∷ []) (cond y ((192 + c / 64) ∷ (128 + c % 64) ∷ []) (cond z ((224 + c / 4096) ∷ (128 + c / 64 % 64) ∷ (128 + c % 64) ∷ []) ((240 + c / 262144) ∷ (128 + c / 4096 % 64) ∷ (128 + c / 64 % 64) ∷ (128 + c % 64) ∷ [])))
      by true y z e = absurd (true≢false e)
      by false true z e = rw (lead 192 (c / 64) (omega arith), tail c) refl
      by false false true e = rw (lead 224 (c / 4096) (omega arith), tail (c / 64), tail c) refl
      by false false false e = rw (lead 240 (c / 262144) (omega arith), tail (c / 4096), tail (c / 64), tail c) refl

  swapped_one : (c : ℕ) → map (swapped a b) (encode_utf8 c) ≡ encode_utf8 (swapped a b c)
  swapped_one c = elim (cases_lt c 128) [
    | inl h ↦ ascii c h
    | inr h ↦ rw (high c h) (beyond c h)
  ]

  -- one character more has been taken
  pub swapped_on : (done more rest after text : List ℕ) (c d : ℕ) → done ++ map (swapped a b) rest ≡ map (swapped a b) text → rest ≡ encode_utf8 c ++ after → d ≡ swapped a b c → more ≡ done ++ encode_utf8 d
      → more ++ map (swapped a b) after ≡ map (swapped a b) text
  swapped_on done more rest after text c d before splits is grown =
      let both : map (swapped a b) rest ≡ encode_utf8 (swapped a b c) ++ map (swapped a b) after = ap (map (swapped a b)) splits ∙ map-append (swapped a b) (encode_utf8 c) after ∙ ap (λ x. x ++ map (swapped a b) after) (swapped_one c) in
      rw (grown, is, append_assoc done (encode_utf8 (swapped a b c)) (map (swapped a b) after), sym both) before
