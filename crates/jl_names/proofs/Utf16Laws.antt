-- The units of characters are units, spell the characters again, and have no surrogate alone.
use Rattle.std.proofs.Common.{◌≡◌, ℕ, ◌+◌, ◌-◌, ◌/◌, ◌%◌, ◌<◌, ◌≤◌, true, false, ◌&&◌, ltb, leb, List, [], ◌∷◌, ◌++◌, refl, sym, ap, subst, ◌∙◌, arith, inl, inr}
use Rattle.std.specs.Prelude.{◌⊎◌, Result, Ok, Err, IfOk, chars, IsUtf8, encode_utf8, encode_utf8_all}
use Rattle.std.specs.List.{flat_map}
use Rattle.std.specs.Char.Escape.{encode_utf16}
use Rattle.std.proofs.Math.Utf8.{scalar, scalars, scalar_cases}
use Rattle.std.proofs.lemmas.Bool.{cases_lt, lt-ltb, le-ltb, le-leb, lt-leb, and_parts, and_from, and_right}
use Rattle.std.proofs.lemmas.List.{append-nil}
use Rattle.std.proofs.lemmas.List.Concat.{flat_map-cons}
use Rattle.std.proofs.lemmas.Str.{encodes-chars, scalars-chars}
use Rattle.jl_names.specs.declared.fault.TextFault.{TextFault}
use Rattle.jl_names.specs.Text.{AreUnits, is_high, is_low, paired, plain, has_no_lone_surrogate}
use Rattle.jl_names.specs.Utf16.{utf16}

-- a character that is one unit, or a pair
record IsSingle (c : ℕ) : Type 0 where
  pub spelled : encode_utf16 c ≡ c ∷ []
  pub low : c < 65536
  pub not_high : is_high c ≡ false
  pub not_low : is_low c ≡ false

record IsPaired (c : ℕ) : Type 0 where
  pub first : ℕ
  pub second : ℕ
  pub spelled : encode_utf16 c ≡ first ∷ second ∷ []
  pub small : (first < 65536) × (second < 65536)
  pub pair : (is_high first && is_low second) ≡ true
  pub made : paired first second ≡ c

below_is : (c : ℕ) → c < 55296 → IsSingle c
below_is c lt = record {
  spelled = rw (lt-ltb c 65536 (omega arith)) refl;
  low = omega arith;
  not_high = rw (lt-leb 55296 c lt) refl;
  not_low = rw (lt-leb 56320 c (omega arith)) refl;
}

above_is : (c : ℕ) → 57344 ≤ c → c < 65536 → IsSingle c
above_is c le lt =
    record {
      spelled = rw (lt-ltb c 65536 lt) refl;
      low = lt;
      not_high = and_right (leb 55296 c) (ltb c 56320) (le-ltb c 56320 (omega arith));
      not_low = and_right (leb 56320 c) (ltb c 57344) (le-ltb c 57344 le);
    }

pair_is : (c : ℕ) → 65536 ≤ c → c < 1114112 → IsPaired c
pair_is c le lt =
    record {
      first = 55296 + (c - 65536) / 1024;
      second = 56320 + (c - 65536) % 1024;
      spelled = rw (le-ltb c 65536 le) refl;
      small = (omega arith, omega arith);
      pair = and_from _ _
          (and_from _ _ (le-leb 55296 (55296 + (c - 65536) / 1024) (omega arith)) (lt-ltb (55296 + (c - 65536) / 1024) 56320 (omega arith)))
          (and_from _ _ (le-leb 56320 (56320 + (c - 65536) % 1024) (omega arith)) (lt-ltb (56320 + (c - 65536) % 1024) 57344 (omega arith)));
      made = omega arith;
    }

character_is : (c : ℕ) → scalar c ≡ true → IsSingle c ⊎ IsPaired c
character_is c s = elim (scalar_cases c s) [
  | inl lt ↦ inl (below_is c lt)
  | inr h ↦ elim (cases_lt c 65536) [
    | inl lt ↦ inl (above_is c h.0 lt)
    | inr le ↦ inr (pair_is c le h.1)
  ]
]

plain-single : (u : ℕ) (us : List ℕ) → is_high u ≡ false → is_low u ≡ false → plain (u ∷ us) ≡ encode_utf8 u ++ plain us
unfolding plain
plain-single u [] high low = rw (high, low) (sym (append-nil (encode_utf8 u)))
plain-single u (v ∷ us) high low = rw (high, low) refl

plain-pair : (u v : ℕ) (us : List ℕ) → (is_high u && is_low v) ≡ true → plain (u ∷ v ∷ us) ≡ encode_utf8 (paired u v) ++ plain us
unfolding plain
plain-pair u v us p = rw p refl

fine-single : (u : ℕ) (us : List ℕ) → is_high u ≡ false → is_low u ≡ false → has_no_lone_surrogate us ≡ true → has_no_lone_surrogate (u ∷ us) ≡ true
unfolding has_no_lone_surrogate
fine-single u [] high low fine = rw (high, low) refl
fine-single u (v ∷ us) high low fine = rw (high, low) fine

fine-pair : (u v : ℕ) (us : List ℕ) → (is_high u && is_low v) ≡ true → has_no_lone_surrogate us ≡ true → has_no_lone_surrogate (u ∷ v ∷ us) ≡ true
unfolding has_no_lone_surrogate
fine-pair u v us p fine = rw p fine

-- units that spell these characters
record Spells (us cs : List ℕ) : Type 0 where
  pub units : AreUnits us
  pub back : plain us ≡ encode_utf8_all cs
  pub fine : has_no_lone_surrogate us ≡ true

spells_none : Spells [] []
unfolding plain has_no_lone_surrogate
spells_none = record { units = tt; back = refl; fine = refl }

spells_more : (c : ℕ) (us cs : List ℕ) → IsSingle c ⊎ IsPaired c → Spells us cs → Spells (encode_utf16 c ++ us) (c ∷ cs)
spells_more c us cs (inl one) s = subst (λ (front : List ℕ). Spells (front ++ us) (c ∷ cs)) (sym one.spelled) (record {
  units = (one.low, s.units);
  back = plain-single c us one.not_high one.not_low ∙ ap (λ (bs : List ℕ). encode_utf8 c ++ bs) s.back;
  fine = fine-single c us one.not_high one.not_low s.fine;
})
spells_more c us cs (inr two) s = subst (λ (front : List ℕ). Spells (front ++ us) (c ∷ cs)) (sym two.spelled) (record {
  units = (two.small.0, (two.small.1, s.units));
  back = plain-pair two.first two.second us two.pair ∙ (ap (λ (x : ℕ). encode_utf8 x ++ plain us) two.made ∙ ap (λ (bs : List ℕ). encode_utf8 c ++ bs) s.back);
  fine = fine-pair two.first two.second us two.pair s.fine;
})

spells_all : (cs : List ℕ) → scalars cs ≡ true → Spells (flat_map encode_utf16 cs) cs
spells_all [] s = spells_none
spells_all (c ∷ cs) s =
    let p = and_parts (scalar c) (scalars cs) s in
    subst (λ (us : List ℕ). Spells us (c ∷ cs)) (sym (flat_map-cons encode_utf16 c cs)) (spells_more c (flat_map encode_utf16 cs) cs (character_is c p.0) (spells_all cs p.1))

-- ---- for the units of a text

spells_text : (text : List ℕ) → IsUtf8 text → Spells (utf16 text) (chars text)
spells_text text u = spells_all (chars text) (scalars-chars text u)

pub utf16_units : (text : List ℕ) → IsUtf8 text → AreUnits (utf16 text)
utf16_units text u = (spells_text text u).units

pub utf16_back : (text : List ℕ) → IsUtf8 text → plain (utf16 text) ≡ text
utf16_back text u = (spells_text text u).back ∙ encodes-chars text u

pub utf16_paired : (text : List ℕ) → IsUtf8 text → has_no_lone_surrogate (utf16 text) ≡ true
utf16_paired text u = (spells_text text u).fine

-- ---- the clauses of utf16_of

pub are_units : (text : List ℕ) (r : Result (List ℕ) TextFault) → IsUtf8 text → IfOk r (λ us. us ≡ utf16 text) → IfOk r (λ us. AreUnits us)
are_units text (Ok us) u e = subst AreUnits (sym e) (utf16_units text u)
are_units text (Err f) u e = tt

pub are_back : (text : List ℕ) (r : Result (List ℕ) TextFault) → IsUtf8 text → IfOk r (λ us. us ≡ utf16 text) → IfOk r (λ us. plain us ≡ text)
are_back text (Ok us) u e = ap plain e ∙ utf16_back text u
are_back text (Err f) u e = tt

pub are_paired : (text : List ℕ) (r : Result (List ℕ) TextFault) → IsUtf8 text → IfOk r (λ us. us ≡ utf16 text) → IfOk r (λ us. has_no_lone_surrogate us ≡ true)
are_paired text (Ok us) u e = ap has_no_lone_surrogate e ∙ utf16_paired text u
are_paired text (Err f) u e = tt
