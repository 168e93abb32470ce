-- How far readings look, and where they stop.
use Rattle.std.proofs.Common.{◌≡◌, ℕ, ◌+◌, ◌≤◌, ◌<◌, List, ◌++◌, length, take, slice_index, Result, Ok, Err, refl, sym, ap, subst, ◌∙◌, arith, inl, inr}
use Rattle.std.specs.Prelude.{◌⊎◌}
use Rattle.std.proofs.lemmas.Bool.{cases_lt}
use Rattle.std.proofs.lemmas.List.{get_or_append_left, length-append}
use Rattle.jl_reading.specs.Reading.{◌>>=◌}
use Rattle.jl_names.specs.Bad.{IsBadAt}
use Rattle.jl_names.specs.declared.fault.TextFault.{TextFault}
use Rattle.jl_names.specs.declared.fault.TextFault.TheVariants.{BadText, NoMemory}

-- ---- how far a reading looked

-- up to the place after what it found, or over the byte of its fault
abbrev pub reach : {X : Type 0} → (X → ℕ) → Result X TextFault → ℕ
reach place (Ok x) = place x
reach place (Err (BadText at)) = at + 1
reach place (Err NoMemory) = 0

-- What was found ends behind the place where the reading began, and a fault is not before it. Both are in the text.
abbrev pub Spans : {X : Type 0} → (X → ℕ) → ℕ → ℕ → Result X TextFault → Type 0
Spans place at len (Ok x) = (at < place x) × (place x ≤ len)
Spans place at len (Err (BadText k)) = (at ≤ k) × (k ≤ len)
Spans place at len (Err NoMemory) = ⊥

pub spans_reach : {X : Type 0} (place : X → ℕ) (at len : ℕ) (r : Result X TextFault) → Spans place at len r → at < reach place r
spans_reach place at len (Ok x) s = s.0
spans_reach place at len (Err (BadText k)) s = omega (arith, s.0)
spans_reach place at len (Err NoMemory) s = absurd s

pub spans_from : {X : Type 0} (place : X → ℕ) (at later len : ℕ) (r : Result X TextFault) → at ≤ later → Spans place later len r → Spans place at len r
spans_from place at later len (Ok x) le s = (omega (arith, s.0), s.1)
spans_from place at later len (Err (BadText k)) le s = (omega (arith, s.0), s.1)
spans_from place at later len (Err NoMemory) le s = s

pub spans_bind : {X Y : Type 0} (px : X → ℕ) (py : Y → ℕ) (at len : ℕ) (r : Result X TextFault) (f : X → Result Y TextFault) → Spans px at len r
    → ((x : X) → r ≡ Ok x → at < px x → px x ≤ len → Spans py at len (f x)) → Spans py at len (r >>= f)
spans_bind px py at len (Ok x) f s next = next x refl s.0 s.1
spans_bind px py at len (Err (BadText k)) f s next = s
spans_bind px py at len (Err NoMemory) f s next = absurd s

-- ---- readings of texts with the same front

pub stays_bind : {X Y : Type 0} (px : X → ℕ) (py : Y → ℕ) (n : ℕ) (r again : Result X TextFault) (f g : X → Result Y TextFault)
    → (reach px r ≤ n → again ≡ r)
    → ((x : X) → r ≡ Ok x → reach py (f x) ≤ n → (px x ≤ n) × (g x ≡ f x))
    → reach py (r >>= f) ≤ n → (again >>= g) ≡ (r >>= f)
stays_bind px py n (Ok x) again f g first rest le = let p = rest x refl le in rw (first p.0) p.1
stays_bind px py n (Err (BadText k)) again f g first rest le = rw (first le) refl
stays_bind px py n (Err NoMemory) again f g first rest le = rw (first le) refl

abbrev failed : {A : Type 0} → TextFault → Result A TextFault
failed d = Err d

fails_also : {X Y : Type 0} (d e : TextFault) → failed {A = Y} d ≡ failed e → failed {A = X} d ≡ failed e
fails_also d e h = let same : d ≡ e = cc in ap (λ (x : TextFault). Err x) same

-- which step failed
pub bind_bad : {X Y : Type 0} (r : Result X TextFault) (f : X → Result Y TextFault) (k : ℕ) → (r >>= f) ≡ Err (BadText k)
    → (r ≡ Err (BadText k)) ⊎ ((x : X) × (r ≡ Ok x) × (f x ≡ Err (BadText k)))
bind_bad (Ok x) f k e = inr (x, refl, e)
bind_bad {X} {Y} (Err d) f k e = inl (fails_also d (BadText k) e)

pub index_front : (p u : List ℕ) (i : ℕ) → i < length p → slice_index (p ++ u) i ≡ slice_index p i
index_front p u i lt = get_or_append_left p u 0 i lt

pub index_same : (p u v : List ℕ) (i : ℕ) → i < length p → slice_index (p ++ v) i ≡ slice_index (p ++ u) i
index_same p u v i lt = index_front p v i lt ∙ sym (index_front p u i lt)

pub begun_inside : (p u : List ℕ) (n : ℕ) → n < length p → n < length (p ++ u)
begun_inside p u n lt = omega (arith, length-append p u)

pub spans_bad : {X : Type 0} (place : X → ℕ) (at len k : ℕ) (r : Result X TextFault) → Spans place at len r → r ≡ Err (BadText k) → (at ≤ k) × (k ≤ len)
spans_bad place at len k r s e = subst (λ (x : Result _ TextFault). Spans place at len x) e s

pub spans_ok : {X : Type 0} (place : X → ℕ) (at len : ℕ) (x : X) (r : Result X TextFault) → Spans place at len r → r ≡ Ok x → (at < place x) × (place x ≤ len)
spans_ok place at len x r s e = subst (λ (y : Result _ TextFault). Spans place at len y) e s

-- ---- bad places

pub is_bad : (IsFine : List ℕ → Type 0) (text : List ℕ) (k : ℕ) → k ≤ length text → (rest : List ℕ) → IsFine (take k text ++ rest) → (IsFine text → ⊥)
    → (k < length text → (more : List ℕ) → IsFine (take (k + 1) text ++ more) → ⊥) → IsBadAt IsFine text k
is_bad IsFine text k le rest fine wrong none =
    elim (cases_lt k (length text)) [
      | inl lt ↦ record { begins = (rest, fine); stops = inr (lt, none lt) }
      | inr past ↦ record { begins = (rest, fine); stops = inl (omega arith, wrong) }
    ]
