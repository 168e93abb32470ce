-- Filling the table of indices, one instruction after the other.
use Rattle.std.proofs.Common.{◌≡◌, ℕ, zero, suc, ◌+◌, ◌≤◌, ◌<◌, inl, inr, List, [], ◌∷◌, length, length-set, take, drop, Option, None, Some, refl, sym, ap, subst, ◌∙◌, arith}
use Rattle.std.specs.Prelude.{◌-◌, slice_get, slice_set, slice_index_or}
use Rattle.std.specs.List.{AllByRecursion}
use Rattle.std.proofs.lemmas.List.{take_all}
use Rattle.std.proofs.lemmas.Bool.{cases_eq, cases_lt}
use Rattle.jl_code.specs.declared.code.Instr.{Instr}
use Rattle.jl_code.specs.Sound.{starts}
use Rattle.jl_code.specs.PlaceTables.{IsIndexOf, index_in}

-- as IsIndexOf, by the first instructions alone
abbrev pub IsIndexBelow : List ℕ → ℕ → ℕ → Option ℕ → Type 0
IsIndexBelow starts n pc None = (i : ℕ) → i < n → slice_get starts i ≡ Some pc → ⊥
IsIndexBelow starts n pc (Some i) = slice_get starts i ≡ Some pc

-- what the first instructions have put into a table
abbrev pub AreFilled : List ℕ → ℕ → List (Option ℕ) → Type 0
AreFilled starts n table = (pc : ℕ) → IsIndexBelow starts n pc (index_in table pc)

set_here : (table : List (Option ℕ)) (at : ℕ) (o : Option ℕ) → at < length table → index_in (slice_set table at o) at ≡ o
set_here [] at o lt = absurd (omega arith)
set_here (t ∷ ts) zero o lt = refl
set_here (t ∷ ts) (suc at) o lt = set_here ts at o (omega arith)

set_there : (table : List (Option ℕ)) (at pc : ℕ) (o : Option ℕ) → (at ≡ pc → ⊥) → index_in (slice_set table at o) pc ≡ index_in table pc
set_there [] at pc o other = refl
set_there (t ∷ ts) zero zero o other = absurd (other refl)
set_there (t ∷ ts) zero (suc pc) o other = refl
set_there (t ∷ ts) (suc at) zero o other = refl
set_there (t ∷ ts) (suc at) (suc pc) o other = set_there ts at pc o (λ e. other (ap suc e))

some_is : (a b : ℕ) → Some a ≡ Some b → a ≡ b
some_is a b e = ap value e
  where
    value : Option ℕ → ℕ
    value None = 0
    value (Some n) = n

one_more : (all : List ℕ) (n at pc : ℕ) (o : Option ℕ) → slice_get all n ≡ Some at → (at ≡ pc → ⊥) → IsIndexBelow all n pc o → IsIndexBelow all (n + 1) pc o
one_more all n at pc (Some i) here other h = h
one_more all n at pc None here other h = λ i lt e.
    elim (cases_eq i n) [
      | inl same ↦ other (some_is at pc (sym here ∙ subst (λ (k : ℕ). slice_get all k ≡ Some pc) same e))
      | inr differs ↦ h i (omega (arith, lt, differs)) e
    ]

pub filled_more : (all : List ℕ) (n at : ℕ) (table : List (Option ℕ)) → at < length table → slice_get all n ≡ Some at → AreFilled all n table → AreFilled all (n + 1) (slice_set table at (Some n))
filled_more all n at table lt here h pc =
    elim (cases_eq at pc) [
      | inl same ↦ subst (IsIndexBelow all (n + 1) pc) (sym (subst (λ (k : ℕ). index_in (slice_set table at (Some n)) k ≡ Some n) same (set_here table at (Some n) lt))) (subst (λ (k : ℕ). slice_get all n ≡ Some k) same here)
      | inr other ↦ subst (IsIndexBelow all (n + 1) pc) (sym (set_there table at pc (Some n) other)) (one_more all n at pc (index_in table pc) here other (h pc))
    ]

none_past : (all : List ℕ) (i : ℕ) → length all ≤ i → slice_get all i ≡ None
none_past [] i le = refl
none_past (x ∷ xs) zero le = absurd (omega arith)
none_past (x ∷ xs) (suc i) le = none_past xs i (omega arith)

all_below : (all : List ℕ) (n pc : ℕ) (o : Option ℕ) → length all ≤ n → IsIndexBelow all n pc o → IsIndexOf all pc o
all_below all n pc (Some i) le h = h
all_below all n pc None le h = λ i e. elim (cases_lt i n) [ inl lt ↦ h i lt e | inr ge ↦ absurd (some_none (sym e ∙ none_past all i (omega (arith, le, ge)))) ]
  where
    some_none : Some pc ≡ None → ⊥
    some_none e = cc

pub filled_all : (all : List ℕ) (n : ℕ) (table : List (Option ℕ)) → length all ≤ n → AreFilled all n table → (pc : ℕ) → IsIndexOf all pc (index_in table pc)
filled_all all n table le h pc = all_below all n pc (index_in table pc) le (h pc)

pub length-starts : (instrs : List Instr) → length (starts instrs) ≡ length instrs
length-starts [] = refl
length-starts (i ∷ is) = ap suc (length-starts is)

-- ---- the instructions that are left

at_first : (instrs rest : List Instr) (n : ℕ) (i : Instr) → i ∷ rest ≡ drop n instrs → slice_get (starts instrs) n ≡ Some i.at
at_first [] rest n i e = absurd (no_more n e)
  where
    no_more : (k : ℕ) → i ∷ rest ≡ drop k [] → ⊥
    no_more zero e = cc
    no_more (suc k) e = cc
at_first (x ∷ xs) rest zero i e = sym (ap first e)
  where
    first : List Instr → Option ℕ
    first [] = None
    first (y ∷ ys) = Some y.at
at_first (x ∷ xs) rest (suc n) i e = at_first xs rest n i e

others : (instrs rest : List Instr) (n : ℕ) (i : Instr) → i ∷ rest ≡ drop n instrs → rest ≡ drop (n + 1) instrs
others [] rest n i e = absurd (no_more n e)
  where
    no_more : (k : ℕ) → i ∷ rest ≡ drop k [] → ⊥
    no_more zero e = cc
    no_more (suc k) e = cc
others (x ∷ xs) rest zero i e = ap tail e
  where
    tail : List Instr → List Instr
    tail [] = []
    tail (y ∷ ys) = ys
others (x ∷ xs) rest (suc n) i e = let s : suc n + 1 ≡ suc (n + 1) = omega arith in rw s (others xs rest n i e)

-- what stands before each round
pub record Kept (instrs rest : List Instr) (n len : ℕ) (table : List (Option ℕ)) : Type 0 where
  pub size : length table ≡ len
  pub left : rest ≡ drop n instrs
  pub counted : n + length rest ≡ length instrs
  pub inside : AllByRecursion (λ (i : Instr). i.at < len) rest
  pub filled : AreFilled (starts instrs) n table

kept_behind : (instrs rest : List Instr) (n len : ℕ) (i : Instr) (table : List (Option ℕ)) → Kept instrs (i ∷ rest) n len table → Kept instrs rest (n + 1) len (slice_set table i.at (Some n))
kept_behind instrs rest n len i table k = record {
  size = length-set table i.at (Some n) ∙ k.size;
  left = others instrs rest n i k.left;
  counted = omega (arith, k.counted);
  inside = k.inside.1;
  filled = filled_more (starts instrs) n i.at table (omega (arith, k.size, k.inside.0)) (at_first instrs rest n i k.left) k.filled;
}

all_of : (rest : List Instr) → take (suc (length rest) - 1) rest ≡ rest
all_of rest = let e : suc (length rest) - 1 ≡ length rest = omega arith in rw e (take_all (length rest) rest (omega arith))

pub kept_more : (instrs rest : List Instr) (n len : ℕ) (i : Instr) (table : List (Option ℕ)) → 1 ≤ length rest → i ≡ slice_index_or rest 0 i → Kept instrs rest n len table
    → Kept instrs (take (length rest - 1) (drop 1 rest)) (n + 1) len (slice_set table i.at (Some n))
kept_more instrs [] n len i table some item k = absurd (omega arith)
kept_more instrs (x ∷ xs) n len i table some item k =
    let m = kept_behind instrs xs n len x table k in
    rw (item, all_of xs) m
