-- Constants that are entered one after the other: which are there, where, and that they make a pool.
use Rattle.std.proofs.Common.{◌≡◌, ℕ, zero, suc, ◌+◌, ◌<◌, Bool, true≢false, true, false, ◌||◌, List, [], ◌∷◌, ◌++◌, length, refl, sym, ap, subst, ◌∙◌, arith, inl, inr}
use Rattle.std.specs.Prelude.{IsUtf8, Contains, if◌then◌else◌}
use Rattle.std.specs.List.{list_any, position_or_len, AllByRecursion}
use Rattle.std.specs.Cmp.Lexicographic.{bytes_decides}
use Rattle.std.proofs.lemmas.Bool.{cases_Bool}
use Rattle.std.proofs.lemmas.List.{length_push}
use Rattle.std.proofs.lemmas.List.Folds.{list_any-append}
use Rattle.jl_logic.specs.Lists.{AreDistinct}
use Rattle.jl_logic.proofs.Apart.{distinct_push}
use Rattle.jl_logic.proofs.Rising.{each_in_append}
use Rattle.jl_pool.specs.declared.constant.Constant.{Constant}
use Rattle.jl_pool.specs.declared.constant.Constant.TheVariants as constants
use Rattle.jl_pool.specs.contracts.constant.ConstantPartialEq.TheImpl as derived
use Rattle.indexmap.specs.IndexSet.{insert_key}
use Rattle.jl_pool.specs.Builder.{is_same, text_in, has, with_constant, index_of, IsShort, IsKept, AreKept}

pub same_is : (a b : Constant) → is_same a b ≡ true → a ≡ b
same_is (constants.Text a) (constants.Text b) e = ap (λ (t : List ℕ). constants.Text t) ((bytes_decides a b).0 e)
same_is (constants.Class a) (constants.Class b) e = ap (λ (t : List ℕ). constants.Class t) ((bytes_decides a b).0 e)
same_is (constants.Module a) (constants.Module b) e = ap (λ (t : List ℕ). constants.Module t) ((bytes_decides a b).0 e)
same_is (constants.Package a) (constants.Package b) e = ap (λ (t : List ℕ). constants.Package t) ((bytes_decides a b).0 e)
same_is _ _ e = absurd cc

pub same_self : (a : Constant) → is_same a a ≡ true
same_self (constants.Text a) = (bytes_decides a a).1 refl
same_self (constants.Class a) = (bytes_decides a a).1 refl
same_self (constants.Module a) = (bytes_decides a a).1 refl
same_self (constants.Package a) = (bytes_decides a a).1 refl

-- the equality that the set goes by
compared : (a b : Constant) → derived.eq-value.it a b ≡ is_same a b
compared (constants.Text a) (constants.Text b) = refl
compared (constants.Text a) (constants.Class b) = refl
compared (constants.Text a) (constants.Module b) = refl
compared (constants.Text a) (constants.Package b) = refl
compared (constants.Class a) (constants.Text b) = refl
compared (constants.Class a) (constants.Class b) = refl
compared (constants.Class a) (constants.Module b) = refl
compared (constants.Class a) (constants.Package b) = refl
compared (constants.Module a) (constants.Text b) = refl
compared (constants.Module a) (constants.Class b) = refl
compared (constants.Module a) (constants.Module b) = refl
compared (constants.Module a) (constants.Package b) = refl
compared (constants.Package a) (constants.Text b) = refl
compared (constants.Package a) (constants.Class b) = refl
compared (constants.Package a) (constants.Module b) = refl
compared (constants.Package a) (constants.Package b) = refl

pub derived_is : (λ (a b : Constant). derived.eq-value.it a b) ≡ is_same
derived_is = λ i a b. compared a b i

pub inserted : (cs : List Constant) (c : Constant) → insert_key derived.eq-value.it cs c ≡ with_constant cs c
inserted cs c = ap (λ (eq : Constant → Constant → Bool). insert_key eq cs c) derived_is

-- ---- one more constant

pub with_there : (cs : List Constant) (x : Constant) → has cs x ≡ true → with_constant cs x ≡ cs
with_there cs x e = rw e refl

pub with_absent : (cs : List Constant) (x : Constant) → has cs x ≡ false → with_constant cs x ≡ cs ++ x ∷ []
with_absent cs x e = rw e refl

or_false : (b : Bool) → (b || false) ≡ b
or_false true = refl
or_false false = refl

pub has_push : (cs : List Constant) (x c : Constant) → has (cs ++ x ∷ []) c ≡ (has cs c || is_same c x)
has_push cs x c = list_any-append (is_same c) cs (x ∷ []) ∙ ap (λ (b : Bool). has cs c || b) (or_false (is_same c x))

pub has_kept : (cs : List Constant) (x c : Constant) → has cs c ≡ true → has (with_constant cs x) c ≡ true
has_kept cs x c e = elim (cases_Bool (has cs x)) [
  | inl t ↦ subst (λ (l : List Constant). has l c ≡ true) (sym (with_there cs x t)) e
  | inr f ↦ subst (λ (l : List Constant). has l c ≡ true) (sym (with_absent cs x f)) (has_push cs x c ∙ rw e refl)
]

either : (b : Bool) → (b || true) ≡ true
either true = refl
either false = refl

pub has_new : (cs : List Constant) (c : Constant) → has (with_constant cs c) c ≡ true
has_new cs c = elim (cases_Bool (has cs c)) [
  | inl t ↦ subst (λ (l : List Constant). has l c ≡ true) (sym (with_there cs c t)) t
  | inr f ↦ subst (λ (l : List Constant). has l c ≡ true) (sym (with_absent cs c f)) (has_push cs c c ∙ rw (same_self c) (either (has cs c)))
]

absorbed : (a b : Bool) → (b ≡ true → a ≡ true) → a ≡ (a || b)
absorbed true b h = refl
absorbed false true h = h refl
absorbed false false h = refl

pub has_with : (cs : List Constant) (x c : Constant) → has (with_constant cs x) c ≡ (has cs c || is_same c x)
has_with cs x c = elim (cases_Bool (has cs x)) [
  | inl t ↦ ap (λ (l : List Constant). has l c) (with_there cs x t) ∙ absorbed (has cs c) (is_same c x) (λ e. subst (λ (y : Constant). has cs y ≡ true) (sym (same_is c x e)) t)
  | inr f ↦ ap (λ (l : List Constant). has l c) (with_absent cs x f) ∙ has_push cs x c
]

pub length_with : (cs : List Constant) (x : Constant) → length (with_constant cs x) ≡ length cs + (if has cs x then 0 else 1)
length_with cs x = elim (cases_Bool (has cs x)) [
  | inl t ↦ rw t (omega arith)
  | inr f ↦ rw f (length_push cs x)
]

-- ---- places

pub place_within : (p : Constant → Bool) (cs : List Constant) → list_any p cs ≡ true → position_or_len p cs < length cs
place_within p [] e = absurd cc
place_within p (c ∷ cs) e = elim (cases_Bool (p c)) [
  | inl t ↦ rw t (omega arith)
  | inr f ↦ rw f (let h = place_within p cs (rw f at e) in omega (arith, h))
]

pub place_kept : (p : Constant → Bool) (cs : List Constant) (x : Constant) → list_any p cs ≡ true → position_or_len p (cs ++ x ∷ []) ≡ position_or_len p cs
place_kept p [] x e = absurd cc
place_kept p (c ∷ cs) x e = elim (cases_Bool (p c)) [
  | inl t ↦ rw t refl
  | inr f ↦ rw f (ap (λ (n : ℕ). 1 + n) (place_kept p cs x (rw f at e)))
]

pub place_new : (p : Constant → Bool) (cs : List Constant) (x : Constant) → p x ≡ true → position_or_len p (cs ++ x ∷ []) ≡ position_or_len p cs
place_new p [] x e = rw e refl
place_new p (c ∷ cs) x e = elim (cases_Bool (p c)) [
  | inl t ↦ rw t refl
  | inr f ↦ rw f (ap (λ (n : ℕ). 1 + n) (place_new p cs x e))
]

-- An old index stays right.
pub index_kept : (cs : List Constant) (x c : Constant) → has cs c ≡ true → index_of (with_constant cs x) c ≡ index_of cs c
index_kept cs x c e = elim (cases_Bool (has cs x)) [
  | inl t ↦ ap (λ (l : List Constant). index_of l c) (with_there cs x t)
  | inr f ↦ ap (λ (l : List Constant). index_of l c) (with_absent cs x f) ∙ ap (λ (n : ℕ). n + 1) (place_kept (is_same c) cs x e)
]

pub index_new : (cs : List Constant) (c : Constant) → index_of (with_constant cs c) c ≡ index_of cs c
index_new cs c = elim (cases_Bool (has cs c)) [
  | inl t ↦ ap (λ (l : List Constant). index_of l c) (with_there cs c t)
  | inr f ↦ ap (λ (l : List Constant). index_of l c) (with_absent cs c f) ∙ ap (λ (n : ℕ). n + 1) (place_new (is_same c) cs c (same_self c))
]

-- ---- constants that make a pool

each_weaker : {P Q : Constant → Type 0} → ((c : Constant) → P c → Q c) → (cs : List Constant) → AllByRecursion P cs → AllByRecursion Q cs
each_weaker h [] a = tt
each_weaker h (c ∷ cs) a = (h c a.0, each_weaker h cs a.1)

neither : (a b : Bool) → (a || b) ≡ false → (a ≡ false) × (b ≡ false)
neither true b e = absurd cc
neither false b e = (refl, e)

-- what is not found is not there
absent : (cs : List Constant) (x : Constant) → has cs x ≡ false → Contains cs x → ⊥
absent [] x f (k, l, e) = omega (arith, l)
absent (c ∷ cs) x f (zero, l, e) = true≢false (sym (subst (λ (y : Constant). is_same x y ≡ true) (sym e) (same_self x)) ∙ (neither (is_same x c) (has cs x) f).0)
absent (c ∷ cs) x f (suc k, l, e) = absent cs x (neither (is_same x c) (has cs x) f).1 (k, omega (arith, l), e)

kept_in_with : (cs : List Constant) (x c : Constant) → IsKept cs c → IsKept (with_constant cs x) c
kept_in_with cs x c k = record { utf8 = k.utf8; short = k.short; text = has_kept cs x (constants.Text (text_in c)) k.text }

pub kept_with : (cs : List Constant) (x : Constant) → AreKept cs → IsUtf8 (text_in x) → IsShort (text_in x) → has (with_constant cs x) (constants.Text (text_in x)) ≡ true → length (with_constant cs x) < 65535
    → AreKept (with_constant cs x)
kept_with cs x kept utf8 short text room =
    let old = each_weaker {P = IsKept cs} {Q = IsKept (with_constant cs x)} (kept_in_with cs x) cs kept.each in
    let new : IsKept (with_constant cs x) x = record { utf8 = utf8; short = short; text = text } in
    record {
      few = room;
      distinct = elim (cases_Bool (has cs x)) [
        | inl t ↦ subst (λ (l : List Constant). AreDistinct l) (sym (with_there cs x t)) kept.distinct
        | inr f ↦ subst (λ (l : List Constant). AreDistinct l) (sym (with_absent cs x f)) (distinct_push cs x kept.distinct (absent cs x f))
      ];
      each = elim (cases_Bool (has cs x)) [
        | inl t ↦ subst (λ (l : List Constant). AllByRecursion (IsKept (with_constant cs x)) l) (sym (with_there cs x t)) old
        | inr f ↦ subst (λ (l : List Constant). AllByRecursion (IsKept (with_constant cs x)) l) (sym (with_absent cs x f)) (each_in_append (IsKept (with_constant cs x)) cs (x ∷ []) old (new, tt))
      ];
    }

-- ---- a constant behind its text

pub room_is : (cs : List Constant) (t c : Constant) → length (with_constant (with_constant cs t) c) ≡ length cs + (if has cs t then 0 else 1) + (if has cs c || is_same c t then 0 else 1)
room_is cs t c = length_with (with_constant cs t) c ∙ (ap (λ (b : Bool). length (with_constant cs t) + (if b then 0 else 1)) (has_with cs t c) ∙ ap (λ (n : ℕ). n + (if has cs c || is_same c t then 0 else 1)) (length_with cs t))
