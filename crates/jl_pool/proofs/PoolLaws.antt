-- The entries of constants make a pool, and stand at the indices of the constants.
use Rattle.std.proofs.Common.{◌≡◌, ℕ, zero, suc, ◌+◌, ◌<◌, true, false, List, [], ◌∷◌, map, slice_get, Some, refl, sym, ap, subst, ◌∙◌, arith, inl, inr}
use Rattle.std.specs.Prelude.{IsTrue, IsUtf8, Contains}
use Rattle.std.specs.List.{position_or_len, AllByRecursion}
use Rattle.std.proofs.lemmas.Bool.{cases_Bool}
use Rattle.std.proofs.lemmas.List.{length-map}
use Rattle.std.proofs.lemmas.Option.{slice_get-map}
use Rattle.std.proofs.Math.Numerals.{add-one}
use Rattle.jl_logic.specs.Lists.{AreDistinct}
use Rattle.jl_names.specs.Text.{plain}
use Rattle.jl_names.specs.Utf16.{utf16}
use Rattle.jl_names.proofs.Utf16Laws.{utf16_units, utf16_back}
use Rattle.jl_pool.specs.declared.constant.Constant.{Constant}
use Rattle.jl_pool.specs.declared.constant.Constant.TheVariants as constants
use Rattle.jl_pool.specs.declared.entry.Entry.{Entry}
use Rattle.jl_pool.specs.declared.entry.Entry.TheVariants as entries
use Rattle.jl_pool.specs.Builder.{is_same, text_in, has, index_of, entry_of, entries_of, pool_of, IsKept, AreKept}
use Rattle.jl_pool.specs.Pool.{is_utf8, refers_rightly}
use Rattle.jl_pool.specs.Spelling.{EntryFits, AreSpaced, ArePoolEntries}
use Rattle.jl_pool.proofs.BuilderLaws.{same_is, place_within}

first_that : (c : Constant) (cs : List Constant) → has cs c ≡ true → slice_get cs (position_or_len (is_same c) cs) ≡ Some c
first_that c [] e = absurd cc
first_that c (x ∷ cs) e = elim (cases_Bool (is_same c x)) [
  | inl t ↦ rw t (ap (λ (y : Constant). Some y) (sym (same_is c x t)))
  | inr f ↦
      let later : 1 + position_or_len (is_same c) cs ≡ suc (position_or_len (is_same c) cs) = omega arith in
      rw (f, later) (first_that c cs (rw f at e))
]

-- The entry of a constant stands at its index.
pub entry_there : (cs : List Constant) (c : Constant) → has cs c ≡ true → slice_get (pool_of cs) (index_of cs c) ≡ Some (entry_of cs c)
entry_there cs c e =
    rw (add-one (position_or_len (is_same c) cs))
    (slice_get-map (entry_of cs) cs (position_or_len (is_same c) cs) ∙ rw (first_that c cs e) refl)

pub index_fits : (cs : List Constant) (c : Constant) → AreKept cs → has cs c ≡ true → index_of cs c < 65536
index_fits cs c kept e = let w = place_within (is_same c) cs e in let few = kept.few in omega (arith, w, few)

entry_fits : (cs : List Constant) → AreKept cs → (c : Constant) → IsKept cs c → EntryFits (entry_of cs c)
entry_fits cs kept (constants.Text t) k = (utf16_units t k.utf8, k.short)
entry_fits cs kept (constants.Class t) k = index_fits cs (constants.Text t) kept k.text
entry_fits cs kept (constants.Module t) k = index_fits cs (constants.Text t) kept k.text
entry_fits cs kept (constants.Package t) k = index_fits cs (constants.Text t) kept k.text

text_there : (cs : List Constant) (t : List ℕ) → has cs (constants.Text t) ≡ true → is_utf8 (slice_get (pool_of cs) (index_of cs (constants.Text t))) ≡ true
text_there cs t e = ap is_utf8 (entry_there cs (constants.Text t) e)

entry_refers : (cs : List Constant) (c : Constant) → IsKept cs c → refers_rightly (pool_of cs) (entry_of cs c) ≡ true
entry_refers cs (constants.Text t) k = refl
entry_refers cs (constants.Class t) k = text_there cs t k.text
entry_refers cs (constants.Module t) k = text_there cs t k.text
entry_refers cs (constants.Package t) k = text_there cs t k.text

each_of : (P : Constant → Type 0) (Q : Entry → Type 0) (f : Constant → Entry) → ((c : Constant) → P c → Q (f c)) → (cs : List Constant) → AllByRecursion P cs → AllByRecursion Q (map f cs)
each_of P Q f h [] a = tt
each_of P Q f h (c ∷ cs) a = (h c a.0, each_of P Q f h cs a.1)

are_spaced : (all cs : List Constant) → AreSpaced false (map (entry_of all) cs)
are_spaced all [] = tt
are_spaced all (constants.Text t ∷ cs) = (refl, are_spaced all cs)
are_spaced all (constants.Class t ∷ cs) = (refl, are_spaced all cs)
are_spaced all (constants.Module t ∷ cs) = (refl, are_spaced all cs)
are_spaced all (constants.Package t ∷ cs) = (refl, are_spaced all cs)

pub makes_pool : (cs : List Constant) → AreKept cs → ArePoolEntries (entries_of cs)
makes_pool cs kept = record {
  few = let few = kept.few in omega (arith, few, length-map cs (entry_of cs));
  spaced = are_spaced cs cs;
  fit = each_of (IsKept cs) EntryFits (entry_of cs) (entry_fits cs kept) cs kept.each;
  refer = each_of (IsKept cs) (λ (e : Entry). IsTrue (refers_rightly (pool_of cs) e)) (entry_of cs) (entry_refers cs) cs kept.each;
}

-- the text of a constant is there
pub kept_text : (cs : List Constant) (all : List Constant) (i : ℕ) (d : Constant) → AllByRecursion (IsKept all) cs → slice_get cs i ≡ Some d → has all (constants.Text (text_in d)) ≡ true
kept_text [] all i d a e = absurd cc
kept_text (c ∷ cs) all zero d a e = subst (λ (x : Constant). has all (constants.Text (text_in x)) ≡ true) (some_is c d e) a.0.text
  where
    some_is : (x y : Constant) → Some x ≡ Some y → x ≡ y
    some_is x y e = cc
kept_text (c ∷ cs) all (suc i) d a e = kept_text cs all i d a.1 e

-- ---- no entry is there twice

some_is : (x y : Constant) → Some x ≡ Some y → x ≡ y
some_is x y e = cc

text_is : (t u : List ℕ) → constants.Text t ≡ constants.Text u → t ≡ u
text_is t u e = cc

same_units : (t u : List ℕ) → IsUtf8 t → IsUtf8 u → utf16 t ≡ utf16 u → t ≡ u
same_units t u a b e = sym (utf16_back t a) ∙ (ap plain e ∙ utf16_back u b)

same_index : (cs : List Constant) (t u : List ℕ) → has cs (constants.Text t) ≡ true → has cs (constants.Text u) ≡ true → index_of cs (constants.Text t) ≡ index_of cs (constants.Text u) → t ≡ u
same_index cs t u a b e =
    let place : position_or_len (is_same (constants.Text t)) cs ≡ position_or_len (is_same (constants.Text u)) cs = omega (arith, e) in
    text_is t u (some_is (constants.Text t) (constants.Text u) (sym (first_that (constants.Text t) cs a) ∙ (ap (slice_get cs) place ∙ first_that (constants.Text u) cs b)))

units_in : (t u : List ℕ) → entries.Utf8 t ≡ entries.Utf8 u → t ≡ u
units_in t u e = cc

class_in : (i j : ℕ) → entries.Class i ≡ entries.Class j → i ≡ j
class_in i j e = cc

module_in : (i j : ℕ) → entries.Module i ≡ entries.Module j → i ≡ j
module_in i j e = cc

package_in : (i j : ℕ) → entries.Package i ≡ entries.Package j → i ≡ j
package_in i j e = cc

same_entry : (cs : List Constant) (a b : Constant) → IsKept cs a → IsKept cs b → entry_of cs a ≡ entry_of cs b → a ≡ b
same_entry cs (constants.Text t) (constants.Text u) a b e = ap (λ (x : List ℕ). constants.Text x) (same_units t u a.utf8 b.utf8 (units_in (utf16 t) (utf16 u) e))
same_entry cs (constants.Class t) (constants.Class u) a b e = ap (λ (x : List ℕ). constants.Class x) (same_index cs t u a.text b.text (class_in _ _ e))
same_entry cs (constants.Module t) (constants.Module u) a b e = ap (λ (x : List ℕ). constants.Module x) (same_index cs t u a.text b.text (module_in _ _ e))
same_entry cs (constants.Package t) (constants.Package u) a b e = ap (λ (x : List ℕ). constants.Package x) (same_index cs t u a.text b.text (package_in _ _ e))
same_entry cs _ _ a b e = absurd cc

kept_among : (all cs : List Constant) (x : Constant) → AllByRecursion (IsKept all) cs → IsKept all x → Contains (map (entry_of all) cs) (entry_of all x) → Contains cs x
kept_among all [] x each k (i, l, e) = absurd (omega (arith, l))
kept_among all (c ∷ cs) x each k (zero, l, e) = (0, omega arith, same_entry all c x each.0 k e)
kept_among all (c ∷ cs) x each k (suc i, l, e) = let c = kept_among all cs x each.1 k (i, omega (arith, l), e) in (suc c.0, omega (arith, c.1), c.2)

apart_entries : (all cs : List Constant) → AllByRecursion (IsKept all) cs → AreDistinct cs → AreDistinct (map (entry_of all) cs)
apart_entries all [] each d = tt
apart_entries all (c ∷ cs) each d = ((λ there. d.0 (kept_among all cs c each.1 each.0 there)), apart_entries all cs each.1 d.1)

used : (all : List Constant) (c : Constant) → entry_of all c ≡ entries.Unused → ⊥
used all (constants.Text t) e = absurd cc
used all (constants.Class t) e = absurd cc
used all (constants.Module t) e = absurd cc
used all (constants.Package t) e = absurd cc

all_used : (all cs : List Constant) → Contains (map (entry_of all) cs) entries.Unused → ⊥
all_used all [] (i, l, e) = omega (arith, l)
all_used all (c ∷ cs) (zero, l, e) = used all c e
all_used all (c ∷ cs) (suc i, l, e) = all_used all cs (i, omega (arith, l), e)

pub distinct_entries : (cs : List Constant) → AreKept cs → AreDistinct (pool_of cs)
distinct_entries cs kept = (all_used cs cs, apart_entries cs cs kept.each kept.distinct)
