-- A native whose arguments decide it gives values of its kind.
use Rattle.std.proofs.Common.{◌≡◌, ℕ, ◌^◌, List, [], ◌∷◌, Bool, true, false, ◌==◌, cond, IsTrue, Option, None, Some, Result, Ok, Err, ℤ, refl, sym, subst}
use Rattle.std.specs.List.{AllByRecursion}
use Rattle.std.specs.Option.{option_map}
use Rattle.jl_natives.specs.declared.kinds.PlainKind.TheVariants.{AnInt, ALong, AText, TextOrNull}
use Rattle.jl_natives.specs.declared.plain.Plain.{Plain}
use Rattle.jl_natives.specs.declared.plain.Plain.TheVariants.{Int, Long, Text}
use Rattle.jl_natives.specs.declared.native.NativeEnd.{NativeEnd}
use Rattle.jl_natives.specs.Values.{has_kind, text_at}
use Rattle.jl_natives.specs.Rows.{unless_null, parsed, number_in, number_or}
use Rattle.jl_natives.specs.Table.{Native, natives, first_with, native_of, gives, row_of}

abbrev R : Type 0
R = Result Plain NativeEnd

-- the answer, where it is a value, is an int
abbrev AreInts : R → Type 0
AreInts r = (v : Plain) → r ≡ Ok v → has_kind AnInt v ≡ true

abbrev AreTexts : R → Type 0
AreTexts r = (v : Plain) → r ≡ Ok v → has_kind AText v ≡ true

abbrev AreLongs : R → Type 0
AreLongs r = (v : Plain) → r ≡ Ok v → has_kind ALong v ≡ true

an_int : (n : ℤ) → AreInts (Ok (Int n))
an_int n v e = let h : Int n ≡ v = cc in rw (sym h) refl

a_long : (n : ℤ) → AreLongs (Ok (Long n))
a_long n v e = let h : Long n ≡ v = cc in rw (sym h) refl

a_text : (units : List ℕ) → AreTexts (Ok (Text units))
a_text units v e = let h : Text units ≡ v = cc in rw (sym h) refl

either : (P : R → Type 0) (b : Bool) (x y : R) → P x → P y → P (cond b x y)
either P true x y p q = p
either P false x y p q = q

thrown : (e : NativeEnd) (kind : Plain → Bool) (v : Plain) → Err e ≡ Ok v → kind v ≡ true
thrown e kind v h = cc

of_text : (P : R → Type 0) (o : Option (List ℕ)) (f : List ℕ → R) → ((e : NativeEnd) → P (Err e)) → ((units : List ℕ) → P (f units)) → P (unless_null o f)
of_text P None f p q = p _
of_text P (Some units) f p q = q units

an_int_read : (most : ℕ) (o : Option (List ℕ)) → AreInts (parsed most Int o)
an_int_read most None = thrown _ (has_kind AnInt)
an_int_read most (Some text) = by_number (number_in most text) where
  by_number : (n : Option ℤ) → AreInts (number_or Int text n)
  by_number None = thrown _ (has_kind AnInt)
  by_number (Some n) = an_int n

a_long_read : (most : ℕ) (o : Option (List ℕ)) → AreLongs (parsed most Long o)
a_long_read most None = thrown _ (has_kind ALong)
a_long_read most (Some text) = by_number (number_in most text) where
  by_number : (n : Option ℤ) → AreLongs (number_or Long text n)
  by_number None = thrown _ (has_kind ALong)
  by_number (Some n) = a_long n

-- ---- the table

abbrev GivesItsKind : Native → Type 0
GivesItsKind n = (args : List Plain) (v : Plain) → option_map (λ answer. answer args) n.answer ≡ Some (Ok v) → has_kind n.gives v ≡ true

ints : (r : R) → AreInts r → (v : Plain) → ◌≡◌ {A = Option R} (Some r) (Some (Ok v)) → has_kind AnInt v ≡ true
ints r all v e = all v (cc)

longs : (r : R) → AreLongs r → (v : Plain) → ◌≡◌ {A = Option R} (Some r) (Some (Ok v)) → has_kind ALong v ≡ true
longs r all v e = all v (cc)

texts : (r : R) → AreTexts r → (v : Plain) → ◌≡◌ {A = Option R} (Some r) (Some (Ok v)) → has_kind AText v ≡ true
texts r all v e = all v (cc)

nothing : (kind : Plain → Bool) (v : Plain) → ◌≡◌ {A = Option R} None (Some (Ok v)) → kind v ≡ true
nothing kind v e = cc

all_kinds : AllByRecursion (λ p. GivesItsKind p.1) natives
all_kinds = (
  (λ args. ints _ (an_int _)),
  (
    (λ args. ints _ (either AreInts _ _ _ (an_int _) (thrown _ (has_kind AnInt)))),
    (
      (λ args. texts _ (of_text AreTexts _ _ (λ e. thrown e (has_kind AText)) (λ us. a_text _))),
      (
        (λ args. texts _ (either AreTexts _ _ _ (a_text _) (thrown _ (has_kind AText)))),
        (
          (λ args. ints _ (of_text AreInts _ _ (λ e. thrown e (has_kind AnInt)) (λ us. an_int _))),
          (
            (λ args. ints _ (of_text AreInts _ _ (λ e. thrown e (has_kind AnInt)) (λ us. an_int _))),
            (
              (λ args. ints _ (an_int _)),
              (
                (λ args. ints _ (an_int _)),
                (
                  (λ args. ints _ (of_text AreInts _ _ (λ e. thrown e (has_kind AnInt)) (λ us. an_int _))),
                  (
                    (λ args. texts _ (a_text _)),
                    (
                      (λ args. ints _ (an_int_read (2 ^ 31) (text_at 0 args))),
                      (
                        (λ args. texts _ (a_text _)),
                        (
                          (λ args. longs _ (a_long_read (2 ^ 63) (text_at 0 args))),
                          (
                            (λ args. texts _ (a_text _)),
                            (
                              (λ args. texts _ (a_text _)),
                              (
                                (λ args. ints _ (an_int _)),
                                (
                                  (λ args. ints _ (an_int _)),
                                  (
                                    (λ args. ints _ (an_int _)),
                                    (
                                      (λ args. ints _ (either AreInts _ _ _ (thrown _ (has_kind AnInt)) (an_int _))),
                                      (
                                        (λ args. texts _ (a_text _)),
                                        (
                                          (λ args. texts _ (a_text _)),
                                          (
                                            (λ args. nothing (has_kind ALong)),
                                            (
                                              (λ args. nothing (has_kind ALong)),
                                              ((λ args. nothing (has_kind TextOrNull)), tt),
                                            ),
                                          ),
                                        ),
                                      ),
                                    ),
                                  ),
                                ),
                              ),
                            ),
                          ),
                        ),
                      ),
                    ),
                  ),
                ),
              ),
            ),
          ),
        ),
      ),
    ),
  ),
)

by_row : (P : Native → Type 0) (row : ℕ) (m : ℕ × Native) (ms : List (ℕ × Native)) (n : Native) → P m.1 → (first_with row ms ≡ Some n → P n) → (b : Bool) → (m.0 == row) ≡ b → first_with row (m ∷ ms) ≡ Some n → P n
by_row P row m ms n here later true is e = let h = rw is at e in let same : m.1 ≡ n = cc in subst P same here
by_row P row m ms n here later false is e = later (rw is at e)

first_is : (P : Native → Type 0) (row : ℕ) (ns : List (ℕ × Native)) (n : Native) → AllByRecursion (λ p. P p.1) ns → first_with row ns ≡ Some n → P n
first_is P row [] n all e = cc
first_is P row (m ∷ ms) n all e = by_row P row m ms n all.0 (first_is P row ms n all.1) (m.0 == row) refl e

by_native : (row : ℕ) (args : List Plain) (v : Plain) (n : Option Native) → native_of row ≡ n → row_of row args ≡ Some (Ok v) → IsTrue (gives row v)
unfolding native_of row_of gives
by_native row args v None e is = cc (rw e at is)
by_native row args v (Some n) e is = rw e (first_is GivesItsKind row natives n all_kinds e args v (rw e at is))

-- what the arguments decide, where it is a value, is of the kind that the native gives
pub decided_kind : (row : ℕ) (args : List Plain) (v : Plain) → row_of row args ≡ Some (Ok v) → IsTrue (gives row v)
decided_kind row args v is = by_native row args v (native_of row) refl is
