-- Entries one after the other: what is read is spelled so, and what is spelled so is read.
use Rattle.std.proofs.Common.{◌≡◌, ℕ, zero, suc, ◌+◌, ◌-◌, ◌<◌, Bool, true, false, not, ◌==◌, List, [], ◌∷◌, ◌++◌, length, slice_get, Some, Ok, refl, sym, ap, subst, ◌∙◌, arith}
use Rattle.std.specs.List.{AllByRecursion}
use Rattle.std.proofs.lemmas.Bool.{cond_both, eqb-false, ne_eqb, not-true}
use Rattle.std.proofs.lemmas.List.{length_push}
use Rattle.byteorder.specs.Endian.{big_bytes}
use Rattle.jl_reading.specs.Reading.{◌>>=◌, number_at, Stands, IsBytes, two, four}
use Rattle.jl_reading.proofs.Steps.{bind_ok, ok_is}
use Rattle.jl_reading.proofs.Stands.{Stands-nothing, Stands-then, Stands-splits, number_stands, number_again, Along, UnitStands}
use Rattle.jl_names.specs.Text.{text_bytes}
use Rattle.jl_pool.specs.declared.entry.Entry.{Entry}
use Rattle.jl_pool.specs.declared.entry.Entry.TheVariants as entries
use Rattle.jl_pool.specs.declared.fault.PoolFault.TheVariants as faults
use Rattle.jl_pool.specs.Pool.{is_wide, is_some_wide, is_unused}
use Rattle.jl_pool.specs.Reading.{content_at, ends_wide, entry_at}
use Rattle.jl_pool.specs.Spelling.{entry_bytes, EntryFits, AreSpaced}
use Rattle.jl_pool.proofs.Contents.{content_stands, bits_again, wide_again, pair_again, handle_again, text_again}

-- an entry after those before it
pub record Fit (count : ℕ) (done : List Entry) (x : Entry) : Type 0 where
  pub fits : EntryFits x
  pub unused : is_unused x ≡ ends_wide done
  pub narrow : is_wide x ≡ true → (length done + 1 == count) ≡ false

pub entry_stands : (count : ℕ) (bytes : List ℕ) → IsBytes bytes → UnitStands bytes entry_bytes (Fit count) (entry_at count bytes)
unfolding entry_at
entry_stands count bytes fits done at x next le =
    cond_both (ends_wide done) (Ok (entries.Unused, at)) (number_at faults.Short 1 bytes at >>= λ tag. content_at tag.0 count (length done) bytes tag.1)
    (λ r. r ≡ Ok (x, next) → Stands bytes at (entry_bytes x) next × Fit count done x)
    (λ w e. subst (λ (p : Entry × ℕ). Stands bytes at (entry_bytes p.0) p.1 × Fit count done p.0) (ok_is (entries.Unused, at) (x, next) e)
    (Stands-nothing bytes at le, record { fits = tt; unused = sym w; narrow = λ h. absurd cc }))
    (λ w e.
    let a = bind_ok (number_at faults.Short 1 bytes at) (λ tag. content_at tag.0 count (length done) bytes tag.1) (x, next) e in
    let t = number_stands faults.Short 1 bytes at a.0.0 a.0.1 fits a.1 in
    let c = content_stands bytes a.0.0 count (length done) a.0.1 x next fits a.2 in
    let whole = Stands-then bytes at (big_bytes 1 a.0.0) a.0.1 c.body next t.0 c.stands in
    (subst (λ (text : List ℕ). Stands bytes at text next) (sym c.spelled) whole, record { fits = c.fits; unused = c.used ∙ sym w; narrow = c.narrow }))

tag_first : (count : ℕ) (bytes : List ℕ) (done : List Entry) (at tag : ℕ) (body : List ℕ) (x : Entry) (next : ℕ) → ends_wide done ≡ false → tag < 256 → Stands bytes at (big_bytes 1 tag ++ body) next
    → (Stands bytes (at + 1) body next → content_at tag count (length done) bytes (at + 1) ≡ Ok (x, next)) → entry_at count bytes done at ≡ Ok (x, next)
unfolding entry_at
tag_first count bytes done at tag body x next w lt s rest =
    let p = Stands-splits bytes at (big_bytes 1 tag) body next s in
    rw (w, number_again faults.Short 1 bytes at tag (at + 1) lt p.first) (rest p.second)

pub entry_again : (count : ℕ) (bytes : List ℕ) (done : List Entry) (at : ℕ) (x : Entry) (next : ℕ) → Fit count done x → Stands bytes at (entry_bytes x) next → entry_at count bytes done at ≡ Ok (x, next)
unfolding entry_at content_at
entry_again count bytes done at entries.Unused next p s =
    let ends : at ≡ next = omega (arith, s.ends) in
    let w : ends_wide done ≡ true = sym p.unused in
    rw (w, ends) refl
entry_again count bytes done at (entries.Utf8 units) next p s = tag_first count bytes done at 1 (two (length (text_bytes units)) ++ text_bytes units) (entries.Utf8 units) next (sym p.unused) (omega arith) s (λ b. text_again bytes (length done) (at + 1) units next p.fits b)
entry_again count bytes done at (entries.Integer n) next p s = tag_first count bytes done at 3 (four n) (entries.Integer n) next (sym p.unused) (omega arith) s (λ b. bits_again entries.Integer 4 bytes (at + 1) n next p.fits b)
entry_again count bytes done at (entries.Float n) next p s = tag_first count bytes done at 4 (four n) (entries.Float n) next (sym p.unused) (omega arith) s (λ b. bits_again entries.Float 4 bytes (at + 1) n next p.fits b)
entry_again count bytes done at (entries.Long n) next p s = tag_first count bytes done at 5 (big_bytes 8 n) (entries.Long n) next (sym p.unused) (omega arith) s (λ b. wide_again entries.Long bytes count (length done) (at + 1) n next (p.narrow refl) p.fits b)
entry_again count bytes done at (entries.Double n) next p s = tag_first count bytes done at 6 (big_bytes 8 n) (entries.Double n) next (sym p.unused) (omega arith) s (λ b. wide_again entries.Double bytes count (length done) (at + 1) n next (p.narrow refl) p.fits b)
entry_again count bytes done at (entries.Class i) next p s = tag_first count bytes done at 7 (two i) (entries.Class i) next (sym p.unused) (omega arith) s (λ b. bits_again entries.Class 2 bytes (at + 1) i next p.fits b)
entry_again count bytes done at (entries.String i) next p s = tag_first count bytes done at 8 (two i) (entries.String i) next (sym p.unused) (omega arith) s (λ b. bits_again entries.String 2 bytes (at + 1) i next p.fits b)
entry_again count bytes done at (entries.Field i j) next p s = tag_first count bytes done at 9 (two i ++ two j) (entries.Field i j) next (sym p.unused) (omega arith) s (λ b. pair_again entries.Field bytes (at + 1) i j next p.fits.0 p.fits.1 b)
entry_again count bytes done at (entries.Method i j) next p s = tag_first count bytes done at 10 (two i ++ two j) (entries.Method i j) next (sym p.unused) (omega arith) s (λ b. pair_again entries.Method bytes (at + 1) i j next p.fits.0 p.fits.1 b)
entry_again count bytes done at (entries.InterfaceMethod i j) next p s = tag_first count bytes done at 11 (two i ++ two j) (entries.InterfaceMethod i j) next (sym p.unused) (omega arith) s (λ b. pair_again entries.InterfaceMethod bytes (at + 1) i j next p.fits.0 p.fits.1 b)
entry_again count bytes done at (entries.NameAndType i j) next p s = tag_first count bytes done at 12 (two i ++ two j) (entries.NameAndType i j) next (sym p.unused) (omega arith) s (λ b. pair_again entries.NameAndType bytes (at + 1) i j next p.fits.0 p.fits.1 b)
entry_again count bytes done at (entries.MethodHandle kind i) next p s = tag_first count bytes done at 15 (big_bytes 1 kind ++ two i) (entries.MethodHandle kind i) next (sym p.unused) (omega arith) s (λ b. handle_again bytes (at + 1) kind i next p.fits.0 p.fits.1 b)
entry_again count bytes done at (entries.MethodType i) next p s = tag_first count bytes done at 16 (two i) (entries.MethodType i) next (sym p.unused) (omega arith) s (λ b. bits_again entries.MethodType 2 bytes (at + 1) i next p.fits b)
entry_again count bytes done at (entries.Dynamic i j) next p s = tag_first count bytes done at 17 (two i ++ two j) (entries.Dynamic i j) next (sym p.unused) (omega arith) s (λ b. pair_again entries.Dynamic bytes (at + 1) i j next p.fits.0 p.fits.1 b)
entry_again count bytes done at (entries.InvokeDynamic i j) next p s = tag_first count bytes done at 18 (two i ++ two j) (entries.InvokeDynamic i j) next (sym p.unused) (omega arith) s (λ b. pair_again entries.InvokeDynamic bytes (at + 1) i j next p.fits.0 p.fits.1 b)
entry_again count bytes done at (entries.Module i) next p s = tag_first count bytes done at 19 (two i) (entries.Module i) next (sym p.unused) (omega arith) s (λ b. bits_again entries.Module 2 bytes (at + 1) i next p.fits b)
entry_again count bytes done at (entries.Package i) next p s = tag_first count bytes done at 20 (two i) (entries.Package i) next (sym p.unused) (omega arith) s (λ b. bits_again entries.Package 2 bytes (at + 1) i next p.fits b)

-- ---- the unused indices

slice_get-push : (es : List Entry) (x : Entry) (n : ℕ) → n ≡ length es → slice_get (es ++ x ∷ []) n ≡ Some x
slice_get-push [] x zero e = refl
slice_get-push [] x (suc n) e = absurd (omega arith)
slice_get-push (y ∷ es) x zero e = absurd (omega arith)
slice_get-push (y ∷ es) x (suc n) e = slice_get-push es x n (omega arith)

pub ends_wide-push : (es : List Entry) (x : Entry) → ends_wide (es ++ x ∷ []) ≡ is_wide x
ends_wide-push es x = ap is_some_wide (slice_get-push es x (length (es ++ x ∷ []) - 1) (omega (arith, length_push es x)))

narrow_unused : (x : Entry) → is_unused x ≡ true → is_wide x ≡ false
narrow_unused entries.Unused e = refl
narrow_unused (entries.Utf8 units) e = absurd cc
narrow_unused (entries.Integer n) e = absurd cc
narrow_unused (entries.Float n) e = absurd cc
narrow_unused (entries.Long n) e = absurd cc
narrow_unused (entries.Double n) e = absurd cc
narrow_unused (entries.Class i) e = absurd cc
narrow_unused (entries.String i) e = absurd cc
narrow_unused (entries.Field i j) e = absurd cc
narrow_unused (entries.Method i j) e = absurd cc
narrow_unused (entries.InterfaceMethod i j) e = absurd cc
narrow_unused (entries.NameAndType i j) e = absurd cc
narrow_unused (entries.MethodHandle kind i) e = absurd cc
narrow_unused (entries.MethodType i) e = absurd cc
narrow_unused (entries.Dynamic b i) e = absurd cc
narrow_unused (entries.InvokeDynamic b i) e = absurd cc
narrow_unused (entries.Module i) e = absurd cc
narrow_unused (entries.Package i) e = absurd cc

spaced_more : (b : Bool) (x : Entry) (es : List Entry) → is_unused x ≡ b → AreSpaced (is_wide x) es → AreSpaced b (x ∷ es)
spaced_more true x es e rest = (e, subst (λ (c : Bool). AreSpaced c es) (narrow_unused x e) rest)
spaced_more false x es e rest = (ap not e, rest)

spaced_end : (b : Bool) → (b ≡ true → ⊥) → AreSpaced b []
spaced_end true h = h refl
spaced_end false h = tt

pub spaced_along : (count : ℕ) (done es : List Entry) → length done + length es ≡ count → (ends_wide done ≡ true → length done < count) → Along (Fit count) done es → AreSpaced (ends_wide done) es
spaced_along count done [] size room along = spaced_end (ends_wide done) (λ w. let lt = room w in omega arith)
spaced_along count done (x ∷ es) size room along =
    let len : length (done ++ x ∷ []) ≡ length done + 1 = length_push done x in
    let more : ends_wide (done ++ x ∷ []) ≡ true → length (done ++ x ∷ []) < count = λ w.
    let apart = eqb-false (length done + 1) count (along.0.narrow (sym (ends_wide-push done x) ∙ w)) in
    omega arith in
    let rest = spaced_along count (done ++ x ∷ []) es (omega arith) more along.1 in
    spaced_more (ends_wide done) x es along.0.unused (subst (λ (b : Bool). AreSpaced b es) (ends_wide-push done x) rest)

unused_here : (b : Bool) (x : Entry) (es : List Entry) → AreSpaced b (x ∷ es) → is_unused x ≡ b
unused_here true x es s = s.0
unused_here false x es s = not-true (is_unused x) s.0

spaced_rest : (b : Bool) (x : Entry) (es : List Entry) → AreSpaced b (x ∷ es) → AreSpaced (is_wide x) es
spaced_rest true x es s = subst (λ (c : Bool). AreSpaced c es) (sym (narrow_unused x s.0)) s.1
spaced_rest false x es s = s.1

none_left : (b : Bool) (es : List Entry) → AreSpaced b es → b ≡ true → 0 < length es
none_left true [] s w = absurd s
none_left true (x ∷ es) s w = omega arith
none_left false es s w = absurd cc

pub along_spaced : (count : ℕ) (done es : List Entry) → length done + length es ≡ count → AreSpaced (ends_wide done) es → AllByRecursion EntryFits es → Along (Fit count) done es
along_spaced count done [] size s fits = tt
along_spaced count done (x ∷ es) size s fits =
    let len : length (done ++ x ∷ []) ≡ length done + 1 = length_push done x in
    let rest = spaced_rest (ends_wide done) x es s in
    let narrow : is_wide x ≡ true → (length done + 1 == count) ≡ false = λ w. ne_eqb (length done + 1) count (λ e. let left = none_left (is_wide x) es rest w in omega arith) in (
      record { fits = fits.0; unused = unused_here (ends_wide done) x es s; narrow = narrow },
      along_spaced count (done ++ x ∷ []) es (omega arith) (subst (λ (b : Bool). AreSpaced b es) (sym (ends_wide-push done x)) rest) fits.1,
    )

pub fits_along : (count : ℕ) (done es : List Entry) → Along (Fit count) done es → AllByRecursion EntryFits es
fits_along count done [] along = tt
fits_along count done (x ∷ es) along = (along.0.fits, fits_along count (done ++ x ∷ []) es along.1)
