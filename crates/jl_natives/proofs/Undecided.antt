-- What the outside decides, the arguments do not.
use Rattle.std.proofs.Common.{◌≡◌, ℕ, List, true, IsTrue, not, is_some, Option, None, Some, Result, IfSome, ◌⊎◌, inl, inr, ℤ, refl, arith}
use Rattle.std.specs.Option.{option_map}
use Rattle.jl_natives.specs.declared.plain.Plain.{Plain}
use Rattle.jl_natives.specs.declared.native.NativeEnd.{NativeEnd}
use Rattle.std.proofs.lemmas.Bool.Decides.{nat_tests}
use Rattle.jl_natives.specs.declared.plain.Plain.TheVariants.{Long}
use Rattle.jl_natives.specs.Table.{Native, native_of, gives, row_of, is_outside}
use Rattle.jl_natives.specs.Outside.{is_clock}

no_answer : (args : List Plain) (answer : Option (List Plain → Result Plain NativeEnd)) → not (is_some answer) ≡ true → option_map (λ a. a args) answer ≡ None
no_answer args None out = refl
no_answer args (Some a) out = cc

by_native : (row : ℕ) (args : List Plain) (n : Option Native) → native_of row ≡ n → IsTrue (is_outside row) → row_of row args ≡ None
unfolding row_of is_outside
by_native row args None e out = rw e refl
by_native row args (Some n) e out = rw e (no_answer args n.answer (rw e at out))

pub undecided : (row : ℕ) (args : List Plain) → IsTrue (is_outside row) → row_of row args ≡ None
undecided row args out = by_native row args (native_of row) refl out

pub stays_undecided : (row : ℕ) (args : List Plain) (P : Result Plain NativeEnd → Type 0) → IsTrue (is_outside row) → IfSome (row_of row args) P
stays_undecided row args P out = rw (undecided row args out) tt

-- ---- clocks

a_clock : (row : ℕ) → IsTrue (is_clock row) → (row ≡ 30) ⊎ (row ≡ 31)
a_clock row is = grind (arith, nat_tests)

pub clock_is_outside : (row : ℕ) → IsTrue (is_clock row) → IsTrue (is_outside row)
unfolding is_outside native_of
clock_is_outside row is = elim (a_clock row is) [ inl e ↦ rw e refl | inr e ↦ rw e refl ]

pub clock_gives_a_long : (row : ℕ) (n : ℤ) → IsTrue (is_clock row) → IsTrue (gives row (Long n))
unfolding gives native_of
clock_gives_a_long row n is = elim (a_clock row is) [ inl e ↦ rw e refl | inr e ↦ rw e refl ]
