-- Ints that wrap.
use Rattle.std.proofs.Common.{◌≡◌, ℕ, ◌+◌, ◌*◌, ◌%◌, ◌<◌, ◌^◌, ℤ, pos, negsuc, ◌+ℤ◌, ◌-ℤ◌, ◌*ℤ◌, unsigned_abs, FitsSigned, to_z, of_z, refl, ap, sym, ◌∙◌, rules, arith}
use Rattle.std.specs.Int.{w32, int_wrap, int_wrapping_sub}
use Rattle.std.proofs.lemmas.Int.{wraps, to_z_pos, to_z-of_z, of_z-to_z, wrapping_mul-bits, wrapping_add-bits, int_wrap-add_left}
use Rattle.jl_natives.specs.Rows.{wrapped}

-- a number of 32 bits, taken as an int
pub as_int_is : (n : ℕ) → to_z w32 (n % 4294967296) ≡ wrapped (pos n)
unfolding int_wrap
as_int_is n = refl

-- what a hash becomes by one unit, by the bits of the hash before
pub step_is : (m u : ℕ) → m < 2 ^ 32 → u < 2 ^ 16 → to_z w32 ((31 * m % 4294967296 + u) % 4294967296) ≡ int_wrap w32 (pos 31 *ℤ to_z w32 m +ℤ pos u)
step_is m u p q =
    let mul : to_z w32 (31 * m % 4294967296) ≡ int_wrap w32 (pos 31 *ℤ to_z w32 m) = wrapping_mul-bits w32 31 m (omega arith) p in
    let small : to_z w32 u ≡ pos u = to_z_pos w32 u (omega arith) in
    let add : to_z w32 ((31 * m % 4294967296 + u) % 4294967296) ≡ int_wrap w32 (to_z w32 (31 * m % 4294967296) +ℤ to_z w32 u) = wrapping_add-bits w32 (31 * m % 4294967296) u (omega arith) (omega arith) in
    add ∙ (ap (λ x. int_wrap w32 (x +ℤ to_z w32 u)) mul ∙ (ap (λ x. int_wrap w32 (int_wrap w32 (pos 31 *ℤ to_z w32 m) +ℤ x)) small ∙ int_wrap-add_left w32 (pos 31 *ℤ to_z w32 m) (pos u)))

-- the difference of two numbers that wrapped
pub difference_is : (m n : ℕ) → int_wrapping_sub w32 (wrapped (pos m)) (wrapped (pos n)) ≡ wrapped (pos m -ℤ pos n)
difference_is m n = search (rules, wraps)

-- the value without its sign
pub abs_is : (n r : ℤ) → FitsSigned w32 n → r ≡ to_z w32 (unsigned_abs (to_z w32 (of_z w32 n))) → to_z w32 (of_z w32 r) ≡ int_wrap w32 (pos (unsigned_abs n))
unfolding int_wrap
abs_is n r fits is =
    let small : unsigned_abs n < 2 ^ 32 = below n fits in
    let same : unsigned_abs n % 4294967296 ≡ unsigned_abs n = omega arith in
    rw (is, to_z-of_z w32 n fits, of_z-to_z w32 (unsigned_abs n) small) (ap (to_z w32) (sym same))
  where
    below : (n : ℤ) → FitsSigned w32 n → unsigned_abs n < 2 ^ 32
    below (pos m) fits = omega (arith, fits.sfits)
    below (negsuc m) fits = omega (arith, fits.sfits)
