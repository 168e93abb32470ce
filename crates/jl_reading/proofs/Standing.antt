-- Texts that stand in bytes, joined, split and cut, and the numbers among them.
use Rattle.std.proofs.Common.{◌≡◌, ℕ, ◌+◌, ◌-◌, ◌^◌, ◌<◌, ◌≤◌, List, ◌++◌, length, take, drop, Ok, sym, ap, ◌∙◌, subst, arith}
use Rattle.std.proofs.lemmas.List.{length-take-le, take-take, drop-take}
use Rattle.byteorder.specs.Endian.{big_bytes}
use Rattle.jl_reading.specs.Reading.{Stands, IsBytes, number_at}
use Rattle.jl_reading.proofs.Stands.{Stands-then, Stands-splits, number_stands, number_again}

-- ---- texts

-- one text behind another
pub join : {bytes : List ℕ} {at mid next : ℕ} {t u : List ℕ} → Stands bytes at t mid → Stands bytes mid u next → Stands bytes at (t ++ u) next
join {bytes} {at} {mid} {next} {t} {u} s r = Stands-then bytes at t mid u next s r

-- the first of two texts
pub first : {bytes : List ℕ} {at next : ℕ} (t u : List ℕ) → Stands bytes at (t ++ u) next → Stands bytes at t (at + length t)
first {bytes} {at} {next} t u s = (Stands-splits bytes at t u next s).first

-- the second of two texts
pub second : {bytes : List ℕ} {at next : ℕ} (t u : List ℕ) → Stands bytes at (t ++ u) next → Stands bytes (at + length t) u next
second {bytes} {at} {next} t u s = (Stands-splits bytes at t u next s).second

-- the end is a known place
pub ends_at : {bytes t : List ℕ} {at next : ℕ} (end : ℕ) → next ≡ end → Stands bytes at t next → Stands bytes at t end
ends_at {bytes} {t} {at} {next} end e s = subst (λ x. Stands bytes at t x) e s

cut_there : (n at end : ℕ) (bytes : List ℕ) → at + n ≤ end → take n (drop at (take end bytes)) ≡ take n (drop at bytes)
cut_there n at end bytes l =
    let e : end ≡ at + (end - at) = omega arith in
    let moved : drop at (take (at + (end - at)) bytes) ≡ take (end - at) (drop at bytes) = drop-take at (end - at) bytes in
    let same : drop at (take end bytes) ≡ take (end - at) (drop at bytes) = ap (λ k. drop at (take k bytes)) e ∙ moved in
    rw same (take-take n (end - at) (drop at bytes) (omega arith))

-- what stands before the end stands also where the rest is cut off
pub cut_off : {bytes : List ℕ} {at next : ℕ} {t : List ℕ} (end : ℕ) → end ≤ length bytes → next ≤ end → Stands bytes at t next → Stands (take end bytes) at t next
cut_off {bytes} {at} {next} {t} end le l s = record {
  there = cut_there (length t) at end bytes (omega (arith, s.ends)) ∙ s.there;
  ends = s.ends;
  within = rw (length-take-le end bytes le) l;
}

-- and the other way round
pub uncut : {bytes : List ℕ} {at next : ℕ} {t : List ℕ} (end : ℕ) → end ≤ length bytes → Stands (take end bytes) at t next → Stands bytes at t next
uncut {bytes} {at} {next} {t} end le s =
    let k = length-take-le end bytes le in
    let l : next ≤ end = omega (arith, s.within, k) in
    record {
      there = sym (cut_there (length t) at end bytes (omega (arith, s.ends, l))) ∙ s.there;
      ends = s.ends;
      within = omega arith;
    }

-- ---- numbers

-- a number of so many bytes stands there
pub record Number (k : ℕ) (bytes : List ℕ) (at n next : ℕ) : Type 0 where
  pub stands : Stands bytes at (big_bytes k n) next
  pub small : n < 256 ^ k

-- a number that was read
pub number_in : {F : Type 0} (short : ℕ → F) (k : ℕ) (bytes : List ℕ) (at : ℕ) (x : ℕ × ℕ) → IsBytes bytes → number_at short k bytes at ≡ Ok x → Number k bytes at x.0 x.1
number_in short k bytes at x b e = let s = number_stands short k bytes at x.0 x.1 b e in record { stands = s.0; small = s.1 }

-- a number that stands there is read
pub number_read : {F : Type 0} (short : ℕ → F) (k : ℕ) (bytes : List ℕ) (at n next : ℕ) → n < 256 ^ k → Stands bytes at (big_bytes k n) next → number_at short k bytes at ≡ Ok (n, next)
number_read short k bytes at n next small s = number_again short k bytes at n next small s

-- the number is a known one
pub known : {k : ℕ} {bytes : List ℕ} {at m next : ℕ} (n : ℕ) → m ≡ n → Number k bytes at m next → Stands bytes at (big_bytes k n) next
known {k} {bytes} {at} {m} {next} n e number = subst (λ x. Stands bytes at (big_bytes k x) next) e number.stands
