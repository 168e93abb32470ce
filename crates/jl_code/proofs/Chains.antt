-- Numbers one behind the other: what is read stands there, and what stands there is read.
use Rattle.std.proofs.Common.{◌≡◌, ℕ, ◌+◌, ◌≤◌, Bool, true, false, cond, List, length, Result, Ok, Err, refl, sym, ap, subst, arith}
use Rattle.std.specs.Prelude.{IsTrue}
use Rattle.byteorder.specs.Numbers.{length-bytes_high_first}
use Rattle.jl_reading.specs.Reading.{◌>>=◌, IsBytes}
use Rattle.jl_reading.proofs.Steps.{bind_ok, ok_is}
use Rattle.jl_reading.proofs.Stands.{number_stands, number_again}
use Rattle.jl_code.specs.declared.fault.CodeFault.{CodeFault}
use Rattle.jl_code.specs.declared.fault.CodeFault.TheVariants as faults
use Rattle.jl_code.specs.declared.code.Arg.{Arg}
use Rattle.jl_code.specs.Operands.{operand_at}
use Rattle.jl_code.specs.Spelling.{StandsNumber, IsOne, IsTwo}

-- where a number ends
pub ends : (code : List ℕ) (k at n next : ℕ) → StandsNumber code k at n next → next ≡ at + k
ends code k at n next s = omega (arith, s.stands.ends, length-bytes_high_first k n)

pub within : (code : List ℕ) (k at n next : ℕ) → StandsNumber code k at n next → next ≤ length code
within code k at n next s = s.stands.within

-- a number that was read, and what came of it
pub record Begun {Y : Type 0} (code : List ℕ) (k next : ℕ) (f : ℕ × ℕ → Result Y CodeFault) (y : Y) : Type 0 where
  pub n : ℕ
  pub number : StandsNumber code k next n (next + k)
  pub later : f (n, next + k) ≡ Ok y

pub begun : {Y : Type 0} (at k : ℕ) (code : List ℕ) (next : ℕ) (f : ℕ × ℕ → Result Y CodeFault) (y : Y) → IsBytes code → (operand_at at k code next >>= f) ≡ Ok y → Begun code k next f y
begun at k code next f y fits e =
    let a = bind_ok (operand_at at k code next) f y e in
    let s = number_stands (λ _. faults.ShortOperand at) k code next a.0.0 a.0.1 fits a.1 in
    let number : StandsNumber code k next a.0.0 a.0.1 = record { fits = s.1; stands = s.0 } in
    let place : a.0.1 ≡ next + k = ends code k next a.0.0 a.0.1 number in
    record {
      n = a.0.0;
      number = subst (λ (p : ℕ). StandsNumber code k next a.0.0 p) place number;
      later = subst (λ (p : ℕ). f (a.0.0, p) ≡ Ok y) place a.2;
    }

pub again : (at k : ℕ) (code : List ℕ) (next n end : ℕ) → StandsNumber code k next n end → operand_at at k code next ≡ Ok (n, end)
again at k code next n end s = number_again (λ _. faults.ShortOperand at) k code next n end s.fits s.stands

-- a test that passed
pub passed : {Y : Type 0} (b : Bool) (f : CodeFault) (x y : Y) → cond b (Ok x) (Err f) ≡ Ok y → IsTrue b × (x ≡ y)
passed true f x y e = (refl, ok_is x y e)
passed false f x y e = absurd cc

abbrev pub judged : Bool → CodeFault → Arg × ℕ → Result (Arg × ℕ) CodeFault
judged b f x = cond b (Ok x) (Err f)

-- ---- one number

abbrev pub one_read : ℕ → ℕ → List ℕ → ℕ → (ℕ → Bool) → (ℕ → Arg) → CodeFault → Result (Arg × ℕ) CodeFault
one_read at k code next right made f = operand_at at k code next >>= λ n. judged (right n.0) f (made n.0, n.1)

pub one_stands : (at k : ℕ) (code : List ℕ) (next : ℕ) (right : ℕ → Bool) (made : ℕ → Arg) (f : CodeFault) (arg : Arg) (end : ℕ) → IsBytes code
    → one_read at k code next right made f ≡ Ok (arg, end) → IsOne code k right made next arg end
one_stands at k code next right made f arg end fits e =
    let b = begun at k code next (λ n. judged (right n.0) f (made n.0, n.1)) (arg, end) fits e in
    let p = passed (right b.n) f (made b.n, next + k) (arg, end) b.later in
    record {
      n = b.n;
      number = subst (λ (p : ℕ). StandsNumber code k next b.n p) (ap (λ (x : Arg × ℕ). x.1) p.1) b.number;
      rule = p.0;
      meaning = sym (ap (λ (x : Arg × ℕ). x.0) p.1);
    }

pub one_again : (at k : ℕ) (code : List ℕ) (next : ℕ) (right : ℕ → Bool) (made : ℕ → Arg) (f : CodeFault) (arg : Arg) (end : ℕ) → IsOne code k right made next arg end
    → one_read at k code next right made f ≡ Ok (arg, end)
one_again at k code next right made f arg end s =
    let rule : right s.n ≡ true = s.rule in
    rw (again at k code next s.n end s.number, rule, s.meaning) refl

pub one_forth : (code : List ℕ) (k : ℕ) (right : ℕ → Bool) (made : ℕ → Arg) (next : ℕ) (arg : Arg) (end : ℕ) → IsOne code k right made next arg end → (next ≤ end) × (end ≤ length code)
one_forth code k right made next arg end s = let e = ends code k next s.n end s.number in (omega arith, s.number.stands.within)

-- ---- two numbers

abbrev second_read : ℕ → ℕ → List ℕ → (ℕ → ℕ → Bool) → (ℕ → ℕ → Arg) → CodeFault → ℕ × ℕ → Result (Arg × ℕ) CodeFault
second_read at j code right made f n = operand_at at j code n.1 >>= λ m. judged (right n.0 m.0) f (made n.0 m.0, m.1)

abbrev pub two_read : ℕ → ℕ → ℕ → List ℕ → ℕ → (ℕ → ℕ → Bool) → (ℕ → ℕ → Arg) → CodeFault → Result (Arg × ℕ) CodeFault
two_read at k j code next right made f = operand_at at k code next >>= second_read at j code right made f

pub two_stand : (at k j : ℕ) (code : List ℕ) (next : ℕ) (right : ℕ → ℕ → Bool) (made : ℕ → ℕ → Arg) (f : CodeFault) (arg : Arg) (end : ℕ) → IsBytes code
    → two_read at k j code next right made f ≡ Ok (arg, end) → IsTwo code k j right made next arg end
two_stand at k j code next right made f arg end fits e =
    let a = begun at k code next (second_read at j code right made f) (arg, end) fits e in
    let b = begun at j code (next + k) (λ m. judged (right a.n m.0) f (made a.n m.0, m.1)) (arg, end) fits a.later in
    let p = passed (right a.n b.n) f (made a.n b.n, next + k + j) (arg, end) b.later in
    record {
      n = a.n;
      m = b.n;
      first = a.number;
      second = subst (λ (p : ℕ). StandsNumber code j (next + k) b.n p) (ap (λ (x : Arg × ℕ). x.1) p.1) b.number;
      rule = p.0;
      meaning = sym (ap (λ (x : Arg × ℕ). x.0) p.1);
    }

pub two_again : (at k j : ℕ) (code : List ℕ) (next : ℕ) (right : ℕ → ℕ → Bool) (made : ℕ → ℕ → Arg) (f : CodeFault) (arg : Arg) (end : ℕ) → IsTwo code k j right made next arg end
    → two_read at k j code next right made f ≡ Ok (arg, end)
two_again at k j code next right made f arg end s =
    let rule : right s.n s.m ≡ true = s.rule in
    rw (again at k code next s.n (next + k) s.first, again at j code (next + k) s.m end s.second, rule, s.meaning) refl

pub two_forth : (code : List ℕ) (k j : ℕ) (right : ℕ → ℕ → Bool) (made : ℕ → ℕ → Arg) (next : ℕ) (arg : Arg) (end : ℕ) → IsTwo code k j right made next arg end → (next ≤ end) × (end ≤ length code)
two_forth code k j right made next arg end s = let e = ends code j (next + k) s.m end s.second in (omega arith, s.second.stands.within)
