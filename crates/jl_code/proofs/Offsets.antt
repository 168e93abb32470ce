-- Offsets: what is read leads to a place, and what leads to one is read.
use Rattle.std.proofs.Common.{◌≡◌, ℕ, ◌+◌, ◌≤◌, ◌<◌, ltb, ℤ, pos, negsuc, ◌+ℤ◌, List, length, Result, Ok, refl, sym, ap, subst, arith}
use Rattle.std.specs.Int.{Width, cast_signed}
use Rattle.std.proofs.lemmas.Bool.{lt-ltb, ltb-true}
use Rattle.jl_reading.specs.Reading.{◌>>=◌, IsBytes}
use Rattle.jl_reading.proofs.Steps.{bind_ok, ok_is}
use Rattle.jl_code.specs.declared.fault.CodeFault.{CodeFault}
use Rattle.jl_code.specs.declared.fault.CodeFault.TheVariants as faults
use Rattle.jl_code.specs.declared.code.Arg.{Arg}
use Rattle.jl_code.specs.declared.code.Arg.TheVariants as args
use Rattle.jl_code.specs.Operands.{operand_at, place_or, target, branch_at}
use Rattle.jl_code.specs.Spelling.{StandsNumber, LeadsTo, IsBranch}
use Rattle.jl_code.proofs.Chains.{begun, again, ends, passed}

pub placed : (f : CodeFault) (code : List ℕ) (z : ℤ) (p : ℕ) → place_or f code z ≡ Ok p → (z ≡ pos p) × (p < length code)
placed f code (pos n) p e =
    let h = passed (ltb n (length code)) f n p e in
    (ap pos h.1, subst (λ (q : ℕ). q < length code) h.1 (ltb-true n (length code) h.0))
placed f code (negsuc n) p e = absurd cc

pub placed_again : (f : CodeFault) (code : List ℕ) (z : ℤ) (p : ℕ) → z ≡ pos p → p < length code → place_or f code z ≡ Ok p
placed_again f code z p e lt = rw (e, lt-ltb p (length code) lt) refl

abbrev place_read : {X : Type 0} → ℕ → Width → List ℕ → (ℕ → X) → ℕ × ℕ → Result (X × ℕ) CodeFault
place_read at w code made offset = target at code (cast_signed w offset.0) >>= λ place. Ok (made place, offset.1)

-- where an offset leads, of which something is made
abbrev pub lead_read : {X : Type 0} → ℕ → ℕ → Width → List ℕ → ℕ → (ℕ → X) → Result (X × ℕ) CodeFault
lead_read at k w code next made = operand_at at k code next >>= place_read at w code made

pub record Led {X : Type 0} (code : List ℕ) (at k : ℕ) (w : Width) (next : ℕ) (made : ℕ → X) (x : X) (end : ℕ) : Type 0 where
  pub place : ℕ
  pub leads : LeadsTo code at k w next place end
  pub meaning : x ≡ made place
  pub ends : end ≡ next + k

pub led : {X : Type 0} (at k : ℕ) (w : Width) (code : List ℕ) (next : ℕ) (made : ℕ → X) (x : X) (end : ℕ) → IsBytes code → lead_read at k w code next made ≡ Ok (x, end) → Led code at k w next made x end
led {X} at k w code next made x end fits e =
    let b = begun at k code next (place_read at w code made) (x, end) fits e in
    let t = bind_ok (target at code (cast_signed w b.n)) (λ place. Ok (made place, next + k)) (x, end) b.later in
    let p = placed (faults.BadTarget at) code (pos at +ℤ cast_signed w b.n) t.0 t.1 in
    let same = ok_is (made t.0, next + k) (x, end) t.2 in
    let place : next + k ≡ end = ap (λ (y : X × ℕ). y.1) same in
    record {
      place = t.0;
      leads = record { offset = b.n; number = subst (λ (q : ℕ). StandsNumber code k next b.n q) place b.number; counted = p.0; inside = p.1 };
      meaning = sym (ap (λ (y : X × ℕ). y.0) same);
      ends = sym place;
    }

pub led_again : {X : Type 0} (at k : ℕ) (w : Width) (code : List ℕ) (next : ℕ) (made : ℕ → X) (place end : ℕ) → LeadsTo code at k w next place end → lead_read at k w code next made ≡ Ok (made place, end)
led_again at k w code next made place end s =
    rw (again at k code next s.offset end s.number, placed_again (faults.BadTarget at) code (pos at +ℤ cast_signed w s.offset) place s.counted s.inside) refl

pub branch_stands : (at k : ℕ) (w : Width) (code : List ℕ) (next : ℕ) (arg : Arg) (end : ℕ) → IsBytes code → branch_at at k w code next ≡ Ok (arg, end) → IsBranch code at k w next arg end
unfolding branch_at
branch_stands at k w code next arg end fits e = let l = led at k w code next args.Target arg end fits e in record { place = l.place; leads = l.leads; meaning = l.meaning }

pub branch_again : (at k : ℕ) (w : Width) (code : List ℕ) (next : ℕ) (arg : Arg) (end : ℕ) → IsBranch code at k w next arg end → branch_at at k w code next ≡ Ok (arg, end)
unfolding branch_at
branch_again at k w code next arg end s = rw s.meaning (led_again at k w code next args.Target s.place end s.leads)

pub branch_forth : (code : List ℕ) (at k : ℕ) (w : Width) (next : ℕ) (arg : Arg) (end : ℕ) → IsBranch code at k w next arg end → (next ≤ end) × (end ≤ length code)
branch_forth code at k w next arg end s = let e = ends code k next s.leads.offset end s.leads.number in (omega arith, s.leads.number.stands.within)
