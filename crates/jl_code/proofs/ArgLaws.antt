-- Operands: what is read is spelled so, what is spelled so is read, and both have the length of their row.
use Rattle.std.proofs.Common.{◌≡◌, ℕ, ◌+◌, ◌*◌, ◌≤◌, ◌^◌, Bool, true, false, ltb, leb, List, length, Result, Ok, refl, sym, ap, subst, arith}
use Rattle.std.specs.Int.{cast_signed, w8, w16, w32}
use Rattle.std.proofs.lemmas.Bool.{le-ltb, lt-leb}
use Rattle.jl_reading.specs.Reading.{◌>>=◌, IsBytes}
use Rattle.jl_reading.proofs.Steps.{ok_is}
use Rattle.jl_pool.specs.declared.entry.Entry.{Entry}
use Rattle.jl_pool.specs.Pool.{tag_of}
use Rattle.jl_optable.specs.declared.form.Operands.{Operands}
use Rattle.jl_optable.specs.declared.form.Operands.TheVariants as kinds
use Rattle.jl_code.specs.declared.fault.CodeFault.{CodeFault}
use Rattle.jl_code.specs.declared.fault.CodeFault.TheVariants as faults
use Rattle.jl_code.specs.declared.code.Arg.{Arg}
use Rattle.jl_code.specs.declared.code.Arg.TheVariants as args
use Rattle.jl_code.specs.Operands.{operand_at, inc_at, padded}
use Rattle.jl_code.specs.References.{has_tag, is_right_index, is_array_of}
use Rattle.jl_code.specs.Instructions.{is_byte_for, byte_at, short_at, local_at, index_arg, index_at, is_interface, interface_at, dynamic_at, multi_at, arg_at}
use Rattle.jl_code.specs.Spelling.{StandsNumber, IsOne, IsTwo, IsInterface, IsTable, IsLookup, ArgStands}
use Rattle.jl_code.specs.Places.{whole_to, table_end, lookup_end}
use Rattle.jl_code.proofs.Chains.{begun, again, ends, judged, passed, one_stands, one_again, two_stand, two_again}
use Rattle.jl_code.proofs.Offsets.{branch_stands, branch_again}
use Rattle.jl_code.proofs.Switching.{table_stands, table_again, table_ends, lookup_stands, lookup_again, lookup_ends}

-- ---- invokeinterface

abbrev zero_read : List Entry → ℕ → ℕ → ℕ → ℕ → ℕ × ℕ → Result (Arg × ℕ) CodeFault
zero_read pool at op index count nothing = judged (is_interface pool op index count nothing.0) (faults.BadIndex at) (args.Index index, nothing.1)

abbrev slots_read : List Entry → ℕ → ℕ → List ℕ → ℕ → ℕ × ℕ → Result (Arg × ℕ) CodeFault
slots_read pool at op code index count = operand_at at 1 code count.1 >>= zero_read pool at op index count.0

abbrev method_read : List Entry → ℕ → ℕ → List ℕ → ℕ × ℕ → Result (Arg × ℕ) CodeFault
method_read pool at op code index = operand_at at 1 code index.1 >>= slots_read pool at op code index.0

interface_stands : (pool : List Entry) (at op : ℕ) (code : List ℕ) (next : ℕ) (arg : Arg) (end : ℕ) → IsBytes code → interface_at pool at op code next ≡ Ok (arg, end) → IsInterface pool code op next arg end
unfolding interface_at
interface_stands pool at op code next arg end fits e =
    let a = begun at 2 code next (method_read pool at op code) (arg, end) fits e in
    let b = begun at 1 code (next + 2) (slots_read pool at op code a.n) (arg, end) fits a.later in
    let c = begun at 1 code (next + 2 + 1) (zero_read pool at op a.n b.n) (arg, end) fits b.later in
    let p = passed (is_interface pool op a.n b.n c.n) (faults.BadIndex at) (args.Index a.n, next + 2 + 1 + 1) (arg, end) c.later in
    record {
      index = a.n;
      count = b.n;
      nothing = c.n;
      first = a.number;
      second = b.number;
      third = subst (λ (q : ℕ). StandsNumber code 1 (next + 2 + 1) c.n q) (ap (λ (x : Arg × ℕ). x.1) p.1) c.number;
      rule = p.0;
      meaning = sym (ap (λ (x : Arg × ℕ). x.0) p.1);
    }

interface_again : (pool : List Entry) (at op : ℕ) (code : List ℕ) (next : ℕ) (arg : Arg) (end : ℕ) → IsInterface pool code op next arg end → interface_at pool at op code next ≡ Ok (arg, end)
unfolding interface_at
interface_again pool at op code next arg end s =
    let rule : is_interface pool op s.index s.count s.nothing ≡ true = s.rule in
    let first = again at 2 code next s.index (next + 2) s.first in
    let second = again at 1 code (next + 2) s.count (next + 2 + 1) s.second in
    let third = again at 1 code (next + 2 + 1) s.nothing end s.third in
    let last : zero_read pool at op s.index s.count (s.nothing, end) ≡ Ok (arg, end) = rw (rule, s.meaning) refl in
    rw (first, second, third) last

-- ---- all operands

pub arg_stands : (pool : List Entry) (at op : ℕ) (operands : Operands) (code : List ℕ) (next : ℕ) (arg : Arg) (end : ℕ) → IsBytes code → arg_at pool at op operands code next ≡ Ok (arg, end) → ArgStands pool code at op operands next arg end
unfolding arg_at byte_at short_at local_at index_at inc_at dynamic_at multi_at
arg_stands pool at op kinds.Nothing code next arg end fits e = let p = ok_is (args.Nothing, next) (arg, end) e in (sym (ap (λ (x : Arg × ℕ). x.0) p), sym (ap (λ (x : Arg × ℕ). x.1) p))
arg_stands pool at op kinds.Byte code next arg end fits e = one_stands at 1 code next (is_byte_for op) (λ n. args.Number (cast_signed w8 n)) (faults.BadIndex at) arg end fits e
arg_stands pool at op kinds.Short code next arg end fits e = one_stands at 2 code next (λ n. true) (λ n. args.Number (cast_signed w16 n)) (faults.BadIndex at) arg end fits e
arg_stands pool at op kinds.Local code next arg end fits e = one_stands at 1 code next (λ n. true) args.Local (faults.BadIndex at) arg end fits e
arg_stands pool at op kinds.Index1 code next arg end fits e = one_stands at 1 code next (is_right_index pool op) (index_arg pool op) (faults.BadIndex at) arg end fits e
arg_stands pool at op kinds.Index2 code next arg end fits e = one_stands at 2 code next (is_right_index pool op) (index_arg pool op) (faults.BadIndex at) arg end fits e
arg_stands pool at op kinds.Inc code next arg end fits e = two_stand at 1 1 code next (λ n m. true) (λ n m. args.Inc n (cast_signed w8 m)) (faults.BadIndex at) arg end fits e
arg_stands pool at op kinds.Target2 code next arg end fits e = branch_stands at 2 w16 code next arg end fits e
arg_stands pool at op kinds.Target4 code next arg end fits e = branch_stands at 4 w32 code next arg end fits e
arg_stands pool at op kinds.Table code next arg end fits e = table_stands at code next arg end fits e
arg_stands pool at op kinds.Lookup code next arg end fits e = lookup_stands at code next arg end fits e
arg_stands pool at op kinds.Interface code next arg end fits e = interface_stands pool at op code next arg end fits e
arg_stands pool at op kinds.Dynamic code next arg end fits e = two_stand at 2 2 code next (λ i nothing. has_tag 18 (tag_of pool i)) (λ i nothing. args.Index i) (faults.BadIndex at) arg end fits e
arg_stands pool at op kinds.Multi code next arg end fits e = two_stand at 2 1 code next (is_array_of pool) args.Multi (faults.BadIndex at) arg end fits e
arg_stands pool at op kinds.Wide code next arg end fits e = let p = ok_is (args.Nothing, next) (arg, end) e in (sym (ap (λ (x : Arg × ℕ). x.0) p), sym (ap (λ (x : Arg × ℕ). x.1) p))

pub arg_again : (pool : List Entry) (at op : ℕ) (operands : Operands) (code : List ℕ) (next : ℕ) (arg : Arg) (end : ℕ) → ArgStands pool code at op operands next arg end → arg_at pool at op operands code next ≡ Ok (arg, end)
unfolding arg_at byte_at short_at local_at index_at inc_at dynamic_at multi_at
arg_again pool at op kinds.Nothing code next arg end s = rw (s.0, s.1) refl
arg_again pool at op kinds.Byte code next arg end s = one_again at 1 code next (is_byte_for op) (λ n. args.Number (cast_signed w8 n)) (faults.BadIndex at) arg end s
arg_again pool at op kinds.Short code next arg end s = one_again at 2 code next (λ n. true) (λ n. args.Number (cast_signed w16 n)) (faults.BadIndex at) arg end s
arg_again pool at op kinds.Local code next arg end s = one_again at 1 code next (λ n. true) args.Local (faults.BadIndex at) arg end s
arg_again pool at op kinds.Index1 code next arg end s = one_again at 1 code next (is_right_index pool op) (index_arg pool op) (faults.BadIndex at) arg end s
arg_again pool at op kinds.Index2 code next arg end s = one_again at 2 code next (is_right_index pool op) (index_arg pool op) (faults.BadIndex at) arg end s
arg_again pool at op kinds.Inc code next arg end s = two_again at 1 1 code next (λ n m. true) (λ n m. args.Inc n (cast_signed w8 m)) (faults.BadIndex at) arg end s
arg_again pool at op kinds.Target2 code next arg end s = branch_again at 2 w16 code next arg end s
arg_again pool at op kinds.Target4 code next arg end s = branch_again at 4 w32 code next arg end s
arg_again pool at op kinds.Table code next arg end s = table_again at code next arg end s
arg_again pool at op kinds.Lookup code next arg end s = lookup_again at code next arg end s
arg_again pool at op kinds.Interface code next arg end s = interface_again pool at op code next arg end s
arg_again pool at op kinds.Dynamic code next arg end s = two_again at 2 2 code next (λ i nothing. has_tag 18 (tag_of pool i)) (λ i nothing. args.Index i) (faults.BadIndex at) arg end s
arg_again pool at op kinds.Multi code next arg end s = two_again at 2 1 code next (is_array_of pool) args.Multi (faults.BadIndex at) arg end s
arg_again pool at op kinds.Wide code next arg end s = rw (s.0, s.1) refl

-- ---- lengths

pub whole : (at : ℕ) (code : List ℕ) (next size end : ℕ) → end ≡ next + size → end ≤ length code → whole_to at code (next + size) ≡ Ok end
whole at code next size end ends le =
    let fits : ltb (length code) (next + size) ≡ false = le-ltb _ _ (omega (arith, ends)) in
    rw (fits, ends) refl

pub one_length : (at : ℕ) (code : List ℕ) (k : ℕ) (right : ℕ → Bool) (made : ℕ → Arg) (next : ℕ) (arg : Arg) (end : ℕ) → IsOne code k right made next arg end → whole_to at code (next + k) ≡ Ok end
one_length at code k right made next arg end s = whole at code next k end (ends code k next s.n end s.number) s.number.stands.within

pub two_length : (at : ℕ) (code : List ℕ) (k j : ℕ) (right : ℕ → ℕ → Bool) (made : ℕ → ℕ → Arg) (next : ℕ) (arg : Arg) (end size : ℕ) → size ≡ k + j → IsTwo code k j right made next arg end → whole_to at code (next + size) ≡ Ok end
two_length at code k j right made next arg end size same s = let e = ends code j (next + k) s.m end s.second in whole at code next size end (omega arith) s.second.stands.within

pub table_length : (at : ℕ) (code : List ℕ) (next : ℕ) (arg : Arg) (end : ℕ) → IsTable code at next arg end → table_end at code next ≡ Ok end
unfolding table_end
table_length at code next arg end s =
    let low = cast_signed w32 s.low in
    let at_end = table_ends at code low s.cases 0 (padded next + 4 + 4 + 4) end s.highest.stands.within s.stand in
    let size : whole_to at code (padded next + 4 + 4 + 4 + 4 * length s.cases) ≡ Ok end = whole at code (padded next + 4 + 4 + 4) (4 * length s.cases) end at_end.0 at_end.1 in
    let wanted = subst (λ (n : ℕ). whole_to at code (padded next + 4 + 4 + 4 + 4 * n) ≡ Ok end) s.each size in
    rw (again at 4 code (padded next + 4) s.low (padded next + 4 + 4) s.lowest, again at 4 code (padded next + 4 + 4) s.high (padded next + 4 + 4 + 4) s.highest, s.rises) wanted

pub lookup_length : (at : ℕ) (code : List ℕ) (next : ℕ) (arg : Arg) (end : ℕ) → IsLookup code at next arg end → lookup_end at code next ≡ Ok end
unfolding lookup_end
lookup_length at code next arg end s =
    let at_end = lookup_ends at code s.cases _ (padded next + 4 + 4) end s.count.stands.within s.stand in
    let size : whole_to at code (padded next + 4 + 4 + 8 * length s.cases) ≡ Ok end = whole at code (padded next + 4 + 4) (8 * length s.cases) end at_end.0 at_end.1 in
    let few : leb (2 ^ 31) (length s.cases) ≡ false = lt-leb (2 ^ 31) (length s.cases) s.few in
    rw (again at 4 code (padded next + 4) (length s.cases) (padded next + 4 + 4) s.count, few) size
