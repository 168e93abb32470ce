-- What is spelled as code and makes no stub is sound.
use Rattle.std.proofs.Common.{◌≡◌, ℕ, ◌+◌, ◌≤◌, ◌<◌, inl, inr, Bool, true, false, not, leb, eqb, ℤ, List, [], ◌∷◌, length, Option, None, Some, refl, sym, ap, subst, ◌∙◌, arith}
use Rattle.std.specs.Prelude.{IsTrue, ◌&&◌, slice_get, ◌||◌, ◌⊎◌}
use Rattle.std.specs.Option.{option_map}
use Rattle.std.specs.List.{list_all, list_any, AllByRecursion}
use Rattle.std.proofs.lemmas.Bool.{cond_both, and_from, and_parts, or_cases, or_parts, not_from_false, not-true, le-leb, lt-leb, leb-true, eqb-true, or_left, or_right, ne_eqb}
use Rattle.jl_prim.specs.declared.declaration.Handler.{Handler}
use Rattle.jl_pool.specs.declared.entry.Entry.{Entry}
use Rattle.jl_optable.specs.declared.form.Operands.{Operands}
use Rattle.jl_optable.specs.declared.form.Operands.TheVariants as kinds
use Rattle.jl_pool.specs.declared.entry.Entry.TheVariants as entries
use Rattle.jl_pool.specs.Pool.{long_value, long_of, some_tag}
use Rattle.jl_optable.specs.Rows.{has_row, operands_of, form_of}
use Rattle.jl_code.specs.declared.code.Arg.{Arg}
use Rattle.jl_code.specs.declared.code.Arg.TheVariants as args
use Rattle.jl_code.specs.declared.code.Instr.{Instr}
use Rattle.jl_code.specs.declared.code.Code.{Code}
use Rattle.jl_code.specs.declared.code.Code.TheVariants as codes
use Rattle.jl_code.specs.References.{has_tag, is_right_index, is_slot_count, member_type, described, has_float}
use Rattle.jl_code.specs.Instructions.{long_or_index, index_arg, names_local}
use Rattle.jl_code.specs.Stubs.{is_stub_constant, arg_makes_stub, row_makes_stub, makes_stub}
use Rattle.jl_code.specs.Decoding.{first_where, stub_or, kind_of}
use Rattle.jl_code.specs.Spelling.{ArgStands, WideArgStands, InstrStands, StandInstrs, IsCode}
use Rattle.jl_code.specs.Sound.{starts, PlacesRise, names_entry, has_shape, may_be_wide, AreSound, IsSound}
use Rattle.jl_code.proofs.InstrLaws.{instr_forth, is_wide_kind, narrow_kind}
use Rattle.jl_code.proofs.CodeLaws.{place_of}

-- ---- places

behind : (pool : List Entry) (code : List ℕ) (is : List Instr) (k at end : ℕ) → k < at → StandInstrs pool code at is end → AllByRecursion (λ (later : Instr). k < later.at) is
behind pool code [] k at end lt stand = tt
behind pool code (i ∷ is) k at end lt stand =
    let place = place_of pool code at i stand.0 stand.1 in
    let f = instr_forth pool code at i stand.0 stand.1 in
    (omega (arith, lt, place), behind pool code is k stand.0 end (omega (arith, lt, f.0)) stand.2)

rising : (pool : List Entry) (code : List ℕ) (is : List Instr) (at end : ℕ) → StandInstrs pool code at is end → PlacesRise is
rising pool code [] at end stand = tt
rising pool code (i ∷ is) at end stand =
    let place = place_of pool code at i stand.0 stand.1 in
    let f = instr_forth pool code at i stand.0 stand.1 in
    (behind pool code is i.at stand.0 end (omega (arith, place, f.0)) stand.2, rising pool code is stand.0 end stand.2)

inside : (pool : List Entry) (code : List ℕ) (is : List Instr) (at end : ℕ) → StandInstrs pool code at is end → AllByRecursion (λ (i : Instr). i.at < length code) is
inside pool code [] at end stand = tt
inside pool code (i ∷ is) at end stand =
    let place = place_of pool code at i stand.0 stand.1 in
    let f = instr_forth pool code at i stand.0 stand.1 in
    (omega (arith, place, f.0, f.1), inside pool code is stand.0 end stand.2)

first : (pool : List Entry) (code : List ℕ) (is : List Instr) (end : ℕ) → 0 < length is → StandInstrs pool code 0 is end → slice_get (starts is) 0 ≡ Some 0
first pool code [] end some stand = absurd (omega arith)
first pool code (i ∷ is) end some stand = ap (λ (n : ℕ). Some n) (place_of pool code 0 i stand.0 stand.1)

-- ---- rows

low : (op : ℕ) → op < 168 → has_row op ≡ true
unfolding has_row
low op lt = rw (le-leb op 200 (omega arith), lt-leb 168 op lt) refl

local_row : (op : ℕ) → IsTrue (names_local op) → has_row op ≡ true
local_row op h = elim (or_cases (leb 21 op && leb op 25) (leb 54 op && leb op 58) h) [
  | inl load ↦ low op (omega (arith, leb-true op 25 (and_parts (leb 21 op) (leb op 25) load).1))
  | inr store ↦ low op (omega (arith, leb-true op 58 (and_parts (leb 54 op) (leb op 58) store).1))
]

wide_row : (code : List ℕ) (op next : ℕ) (arg : Arg) (end : ℕ) → WideArgStands code op next arg end → has_row op ≡ true
wide_row code op next arg end (inl s) = low op (omega (arith, eqb-true op 132 s.0))
wide_row code op next arg end (inr s) = local_row op (and_parts (not (eqb op 132)) (names_local op) s.0).1

row_of : (pool : List Entry) (code : List ℕ) (at : ℕ) (i : Instr) (end : ℕ) → InstrStands pool code at i end → has_row i.op ≡ true
row_of pool code at i end (inl s) = s.row
row_of pool code at i end (inr s) = wide_row code i.op (at + 1 + 1) i.arg end s.operands

rows : (pool : List Entry) (code : List ℕ) (is : List Instr) (at end : ℕ) → StandInstrs pool code at is end → IsTrue (list_all (λ i. has_row i.op) is)
rows pool code [] at end stand = refl
rows pool code (i ∷ is) at end stand = and_from (has_row i.op) (list_all (λ i. has_row i.op) is) (row_of pool code at i stand.0 stand.1) (rows pool code is stand.0 end stand.2)

-- ---- indices

named_1 : (pool : List Entry) (op i : ℕ) (o : Option ℤ) → IsTrue (is_right_index pool op i) → names_entry pool op kinds.Index1 (long_or_index i o) ≡ true
named_1 pool op i None h = h
named_1 pool op i (Some v) h = refl

named_2 : (pool : List Entry) (op i : ℕ) (o : Option ℤ) → IsTrue (is_right_index pool op i) → names_entry pool op kinds.Index2 (long_or_index i o) ≡ true
named_2 pool op i None h = h
named_2 pool op i (Some v) h = refl

arg_named : (pool : List Entry) (code : List ℕ) (at op : ℕ) (kind : Operands) (next : ℕ) (arg : Arg) (end : ℕ) → ArgStands pool code at op kind next arg end → names_entry pool op kind arg ≡ true
arg_named pool code at op kinds.Nothing next arg end s = rw s.0 refl
arg_named pool code at op kinds.Byte next arg end s = rw s.meaning refl
arg_named pool code at op kinds.Short next arg end s = rw s.meaning refl
arg_named pool code at op kinds.Local next arg end s = rw s.meaning refl
arg_named pool code at op kinds.Index1 next arg end s =
    rw s.meaning (cond_both (eqb op 20) (long_or_index s.n _) (args.Index s.n) (λ a. names_entry pool op kinds.Index1 a ≡ true) (λ h. named_1 pool op s.n _ s.rule) (λ h. s.rule))
arg_named pool code at op kinds.Index2 next arg end s =
    rw s.meaning (cond_both (eqb op 20) (long_or_index s.n _) (args.Index s.n) (λ a. names_entry pool op kinds.Index2 a ≡ true) (λ h. named_2 pool op s.n _ s.rule) (λ h. s.rule))
arg_named pool code at op kinds.Inc next arg end s = rw s.meaning refl
arg_named pool code at op kinds.Target2 next arg end s = rw s.meaning refl
arg_named pool code at op kinds.Target4 next arg end s = rw s.meaning refl
arg_named pool code at op kinds.Table next arg end s = rw s.meaning refl
arg_named pool code at op kinds.Lookup next arg end s = rw s.meaning refl
arg_named pool code at op kinds.Interface next arg end s = rw s.meaning (and_parts (is_right_index pool op s.index) (is_slot_count s.count (member_type pool s.index) && eqb s.nothing 0) s.rule).0
arg_named pool code at op kinds.Dynamic next arg end s = rw s.meaning s.rule
arg_named pool code at op kinds.Multi next arg end s = rw s.meaning s.rule
arg_named pool code at op kinds.Wide next arg end s = rw s.0 refl

local_named : (pool : List Entry) (op n : ℕ) (kind : Operands) → names_entry pool op kind (args.Local n) ≡ true
local_named pool op n kinds.Dynamic = refl
local_named pool op n _ = refl

inc_named : (pool : List Entry) (op n : ℕ) (z : ℤ) (kind : Operands) → names_entry pool op kind (args.Inc n z) ≡ true
inc_named pool op n z kinds.Dynamic = refl
inc_named pool op n z _ = refl

wide_named : (pool : List Entry) (code : List ℕ) (op next : ℕ) (arg : Arg) (end : ℕ) → WideArgStands code op next arg end → names_entry pool op (operands_of op) arg ≡ true
wide_named pool code op next arg end (inl s) = rw s.1.meaning (inc_named pool op _ _ (operands_of op))
wide_named pool code op next arg end (inr s) = rw s.1.meaning (local_named pool op _ (operands_of op))

instr_named : (pool : List Entry) (code : List ℕ) (at : ℕ) (i : Instr) (end : ℕ) → InstrStands pool code at i end → names_entry pool i.op (operands_of i.op) i.arg ≡ true
instr_named pool code at i end (inl s) = arg_named pool code at i.op (operands_of i.op) (at + 1) i.arg end s.operands
instr_named pool code at i end (inr s) = wide_named pool code i.op (at + 1 + 1) i.arg end s.operands

named : (pool : List Entry) (code : List ℕ) (is : List Instr) (at end : ℕ) → StandInstrs pool code at is end → IsTrue (list_all (λ i. names_entry pool i.op (operands_of i.op) i.arg) is)
named pool code [] at end stand = refl
named pool code (i ∷ is) at end stand =
    and_from (names_entry pool i.op (operands_of i.op) i.arg) (list_all (λ i. names_entry pool i.op (operands_of i.op) i.arg) is) (instr_named pool code at i stand.0 stand.1) (named pool code is stand.0 end stand.2)

-- ---- the form of operands

-- a constant that is named makes a stub
abbrev stub_of : Option Entry → Arg → Bool
stub_of o (args.Index i) = is_stub_constant (some_tag o)
stub_of o _ = false

-- what ldc2_w takes and makes no stub is a long
long_shaped : (n : ℕ) (o : Option Entry) → list_any (λ tag. has_tag tag (some_tag o)) (5 ∷ 6 ∷ 17 ∷ []) ≡ true → stub_of o (long_or_index n (long_value o)) ≡ false → has_shape 20 kinds.Index2 (long_or_index n (long_value o)) ≡ true
long_shaped n None right runs = absurd cc
long_shaped n (Some (entries.Long v)) right runs = refl
long_shaped n (Some _) right runs = absurd cc

long_stub : (pool : List Entry) (n : ℕ) (o : Option ℤ) → arg_makes_stub pool 20 (long_or_index n o) ≡ stub_of (slice_get pool n) (long_or_index n o)
long_stub pool n None = refl
long_stub pool n (Some v) = refl

wide_constant : (pool : List Entry) (n : ℕ) → IsTrue (is_right_index pool 20 n) → arg_makes_stub pool 20 (long_or_index n (long_of pool n)) ≡ false → has_shape 20 kinds.Index2 (long_or_index n (long_of pool n)) ≡ true
unfolding is_right_index
wide_constant pool n right runs = long_shaped n (slice_get pool n) right (sym (long_stub pool n (long_of pool n)) ∙ runs)

shaped_2 : (pool : List Entry) (op n : ℕ) → IsTrue (is_right_index pool op n) → arg_makes_stub pool op (index_arg pool op n) ≡ false → has_shape op kinds.Index2 (index_arg pool op n) ≡ true
shaped_2 pool op n right runs0 =
    cond_both (eqb op 20) (long_or_index n (long_of pool n)) (args.Index n) (λ a. arg_makes_stub pool op a ≡ false → has_shape op kinds.Index2 a ≡ true)
    (λ h runs. subst (λ (k : ℕ). IsTrue (is_right_index pool k n) → arg_makes_stub pool k (long_or_index n (long_of pool n)) ≡ false → has_shape k kinds.Index2 (long_or_index n (long_of pool n)) ≡ true) (sym (eqb-true op 20 h)) (wide_constant pool n) right runs)
    (λ h runs. ap not h) runs0

not_20 : (op : ℕ) → operands_of op ≡ kinds.Index1 → (eqb op 20) ≡ true → ⊥
unfolding operands_of
not_20 op kind h = let e : operands_of 20 ≡ kinds.Index1 = subst (λ (k : ℕ). operands_of k ≡ kinds.Index1) (eqb-true op 20 h) kind in absurd cc

shaped_1 : (pool : List Entry) (op n : ℕ) → operands_of op ≡ kinds.Index1 → has_shape op kinds.Index1 (index_arg pool op n) ≡ true
shaped_1 pool op n kind =
    cond_both (eqb op 20) (long_or_index n (long_of pool n)) (args.Index n) (λ a. has_shape op kinds.Index1 a ≡ true) (λ h. absurd (not_20 op kind h)) (λ h. refl)

not_wide : (op : ℕ) → operands_of op ≡ kinds.Wide → (eqb op 196) ≡ false → ⊥
not_wide op kind h = let e : is_wide_kind kinds.Wide ≡ false = subst (λ (k : Operands). is_wide_kind k ≡ false) kind (narrow_kind op h) in absurd cc

arg_shaped : (pool : List Entry) (code : List ℕ) (at op : ℕ) (kind : Operands) (next : ℕ) (arg : Arg) (end : ℕ) → operands_of op ≡ kind → (eqb op 196) ≡ false → arg_makes_stub pool op arg ≡ false → ArgStands pool code at op kind next arg end → has_shape op kind arg ≡ true
arg_shaped pool code at op kinds.Nothing next arg end k w runs s = rw s.0 refl
arg_shaped pool code at op kinds.Byte next arg end k w runs s = rw s.meaning refl
arg_shaped pool code at op kinds.Short next arg end k w runs s = rw s.meaning refl
arg_shaped pool code at op kinds.Local next arg end k w runs s = rw s.meaning refl
arg_shaped pool code at op kinds.Index1 next arg end k w runs s = rw s.meaning (shaped_1 pool op s.n k)
arg_shaped pool code at op kinds.Index2 next arg end k w runs s = rw s.meaning (shaped_2 pool op s.n s.rule (subst (λ (a : Arg). arg_makes_stub pool op a ≡ false) s.meaning runs))
arg_shaped pool code at op kinds.Inc next arg end k w runs s = rw s.meaning refl
arg_shaped pool code at op kinds.Target2 next arg end k w runs s = rw s.meaning refl
arg_shaped pool code at op kinds.Target4 next arg end k w runs s = rw s.meaning refl
arg_shaped pool code at op kinds.Table next arg end k w runs s = rw s.meaning refl
arg_shaped pool code at op kinds.Lookup next arg end k w runs s = rw s.meaning refl
arg_shaped pool code at op kinds.Interface next arg end k w runs s = rw s.meaning refl
arg_shaped pool code at op kinds.Dynamic next arg end k w runs s = rw s.meaning refl
arg_shaped pool code at op kinds.Multi next arg end k w runs s = rw s.meaning refl
arg_shaped pool code at op kinds.Wide next arg end k w runs s = absurd (not_wide op k w)

inc_kind : (op : ℕ) → op ≡ 132 → operands_of op ≡ kinds.Inc
unfolding operands_of
inc_kind op e = rw e refl

local_kind : (op : ℕ) → IsTrue (names_local op) → operands_of op ≡ kinds.Local
unfolding operands_of
local_kind op h =
    let few : (op ≤ 25) ⊎ ((54 ≤ op) × (op ≤ 58)) = elim (or_cases (leb 21 op && leb op 25) (leb 54 op && leb op 58) h) [
      | inl load ↦ inl (leb-true op 25 (and_parts (leb 21 op) (leb op 25) load).1)
      | inr store ↦ let p = and_parts (leb 54 op) (leb op 58) store in inr (leb-true 54 op p.0, leb-true op 58 p.1)
    ] in
    let many : 20 < op = elim (or_cases (leb 21 op && leb op 25) (leb 54 op && leb op 58) h) [
      | inl load ↦ (let a = leb-true 21 op (and_parts (leb 21 op) (leb op 25) load).0 in omega arith)
      | inr store ↦ (let a = leb-true 54 op (and_parts (leb 54 op) (leb op 58) store).0 in omega arith)
    ] in
    let far : op ≡ 188 → ⊥ = λ e. elim few [ inl a ↦ omega (arith, a, e) | inr b ↦ omega (arith, b.1, e) ] in
    let names : names_local op ≡ true = h in
    rw (ne_eqb op 16 (λ e. omega (arith, many, e)), ne_eqb op 188 far, ne_eqb op 17 (λ e. omega (arith, many, e)), names) refl

wide_shaped : (code : List ℕ) (op next : ℕ) (arg : Arg) (end : ℕ) → WideArgStands code op next arg end → has_shape op (operands_of op) arg ≡ true
wide_shaped code op next arg end (inl s) = rw (inc_kind op (eqb-true op 132 s.0), s.1.meaning) refl
wide_shaped code op next arg end (inr s) = rw (local_kind op (and_parts (not (eqb op 132)) (names_local op) s.0).1, s.1.meaning) refl

arg_runs : (pool : List Entry) (i : Instr) → makes_stub pool i ≡ false → arg_makes_stub pool i.op i.arg ≡ false
unfolding makes_stub
arg_runs pool i e = (or_parts (row_makes_stub (form_of i.op)) (arg_makes_stub pool i.op i.arg) e).1

instr_shaped : (pool : List Entry) (code : List ℕ) (at : ℕ) (i : Instr) (end : ℕ) → InstrStands pool code at i end → makes_stub pool i ≡ false → has_shape i.op (operands_of i.op) i.arg ≡ true
instr_shaped pool code at i end (inl s) runs = arg_shaped pool code at i.op (operands_of i.op) (at + 1) i.arg end refl s.narrow (arg_runs pool i runs) s.operands
instr_shaped pool code at i end (inr s) runs = wide_shaped code i.op (at + 1 + 1) i.arg end s.operands

shaped : (pool : List Entry) (code : List ℕ) (is : List Instr) (at end : ℕ) → StandInstrs pool code at is end → IsTrue (list_all (λ i. not (makes_stub pool i)) is) → IsTrue (list_all (λ i. has_shape i.op (operands_of i.op) i.arg) is)
shaped pool code [] at end stand runs = refl
shaped pool code (i ∷ is) at end stand runs =
    let r = and_parts (not (makes_stub pool i)) (list_all (λ i. not (makes_stub pool i)) is) runs in
    and_from (has_shape i.op (operands_of i.op) i.arg) (list_all (λ i. has_shape i.op (operands_of i.op) i.arg) is) (instr_shaped pool code at i stand.0 stand.1 (not-true (makes_stub pool i) r.0)) (shaped pool code is stand.0 end stand.2 r.1)

widens : (code : List ℕ) (op next : ℕ) (arg : Arg) (end : ℕ) → WideArgStands code op next arg end → (eqb op 132 || names_local op) ≡ true
widens code op next arg end (inl s) = or_left (eqb op 132) (names_local op) s.0
widens code op next arg end (inr s) = or_right (eqb op 132) (names_local op) (and_parts (not (eqb op 132)) (names_local op) s.0).1

instr_widened : (pool : List Entry) (code : List ℕ) (at : ℕ) (i : Instr) (end : ℕ) → InstrStands pool code at i end → may_be_wide i ≡ true
instr_widened pool code at i end (inl s) = rw s.plain refl
instr_widened pool code at i end (inr s) = or_right (not i.wide) (eqb i.op 132 || names_local i.op) (widens code i.op (at + 1 + 1) i.arg end s.operands)

widened : (pool : List Entry) (code : List ℕ) (is : List Instr) (at end : ℕ) → StandInstrs pool code at is end → IsTrue (list_all may_be_wide is)
widened pool code [] at end stand = refl
widened pool code (i ∷ is) at end stand = and_from (may_be_wide i) (list_all may_be_wide is) (instr_widened pool code at i stand.0 stand.1) (widened pool code is stand.0 end stand.2)

-- ---- stubs

none_first : (test : Instr → Bool) (is : List Instr) → first_where test is ≡ None → IsTrue (list_all (λ i. not (test i)) is)
unfolding first_where
none_first test [] e = refl
none_first test (i ∷ is) e0 =
    cond_both (test i) (Some i) (first_where test is) (λ o. o ≡ None → IsTrue (list_all (λ i. not (test i)) (i ∷ is)))
    (λ n e. absurd cc) (λ t e. and_from (not (test i)) (list_all (λ i. not (test i)) is) (not_from_false (test i) t) (none_first test is e)) e0

-- what instructions are that make no stub
record Runs (pool : List Entry) (desc : List ℕ) (instrs is : List Instr) : Type 0 where
  own : has_float (described (Some desc)) ≡ false
  runs : IsTrue (list_all (λ i. not (makes_stub pool i)) instrs)
  same : instrs ≡ is

abbrev instrs_of : Code → List Instr
instrs_of (codes.Instructions is) = is
instrs_of (codes.Stub op) = []

no_first : (pool : List Entry) (desc : List ℕ) (instrs is : List Instr) (o : Option Instr) → first_where (makes_stub pool) instrs ≡ o → has_float (described (Some desc)) ≡ false → stub_or instrs (option_map (λ i. i.op) o) ≡ codes.Instructions is → Runs pool desc instrs is
no_first pool desc instrs is (Some i) here own e = absurd cc
no_first pool desc instrs is None here own e = record { own = own; runs = none_first (makes_stub pool) instrs here; same = ap instrs_of e }

runs_as : (pool : List Entry) (desc : List ℕ) (instrs is : List Instr) → kind_of pool desc instrs ≡ codes.Instructions is → Runs pool desc instrs is
runs_as pool desc instrs is e0 =
    cond_both (has_float (described (Some desc))) (codes.Stub None) (stub_or instrs (option_map (λ i. i.op) (first_where (makes_stub pool) instrs))) (λ (k : Code). k ≡ codes.Instructions is → Runs pool desc instrs is)
    (λ h e. absurd cc) (λ h e. no_first pool desc instrs is (first_where (makes_stub pool) instrs) refl h e) e0

-- ---- the whole

instrs_sound : (pool : List Entry) (desc code : List ℕ) (handlers : List Handler) (is : List Instr) → IsCode pool desc code handlers (codes.Instructions is) → AreSound pool desc code handlers is
instrs_sound pool desc code handlers is s =
    let r = runs_as pool desc s.instrs is (sym s.kind) in
    subst (λ (all : List Instr). AreSound pool desc code handlers all) r.same (record {
      first = first pool code s.instrs (length code) s.some s.stand;
      rise = rising pool code s.instrs 0 (length code) s.stand;
      inside = inside pool code s.instrs 0 (length code) s.stand;
      rows = rows pool code s.instrs 0 (length code) s.stand;
      shaped = shaped pool code s.instrs 0 (length code) s.stand r.runs;
      widened = widened pool code s.instrs 0 (length code) s.stand;
      lead = s.lead;
      handled = s.handled;
      named = named pool code s.instrs 0 (length code) s.stand;
      runs = r.runs;
      own = r.own;
    })

pub code_sound : (pool : List Entry) (desc code : List ℕ) (handlers : List Handler) (c : Code) → IsCode pool desc code handlers c → IsSound pool desc code handlers c
code_sound pool desc code handlers (codes.Instructions is) s = instrs_sound pool desc code handlers is s
code_sound pool desc code handlers (codes.Stub op) s = tt
