-- Instructions: what is read is spelled so, and what is spelled so is read and has its length.
use Rattle.std.proofs.Common.{◌≡◌, ℕ, ◌+◌, ◌≤◌, ◌<◌, inl, inr, Bool, true, false, not, cond, List, length, None, Some, Result, Ok, Err, refl, sym, ap, subst, ◌∙◌, arith}
use Rattle.std.specs.Prelude.{◌==◌, ◌||◌}
use Rattle.std.specs.Int.{cast_signed, w16, w32}
use Rattle.std.proofs.lemmas.Bool.{cond_both, eqb-true, and_from, and_parts, not-true}
use Rattle.jl_reading.specs.Reading.{◌>>=◌, IsBytes}
use Rattle.jl_reading.proofs.Steps.{bind_ok, ok_is}
use Rattle.jl_pool.specs.declared.entry.Entry.{Entry}
use Rattle.jl_optable.specs.declared.form.Operands.{Operands}
use Rattle.jl_optable.specs.declared.form.Operands.TheVariants as kinds
use Rattle.jl_optable.specs.Rows.{is_within, has_row, operands_of, row_of, form_of}
use Rattle.jl_code.specs.declared.fault.CodeFault.{CodeFault}
use Rattle.jl_code.specs.declared.fault.CodeFault.TheVariants as faults
use Rattle.jl_code.specs.declared.code.Arg.{Arg}
use Rattle.jl_code.specs.declared.code.Arg.TheVariants as args
use Rattle.jl_code.specs.declared.code.Instr.{Instr}
use Rattle.jl_code.specs.Operands.{wide_inc_at}
use Rattle.jl_code.specs.Instructions.{local_at, arg_at, names_local, wide_arg_at, wide_at, plain_at, form_at, instr_at}
use Rattle.jl_code.specs.Spelling.{StandsNumber, IsInterface, ArgStands, WideArgStands, IsPlain, IsWide, InstrStands}
use Rattle.jl_code.specs.Places.{whole_to, wide_end, end_at, next_place}
use Rattle.jl_code.proofs.Chains.{begun, again, ends, one_stands, one_again, one_forth, two_stand, two_again, two_forth}
use Rattle.jl_code.proofs.Offsets.{branch_forth}
use Rattle.jl_code.proofs.Switching.{table_forth, lookup_forth}
use Rattle.jl_code.proofs.ArgLaws.{arg_stands, arg_again, whole, one_length, two_length, table_length, lookup_length}

-- ---- how far operands go

abbrev Forth : List ℕ → ℕ → ℕ → Type 0
Forth code next end = (next ≤ end) × (end ≤ length code)

interface_forth : (pool : List Entry) (code : List ℕ) (op next : ℕ) (arg : Arg) (end : ℕ) → IsInterface pool code op next arg end → Forth code next end
interface_forth pool code op next arg end s = let e = ends code 1 (next + 2 + 1) s.nothing end s.third in (omega arith, s.third.stands.within)

arg_forth : (pool : List Entry) (at op : ℕ) (operands : Operands) (code : List ℕ) (next : ℕ) (arg : Arg) (end : ℕ) → next ≤ length code → ArgStands pool code at op operands next arg end → Forth code next end
arg_forth pool at op kinds.Nothing code next arg end le s = (omega (arith, s.1), omega (arith, s.1))
arg_forth pool at op kinds.Byte code next arg end le s = one_forth code 1 _ _ next arg end s
arg_forth pool at op kinds.Short code next arg end le s = one_forth code 2 _ _ next arg end s
arg_forth pool at op kinds.Local code next arg end le s = one_forth code 1 _ _ next arg end s
arg_forth pool at op kinds.Index1 code next arg end le s = one_forth code 1 _ _ next arg end s
arg_forth pool at op kinds.Index2 code next arg end le s = one_forth code 2 _ _ next arg end s
arg_forth pool at op kinds.Inc code next arg end le s = two_forth code 1 1 _ _ next arg end s
arg_forth pool at op kinds.Target2 code next arg end le s = branch_forth code at 2 w16 next arg end s
arg_forth pool at op kinds.Target4 code next arg end le s = branch_forth code at 4 w32 next arg end s
arg_forth pool at op kinds.Table code next arg end le s = table_forth code at next arg end s
arg_forth pool at op kinds.Lookup code next arg end le s = lookup_forth code at next arg end s
arg_forth pool at op kinds.Interface code next arg end le s = interface_forth pool code op next arg end s
arg_forth pool at op kinds.Dynamic code next arg end le s = two_forth code 2 2 _ _ next arg end s
arg_forth pool at op kinds.Multi code next arg end le s = two_forth code 2 1 _ _ next arg end s
arg_forth pool at op kinds.Wide code next arg end le s = (omega (arith, s.1), omega (arith, s.1))

interface_length : (pool : List Entry) (at : ℕ) (code : List ℕ) (op next : ℕ) (arg : Arg) (end : ℕ) → IsInterface pool code op next arg end → whole_to at code (next + 4) ≡ Ok end
interface_length pool at code op next arg end s = let e = ends code 1 (next + 2 + 1) s.nothing end s.third in whole at code next 4 end (omega arith) s.third.stands.within

abbrev pub is_wide_kind : Operands → Bool
is_wide_kind kinds.Wide = true
is_wide_kind _ = false

arg_length : (pool : List Entry) (at op : ℕ) (operands : Operands) (code : List ℕ) (next : ℕ) (arg : Arg) (end : ℕ) → next ≤ length code → is_wide_kind operands ≡ false → ArgStands pool code at op operands next arg end → end_at at code operands next ≡ Ok end
unfolding end_at
arg_length pool at op kinds.Nothing code next arg end le w s = whole at code next 0 end (omega (arith, s.1)) (omega (arith, s.1))
arg_length pool at op kinds.Byte code next arg end le w s = one_length at code 1 _ _ next arg end s
arg_length pool at op kinds.Short code next arg end le w s = one_length at code 2 _ _ next arg end s
arg_length pool at op kinds.Local code next arg end le w s = one_length at code 1 _ _ next arg end s
arg_length pool at op kinds.Index1 code next arg end le w s = one_length at code 1 _ _ next arg end s
arg_length pool at op kinds.Index2 code next arg end le w s = one_length at code 2 _ _ next arg end s
arg_length pool at op kinds.Inc code next arg end le w s = two_length at code 1 1 _ _ next arg end 2 refl s
arg_length pool at op kinds.Target2 code next arg end le w s = whole at code next 2 end (ends code 2 next s.leads.offset end s.leads.number) s.leads.number.stands.within
arg_length pool at op kinds.Target4 code next arg end le w s = whole at code next 4 end (ends code 4 next s.leads.offset end s.leads.number) s.leads.number.stands.within
arg_length pool at op kinds.Table code next arg end le w s = table_length at code next arg end s
arg_length pool at op kinds.Lookup code next arg end le w s = lookup_length at code next arg end s
arg_length pool at op kinds.Interface code next arg end le w s = interface_length pool at code op next arg end s
arg_length pool at op kinds.Dynamic code next arg end le w s = two_length at code 2 2 _ _ next arg end 4 refl s
arg_length pool at op kinds.Multi code next arg end le w s = two_length at code 2 1 _ _ next arg end 3 refl s
arg_length pool at op kinds.Wide code next arg end le w s = absurd cc

record IsNarrow (kind : Operands) : Type 0 where
  pub narrow : is_wide_kind kind ≡ false

keeps : (b : Bool) (x y : Operands) → is_wide_kind x ≡ false → IsNarrow y → IsNarrow (cond b x y)
keeps true x y hx hy = record { narrow = hx }
keeps false x y hx hy = hy

no_kind : (b : Bool) → b ≡ false → IsNarrow (cond b kinds.Wide kinds.Nothing)
no_kind true h = absurd cc
no_kind false h = record { narrow = refl }

-- only the opcode of wide has its operands
narrow : (op : ℕ) → (op == 196) ≡ false → IsNarrow (operands_of op)
unfolding operands_of
narrow op h =
    keeps ((op == 16) || (op == 188)) kinds.Byte _ refl (
    keeps (op == 17) kinds.Short _ refl (
    keeps (is_within 21 25 op || is_within 54 58 op) kinds.Local _ refl (
    keeps (op == 18) kinds.Index1 _ refl (
    keeps (is_within 19 20 op || (is_within 178 184 op || ((op == 187) || ((op == 189) || is_within 192 193 op)))) kinds.Index2 _ refl (
    keeps (op == 132) kinds.Inc _ refl (
    keeps (is_within 153 167 op || is_within 198 199 op) kinds.Target2 _ refl (
    keeps (op == 200) kinds.Target4 _ refl (
    keeps (op == 170) kinds.Table _ refl (
    keeps (op == 171) kinds.Lookup _ refl (
    keeps (op == 185) kinds.Interface _ refl (
    keeps (op == 186) kinds.Dynamic _ refl (
    keeps (op == 197) kinds.Multi _ refl (
    no_kind (op == 196) h)))))))))))))

pub narrow_kind : (op : ℕ) → (op == 196) ≡ false → is_wide_kind (operands_of op) ≡ false
narrow_kind op h = let n = narrow op h in n.narrow

-- ---- widened instructions

wide_arg_stands : (at op : ℕ) (code : List ℕ) (next : ℕ) (arg : Arg) (end : ℕ) → IsBytes code → wide_arg_at at op code next ≡ Ok (arg, end) → WideArgStands code op next arg end
unfolding wide_arg_at wide_inc_at local_at
wide_arg_stands at op code next arg end fits =
    cond_both (op == 132) (wide_inc_at at code next) (cond (names_local op) (local_at at 2 code next) (Err (faults.UnknownOp at))) (λ r. r ≡ Ok (arg, end) → WideArgStands code op next arg end)
    (λ w e. inl (w, two_stand at 2 2 code next (λ n m. true) (λ n m. args.Inc n (cast_signed w16 m)) (faults.BadIndex at) arg end fits e))
    (λ w. cond_both (names_local op) (local_at at 2 code next) (Err (faults.UnknownOp at)) (λ r. r ≡ Ok (arg, end) → WideArgStands code op next arg end)
    (λ l e. inr (and_from (not (op == 132)) (names_local op) (ap not w) l, one_stands at 2 code next (λ n. true) args.Local (faults.BadIndex at) arg end fits e))
    (λ l e. absurd cc))

wide_arg_again : (at op : ℕ) (code : List ℕ) (next : ℕ) (arg : Arg) (end : ℕ) → WideArgStands code op next arg end → wide_arg_at at op code next ≡ Ok (arg, end)
unfolding wide_arg_at wide_inc_at local_at
wide_arg_again at op code next arg end (inl s) = let w : (op == 132) ≡ true = s.0 in rw w (two_again at 2 2 code next (λ n m. true) (λ n m. args.Inc n (cast_signed w16 m)) (faults.BadIndex at) arg end s.1)
wide_arg_again at op code next arg end (inr s) =
    let p = and_parts (not (op == 132)) (names_local op) s.0 in
    let other : (op == 132) ≡ false = not-true (op == 132) p.0 in
    rw (other, p.1) (one_again at 2 code next (λ n. true) args.Local (faults.BadIndex at) arg end s.1)

wide_forth : (code : List ℕ) (op next : ℕ) (arg : Arg) (end : ℕ) → WideArgStands code op next arg end → Forth code next end
wide_forth code op next arg end (inl s) = two_forth code 2 2 _ _ next arg end s.1
wide_forth code op next arg end (inr s) = one_forth code 2 _ _ next arg end s.1

wide_length : (at op : ℕ) (code : List ℕ) (next : ℕ) (arg : Arg) (end : ℕ) → WideArgStands code op next arg end
    → cond (op == 132) (whole_to at code (next + 4)) (cond (names_local op) (whole_to at code (next + 2)) (Err (faults.UnknownOp at))) ≡ Ok end
wide_length at op code next arg end (inl s) = let w : (op == 132) ≡ true = s.0 in rw w (two_length at code 2 2 _ _ next arg end 4 refl s.1)
wide_length at op code next arg end (inr s) =
    let p = and_parts (not (op == 132)) (names_local op) s.0 in
    let other : (op == 132) ≡ false = not-true (op == 132) p.0 in
    rw (other, p.1) (one_length at code 2 _ _ next arg end s.1)

-- ---- instructions

abbrev arg_made : ℕ → ℕ → Bool → Arg × ℕ → Result (Instr × ℕ) CodeFault
arg_made at op wide arg = Ok (record { at = at; op = op; wide = wide; arg = arg.0 }, arg.1)

abbrev widened_read : ℕ → List ℕ → ℕ × ℕ → Result (Instr × ℕ) CodeFault
widened_read at code op = wide_arg_at at op.0 code op.1 >>= arg_made at op.0 true

abbrev op_read : List Entry → ℕ → List ℕ → ℕ × ℕ → Result (Instr × ℕ) CodeFault
op_read pool at code op = form_at pool at (form_of op.0) code op.1

abbrev row_read : List Entry → ℕ → ℕ → List ℕ → ℕ → Result (Instr × ℕ) CodeFault
row_read pool at op code next = cond (op == 196) (wide_at at code next) (plain_at pool at op (operands_of op) code next)

row_ok : (pool : List Entry) (at op : ℕ) (code : List ℕ) (next : ℕ) (b : Bool) (y : Instr × ℕ) → form_at pool at (cond b (Some (row_of op)) None) code next ≡ Ok y → (b ≡ true) × (row_read pool at op code next ≡ Ok y)
row_ok pool at op code next true y e = (refl, e)
row_ok pool at op code next false y e = absurd cc

plain_stands : (pool : List Entry) (at op : ℕ) (code : List ℕ) (i : Instr) (end : ℕ) → IsBytes code → has_row op ≡ true → (op == 196) ≡ false → StandsNumber code 1 at op (at + 1)
    → plain_at pool at op (operands_of op) code (at + 1) ≡ Ok (i, end) → InstrStands pool code at i end
unfolding plain_at
plain_stands pool at op code i end fits row narrow opcode e =
    let a = bind_ok (arg_at pool at op (operands_of op) code (at + 1)) (arg_made at op false) (i, end) e in
    let made : Instr = record { at = at; op = op; wide = false; arg = a.0.0 } in
    let same = ok_is (made, a.0.1) (i, end) a.2 in
    let operands = arg_stands pool at op (operands_of op) code (at + 1) a.0.0 a.0.1 fits a.1 in
    let here : IsPlain pool code at made a.0.1 = record { place = refl; plain = refl; row = row; narrow = narrow; opcode = opcode; operands = operands } in
    inl (subst (λ (x : Instr × ℕ). IsPlain pool code at x.0 x.1) same here)

wide_stands : (pool : List Entry) (at op : ℕ) (code : List ℕ) (i : Instr) (end : ℕ) → IsBytes code → (op == 196) ≡ true → StandsNumber code 1 at op (at + 1)
    → wide_at at code (at + 1) ≡ Ok (i, end) → InstrStands pool code at i end
unfolding wide_at
wide_stands pool at op code i end fits wide opcode e =
    let b = begun at 1 code (at + 1) (widened_read at code) (i, end) fits e in
    let a = bind_ok (wide_arg_at at b.n code (at + 1 + 1)) (arg_made at b.n true) (i, end) b.later in
    let made : Instr = record { at = at; op = b.n; wide = true; arg = a.0.0 } in
    let same = ok_is (made, a.0.1) (i, end) a.2 in
    let operands = wide_arg_stands at b.n code (at + 1 + 1) a.0.0 a.0.1 fits a.1 in
    let prefix = subst (λ (n : ℕ). StandsNumber code 1 at n (at + 1)) (eqb-true op 196 wide) opcode in
    let here : IsWide code at made a.0.1 = record { place = refl; widened = refl; prefix = prefix; opcode = b.number; operands = operands } in
    inr (subst (λ (x : Instr × ℕ). IsWide code at x.0 x.1) same here)

pub instr_stands : (pool : List Entry) (code : List ℕ) (at : ℕ) (i : Instr) (end : ℕ) → IsBytes code → instr_at pool code at ≡ Ok (i, end) → InstrStands pool code at i end
unfolding instr_at form_of
instr_stands pool code at i end fits e =
    let a = begun at 1 code at (op_read pool at code) (i, end) fits e in
    let r = row_ok pool at a.n code (at + 1) (has_row a.n) (i, end) a.later in
    cond_both (a.n == 196) (wide_at at code (at + 1)) (plain_at pool at a.n (operands_of a.n) code (at + 1)) (λ r. r ≡ Ok (i, end) → InstrStands pool code at i end)
    (λ w e. wide_stands pool at a.n code i end fits w a.number e)
    (λ w e. plain_stands pool at a.n code i end fits r.0 w a.number e) r.1

abbrev done : Instr × ℕ → Result (Instr × ℕ) CodeFault
done x = Ok x

pub instr_again : (pool : List Entry) (code : List ℕ) (at : ℕ) (i : Instr) (end : ℕ) → InstrStands pool code at i end → instr_at pool code at ≡ Ok (i, end)
unfolding instr_at form_of plain_at wide_at has_row
instr_again pool code at i end (inl s) =
    let row : has_row i.op ≡ true = s.row in
    let made : done (record { at = at; op = i.op; wide = false; arg = i.arg }, end) ≡ Ok (i, end) =
    ap (λ (a : ℕ). done (record { at = a; op = i.op; wide = false; arg = i.arg }, end)) (sym s.place) ∙ ap (λ (w : Bool). done (record { at = i.at; op = i.op; wide = w; arg = i.arg }, end)) (sym s.plain) in
    rw (again at 1 code at i.op (at + 1) s.opcode, row, s.narrow, arg_again pool at i.op (operands_of i.op) code (at + 1) i.arg end s.operands) made
instr_again pool code at i end (inr s) =
    let made : done (record { at = at; op = i.op; wide = true; arg = i.arg }, end) ≡ Ok (i, end) =
    ap (λ (a : ℕ). done (record { at = a; op = i.op; wide = true; arg = i.arg }, end)) (sym s.place) ∙ ap (λ (w : Bool). done (record { at = i.at; op = i.op; wide = w; arg = i.arg }, end)) (sym s.widened) in
    rw (again at 1 code at 196 (at + 1) s.prefix, again at 1 code (at + 1) i.op (at + 1 + 1) s.opcode, wide_arg_again at i.op code (at + 1 + 1) i.arg end s.operands) made

pub instr_forth : (pool : List Entry) (code : List ℕ) (at : ℕ) (i : Instr) (end : ℕ) → InstrStands pool code at i end → (at < end) × (end ≤ length code)
instr_forth pool code at i end (inl s) = let f = arg_forth pool at i.op (operands_of i.op) code (at + 1) i.arg end s.opcode.stands.within s.operands in (omega (arith, f.0), f.1)
instr_forth pool code at i end (inr s) = let f = wide_forth code i.op (at + 1 + 1) i.arg end s.operands in (omega (arith, f.0), f.1)

pub instr_length : (pool : List Entry) (code : List ℕ) (at : ℕ) (i : Instr) (end : ℕ) → InstrStands pool code at i end → next_place code at ≡ Ok end
unfolding next_place form_of end_at wide_end has_row operands_of
instr_length pool code at i end (inl s) =
    let row : has_row i.op ≡ true = s.row in
    rw (again at 1 code at i.op (at + 1) s.opcode, row) (arg_length pool at i.op (operands_of i.op) code (at + 1) i.arg end s.opcode.stands.within (narrow_kind i.op s.narrow) s.operands)
instr_length pool code at i end (inr s) =
    rw (again at 1 code at 196 (at + 1) s.prefix, again at 1 code (at + 1) i.op (at + 1 + 1) s.opcode) (wide_length at i.op code (at + 1 + 1) i.arg end s.operands)
