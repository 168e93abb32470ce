-- Switches: what is read is spelled so, and what is spelled so is read.
use Rattle.std.proofs.Common.{◌≡◌, ℕ, zero, suc, ◌+◌, ◌-◌, ◌*◌, ◌≤◌, ◌<◌, ◌^◌, Bool, true, false, cond, ltb, leb, ℤ, pos, ◌+ℤ◌, List, [], ◌∷◌, ◌++◌, length, length-append, append_assoc, slice_get, Option, None, Some, Result, Ok, Err, refl, sym, ap, subst, ◌∙◌, arith}
use Rattle.std.specs.Prelude.{IsTrue, int_lt}
use Rattle.std.specs.Int.{cast_signed, w32}
use Rattle.std.proofs.lemmas.Bool.{le-ltb, lt-leb, leb-false}
use Rattle.std.proofs.lemmas.List.{append-nil}
use Rattle.jl_reading.specs.Reading.{◌>>=◌, each_at, IsBytes}
use Rattle.jl_reading.proofs.Steps.{bind_ok, guard_ok, ok_is}
use Rattle.jl_code.specs.declared.fault.CodeFault.{CodeFault}
use Rattle.jl_code.specs.declared.fault.CodeFault.TheVariants as faults
use Rattle.jl_code.specs.declared.code.Arg.{Arg}
use Rattle.jl_code.specs.declared.code.Arg.TheVariants as args
use Rattle.jl_code.specs.Operands.{operand_at, target, case_at, table_case, table_at, lookup_case, lookup_at, keys_between, is_above, padded}
use Rattle.jl_code.specs.Spelling.{StandsNumber, LeadsTo, TableCases, IsTable, LookupCases, IsLookup}
use Rattle.jl_code.proofs.Chains.{begun, again, passed}
use Rattle.jl_code.proofs.Offsets.{placed, placed_again, led, led_again}

abbrev Case : Type 0
Case = ℤ × ℕ

abbrev keyed : ℤ → ℕ → Case
keyed key place = (key, place)

-- ---- a case

pub record CaseStands (code : List ℕ) (at : ℕ) (key : ℤ) (next : ℕ) (case : ℤ × ℕ) (end : ℕ) : Type 0 where
  pub leads : LeadsTo code at 4 w32 next case.1 (next + 4)
  pub key_is : case.0 ≡ key
  pub ends : end ≡ next + 4

pub case_stands : (at : ℕ) (code : List ℕ) (key : ℤ) (next : ℕ) (case : ℤ × ℕ) (end : ℕ) → IsBytes code → case_at at code key next ≡ Ok (case, end) → CaseStands code at key next case end
unfolding case_at
case_stands at code key next case end fits e =
    let l = led at 4 w32 code next (keyed key) case end fits e in
    let place : l.place ≡ case.1 = ap (λ (c : ℤ × ℕ). c.1) (sym l.meaning) in
    let here : LeadsTo code at 4 w32 next l.place (next + 4) = subst (λ (q : ℕ). LeadsTo code at 4 w32 next l.place q) l.ends l.leads in
    record {
      leads = subst (λ (p : ℕ). LeadsTo code at 4 w32 next p (next + 4)) place here;
      key_is = ap (λ (c : ℤ × ℕ). c.0) l.meaning;
      ends = l.ends;
    }

pub case_again : (at : ℕ) (code : List ℕ) (key : ℤ) (next : ℕ) (case : ℤ × ℕ) → case.0 ≡ key → LeadsTo code at 4 w32 next case.1 (next + 4) → case_at at code key next ≡ Ok (case, next + 4)
unfolding case_at
case_again at code key next case same leads =
    let read = led_again at 4 w32 code next (keyed key) case.1 (next + 4) leads in
    read ∙ ap (λ (k : ℤ). Ok ((k, case.1), next + 4)) (sym same)

-- ---- tableswitch

pub record TableFollows (code : List ℕ) (at : ℕ) (low : ℤ) (done : List (ℤ × ℕ)) (n next : ℕ) (all : List (ℤ × ℕ)) (end : ℕ) : Type 0 where
  pub cases : List (ℤ × ℕ)
  pub parts : all ≡ done ++ cases
  pub count : length cases ≡ n
  pub stand : TableCases code at low (length done) next cases end

table_follows : (at : ℕ) (code : List ℕ) (low : ℤ) → IsBytes code → (n : ℕ) (done : List (ℤ × ℕ)) (next : ℕ) (all : List (ℤ × ℕ)) (end : ℕ)
    → each_at (table_case at code low) done n next ≡ Ok (all, end) → TableFollows code at low done n next all end
unfolding each_at
table_follows at code low fits zero done next all end e =
    let same = ok_is (done, next) (all, end) e in
    record {
      cases = [];
      parts = sym (ap (λ (p : List (ℤ × ℕ) × ℕ). p.0) same) ∙ sym (append-nil done);
      count = refl;
      stand = ap (λ (p : List (ℤ × ℕ) × ℕ). p.1) same;
    }
table_follows at code low fits (suc n) done next all end e =
    let a = bind_ok (table_case at code low done next) (λ x. each_at (table_case at code low) (done ++ x.0 ∷ []) n x.1) (all, end) e in
    let s = case_stands at code (low +ℤ pos (length done)) next a.0.0 a.0.1 fits a.1 in
    let rest = table_follows at code low fits n (done ++ a.0.0 ∷ []) a.0.1 all end a.2 in
    let size : length (done ++ a.0.0 ∷ []) ≡ length done + 1 = omega (arith, length-append done (a.0.0 ∷ [])) in
    let later : TableCases code at low (length done + 1) a.0.1 rest.cases end = subst (λ (k : ℕ). TableCases code at low k a.0.1 rest.cases end) size rest.stand in
    record {
      cases = a.0.0 ∷ rest.cases;
      parts = rest.parts ∙ append_assoc done (a.0.0 ∷ []) rest.cases;
      count = ap suc rest.count;
      stand = (s.key_is, s.leads, subst (λ (q : ℕ). TableCases code at low (length done + 1) q rest.cases end) s.ends later);
    }

table_read_again : (at : ℕ) (code : List ℕ) (low : ℤ) (cases done : List (ℤ × ℕ)) (i next end : ℕ) → i ≡ length done → TableCases code at low i next cases end
    → each_at (table_case at code low) done (length cases) next ≡ Ok (done ++ cases, end)
unfolding each_at
table_read_again at code low [] done i next end same stand = rw (append-nil done, stand) refl
table_read_again at code low (case ∷ cases) done i next end same stand =
    let key : case.0 ≡ low +ℤ pos (length done) = stand.0 ∙ ap (λ (k : ℕ). low +ℤ pos k) same in
    let first : table_case at code low done next ≡ Ok (case, next + 4) = case_again at code (low +ℤ pos (length done)) next case key stand.1 in
    let rest = table_read_again at code low cases (done ++ case ∷ []) (i + 1) (next + 4) end (omega (arith, length-append done (case ∷ []), same)) stand.2 in
    rw first (rest ∙ ap (λ (all : List (ℤ × ℕ)). Ok (all, end)) (append_assoc done (case ∷ []) cases))

pub table_ends : (at : ℕ) (code : List ℕ) (low : ℤ) (cases : List (ℤ × ℕ)) (i next end : ℕ) → next ≤ length code → TableCases code at low i next cases end → (end ≡ next + 4 * length cases) × (end ≤ length code)
table_ends at code low [] i next end le stand = (omega (arith, stand), omega (arith, stand))
table_ends at code low (case ∷ cases) i next end le stand =
    let rest = table_ends at code low cases (i + 1) (next + 4) end stand.1.number.stands.within stand.2 in
    (omega (arith, rest.0), rest.1)

abbrev cases_read : ℕ → List ℕ → ℕ → ℤ → ℕ → ℕ → Result (Arg × ℕ) CodeFault
cases_read at code place low n next = each_at (table_case at code low) [] n next >>= λ cases. Ok (args.Switch place cases.0, cases.1)

abbrev place_read : ℕ → List ℕ → ℕ → ℤ → ℕ → ℕ → Result (Arg × ℕ) CodeFault
place_read at code offset low n next = target at code (cast_signed w32 offset) >>= λ place. cases_read at code place low n next

abbrev checked : ℕ → List ℕ → ℕ → ℤ → ℤ → ℕ → Result (Arg × ℕ) CodeFault
checked at code offset low high next =
    cond (int_lt high low) (Err (faults.BadTarget at)) (cond (ltb (length code) (next + 4 * keys_between low high)) (Err (faults.ShortOperand at)) (place_read at code offset low (keys_between low high) next))

abbrev high_read : ℕ → List ℕ → ℕ → ℕ × ℕ → Result (Arg × ℕ) CodeFault
high_read at code offset low = operand_at at 4 code low.1 >>= λ high. checked at code offset (cast_signed w32 low.0) (cast_signed w32 high.0) high.1

abbrev low_read : ℕ → List ℕ → ℕ × ℕ → Result (Arg × ℕ) CodeFault
low_read at code other = operand_at at 4 code other.1 >>= high_read at code other.0

-- what follows from the part behind the keys
record Checked (code : List ℕ) (at offset : ℕ) (low high : ℤ) (next : ℕ) (arg : Arg) (end : ℕ) : Type 0 where
  pub other : ℕ
  pub cases : List (ℤ × ℕ)
  pub rises : int_lt high low ≡ false
  pub each : length cases ≡ keys_between low high
  pub counted : pos at +ℤ cast_signed w32 offset ≡ pos other
  pub inside : other < length code
  pub stand : TableCases code at low 0 next cases end
  pub meaning : arg ≡ args.Switch other cases

checked_stands : (at : ℕ) (code : List ℕ) (offset : ℕ) (low high : ℤ) (next : ℕ) (arg : Arg) (end : ℕ) → IsBytes code → checked at code offset low high next ≡ Ok (arg, end) → Checked code at offset low high next arg end
checked_stands at code offset low high next arg end fits e =
    let g = guard_ok (int_lt high low) (faults.BadTarget at) (cond (ltb (length code) (next + 4 * keys_between low high)) (Err (faults.ShortOperand at)) (place_read at code offset low (keys_between low high) next)) (arg, end) e in
    let h = guard_ok (ltb (length code) (next + 4 * keys_between low high)) (faults.ShortOperand at) (place_read at code offset low (keys_between low high) next) (arg, end) g.1 in
    let t = bind_ok (target at code (cast_signed w32 offset)) (λ place. cases_read at code place low (keys_between low high) next) (arg, end) h.1 in
    let p = placed (faults.BadTarget at) code (pos at +ℤ cast_signed w32 offset) t.0 t.1 in
    let c = bind_ok (each_at (table_case at code low) [] (keys_between low high) next) (λ cases. Ok (args.Switch t.0 cases.0, cases.1)) (arg, end) t.2 in
    let f = table_follows at code low fits (keys_between low high) [] next c.0.0 c.0.1 c.1 in
    let same = ok_is (args.Switch t.0 c.0.0, c.0.1) (arg, end) c.2 in
    record {
      other = t.0;
      cases = f.cases;
      rises = g.0;
      each = f.count;
      counted = p.0;
      inside = p.1;
      stand = subst (λ (q : ℕ). TableCases code at low 0 next f.cases q) (ap (λ (x : Arg × ℕ). x.1) same) f.stand;
      meaning = sym (ap (λ (x : Arg × ℕ). x.0) same) ∙ ap (λ (cs : List (ℤ × ℕ)). args.Switch t.0 cs) f.parts;
    }

checked_again : (at : ℕ) (code : List ℕ) (offset : ℕ) (low high : ℤ) (next place : ℕ) (cases : List (ℤ × ℕ)) (end : ℕ) → int_lt high low ≡ false → length cases ≡ keys_between low high → next + 4 * length cases ≤ length code
    → target at code (cast_signed w32 offset) ≡ Ok place → each_at (table_case at code low) [] (length cases) next ≡ Ok (cases, end) → checked at code offset low high next ≡ Ok (args.Switch place cases, end)
checked_again at code offset low high next place cases end rises each room there read =
    let whole : ltb (length code) (next + 4 * length cases) ≡ false = le-ltb _ _ room in
    let goal : (n : ℕ) → length cases ≡ n → cond (ltb (length code) (next + 4 * n)) (Err (faults.ShortOperand at)) (place_read at code offset low n next) ≡ Ok (args.Switch place cases, end) =
    λ n same. subst (λ (k : ℕ). cond (ltb (length code) (next + 4 * k)) (Err (faults.ShortOperand at)) (place_read at code offset low k next) ≡ Ok (args.Switch place cases, end)) same (rw (whole, there, read) refl) in
    rw rises (goal (keys_between low high) each)

pub table_stands : (at : ℕ) (code : List ℕ) (next : ℕ) (arg : Arg) (end : ℕ) → IsBytes code → table_at at code next ≡ Ok (arg, end) → IsTable code at next arg end
unfolding table_at
table_stands at code next arg end fits e =
    let a = begun at 4 code (padded next) (low_read at code) (arg, end) fits e in
    let b = begun at 4 code (padded next + 4) (high_read at code a.n) (arg, end) fits a.later in
    let c = begun at 4 code (padded next + 4 + 4) (λ high. checked at code a.n (cast_signed w32 b.n) (cast_signed w32 high.0) high.1) (arg, end) fits b.later in
    let s = checked_stands at code a.n (cast_signed w32 b.n) (cast_signed w32 c.n) (padded next + 4 + 4 + 4) arg end fits c.later in
    record {
      other = s.other;
      low = b.n;
      high = c.n;
      cases = s.cases;
      default = record { offset = a.n; number = a.number; counted = s.counted; inside = s.inside };
      lowest = b.number;
      highest = c.number;
      rises = s.rises;
      each = s.each;
      stand = s.stand;
      meaning = s.meaning;
    }

pub table_again : (at : ℕ) (code : List ℕ) (next : ℕ) (arg : Arg) (end : ℕ) → IsTable code at next arg end → table_at at code next ≡ Ok (arg, end)
unfolding table_at
table_again at code next arg end s =
    let low = cast_signed w32 s.low in
    let at_end = table_ends at code low s.cases 0 (padded next + 4 + 4 + 4) end s.highest.stands.within s.stand in
    let there = placed_again (faults.BadTarget at) code (pos at +ℤ cast_signed w32 s.default.offset) s.other s.default.counted s.default.inside in
    let read = table_read_again at code low s.cases [] 0 (padded next + 4 + 4 + 4) end refl s.stand in
    let rest = checked_again at code s.default.offset low (cast_signed w32 s.high) (padded next + 4 + 4 + 4) s.other s.cases end s.rises s.each (omega (arith, at_end.0, at_end.1)) there read in
    rw (again at 4 code (padded next) s.default.offset (padded next + 4) s.default.number, again at 4 code (padded next + 4) s.low (padded next + 4 + 4) s.lowest, again at 4 code (padded next + 4 + 4) s.high (padded next + 4 + 4 + 4) s.highest, s.meaning) rest

padded-forth : (next : ℕ) → next ≤ padded next
padded-forth next = omega arith

pub table_forth : (code : List ℕ) (at next : ℕ) (arg : Arg) (end : ℕ) → IsTable code at next arg end → (next ≤ end) × (end ≤ length code)
table_forth code at next arg end s =
    let at_end = table_ends at code (cast_signed w32 s.low) s.cases 0 (padded next + 4 + 4 + 4) end s.highest.stands.within s.stand in
    let on = padded-forth next in
    (omega (arith, at_end.0, on), at_end.1)

-- ---- lookupswitch

last_is : (done : List (ℤ × ℕ)) (case : ℤ × ℕ) (n : ℕ) → n ≡ length done → slice_get (done ++ case ∷ []) n ≡ Some case
last_is [] case zero e = refl
last_is [] case (suc n) e = absurd (omega arith)
last_is (c ∷ done) case zero e = absurd (omega arith)
last_is (c ∷ done) case (suc n) e = last_is done case n (omega arith)

abbrev last : List (ℤ × ℕ) → Option (ℤ × ℕ)
last done = slice_get done (length done - 1)

last_more : (done : List (ℤ × ℕ)) (case : ℤ × ℕ) → last (done ++ case ∷ []) ≡ Some case
last_more done case = last_is done case (length (done ++ case ∷ []) - 1) (omega (arith, length-append done (case ∷ [])))

abbrev above_or : ℕ → Bool → (ℤ × ℕ) × ℕ → Result ((ℤ × ℕ) × ℕ) CodeFault
above_or at above case = cond above (Ok case) (Err (faults.BadTarget at))

abbrev pair_read : ℕ → List ℕ → List (ℤ × ℕ) → ℕ × ℕ → Result ((ℤ × ℕ) × ℕ) CodeFault
pair_read at code done key = case_at at code (cast_signed w32 key.0) key.1 >>= above_or at (is_above (cast_signed w32 key.0) (last done))

record PairStands (code : List ℕ) (at : ℕ) (before : Option (ℤ × ℕ)) (next : ℕ) (case : ℤ × ℕ) (end : ℕ) : Type 0 where
  pub key : ℕ
  pub number : StandsNumber code 4 next key (next + 4)
  pub key_is : case.0 ≡ cast_signed w32 key
  pub leads : LeadsTo code at 4 w32 (next + 4) case.1 (next + 4 + 4)
  pub above : IsTrue (is_above case.0 before)
  pub ends : end ≡ next + 4 + 4

pair_stands : (at : ℕ) (code : List ℕ) (done : List (ℤ × ℕ)) (next : ℕ) (case : ℤ × ℕ) (end : ℕ) → IsBytes code → lookup_case at code done next ≡ Ok (case, end) → PairStands code at (last done) next case end
unfolding lookup_case
pair_stands at code done next case end fits e =
    let a = begun at 4 code next (pair_read at code done) (case, end) fits e in
    let key = cast_signed w32 a.n in
    let b = bind_ok (case_at at code key (next + 4)) (above_or at (is_above key (last done))) (case, end) a.later in
    let p = passed (is_above key (last done)) (faults.BadTarget at) b.0 (case, end) b.2 in
    let read : case_at at code key (next + 4) ≡ Ok (case, end) = b.1 ∙ ap (λ (x : (ℤ × ℕ) × ℕ). Ok x) p.1 in
    let s = case_stands at code key (next + 4) case end fits read in
    record {
      key = a.n;
      number = a.number;
      key_is = s.key_is;
      leads = s.leads;
      above = subst (λ (k : ℤ). IsTrue (is_above k (last done))) (sym s.key_is) p.0;
      ends = s.ends;
    }

pub record LookupFollows (code : List ℕ) (at : ℕ) (done : List (ℤ × ℕ)) (n next : ℕ) (all : List (ℤ × ℕ)) (end : ℕ) : Type 0 where
  pub cases : List (ℤ × ℕ)
  pub parts : all ≡ done ++ cases
  pub count : length cases ≡ n
  pub stand : LookupCases code at (last done) next cases end

lookup_follows : (at : ℕ) (code : List ℕ) → IsBytes code → (n : ℕ) (done : List (ℤ × ℕ)) (next : ℕ) (all : List (ℤ × ℕ)) (end : ℕ)
    → each_at (lookup_case at code) done n next ≡ Ok (all, end) → LookupFollows code at done n next all end
unfolding each_at
lookup_follows at code fits zero done next all end e =
    let same = ok_is (done, next) (all, end) e in
    record {
      cases = [];
      parts = sym (ap (λ (p : List (ℤ × ℕ) × ℕ). p.0) same) ∙ sym (append-nil done);
      count = refl;
      stand = ap (λ (p : List (ℤ × ℕ) × ℕ). p.1) same;
    }
lookup_follows at code fits (suc n) done next all end e =
    let a = bind_ok (lookup_case at code done next) (λ x. each_at (lookup_case at code) (done ++ x.0 ∷ []) n x.1) (all, end) e in
    let s = pair_stands at code done next a.0.0 a.0.1 fits a.1 in
    let rest = lookup_follows at code fits n (done ++ a.0.0 ∷ []) a.0.1 all end a.2 in
    let later : LookupCases code at (Some a.0.0) a.0.1 rest.cases end = subst (λ (o : Option (ℤ × ℕ)). LookupCases code at o a.0.1 rest.cases end) (last_more done a.0.0) rest.stand in
    record {
      cases = a.0.0 ∷ rest.cases;
      parts = rest.parts ∙ append_assoc done (a.0.0 ∷ []) rest.cases;
      count = ap suc rest.count;
      stand = (s.key, s.number, s.key_is, s.leads, s.above, subst (λ (q : ℕ). LookupCases code at (Some a.0.0) q rest.cases end) s.ends later);
    }

pair_again : (at : ℕ) (code : List ℕ) (done : List (ℤ × ℕ)) (next key : ℕ) (case : ℤ × ℕ) → StandsNumber code 4 next key (next + 4) → case.0 ≡ cast_signed w32 key → LeadsTo code at 4 w32 (next + 4) case.1 (next + 4 + 4)
    → IsTrue (is_above case.0 (last done)) → lookup_case at code done next ≡ Ok (case, next + 4 + 4)
unfolding lookup_case
pair_again at code done next key case number same leads above =
    let up : is_above (cast_signed w32 key) (last done) ≡ true = subst (λ (k : ℤ). is_above k (last done) ≡ true) same above in
    let read : case_at at code (cast_signed w32 key) (next + 4) ≡ Ok (case, next + 4 + 4) = case_again at code (cast_signed w32 key) (next + 4) case same leads in
    rw (again at 4 code next key (next + 4) number, read, up) refl

lookup_read_again : (at : ℕ) (code : List ℕ) (cases done : List (ℤ × ℕ)) (before : Option (ℤ × ℕ)) (next end : ℕ) → before ≡ last done → LookupCases code at before next cases end
    → each_at (lookup_case at code) done (length cases) next ≡ Ok (done ++ cases, end)
unfolding each_at
lookup_read_again at code [] done before next end same stand = rw (append-nil done, stand) refl
lookup_read_again at code (case ∷ cases) done before next end same stand =
    let above : IsTrue (is_above case.0 (last done)) = subst (λ (o : Option (ℤ × ℕ)). IsTrue (is_above case.0 o)) same stand.4 in
    let first : lookup_case at code done next ≡ Ok (case, next + 4 + 4) = pair_again at code done next stand.0 case stand.1 stand.2 stand.3 above in
    let rest = lookup_read_again at code cases (done ++ case ∷ []) (Some case) (next + 4 + 4) end (sym (last_more done case)) stand.5 in
    rw first (rest ∙ ap (λ (all : List (ℤ × ℕ)). Ok (all, end)) (append_assoc done (case ∷ []) cases))

pub lookup_ends : (at : ℕ) (code : List ℕ) (cases : List (ℤ × ℕ)) (before : Option (ℤ × ℕ)) (next end : ℕ) → next ≤ length code → LookupCases code at before next cases end → (end ≡ next + 8 * length cases) × (end ≤ length code)
lookup_ends at code [] before next end le stand = (omega (arith, stand), omega (arith, stand))
lookup_ends at code (case ∷ cases) before next end le stand =
    let rest = lookup_ends at code cases (Some case) (next + 4 + 4) end stand.3.number.stands.within stand.5 in
    (omega (arith, rest.0), rest.1)

abbrev pairs_read : ℕ → List ℕ → ℕ → ℕ → ℕ → Result (Arg × ℕ) CodeFault
pairs_read at code place n next = each_at (lookup_case at code) [] n next >>= λ cases. Ok (args.Switch place cases.0, cases.1)

abbrev default_read : ℕ → List ℕ → ℕ → ℕ → ℕ → Result (Arg × ℕ) CodeFault
default_read at code offset n next = target at code (cast_signed w32 offset) >>= λ place. pairs_read at code place n next

abbrev counted_read : ℕ → List ℕ → ℕ → ℕ × ℕ → Result (Arg × ℕ) CodeFault
counted_read at code offset count =
    cond (leb (2 ^ 31) count.0) (Err (faults.BadTarget at)) (cond (ltb (length code) (count.1 + 8 * count.0)) (Err (faults.ShortOperand at)) (default_read at code offset count.0 count.1))

abbrev count_read : ℕ → List ℕ → ℕ × ℕ → Result (Arg × ℕ) CodeFault
count_read at code other = operand_at at 4 code other.1 >>= counted_read at code other.0

pub lookup_stands : (at : ℕ) (code : List ℕ) (next : ℕ) (arg : Arg) (end : ℕ) → IsBytes code → lookup_at at code next ≡ Ok (arg, end) → IsLookup code at next arg end
unfolding lookup_at
lookup_stands at code next arg end fits e =
    let a = begun at 4 code (padded next) (count_read at code) (arg, end) fits e in
    let b = begun at 4 code (padded next + 4) (counted_read at code a.n) (arg, end) fits a.later in
    let behind = padded next + 4 + 4 in
    let g = guard_ok (leb (2 ^ 31) b.n) (faults.BadTarget at) (cond (ltb (length code) (behind + 8 * b.n)) (Err (faults.ShortOperand at)) (default_read at code a.n b.n behind)) (arg, end) b.later in
    let h = guard_ok (ltb (length code) (behind + 8 * b.n)) (faults.ShortOperand at) (default_read at code a.n b.n behind) (arg, end) g.1 in
    let t = bind_ok (target at code (cast_signed w32 a.n)) (λ place. pairs_read at code place b.n behind) (arg, end) h.1 in
    let p = placed (faults.BadTarget at) code (pos at +ℤ cast_signed w32 a.n) t.0 t.1 in
    let c = bind_ok (each_at (lookup_case at code) [] b.n behind) (λ cases. Ok (args.Switch t.0 cases.0, cases.1)) (arg, end) t.2 in
    let f = lookup_follows at code fits b.n [] behind c.0.0 c.0.1 c.1 in
    let same = ok_is (args.Switch t.0 c.0.0, c.0.1) (arg, end) c.2 in
    let low : b.n < 2 ^ 31 = leb-false (2 ^ 31) b.n g.0 in
    record {
      other = t.0;
      cases = f.cases;
      default = record { offset = a.n; number = a.number; counted = p.0; inside = p.1 };
      count = subst (λ (n : ℕ). StandsNumber code 4 (padded next + 4) n (padded next + 4 + 4)) (sym f.count) b.number;
      few = omega (arith, low, f.count);
      stand = subst (λ (q : ℕ). LookupCases code at None behind f.cases q) (ap (λ (x : Arg × ℕ). x.1) same) f.stand;
      meaning = sym (ap (λ (x : Arg × ℕ). x.0) same) ∙ ap (λ (cs : List (ℤ × ℕ)). args.Switch t.0 cs) f.parts;
    }

pub lookup_again : (at : ℕ) (code : List ℕ) (next : ℕ) (arg : Arg) (end : ℕ) → IsLookup code at next arg end → lookup_at at code next ≡ Ok (arg, end)
unfolding lookup_at
lookup_again at code next arg end s =
    let at_end = lookup_ends at code s.cases None (padded next + 4 + 4) end s.count.stands.within s.stand in
    let there = placed_again (faults.BadTarget at) code (pos at +ℤ cast_signed w32 s.default.offset) s.other s.default.counted s.default.inside in
    let read = lookup_read_again at code s.cases [] None (padded next + 4 + 4) end refl s.stand in
    let few : leb (2 ^ 31) (length s.cases) ≡ false = lt-leb (2 ^ 31) (length s.cases) s.few in
    let whole : ltb (length code) (padded next + 4 + 4 + 8 * length s.cases) ≡ false = le-ltb _ _ (omega (arith, at_end.0, at_end.1)) in
    rw (again at 4 code (padded next) s.default.offset (padded next + 4) s.default.number, again at 4 code (padded next + 4) (length s.cases) (padded next + 4 + 4) s.count, few, whole, there, read, s.meaning) refl

pub lookup_forth : (code : List ℕ) (at next : ℕ) (arg : Arg) (end : ℕ) → IsLookup code at next arg end → (next ≤ end) × (end ≤ length code)
lookup_forth code at next arg end s =
    let at_end = lookup_ends at code s.cases None (padded next + 4 + 4) end s.count.stands.within s.stand in
    let on = padded-forth next in
    (omega (arith, at_end.0, on), at_end.1)
