-- Whole code: what is read is spelled so, and what is spelled so is read.
use Rattle.std.proofs.Common.{◌≡◌, ℕ, zero, suc, ◌+◌, ◌≤◌, ◌<◌, inl, inr, Bool, not, cond, ltb, List, [], ◌∷◌, ◌++◌, length, map, append_assoc, Option, None, Some, Result, Ok, Err, refl, sym, ap, subst, ◌∙◌, arith}
use Rattle.std.specs.Prelude.{IsTrue, position}
use Rattle.std.specs.Option.{option_map}
use Rattle.std.specs.List.{list_all, prefix_len}
use Rattle.std.proofs.lemmas.Bool.{cond_both, ltb-false, lt-ltb, le-ltb, and_from, and_parts, not-true, not-false}
use Rattle.std.proofs.lemmas.List.{append-nil}
use Rattle.jl_reading.specs.Reading.{IsBytes}
use Rattle.jl_reading.proofs.Steps.{ok_is}
use Rattle.jl_prim.specs.declared.declaration.Handler.{Handler}
use Rattle.jl_pool.specs.declared.entry.Entry.{Entry}
use Rattle.jl_code.specs.declared.fault.CodeFault.{CodeFault}
use Rattle.jl_code.specs.declared.fault.CodeFault.TheVariants as faults
use Rattle.jl_code.specs.declared.code.Instr.{Instr}
use Rattle.jl_code.specs.declared.code.Code.{Code}
use Rattle.jl_code.specs.declared.walking.Walked.{Walked}
use Rattle.jl_code.specs.Instructions.{instr_at}
use Rattle.jl_code.specs.Places.{places_from, places, stands}
use Rattle.jl_code.specs.Walking.{up_to, walk_on, walk}
use Rattle.jl_code.specs.Decoding.{first_where, leads_right, first_astray, is_right_handler, wrong_handler, kind_of, unless, empty, judged, code_of}
use Rattle.jl_code.specs.Spelling.{InstrStands, StandInstrs, IsCode}
use Rattle.jl_code.proofs.Walks.{walk_end}
use Rattle.jl_code.proofs.Marks.{nothing_left}
use Rattle.jl_code.proofs.InstrLaws.{instr_stands, instr_again, instr_forth, instr_length}

-- ---- the walk

-- instructions that were read behind those before them
record Walks (pool : List Entry) (code : List ℕ) (before : List Instr) (at : ℕ) (instrs : List Instr) : Type 0 where
  pub later : List Instr
  pub parts : instrs ≡ before ++ later
  pub stand : StandInstrs pool code at later (length code)

abbrev instrs_of : Walked → List Instr
instrs_of w = w.instructions

abbrev fault_of : Walked → Option CodeFault
fault_of w = w.fault

walks_end : (pool : List Entry) (code : List ℕ) (before : List Instr) (at : ℕ) (instrs : List Instr) → at ≡ length code → up_to before None ≡ up_to instrs None → Walks pool code before at instrs
walks_end pool code before at instrs place e = record { later = []; parts = sym (ap instrs_of e) ∙ sym (append-nil before); stand = place }

abbrev walk_step : List Entry → List ℕ → List Instr → ℕ → Result (Instr × ℕ) CodeFault → Walked
walk_step pool code before n r = elim r [ Ok read ↦ walk_on pool code (before ++ read.0 ∷ []) n read.1 | Err f ↦ up_to before (Some f) ]

step_ok : (pool : List Entry) (code : List ℕ) (before : List Instr) (n : ℕ) (r : Result (Instr × ℕ) CodeFault) (instrs : List Instr) → walk_step pool code before n r ≡ up_to instrs None
    → (x : Instr × ℕ) × (r ≡ Ok x) × (walk_on pool code (before ++ x.0 ∷ []) n x.1 ≡ up_to instrs None)
step_ok pool code before n (Ok x) instrs e = (x, refl, e)
step_ok pool code before n (Err f) instrs e = let fault : Some f ≡ None = ap fault_of e in absurd cc

walk_found : (n : ℕ) (pool : List Entry) (code : List ℕ) (before : List Instr) (at : ℕ) (instrs : List Instr) → IsBytes code → length code ≤ at + n → at ≤ length code
    → walk_on pool code before n at ≡ up_to instrs None → Walks pool code before at instrs
unfolding walk_on
walk_found zero pool code before at instrs fits enough le e = walks_end pool code before at instrs (omega arith) e
walk_found (suc n) pool code before at instrs fits enough le e0 =
    cond_both (ltb at (length code)) (walk_step pool code before n (instr_at pool code at)) (up_to before None) (λ w. w ≡ up_to instrs None → Walks pool code before at instrs)
    (λ lt e.
    let s = step_ok pool code before n (instr_at pool code at) instrs e in
    let i = instr_stands pool code at s.0.0 s.0.1 fits s.1 in
    let f = instr_forth pool code at s.0.0 s.0.1 i in
    let rest = walk_found n pool code (before ++ s.0.0 ∷ []) s.0.1 instrs fits (omega (arith, f.0, enough)) f.1 s.2 in
    record { later = s.0.0 ∷ rest.later; parts = rest.parts ∙ append_assoc before (s.0.0 ∷ []) rest.later; stand = (s.0.1, i, rest.stand) })
    (λ ge e. walks_end pool code before at instrs (let h = ltb-false at (length code) ge in omega arith) e) e0

walk_again : (n : ℕ) (pool : List Entry) (code : List ℕ) (before later : List Instr) (at : ℕ) → length code ≤ at + n → StandInstrs pool code at later (length code) → walk_on pool code before n at ≡ up_to (before ++ later) None
unfolding walk_on
walk_again n pool code before [] at enough stand = walk_end n pool code before at (omega (arith, stand)) ∙ ap (λ (is : List Instr). up_to is None) (sym (append-nil before))
walk_again zero pool code before (i ∷ later) at enough stand = let f = instr_forth pool code at i stand.0 stand.1 in absurd (omega (arith, f.0, f.1))
walk_again (suc n) pool code before (i ∷ later) at enough stand =
    let f = instr_forth pool code at i stand.0 stand.1 in
    let lt : at < length code = omega (arith, f.0, f.1) in
    let rest = walk_again n pool code (before ++ i ∷ []) later stand.0 (omega (arith, f.0, enough)) stand.2 in
    rw (lt-ltb at (length code) lt, instr_again pool code at i stand.0 stand.1) (rest ∙ ap (λ (is : List Instr). up_to is None) (append_assoc before (i ∷ []) later))

-- ---- the places

pub place_of : (pool : List Entry) (code : List ℕ) (at : ℕ) (i : Instr) (end : ℕ) → InstrStands pool code at i end → i.at ≡ at
place_of pool code at i end (inl s) = s.place
place_of pool code at i end (inr s) = s.place

places_again : (n : ℕ) (pool : List Entry) (code : List ℕ) (later : List Instr) (at : ℕ) → length code ≤ at + n → StandInstrs pool code at later (length code) → places_from code n at ≡ map (λ i. i.at) later
unfolding places_from
places_again n pool code [] at enough stand = nothing_left n code at (omega (arith, stand))
places_again zero pool code (i ∷ later) at enough stand = let f = instr_forth pool code at i stand.0 stand.1 in absurd (omega (arith, f.0, f.1))
places_again (suc n) pool code (i ∷ later) at enough stand =
    let f = instr_forth pool code at i stand.0 stand.1 in
    let lt : at < length code = omega (arith, f.0, f.1) in
    let rest = places_again n pool code later stand.0 (omega (arith, f.0, enough)) stand.2 in
    rw (lt-ltb at (length code) lt, instr_length pool code at i stand.0 stand.1, rest, place_of pool code at i stand.0 stand.1) refl

-- ---- the whole code

unless_ok : (o : Option CodeFault) (r : Result Code CodeFault) (c : Code) → unless o r ≡ Ok c → (o ≡ None) × (r ≡ Ok c)
unless_ok (Some f) r c e = absurd cc
unless_ok None r c e = (refl, e)

map_none : {A B : Type 0} (f : A → B) (o : Option A) → option_map f o ≡ None → o ≡ None
map_none f (Some x) e = absurd cc
map_none f None e = refl

first_none : (test : Instr → Bool) (is : List Instr) → first_where (λ i. not (test i)) is ≡ None → IsTrue (list_all test is)
unfolding first_where
first_none test [] e = refl
first_none test (i ∷ is) e0 =
    cond_both (not (test i)) (Some i) (first_where (λ i. not (test i)) is) (λ o. o ≡ None → IsTrue (list_all test (i ∷ is)))
    (λ n e. absurd cc) (λ t e. and_from (test i) (list_all test is) (not-false (test i) t) (first_none test is e)) e0

first_all : (test : Instr → Bool) (is : List Instr) → IsTrue (list_all test is) → first_where (λ i. not (test i)) is ≡ None
unfolding first_where
first_all test [] all = refl
first_all test (i ∷ is) all = let p = and_parts (test i) (list_all test is) all in rw (p.0, first_all test is p.1) refl

all_long : (right : Handler → Bool) (hs : List Handler) → length hs ≤ prefix_len (λ h. not (not (right h))) hs → IsTrue (list_all right hs)
all_long right [] le = refl
all_long right (h ∷ hs) le0 =
    cond_both (not (not (right h))) (1 + prefix_len (λ h. not (not (right h))) hs) 0 (λ n. length (h ∷ hs) ≤ n → IsTrue (list_all right (h ∷ hs)))
    (λ r le. and_from (right h) (list_all right hs) (not-false (right h) (not-true (not (right h)) r)) (all_long right hs (omega arith))) (λ r le. absurd (omega arith)) le0

long_all : (right : Handler → Bool) (hs : List Handler) → IsTrue (list_all right hs) → length hs ≤ prefix_len (λ h. not (not (right h))) hs
long_all right [] all = omega arith
long_all right (h ∷ hs) all = let p = and_parts (right h) (list_all right hs) all in let rest = long_all right hs p.1 in rw p.0 (omega arith)

no_place : (i n : ℕ) → cond (ltb i n) (Some i) None ≡ None → n ≤ i
no_place i n = cond_both (ltb i n) (Some i) None (λ o. o ≡ None → n ≤ i) (λ lt e. absurd cc) (λ ge e. ltb-false i n ge)

position_none : (right : Handler → Bool) (hs : List Handler) → position (λ h. not (right h)) hs ≡ None → IsTrue (list_all right hs)
position_none right hs e = all_long right hs (no_place _ (length hs) e)

position_all : (right : Handler → Bool) (hs : List Handler) → IsTrue (list_all right hs) → position (λ h. not (right h)) hs ≡ None
position_all right hs all =
    let long = le-ltb (prefix_len (λ h. not (not (right h))) hs) (length hs) (long_all right hs all) in
    rw long refl

not_empty : (code : List ℕ) → empty code ≡ None → 0 < length code
not_empty [] e = absurd cc
not_empty (b ∷ bs) e = omega arith

is_not_empty : (code : List ℕ) → 0 < length code → empty code ≡ None
is_not_empty [] lt = absurd (omega arith)
is_not_empty (b ∷ bs) lt = refl

some_instr : (pool : List Entry) (code : List ℕ) (instrs : List Instr) → StandInstrs pool code 0 instrs (length code) → 0 < length code → 0 < length instrs
some_instr pool code [] stand lt = absurd (omega (arith, stand, lt))
some_instr pool code (i ∷ is) stand lt = omega arith

some_byte : (pool : List Entry) (code : List ℕ) (instrs : List Instr) → StandInstrs pool code 0 instrs (length code) → 0 < length instrs → 0 < length code
some_byte pool code [] stand lt = absurd (omega arith)
some_byte pool code (i ∷ is) stand lt = let f = instr_forth pool code 0 i stand.0 stand.1 in omega (arith, f.0, f.1)

abbrev starts : List Instr → List ℕ
starts instrs = map (λ i. i.at) instrs

abbrev lead : (ℕ → Bool) → List Instr → Bool
lead is_start instrs = list_all (λ i. leads_right is_start i.arg) instrs

pub code_found : (pool : List Entry) (desc code : List ℕ) (handlers : List Handler) (c : Code) → IsBytes code → code_of pool desc code handlers ≡ Ok c → IsCode pool desc code handlers c
unfolding code_of
code_found pool desc code handlers c fits e =
    let is_start = stands (places code) in
    let w = walk pool code in
    let kind = Ok (kind_of pool desc w.instructions) in
    let after_walk = unless (option_map faults.BadRange (wrong_handler pool code is_start handlers)) kind in
    let a = unless_ok (empty code) (judged pool desc code handlers is_start w) c e in
    let b = unless_ok (option_map faults.BadTarget (first_astray is_start w.instructions)) (unless w.fault after_walk) c a.1 in
    let d = unless_ok w.fault after_walk c b.1 in
    let g = unless_ok (option_map faults.BadRange (wrong_handler pool code is_start handlers)) kind c d.1 in
    let walked : w ≡ up_to w.instructions None = ap (λ (f : Option CodeFault). up_to w.instructions f) d.0 in
    let s = walk_found (length code) pool code [] 0 w.instructions fits (omega arith) (omega arith) walked in
    let p : places code ≡ starts s.later = places_again (length code) pool code s.later 0 (omega arith) s.stand in
    let astray = map_none (λ (i : Instr). i.at) _ (map_none faults.BadTarget _ b.0) in
    let leads : IsTrue (lead is_start w.instructions) = first_none (λ i. leads_right is_start i.arg) w.instructions astray in
    let leads_later : IsTrue (lead is_start s.later) = subst (λ (is : List Instr). IsTrue (lead is_start is)) s.parts leads in
    let right : IsTrue (list_all (is_right_handler pool code is_start) handlers) = position_none (is_right_handler pool code is_start) handlers (map_none faults.BadRange _ g.0) in
    record {
      instrs = s.later;
      stand = s.stand;
      some = some_instr pool code s.later s.stand (not_empty code a.0);
      lead = subst (λ (ps : List ℕ). IsTrue (lead (stands ps) s.later)) p leads_later;
      handled = subst (λ (ps : List ℕ). IsTrue (list_all (is_right_handler pool code (stands ps)) handlers)) p right;
      kind = sym (ok_is (kind_of pool desc w.instructions) c g.1) ∙ ap (λ (is : List Instr). kind_of pool desc is) s.parts;
    }

judged_again : (pool : List Entry) (desc code : List ℕ) (handlers : List Handler) (is_start : ℕ → Bool) (instrs : List Instr) → first_where (λ i. not (leads_right is_start i.arg)) instrs ≡ None
    → wrong_handler pool code is_start handlers ≡ None → judged pool desc code handlers is_start (up_to instrs None) ≡ Ok (kind_of pool desc instrs)
judged_again pool desc code handlers is_start instrs leads right = rw (leads, right) refl

pub code_only : (pool : List Entry) (desc code : List ℕ) (handlers : List Handler) (c : Code) → IsCode pool desc code handlers c → code_of pool desc code handlers ≡ Ok c
unfolding code_of
code_only pool desc code handlers c s =
    let walked : walk pool code ≡ up_to s.instrs None = walk_again (length code) pool code [] s.instrs 0 (omega arith) s.stand in
    let p : places code ≡ starts s.instrs = places_again (length code) pool code s.instrs 0 (omega arith) s.stand in
    let leads = first_all (λ i. leads_right (stands (starts s.instrs)) i.arg) s.instrs s.lead in
    let right = position_all (is_right_handler pool code (stands (starts s.instrs))) handlers s.handled in
    let full = is_not_empty code (some_byte pool code s.instrs s.stand s.some) in
    let read = judged_again pool desc code handlers (stands (starts s.instrs)) s.instrs leads right in
    let there : judged pool desc code handlers (stands (places code)) (walk pool code) ≡ Ok (kind_of pool desc s.instrs) =
    subst (λ (ps : List ℕ). judged pool desc code handlers (stands ps) (walk pool code) ≡ Ok (kind_of pool desc s.instrs)) (sym p)
    (subst (λ (w : Walked). judged pool desc code handlers (stands (starts s.instrs)) w ≡ Ok (kind_of pool desc s.instrs)) (sym walked) read) in
    rw full (there ∙ ap (λ (k : Code). Ok k) (sym s.kind))
