-- Where descriptors stop.
use Rattle.std.proofs.Common.{◌≡◌, ℕ, ◌+◌, ◌<◌, ◌≤◌, Bool, true, false, not, cond, ◌&&◌, eqb, List, [], ◌∷◌, ◌++◌, length, take, drop, replicate, get_or, slice_index, Result, Ok, Err, refl, sym, ap, subst, ◌∙◌, arith, inl, inr}
use Rattle.std.proofs.lemmas.Bool.{and_right, cases_Bool, cases_lt}
use Rattle.std.proofs.lemmas.List.{length-append, length-drop, drop-append-le, take-append-le}
use Rattle.std.proofs.Math.Seq.{get_or-append_seam}
use Rattle.jl_names.specs.declared.fault.TextFault.{TextFault}
use Rattle.jl_names.specs.declared.fault.TextFault.TheVariants.{BadText, NoMemory}
use Rattle.jl_names.specs.declared.types.BaseType.{BaseType}
use Rattle.jl_names.specs.declared.types.BaseType.TheVariants.{Prim, Class}
use Rattle.jl_names.specs.declared.types.FieldType.{FieldType}
use Rattle.jl_names.specs.Names.{stops, is_slash}
use Rattle.jl_names.specs.Descriptors.{is_wide, brackets, name_end, base_at, type_at}
use Rattle.jl_names.proofs.TypeLaws.{brackets_fit, brackets_less, name_more, name_stops, base_read, past, prim, class, other, class_of, base_prim, base_class, base_named, base_other, brackets_same, brackets_kept, typed_of, type_few, type_many, type_from, typed}
use Rattle.jl_names.proofs.BadPlaces.{reach, Spans, spans_reach, spans_from, spans_bind, index_same, spans_bad, begun_inside}

-- ---- class names

abbrev after : ℕ → ℕ
after end = end + 1

abbrev ended : ℕ → Bool → Result ℕ TextFault
ended at closes = cond closes (Ok at) (Err (BadText at))

ended_spans : (at len : ℕ) (closes : Bool) → at < len → Spans after at len (ended at closes)
ended_spans at len true lt = (omega arith, omega arith)
ended_spans at len false lt = (omega arith, omega arith)

name_spans : (fresh : Bool) (bs : List ℕ) (at : ℕ) → Spans after at (at + length bs) (name_end fresh bs at)
unfolding name_end
name_spans fresh [] at = (omega arith, omega arith)
name_spans fresh (b ∷ bs) at =
    elim (cases_Bool (stops b (not fresh))) [
      | inl wrong ↦ rw (name_stops fresh b bs at wrong) (ended_spans at (at + length (b ∷ bs)) (eqb b 59 && not fresh) (omega arith))
      | inr fine ↦
          let size : (at + 1) + length bs ≡ at + length (b ∷ bs) = omega arith in
          rw (name_more fresh b bs at fine) (spans_from after at (at + 1) (at + length (b ∷ bs)) (name_end (is_slash b) bs (at + 1)) (omega arith)
          (subst (λ (n : ℕ). Spans after (at + 1) n (name_end (is_slash b) bs (at + 1))) size (name_spans (is_slash b) bs (at + 1))))
    ]

name_stays : (fresh : Bool) (p u v : List ℕ) (at : ℕ) → reach after (name_end fresh (p ++ u) at) ≤ at + length p → name_end fresh (p ++ v) at ≡ name_end fresh (p ++ u) at
unfolding name_end
name_stays fresh [] u v at le = absurd (omega (arith, spans_reach after at (at + length u) (name_end fresh u at) (name_spans fresh u at)))
name_stays fresh (b ∷ p) u v at le =
    elim (cases_Bool (stops b (not fresh))) [
      | inl wrong ↦ name_stops fresh b (p ++ v) at wrong ∙ sym (name_stops fresh b (p ++ u) at wrong)
      | inr fine ↦
          let less : reach after (name_end (is_slash b) (p ++ u) (at + 1)) ≤ at + length (b ∷ p) = rw (name_more fresh b (p ++ u) at fine) at le in
          name_more fresh b (p ++ v) at fine ∙ name_stays (is_slash b) p u v (at + 1) (omega arith) ∙ sym (name_more fresh b (p ++ u) at fine)
    ]

-- a name that was cut goes on with a and ends with ;
abbrev a_name : List ℕ → List ℕ
a_name tail = 97 ∷ 59 ∷ tail

ended_here : (at k : ℕ) (closes : Bool) → ended at closes ≡ Err (BadText k) → at ≡ k
ended_here at k true e = absurd cc
ended_here at k false e = cc

name_completes : (fresh : Bool) (p u tail : List ℕ) (at k : ℕ) → k ≡ at + length p → name_end fresh (p ++ u) at ≡ Err (BadText k) → name_end fresh (p ++ a_name tail) at ≡ Ok (k + 1)
unfolding name_end
name_completes fresh [] u tail at k place e = let k_is : k ≡ at = omega arith in rw k_is refl
name_completes fresh (b ∷ p) u tail at k place e =
    elim (cases_Bool (stops b (not fresh))) [
      | inl wrong ↦ let here = ended_here at k (eqb b 59 && not fresh) (sym (name_stops fresh b (p ++ u) at wrong) ∙ e) in absurd (omega arith)
      | inr fine ↦ name_more fresh b (p ++ a_name tail) at fine ∙ name_completes (is_slash b) p u tail (at + 1) k (omega arith) (sym (name_more fresh b (p ++ u) at fine) ∙ e)
    ]

-- ---- types that are no arrays

abbrev base_end : BaseType × ℕ → ℕ
base_end x = x.1

abbrev pub type_end : FieldType × ℕ → ℕ
type_end x = x.1

base_spans : (text : List ℕ) (at : ℕ) → at ≤ length text → Spans base_end at (length text) (base_at text at)
base_spans text at le =
    elim (base_read text at) [
      | past out is ↦ rw is (omega arith, omega arith)
      | prim inside p is ↦ rw is (omega arith, omega arith)
      | class inside here is ↦
          rw is (spans_bind after base_end at (length text) (name_end true (drop (at + 1) text) (at + 1)) (λ end. Ok (Class (at + 1) end, end + 1))
          (spans_from after at (at + 1) (length text) (name_end true (drop (at + 1) text) (at + 1)) (omega arith)
          (let size : (at + 1) + length (drop (at + 1) text) ≡ length text = omega (arith, length-drop (at + 1) text) in
          subst (λ (n : ℕ). Spans after (at + 1) n (name_end true (drop (at + 1) text) (at + 1))) size (name_spans true (drop (at + 1) text) (at + 1))))
          (λ end e lt le. (lt, le)))
      | other inside p not_76 is ↦ rw is (omega arith, omega arith)
    ]

class_reach : (from : ℕ) (r : Result ℕ TextFault) → reach base_end (class_of from r) ≡ reach after r
class_reach from (Ok end) = refl
class_reach from (Err (BadText k)) = refl
class_reach from (Err NoMemory) = refl

base_stays : (p u v : List ℕ) (at : ℕ) → at ≤ length (p ++ u) → reach base_end (base_at (p ++ u) at) ≤ length p → base_at (p ++ v) at ≡ base_at (p ++ u) at
base_stays p u v at le near =
    let lt : at < length p = omega (arith, spans_reach base_end at (length (p ++ u)) (base_at (p ++ u) at) (base_spans (p ++ u) at le)) in
    let there = begun_inside p v at lt in
    let same = index_same p u v at lt in
    elim (base_read (p ++ u) at) [
      | past out is ↦ absurd (omega (arith, length-append p u))
      | prim inside q is ↦ base_prim (p ++ v) at (slice_index (p ++ u) at) (at + 1) there same refl q ∙ sym is
      | class inside here is ↦
          let size : (at + 1) + length (drop (at + 1) p) ≡ length p = omega (arith, length-drop (at + 1) p) in
          let parts_u : drop (at + 1) (p ++ u) ≡ drop (at + 1) p ++ u = drop-append-le (at + 1) p u (omega arith) in
          let parts_v : drop (at + 1) (p ++ v) ≡ drop (at + 1) p ++ v = drop-append-le (at + 1) p v (omega arith) in
          let is_u : base_at (p ++ u) at ≡ class_of (at + 1) (name_end true (drop (at + 1) p ++ u) (at + 1)) = subst (λ (l : List ℕ). base_at (p ++ u) at ≡ class_of (at + 1) (name_end true l (at + 1))) parts_u is in
          let is_v : base_at (p ++ v) at ≡ class_of (at + 1) (name_end true (drop (at + 1) p ++ v) (at + 1)) = subst (λ (l : List ℕ). base_at (p ++ v) at ≡ class_of (at + 1) (name_end true l (at + 1))) parts_v (base_named (p ++ v) at there (same ∙ here)) in
          let less : reach after (name_end true (drop (at + 1) p ++ u) (at + 1)) ≤ length p = subst (λ (n : ℕ). n ≤ length p) (ap (reach base_end) is_u ∙ class_reach (at + 1) (name_end true (drop (at + 1) p ++ u) (at + 1))) near in
          is_v ∙ ap (class_of (at + 1)) (name_stays true (drop (at + 1) p) u v (at + 1) (omega arith)) ∙ sym is_u
      | other inside q not_76 is ↦ base_other (p ++ v) at (slice_index (p ++ u) at) there same q not_76 ∙ sym is
    ]

-- What completes a reading that was cut: for every text behind it the reading finds the same.
pub record Completes {X : Type 0} (p : List ℕ) (read : List ℕ → Result (X × ℕ) TextFault) : Type 0 where
  pub rest : List ℕ
  pub found : X
  pub reads : (tail : List ℕ) → read (p ++ (rest ++ tail)) ≡ Ok (found, length p + length rest)

pub record BaseDone (p : List ℕ) (at : ℕ) : Type 0 where
  pub done : Completes {X = BaseType} p (λ text. base_at text at)
  pub narrow : is_wide (typed 0 done.found) ≡ false

-- an int
int_here : (p : List ℕ) (at : ℕ) → at ≡ length p → (tail : List ℕ) → base_at (p ++ 73 ∷ tail) at ≡ Ok (Prim 73, length p + 1)
int_here p at e tail =
    base_prim (p ++ 73 ∷ tail) at 73 (length p + 1) (omega (arith, length-append p (73 ∷ tail)))
    (ap (λ (n : ℕ). get_or (p ++ 73 ∷ tail) n 0) e ∙ get_or-append_seam p 73 tail 0) (omega arith) refl

int_done : (p : List ℕ) (at : ℕ) → at ≡ length p → BaseDone p at
int_done p at e = record { done = record { rest = 73 ∷ []; found = Prim 73; reads = int_here p at e }; narrow = refl }

abbrev bad_base : ℕ → Result (BaseType × ℕ) TextFault
bad_base k = Err (BadText k)

class_bad : (from k : ℕ) (r : Result ℕ TextFault) → class_of from r ≡ Err (BadText k) → r ≡ Err (BadText k)
class_bad from k (Ok end) e = absurd cc
class_bad from k (Err d) e = let same : d ≡ BadText k = cc in ap (λ (x : TextFault). Err x) same

class_completes : (p u : List ℕ) (at : ℕ) → at < length (p ++ u) → slice_index (p ++ u) at ≡ 76 → class_of (at + 1) (name_end true (drop (at + 1) (p ++ u)) (at + 1)) ≡ Err (BadText (length p)) → BaseDone p at
class_completes p u at inside here e =
    let failed = class_bad (at + 1) (length p) (name_end true (drop (at + 1) (p ++ u)) (at + 1)) e in
    let spans = spans_bad after (at + 1) ((at + 1) + length (drop (at + 1) (p ++ u))) (length p) (name_end true (drop (at + 1) (p ++ u)) (at + 1)) (name_spans true (drop (at + 1) (p ++ u)) (at + 1)) failed in
    let behind : at + 1 ≤ length p = spans.0 in
    let size : length p ≡ (at + 1) + length (drop (at + 1) p) = omega (arith, length-drop (at + 1) p) in
    let cut : name_end true (drop (at + 1) p ++ u) (at + 1) ≡ Err (BadText (length p)) =
    subst (λ (l : List ℕ). name_end true l (at + 1) ≡ Err (BadText (length p))) (drop-append-le (at + 1) p u behind) failed in
    let reads = λ (tail : List ℕ).
    let read : name_end true (drop (at + 1) (p ++ a_name tail)) (at + 1) ≡ Ok (length p + 1) =
    subst (λ (l : List ℕ). name_end true l (at + 1) ≡ Ok (length p + 1)) (sym (drop-append-le (at + 1) p (a_name tail) behind)) (name_completes true (drop (at + 1) p) u tail (at + 1) (length p) size cut) in
    base_class (p ++ a_name tail) at (at + 1) (length p + 1) (length p + 2) (omega (arith, length-append p (a_name tail)))
    (index_same p u (a_name tail) at (omega arith) ∙ here) refl (omega arith) read in
    record { done = record { rest = 97 ∷ 59 ∷ []; found = Class (at + 1) (length p + 1); reads = reads }; narrow = refl }

base_completes : (p u : List ℕ) (at : ℕ) → at ≤ length (p ++ u) → base_at (p ++ u) at ≡ Err (BadText (length p)) → BaseDone p at
base_completes p u at le e =
    elim (base_read (p ++ u) at) [
      | past out is ↦ let same : bad_base at ≡ bad_base (length p) = sym is ∙ e in int_done p at cc
      | prim inside q is ↦ let bad : bad_base (length p) ≡ Ok (Prim (slice_index (p ++ u) at), at + 1) = sym e ∙ is in absurd cc
      | class inside here is ↦ class_completes p u at inside here (sym is ∙ e)
      | other inside q not_76 is ↦ let same : bad_base at ≡ bad_base (length p) = sym is ∙ e in int_done p at cc
    ]

-- ---- types

-- how a type is read
data TypeRead (text : List ℕ) (at : ℕ) : Type 0 where
  many : 255 < brackets (drop at text) → type_at text at ≡ Err (BadText (at + 255)) → TypeRead text at
  few : brackets (drop at text) < 256 → type_at text at ≡ typed_of (brackets (drop at text)) (base_at text (at + brackets (drop at text))) → TypeRead text at

type_read : (text : List ℕ) (at : ℕ) → TypeRead text at
type_read text at =
    elim (cases_lt 255 (brackets (drop at text))) [
      | inl lt ↦ many lt (type_many text at lt)
      | inr le ↦ few (omega arith) (type_few text at (brackets (drop at text)) refl (omega arith))
    ]

-- the base begins in the text
base_inside : (text : List ℕ) (at : ℕ) → at ≤ length text → at + brackets (drop at text) ≤ length text
base_inside text at le = omega (arith, brackets_fit (drop at text), length-drop at text)

pub type_spans : (text : List ℕ) (at : ℕ) → at ≤ length text → Spans type_end at (length text) (type_at text at)
type_spans text at le =
    let dims = brackets (drop at text) in
    let inside = base_inside text at le in
    elim (type_read text at) [
      | many lt is ↦ rw is (omega arith, omega arith)
      | few lt is ↦
          rw is (spans_bind base_end type_end at (length text) (base_at text (at + dims)) (λ b. Ok (typed dims b.0, b.1))
          (spans_from base_end at (at + dims) (length text) (base_at text (at + dims)) (omega arith) (base_spans text (at + dims) inside)) (λ b e lt le. (lt, le)))
    ]

typed_reach : (dims : ℕ) (r : Result (BaseType × ℕ) TextFault) → reach type_end (typed_of dims r) ≡ reach base_end r
typed_reach dims (Ok b) = refl
typed_reach dims (Err (BadText k)) = refl
typed_reach dims (Err NoMemory) = refl

pub type_stays : (p u v : List ℕ) (at : ℕ) → at ≤ length (p ++ u) → reach type_end (type_at (p ++ u) at) ≤ length p → type_at (p ++ v) at ≡ type_at (p ++ u) at
type_stays p u v at le near =
    let dims = brackets (drop at (p ++ u)) in
    let lt : at < length p = omega (arith, spans_reach type_end at (length (p ++ u)) (type_at (p ++ u) at) (type_spans (p ++ u) at le)) in
    let q = drop at p in
    let parts_u : drop at (p ++ u) ≡ q ++ u = drop-append-le at p u (omega arith) in
    let parts_v : drop at (p ++ v) ≡ q ++ v = drop-append-le at p v (omega arith) in
    let size : at + length q ≡ length p = omega (arith, length-drop at p) in
    elim (type_read (p ++ u) at) [
      | many more is ↦
          let far : (at + 255) + 1 ≤ length p = subst (λ (r : Result (FieldType × ℕ) TextFault). reach type_end r ≤ length p) is near in
          let as_many : 256 ≤ brackets (q ++ u) = subst (λ (l : List ℕ). 255 < brackets l) parts_u more in
          let kept : 255 < brackets (q ++ v) = brackets_kept q u v 256 (omega arith) as_many in
          type_many (p ++ v) at (subst (λ (l : List ℕ). 255 < brackets l) (sym parts_v) kept) ∙ sym is
      | few less is ↦
          let base_near : reach base_end (base_at (p ++ u) (at + dims)) ≤ length p = subst (λ (n : ℕ). n ≤ length p) (ap (reach type_end) is ∙ typed_reach dims (base_at (p ++ u) (at + dims))) near in
          let inside = base_inside (p ++ u) at le in
          let beyond = spans_reach base_end (at + dims) (length (p ++ u)) (base_at (p ++ u) (at + dims)) (base_spans (p ++ u) (at + dims) inside) in
          let same_count : brackets (q ++ u) ≡ dims = ap brackets (sym parts_u) in
          let count : brackets (drop at (p ++ v)) ≡ dims = ap brackets parts_v ∙ brackets_same q u v (omega arith) ∙ same_count in
          type_few (p ++ v) at dims count less ∙ ap (typed_of dims) (base_stays p u v (at + dims) inside base_near) ∙ sym is
    ]

pub record TypeDone (p : List ℕ) (at : ℕ) : Type 0 where
  pub done : Completes {X = FieldType} p (λ text. type_at text at)
  pub narrow : is_wide done.found ≡ false

narrow_array : (d : ℕ) (b : BaseType) → is_wide (typed 0 b) ≡ false → is_wide (typed d b) ≡ false
narrow_array d b w = and_right (eqb d 0) _ w

typed_bad : (dims k : ℕ) (r : Result (BaseType × ℕ) TextFault) → typed_of dims r ≡ Err (BadText k) → r ≡ Err (BadText k)
typed_bad dims k (Ok b) e = absurd cc
typed_bad dims k (Err d) e = let same : d ≡ BadText k = cc in ap (λ (x : TextFault). Err x) same

-- brackets before a base that was cut
front_brackets : (p u w : List ℕ) (at d : ℕ) → at + d ≤ length p → take d (drop at (p ++ u)) ≡ replicate d 91 → take d (drop at (p ++ w)) ≡ replicate d 91
front_brackets p u w at d le all =
    let inside : d ≤ length (drop at p) = omega (arith, length-drop at p) in
    ap (take d) (drop-append-le at p w (omega arith)) ∙ take-append-le d (drop at p) w inside ∙ sym (take-append-le d (drop at p) u inside) ∙ ap (take d) (sym (drop-append-le at p u (omega arith))) ∙ all

abbrev bad_type : ℕ → Result (FieldType × ℕ) TextFault
bad_type k = Err (BadText k)

-- a type whose base is completed
based : (p u : List ℕ) (at d : ℕ) → d < 256 → at + d ≤ length p → take d (drop at (p ++ u)) ≡ replicate d 91 → BaseDone p (at + d) → TypeDone p at
based p u at d less le all b = record {
  done = record {
    rest = b.done.rest;
    found = typed d b.done.found;
    reads = λ tail. type_from (p ++ (b.done.rest ++ tail)) at d b.done.found (length p + length b.done.rest) less (front_brackets p u (b.done.rest ++ tail) at d le all) (b.done.reads tail);
  };
  narrow = narrow_array d b.done.found b.narrow;
}

pub type_completes : (p u : List ℕ) (at : ℕ) → at ≤ length (p ++ u) → type_at (p ++ u) at ≡ Err (BadText (length p)) → TypeDone p at
type_completes p u at le e =
    let dims = brackets (drop at (p ++ u)) in
    elim (type_read (p ++ u) at) [
      | many more is ↦
          let same : bad_type (at + 255) ≡ bad_type (length p) = sym is ∙ e in
          let place : at + 255 ≡ length p = cc in
          let all : take 255 (drop at (p ++ u)) ≡ replicate 255 91 = brackets_less 255 (drop at (p ++ u)) (omega arith) in
          based p u at 255 (omega arith) (omega arith) all (int_done p (at + 255) place)
      | few less is ↦
          let inside = base_inside (p ++ u) at le in
          let failed = typed_bad dims (length p) (base_at (p ++ u) (at + dims)) (sym is ∙ e) in
          let spans = spans_bad base_end (at + dims) (length (p ++ u)) (length p) (base_at (p ++ u) (at + dims)) (base_spans (p ++ u) (at + dims) inside) failed in
          based p u at dims less spans.0 (brackets_less dims (drop at (p ++ u)) (omega arith)) (base_completes p u (at + dims) inside failed)
    ]
