-- How many members the lists of a declaration have, and which texts are short.
use Rattle.std.proofs.Common.{◌≡◌, ℕ, ◌+◌, ◌<◌, ◌≤◌, arith, Bool, true, false, List, [], ◌∷◌, ◌++◌, length, map, refl, sym, ap, ap₂, ◌∙◌, inl, inr, subst}
use Rattle.std.specs.Prelude.{codes, nat_lt, ◌&&◌, IsTrue, ◌↔◌, if◌then◌else◌}
use Rattle.std.specs.List.{list_all, sum_by, AllByRecursion}
use Rattle.std.proofs.lemmas.Bool.{cases_Bool, ltb-true, ltb-false, lt-ltb, le-ltb, leb-true, le-leb}
use Rattle.std.proofs.Math.Nat.{add_comm}
use Rattle.std.proofs.lemmas.List.Sums.{sum_by-cons}
use Rattle.jl_prim.specs.declared.declaration.Declaration.{Declaration}
use Rattle.jl_names.specs.Text.{text_bytes}
use Rattle.jl_names.specs.Utf16.{utf16}
use Rattle.jl_pool.specs.declared.constant.Constant.{Constant}
use Rattle.jl_pool.specs.Builder.{text_in, IsShort}
use Rattle.jl_modinfo.specs.Writing.{Need, AreShort, Counted, target_counts, class_counts, sum_counts, members}
use Rattle.jl_modinfo.specs.Layout.{capped, target_length, class_length, is_short_constant, need_of, named_constants}
use Rattle.jl_modinfo.proofs.NeedLaws.{named_same, need_text}

few : (n : ℕ) → n ≤ 16777216 → capped n ≡ n
few n le = ap (λ (b : Bool). if b then 16777217 else n) (le-ltb 16777216 n (omega (arith, le)))

many : (n : ℕ) → 16777216 < n → capped n ≡ 16777217
many n lt = ap (λ (b : Bool). if b then 16777217 else n) (lt-ltb 16777216 n lt)

-- capping a part of a sum first
pub capped_left : (a b : ℕ) → capped (capped a + b) ≡ capped (a + b)
capped_left a b = elim (cases_Bool (nat_lt 16777216 a)) [
  | inl l ↦ (let lt = ltb-true 16777216 a l in ap (λ (n : ℕ). capped (n + b)) (many a lt) ∙ (many (16777217 + b) (omega arith) ∙ sym (many (a + b) (omega (arith, lt)))))
  | inr s ↦ (let le = ltb-false 16777216 a s in ap (λ (n : ℕ). capped (n + b)) (few a (omega (arith, le))))
]

pub capped_right : (a b : ℕ) → capped (a + capped b) ≡ capped (a + b)
capped_right a b =
    let turned : a + capped b ≡ capped b + a = add_comm a (capped b) in
    ap capped turned ∙ (capped_left b a ∙ ap capped (add_comm b a))

pub capped_both : (a b : ℕ) → capped (capped a + capped b) ≡ capped (a + b)
capped_both a b = capped_left a (capped b) ∙ capped_right a b

counts_joined : (xs ys : List Counted) → sum_counts (xs ++ ys) ≡ sum_counts xs + sum_counts ys
counts_joined [] ys = omega arith
counts_joined (x ∷ xs) ys = let e = counts_joined xs ys in omega (arith, e)

each_count : {X : Type 0} (name : List ℕ) (count : X → ℕ) (xs : List X) → sum_counts (map (λ x. (name, count x)) xs) ≡ sum_by count xs
each_count name count [] = refl
each_count name count (x ∷ xs) = ap (λ (n : ℕ). count x + n) (each_count name count xs) ∙ sym (sum_by-cons count x xs)

pub members_are : (d : Declaration) → members d ≡ (length d.required + (length d.uses + length d.packages)) + ((length d.exports + sum_by target_length d.exports) + ((length d.opens + sum_by target_length d.opens) + (length d.provides + sum_by class_length d.provides)))
members_are d =
    let packages = (codes "packages", length d.packages) ∷ [] in
    let provides = class_counts d.provides ++ packages in
    let last = (codes "uses", length d.uses) ∷ (codes "provides", length d.provides) ∷ provides in
    let opens = (codes "opens", length d.opens) ∷ (target_counts d.opens ++ last) in
    let e1 = counts_joined (target_counts d.exports) opens in
    let e2 = counts_joined (target_counts d.opens) last in
    let e3 = counts_joined (class_counts d.provides) packages in
    let t1 = each_count (codes "targets") target_length d.exports in
    let t2 = each_count (codes "targets") target_length d.opens in
    let t3 = each_count (codes "implementations") class_length d.provides in
    omega (arith, e1, e2, e3, t1, t2, t3)

pub over : (n : ℕ) → 16777216 < capped n → 16777216 < n
over n lt = elim (cases_Bool (nat_lt 16777216 n)) [
  | inl l ↦ ltb-true 16777216 n l
  | inr s ↦ (let le = ltb-false 16777216 n s in let e = few n le in absurd (omega (arith, e, lt, le)))
]

pub within : (n : ℕ) → capped n ≤ 16777216 → n ≤ 16777216
within n le = elim (cases_Bool (nat_lt 16777216 n)) [
  | inl l ↦ (let lt = ltb-true 16777216 n l in let e = many n lt in absurd (omega (arith, e, le)))
  | inr s ↦ ltb-false 16777216 n s
]

-- ---- what is short

all_true : (cs : List Constant) → list_all is_short_constant cs ≡ true → AllByRecursion (λ (n : Need). IsShort n.1) (map need_of cs)
all_true [] e = tt
all_true (c ∷ cs) e = elim (cases_Bool (is_short_constant c)) [
  | inl l ↦ (let le = leb-true (length (text_bytes (utf16 (text_in c)))) 65535 l in (subst IsShort (sym (need_text c)) (omega (arith, le)), all_true cs (rw l at e)))
  | inr s ↦ absurd (cc (s, e))
]

true_all : (cs : List Constant) → AllByRecursion (λ (n : Need). IsShort n.1) (map need_of cs) → list_all is_short_constant cs ≡ true
true_all [] a = refl
true_all (c ∷ cs) a =
    let lt : IsShort (text_in c) = subst IsShort (need_text c) a.0 in
    ap₂ (λ (x y : Bool). x && y) (le-leb (length (text_bytes (utf16 (text_in c)))) 65535 (omega (arith, lt))) (true_all cs a.1)

pub writable_is : (d : Declaration) (cs : List Constant) (fine : Bool) → cs ≡ named_constants d → fine ≡ list_all is_short_constant cs → capped (members d) ≤ 16777216 → IsTrue fine ↔ (AreShort d × (members d ≤ 16777216))
writable_is d cs fine named_by is few_members =
    let whole : fine ≡ list_all is_short_constant (named_constants d) = is ∙ ap (list_all is_short_constant) named_by in (
      λ t. (subst (AllByRecursion (λ (n : Need). IsShort n.1)) (named_same d) (all_true (named_constants d) (sym whole ∙ t)), within (members d) few_members),
      λ p. whole ∙ true_all (named_constants d) (subst (AllByRecursion (λ (n : Need). IsShort n.1)) (sym (named_same d)) p.0),
    )

pub never_writable : (d : Declaration) → 16777216 < capped (members d) → IsTrue false ↔ (AreShort d × (members d ≤ 16777216))
never_writable d lt = (λ t. absurd (cc t), λ p. (let more = over (members d) lt in let le = p.1 in absurd (omega (arith, more, le))))

-- ---- sums that are capped step by step

pub plus_capped : (r l t n s : ℕ) → r ≡ capped (l + t) → l ≡ n → t ≡ capped s → r ≡ capped (n + s)
plus_capped r l t n s e f g = e ∙ (ap₂ (λ (x y : ℕ). capped (x + y)) f g ∙ capped_right n s)

pub both_capped : (r a b x y : ℕ) → r ≡ capped (a + b) → a ≡ capped x → b ≡ capped y → r ≡ capped (x + y)
both_capped r a b x y e f g = e ∙ (ap₂ (λ (m n : ℕ). capped (m + n)) f g ∙ capped_both x y)
