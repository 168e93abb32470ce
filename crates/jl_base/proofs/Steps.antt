-- One step of the loops over members, rows and parts of the table.
use Rattle.std.proofs.Common.{◌≡◌, ◌-◌, ◌≤◌, List, [], ◌∷◌, ◌++◌, length, take, drop, map, Ok, Bool, IsTrue, refl, sym, ap, subst, ◌∙◌, append_assoc, arith}
use Rattle.std.specs.Prelude.{slice_index_or}
use Rattle.std.proofs.lemmas.Bool.{and_parts, and_from}
use Rattle.std.proofs.lemmas.List.{take_all}
use Rattle.std.specs.List.{list_all}
use Rattle.std.specs.Borrow.{Bor}
use Rattle.jl_class.specs.Classes.{Class}
use Rattle.jl_classw.specs.Building.{Making}
use Rattle.jl_base.specs.Rows.{MemberParts, member_of, RowParts, row_of}
use Rattle.jl_base.specs.Made.{with_member, with_members}
use Rattle.jl_base.specs.Images.{class_of}
use Rattle.jl_base.specs.Ready.{may_add, may_add_all, if_made, is_ready}
use Rattle.jl_base.specs.Table.{rows_of}

-- what is left behind the first of a list
pub behind : {A : Type 0} (x : A) (xs : List A) → take (length (x ∷ xs) - 1) (drop 1 (x ∷ xs)) ≡ xs
behind x xs = let e : length (x ∷ xs) - 1 ≡ length xs = omega arith in rw e (take_all (length xs) xs (omega arith))

pub first_may : (b : Making) (ms : List MemberParts) (d : MemberParts) → 1 ≤ length ms → IsTrue (may_add_all b (map member_of ms)) → IsTrue (may_add b.class (member_of (slice_index_or ms 0 d)))
first_may b [] d some h = absurd (omega arith)
first_may b (m ∷ ms) d some h = (and_parts _ _ h).0

pub record Goes (b c : Making) (ms rest : List MemberParts) : Type 0 where
  pub made : with_members c (map member_of rest) ≡ with_members b (map member_of ms)
  pub right : IsTrue (may_add_all c (map member_of rest))

pub goes_on : (b c : Making) (ms : List MemberParts) (d : MemberParts) → 1 ≤ length ms → with_member b (member_of (slice_index_or ms 0 d)) ≡ Ok c → IsTrue (may_add_all b (map member_of ms)) → Goes b c ms (take (length ms - 1) (drop 1 ms))
goes_on b c [] d some e h = absurd (omega arith)
goes_on b c (m ∷ ms) d some e h =
    let r : IsTrue (if_made (λ a. may_add_all a (map member_of ms)) (with_member b (member_of m))) = (and_parts _ _ h).1 in
    rw (behind m ms) (record { made = rw e refl; right = subst (λ made. IsTrue (if_made (λ a. may_add_all a (map member_of ms)) made)) e r })

-- ---- rows

pub first_ready : (rows : List RowParts) (d : RowParts) → 1 ≤ length rows → IsTrue (list_all is_ready (map row_of rows)) → IsTrue (is_ready (row_of (slice_index_or rows 0 d)))
first_ready [] d some h = absurd (omega arith)
first_ready (row ∷ rows) d some h = (and_parts _ _ h).0

-- the classes of the first row and of those behind it
pub record More (done first : List Class) (rows rest : List RowParts) : Type 0 where
  pub made : (done ++ first) ++ map class_of (map row_of rest) ≡ done ++ map class_of (map row_of rows)
  pub right : IsTrue (list_all is_ready (map row_of rest))

pub more : (done : List Class) (c : Class) (rows : List RowParts) (d : RowParts) → 1 ≤ length rows → c ≡ class_of (row_of (slice_index_or rows 0 d)) → IsTrue (list_all is_ready (map row_of rows)) → More done (c ∷ []) rows (take (length rows - 1) (drop 1 rows))
more done c [] d some e h = absurd (omega arith)
more done c (row ∷ rows) d some e h = rw (behind row rows, e) (record {
  made = append_assoc done (class_of (row_of row) ∷ []) (map class_of (map row_of rows));
  right = (and_parts _ _ h).1;
})

-- ---- parts

all_parts : {A : Type 0} (test : A → Bool) (xs ys : List A) → IsTrue (list_all test (xs ++ ys)) → IsTrue (list_all test xs) × IsTrue (list_all test ys)
all_parts test [] ys h = (refl, h)
all_parts test (x ∷ xs) ys h =
    let a = and_parts _ _ h in
    let rest = all_parts test xs ys a.1 in
    (and_from _ _ a.0 rest.0, rest.1)

map_parts : {A B : Type 0} (f : A → B) (xs ys : List A) → map f (xs ++ ys) ≡ map f xs ++ map f ys
map_parts f [] ys = refl
map_parts f (x ∷ xs) ys = ap (λ zs. f x ∷ zs) (map_parts f xs ys)

pub first_part : (parts : List (Bor (List RowParts))) (d : Bor (List RowParts)) → 1 ≤ length parts → IsTrue (list_all is_ready (rows_of parts)) → IsTrue (list_all is_ready (map row_of (slice_index_or parts 0 d).now))
first_part [] d some h = absurd (omega arith)
first_part (part ∷ parts) d some h = (all_parts is_ready (map row_of part.now) (rows_of parts) h).0

pub record MoreParts (done first : List Class) (parts rest : List (Bor (List RowParts))) : Type 0 where
  pub made : (done ++ first) ++ map class_of (rows_of rest) ≡ done ++ map class_of (rows_of parts)
  pub right : IsTrue (list_all is_ready (rows_of rest))

pub more_parts : (done : List Class) (parts : List (Bor (List RowParts))) (d : Bor (List RowParts)) → 1 ≤ length parts → IsTrue (list_all is_ready (rows_of parts)) → MoreParts done (map class_of (map row_of (slice_index_or parts 0 d).now)) parts (take (length parts - 1) (drop 1 parts))
more_parts done [] d some h = absurd (omega arith)
more_parts done (part ∷ parts) d some h = rw (behind part parts) (record {
  made = append_assoc done (map class_of (map row_of part.now)) (map class_of (rows_of parts)) ∙ ap (λ cs. done ++ cs) (sym (map_parts class_of (map row_of part.now) (rows_of parts)));
  right = (all_parts is_ready (map row_of part.now) (rows_of parts) h).1;
})
