-- Tables whose entries are apart by a key.
use Rattle.std.proofs.Common.{◌≡◌, ℕ, List, [], ◌∷◌, ◌++◌, map, Result, Ok, sym, subst, append_assoc}
use Rattle.std.specs.Prelude.{Contains}
use Rattle.std.proofs.lemmas.List.{append-nil, map_push, map-append}
use Rattle.jl_logic.specs.Lists.{AreDistinct}
use Rattle.jl_logic.proofs.Apart.{distinct_push, distinct_apart}
use Rattle.jl_logic.proofs.Matching.{match_as}
use Rattle.jl_reading.specs.Reading.{◌>>=◌, Stands, number_at, each_at, counted}
use Rattle.jl_reading.proofs.Stands.{Along}
use Rattle.jl_reading.proofs.Tables.{EntryReads, Table, table_reads}
use Rattle.jl_classfile.specs.Spelling.{IsTable}

-- the key of an entry is none of those before it
abbrev pub Fresh : {B K : Type 0} → (B → K) → List B → B → Type 0
Fresh key done x = Contains (map key done) (key x) → ⊥

along_distinct : {B K : Type 0} (key : B → K) (done entries : List B) → Along (Fresh key) done entries → AreDistinct (map key done) → AreDistinct (map key (done ++ entries))
along_distinct key done [] a d = subst (λ all. AreDistinct (map key all)) (sym (append-nil done)) d
along_distinct key done (x ∷ xs) a d =
    let pushed : AreDistinct (map key (done ++ x ∷ [])) = subst AreDistinct (sym (map_push key done x)) (distinct_push (map key done) (key x) d a.0) in
    subst (λ all. AreDistinct (map key all)) (append_assoc done (x ∷ []) xs) (along_distinct key (done ++ x ∷ []) xs a.1 pushed)

distinct_along : {B K : Type 0} (key : B → K) (done entries : List B) → AreDistinct (map key (done ++ entries)) → Along (Fresh key) done entries
distinct_along key done [] d = tt
distinct_along key done (x ∷ xs) d =
    let split : map key (done ++ x ∷ xs) ≡ map key done ++ key x ∷ map key xs = map-append key done (x ∷ xs) in (
      distinct_apart (map key done) (key x) (map key xs) (subst AreDistinct split d),
      distinct_along key (done ++ x ∷ []) xs (subst (λ all. AreDistinct (map key all)) (sym (append_assoc done (x ∷ []) xs)) d),
    )

-- the rows that were read declare the entries
pub is_table : {A B : Type 0} {bytes : List ℕ} {row_bytes : A → List ℕ} {R : A → B → Type 0} {at : ℕ} {x : List B × ℕ} (key : B → List ℕ) (t : Table bytes row_bytes R (Fresh key) at x) → IsTable R key t.rows x.0
is_table {x = x} key t = record { few = t.few; each = t.each; distinct = along_distinct key [] x.0 t.along tt }

-- rows that declare entries are read
pub is_read : {A B F : Type 0} (short : ℕ → F) (bytes : List ℕ) (row_bytes : A → List ℕ) (R : A → B → Type 0) (key : B → List ℕ) (one : List B → ℕ → Result (B × ℕ) F)
    → EntryReads bytes row_bytes R (Fresh key) one → (at next : ℕ) (rows : List A) (entries : List B) → IsTable R key rows entries → Stands bytes at (counted row_bytes rows) next
    → (number_at short 2 bytes at >>= λ count. each_at one [] count.0 count.1) ≡ Ok (entries, next)
is_read short bytes row_bytes R key one law at next rows entries t s = table_reads short bytes row_bytes R (Fresh key) one law at next rows entries t.few t.each (distinct_along key [] entries t.distinct) s

-- rows that mean less
pub table_as : {A B : Type 0} {R S : A → B → Type 0} {key : B → List ℕ} → ((a : A) (b : B) → R a b → S a b) → (rows : List A) (entries : List B) → IsTable R key rows entries → IsTable S key rows entries
table_as f rows entries t = record { few = t.few; each = match_as f rows entries t.each; distinct = t.distinct }
