-- Counted rows: what is read stands there, and what stands there is read.
use Rattle.std.proofs.Common.{◌≡◌, ℕ, zero, suc, ◌+◌, ◌<◌, ◌≤◌, List, [], ◌∷◌, ◌++◌, length, Result, Ok, refl, sym, ap, ◌∙◌, subst, arith, append_assoc}
use Rattle.std.specs.List.{flat_map}
use Rattle.std.proofs.lemmas.List.{append-nil}
use Rattle.jl_logic.specs.Lists.{Match}
use Rattle.jl_reading.specs.Reading.{◌>>=◌, Stands, IsBytes, number_at, each_at, two, counted}
use Rattle.jl_reading.proofs.Steps.{bind_ok, bind_to, ok_is}
use Rattle.jl_reading.proofs.Stands.{Along, Stands-nothing}
use Rattle.jl_reading.proofs.Standing.{number_in, number_read, join, first, second, known}

-- a row stands there that declares the entry, behind those before it
pub record Row {A B : Type 0} (bytes : List ℕ) (row_bytes : A → List ℕ) (R : A → B → Type 0) (P : List B → B → Type 0) (done : List B) (at : ℕ) (x : B × ℕ) : Type 0 where
  pub row : A
  pub is : R row x.0
  pub stands : Stands bytes at (row_bytes row) x.1
  pub fresh : P done x.0

abbrev pub EntryStands : {A B F : Type 0} → List ℕ → (A → List ℕ) → (A → B → Type 0) → (List B → B → Type 0) → (List B → ℕ → Result (B × ℕ) F) → Type 0
EntryStands {A} {B} bytes row_bytes R P one = (done : List B) (at : ℕ) (x : B × ℕ) → one done at ≡ Ok x → Row bytes row_bytes R P done at x

abbrev pub EntryReads : {A B F : Type 0} → List ℕ → (A → List ℕ) → (A → B → Type 0) → (List B → B → Type 0) → (List B → ℕ → Result (B × ℕ) F) → Type 0
EntryReads {A} {B} bytes row_bytes R P one =
    (done : List B) (at next : ℕ) (row : A) (entry : B) → R row entry → Stands bytes at (row_bytes row) next → P done entry → one done at ≡ Ok (entry, next)

record Rows {A B : Type 0} (bytes : List ℕ) (row_bytes : A → List ℕ) (R : A → B → Type 0) (P : List B → B → Type 0) (done : List B) (n at : ℕ) (x : List B × ℕ) : Type 0 where
  rows : List A
  entries : List B
  whole : x.0 ≡ done ++ entries
  count : length rows ≡ n
  each : Match R rows entries
  stands : Stands bytes at (flat_map row_bytes rows) x.1
  along : Along P done entries

rows_stand : {A B F : Type 0} (bytes : List ℕ) (row_bytes : A → List ℕ) (R : A → B → Type 0) (P : List B → B → Type 0) (one : List B → ℕ → Result (B × ℕ) F)
    → EntryStands bytes row_bytes R P one → (done : List B) (n at : ℕ) (x : List B × ℕ) → at ≤ length bytes → each_at one done n at ≡ Ok x → Rows bytes row_bytes R P done n at x
unfolding each_at
rows_stand bytes row_bytes R P one law done zero at x le e =
    subst (Rows bytes row_bytes R P done 0 at) (ok_is _ _ e) (record {
      rows = [];
      entries = [];
      whole = sym (append-nil done);
      count = refl;
      each = tt;
      stands = Stands-nothing bytes at le;
      along = tt;
    })
rows_stand bytes row_bytes R P one law done (suc n) at x le e =
    let s = bind_ok (one done at) _ x e in
    let r = law done at s.0 s.1 in
    let others = rows_stand bytes row_bytes R P one law (done ++ s.0.0 ∷ []) n s.0.1 x r.stands.within s.2 in
    record {
      rows = r.row ∷ others.rows;
      entries = s.0.0 ∷ others.entries;
      whole = others.whole ∙ append_assoc done (s.0.0 ∷ []) others.entries;
      count = ap suc others.count;
      each = (r.is, others.each);
      stands = join r.stands others.stands;
      along = (r.fresh, others.along);
    }

rows_read : {A B F : Type 0} (bytes : List ℕ) (row_bytes : A → List ℕ) (R : A → B → Type 0) (P : List B → B → Type 0) (one : List B → ℕ → Result (B × ℕ) F)
    → EntryReads bytes row_bytes R P one → (done : List B) (rows : List A) (entries : List B) (at next : ℕ) → Match R rows entries
    → Stands bytes at (flat_map row_bytes rows) next → Along P done entries → each_at one done (length rows) at ≡ Ok (done ++ entries, next)
unfolding each_at
rows_read bytes row_bytes R P one law done [] [] at next m s a =
    let end : at ≡ next = omega (arith, s.ends) in
    rw (append-nil done, end) refl
rows_read bytes row_bytes R P one law done [] (e ∷ es) at next m s a = absurd m
rows_read bytes row_bytes R P one law done (r ∷ rs) [] at next m s a = absurd m
rows_read bytes row_bytes R P one law done (r ∷ rs) (e ∷ es) at next m s a =
    let s1 = first (row_bytes r) (flat_map row_bytes rs) s in
    let s2 = second (row_bytes r) (flat_map row_bytes rs) s in
    let one_read = law done at (at + length (row_bytes r)) r e m.0 s1 a.0 in
    let others = rows_read bytes row_bytes R P one law (done ++ e ∷ []) rs es (at + length (row_bytes r)) next m.1 s2 a.1 in
    bind_to _ one_read (others ∙ ap (λ all. Ok (all, next)) (append_assoc done (e ∷ []) es))

-- ---- with their count

pub record Table {A B : Type 0} (bytes : List ℕ) (row_bytes : A → List ℕ) (R : A → B → Type 0) (P : List B → B → Type 0) (at : ℕ) (x : List B × ℕ) : Type 0 where
  pub rows : List A
  pub few : length rows < 65536
  pub each : Match R rows x.0
  pub along : Along P [] x.0
  pub stands : Stands bytes at (counted row_bytes rows) x.1

pub table_stands : {A B F : Type 0} (short : ℕ → F) (bytes : List ℕ) (row_bytes : A → List ℕ) (R : A → B → Type 0) (P : List B → B → Type 0) (one : List B → ℕ → Result (B × ℕ) F)
    → EntryStands bytes row_bytes R P one → (at : ℕ) (x : List B × ℕ) → IsBytes bytes
    → (number_at short 2 bytes at >>= λ count. each_at one [] count.0 count.1) ≡ Ok x → Table bytes row_bytes R P at x
table_stands short bytes row_bytes R P one law at x b e =
    let s = bind_ok (number_at short 2 bytes at) _ x e in
    let number = number_in short 2 bytes at s.0 b s.1 in
    let t = rows_stand bytes row_bytes R P one law [] s.0.0 s.0.1 x number.stands.within s.2 in
    record {
      rows = t.rows;
      few = subst (λ k. k < 65536) (sym t.count) number.small;
      each = subst (λ es. Match R t.rows es) (sym t.whole) t.each;
      along = subst (λ es. Along P [] es) (sym t.whole) t.along;
      stands = join (known (length t.rows) (sym t.count) number) t.stands;
    }

pub table_reads : {A B F : Type 0} (short : ℕ → F) (bytes : List ℕ) (row_bytes : A → List ℕ) (R : A → B → Type 0) (P : List B → B → Type 0) (one : List B → ℕ → Result (B × ℕ) F)
    → EntryReads bytes row_bytes R P one → (at next : ℕ) (rows : List A) (entries : List B) → length rows < 65536 → Match R rows entries → Along P [] entries → Stands bytes at (counted row_bytes rows) next
    → (number_at short 2 bytes at >>= λ count. each_at one [] count.0 count.1) ≡ Ok (entries, next)
table_reads short bytes row_bytes R P one law at next rows entries few each along s =
    let s1 = first (two (length rows)) (flat_map row_bytes rows) s in
    let s2 = second (two (length rows)) (flat_map row_bytes rows) s in
    bind_to _ (number_read short 2 bytes at (length rows) (at + 2) few s1) (rows_read bytes row_bytes R P one law [] rows entries (at + 2) next each s2 along)
