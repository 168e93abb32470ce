-- The contents of the attributes of a class: what is read stands there, and what stands there is read (JVMS 4.7.28 to 4.7.31).
use Rattle.std.proofs.Common.{◌≡◌, ℕ, zero, suc, ◌+◌, ◌<◌, ◌≤◌, List, [], ◌∷◌, ◌++◌, length, eqb, Option, None, Some, Ok, Err, refl, sym, ap, ◌∙◌, subst, arith}
use Rattle.std.specs.Prelude.{⊤}
use Rattle.std.specs.List.{flat_map, AllByRecursion}
use Rattle.std.specs.Option.{option_and_then}
use Rattle.std.proofs.lemmas.Bool.{eqb-true, eq-eqb}
use Rattle.jl_logic.specs.Lists.{Match}
use Rattle.jl_reading.specs.Reading.{Stands, IsBytes, number_at, steps_at, two, counted}
use Rattle.jl_reading.proofs.Steps.{bind_ok, ok_is, bind_to, else_ok}
use Rattle.jl_reading.proofs.Stands.{Along, Stands-nothing}
use Rattle.jl_reading.proofs.Standing.{number_in, number_read, join, first, second, known, ends_at}
use Rattle.jl_reading.proofs.Tables.{EntryStands, EntryReads, Table, table_stands, table_reads}
use Rattle.jl_names.specs.Names.{names_a_field}
use Rattle.jl_optable.specs.declared.attributes.AttrForm.{AttrForm}
use Rattle.jl_pool.specs.declared.entry.Entry.{Entry}
use Rattle.jl_pool.specs.Pool.{text_of, text_that, class_named}
use Rattle.jl_classfile.specs.Attributes.{attributes_at, some_or}
use Rattle.jl_classfile.specs.Spelling.{Attribute, AreAttributes, HasName, attribute_bytes}
use Rattle.jl_classfile.proofs.AttributeLaws.{AreRead, Laws, forms_of, some_ok, attributes_stand, attributes_again}
use Rattle.jl_class.specs.declared.fault.ClassFault.{ClassFault}
use Rattle.jl_class.specs.declared.fault.ClassFault.TheVariants as faults
use Rattle.jl_class.specs.Faults.{cut_in}
use Rattle.jl_class.specs.Meaning.{describes_a_field}
use Rattle.jl_class.specs.Spelling.{Component, IsComponent, IsRecord, IsHost, AreClasses, component_bytes}
use Rattle.jl_class.specs.Reading.{named_in, whole, host_at, listed_at, classes_at, one_at, passing_reader, component_at, each_component_at, components_at, record_at}

-- ---- names

pub record NamedIn {A : Type 0} (named : ℕ → Option A) (bytes : List ℕ) (at : ℕ) (x : A × ℕ) : Type 0 where
  pub index : ℕ
  pub is : HasName named index x.0
  pub stands : Stands bytes at (two index) x.1

in_stands : {A : Type 0} (place : ℕ) (named : ℕ → Option A) (bytes : List ℕ) (at : ℕ) (x : A × ℕ) → IsBytes bytes → named_in place named bytes at ≡ Ok x → NamedIn named bytes at x
unfolding named_in
in_stands place named bytes at x b e =
    let s1 = bind_ok (number_at (cut_in place) 2 bytes at) _ x e in
    let s2 = bind_ok (some_or (faults.Attribute place) (named s1.0.0)) _ x s1.2 in
    let n = number_in (cut_in place) 2 bytes at s1.0 b s1.1 in
    subst (NamedIn named bytes at) (ok_is (s2.0, s1.0.1) x s2.2) (record {
      index = s1.0.0;
      is = (n.small, some_ok (faults.Attribute place) (named s1.0.0) s2.0 s2.1);
      stands = n.stands;
    })

in_reads : {A : Type 0} (place : ℕ) (named : ℕ → Option A) (bytes : List ℕ) (at index next : ℕ) (name : A) → HasName named index name → Stands bytes at (two index) next → named_in place named bytes at ≡ Ok (name, next)
unfolding named_in
in_reads place named bytes at index next name h s = bind_to _ (number_read (cut_in place) 2 bytes at index next h.0 s) (rw h.1 refl)

-- all of a content was read
record Whole {A : Type 0} (bytes : List ℕ) (x : A × ℕ) (y : A) : Type 0 where
  ends : x.1 ≡ length bytes
  is : x.0 ≡ y

whole_ok : {A : Type 0} (place : ℕ) (bytes : List ℕ) (x : A × ℕ) (y : A) → whole place bytes x ≡ Ok y → Whole bytes x y
whole_ok place bytes x y e =
    let g = else_ok (eqb x.1 (length bytes)) (faults.Attribute place) (Ok x.0) y e in
    record { ends = eqb-true x.1 (length bytes) g.0; is = ok_is x.0 y g.1 }

whole_is : {A : Type 0} (place : ℕ) (bytes : List ℕ) (x : A) → whole place bytes (x, length bytes) ≡ Ok x
whole_is place bytes x = rw (eq-eqb (length bytes) (length bytes) refl) refl

-- ---- a host

pub host_stands : (pool : List Entry) (place : ℕ) (bytes : List ℕ) (at : ℕ) (v : List ℕ) → IsBytes bytes → host_at pool place bytes at ≡ Ok v → (content : List ℕ) × IsHost pool content v × Stands bytes at content (length bytes)
unfolding host_at
host_stands pool place bytes at v b e =
    let s = bind_ok (named_in place (class_named pool) bytes at) (whole place bytes) v e in
    let n = in_stands place (class_named pool) bytes at s.0 b s.1 in
    let w = whole_ok place bytes s.0 v s.2 in
    (two n.index, (n.index, refl, subst (λ name. HasName (class_named pool) n.index name) w.is n.is), ends_at (length bytes) w.ends n.stands)

pub host_reads : (pool : List Entry) (place : ℕ) (bytes : List ℕ) (at : ℕ) (v content : List ℕ) → IsHost pool content v → Stands bytes at content (length bytes) → host_at pool place bytes at ≡ Ok v
unfolding host_at
host_reads pool place bytes at v content h s =
    bind_to _ (in_reads place (class_named pool) bytes at h.0 (length bytes) v h.2 (subst (λ t. Stands bytes at t (length bytes)) h.1 s)) (whole_is place bytes v)

-- ---- lists of classes

abbrev Anything : List (List ℕ) → List ℕ → Type 0
Anything done name = ⊤

class_stands : (pool : List Entry) (place : ℕ) (bytes : List ℕ) → IsBytes bytes → EntryStands bytes two (HasName (class_named pool)) Anything (λ done. named_in place (class_named pool) bytes)
class_stands pool place bytes b done at x e = let n = in_stands place (class_named pool) bytes at x b e in record { row = n.index; is = n.is; stands = n.stands; fresh = tt }

class_reads : (pool : List Entry) (place : ℕ) (bytes : List ℕ) → EntryReads bytes two (HasName (class_named pool)) Anything (λ done. named_in place (class_named pool) bytes)
class_reads pool place bytes done at next index name h s fresh = in_reads place (class_named pool) bytes at index next name h s

all_along : (done names : List (List ℕ)) → Along Anything done names
all_along done [] = tt
all_along done (n ∷ ns) = (tt, all_along (done ++ n ∷ []) ns)

listed_stand : (pool : List Entry) (place : ℕ) (bytes : List ℕ) (at : ℕ) (x : List (List ℕ) × ℕ) → IsBytes bytes → listed_at pool place bytes at ≡ Ok x → Table bytes two (HasName (class_named pool)) Anything at x
unfolding listed_at
listed_stand pool place bytes at x b e = table_stands (cut_in place) bytes two (HasName (class_named pool)) Anything (λ done. named_in place (class_named pool) bytes) (class_stands pool place bytes b) at x b e

listed_read : (pool : List Entry) (place : ℕ) (bytes : List ℕ) (at next : ℕ) (indices : List ℕ) (names : List (List ℕ)) → length indices < 65536 → Match (HasName (class_named pool)) indices names → Stands bytes at (counted two indices) next
    → listed_at pool place bytes at ≡ Ok (names, next)
unfolding listed_at
listed_read pool place bytes at next indices names few each s =
    table_reads (cut_in place) bytes two (HasName (class_named pool)) Anything (λ done. named_in place (class_named pool) bytes) (class_reads pool place bytes) at next indices names few each (all_along [] names) s

pub classes_stand : (pool : List Entry) (place : ℕ) (bytes : List ℕ) (at : ℕ) (v : List (List ℕ)) → IsBytes bytes → classes_at pool place bytes at ≡ Ok v → (content : List ℕ) × AreClasses pool content v × Stands bytes at content (length bytes)
unfolding classes_at
classes_stand pool place bytes at v b e =
    let s = bind_ok (listed_at pool place bytes at) (whole place bytes) v e in
    let t = listed_stand pool place bytes at s.0 b s.1 in
    let w = whole_ok place bytes s.0 v s.2 in
    (counted two t.rows, record { indices = t.rows; is = refl; few = t.few; each = subst (λ names. Match (HasName (class_named pool)) t.rows names) w.is t.each }, ends_at (length bytes) w.ends t.stands)

pub classes_read : (pool : List Entry) (place : ℕ) (bytes : List ℕ) (at : ℕ) (v : List (List ℕ)) (content : List ℕ) → AreClasses pool content v → Stands bytes at content (length bytes) → classes_at pool place bytes at ≡ Ok v
unfolding classes_at
classes_read pool place bytes at v content a s =
    bind_to _ (listed_read pool place bytes at (length bytes) a.indices v a.few a.each (subst (λ t. Stands bytes at t (length bytes)) a.is s)) (whole_is place bytes v)

-- ---- components of a record

abbrev Never : AttrForm → List ℕ → ℕ → Type 0
Never form content v = ⊥

not_read : {V : Type 0} (f : ClassFault) (v : V) → Err f ≡ Ok v → ⊥
not_read f v e = absurd cc

passing_laws : Laws passing_reader Never
passing_laws = record {
  stand = λ k place bytes at v b le e. absurd (not_read (faults.Attribute place) v e);
  read = λ k place bytes at v content m s. absurd m;
}

no_form : (o : Option (List ℕ)) → option_and_then passing_reader.form o ≡ None
no_form None = refl
no_form (Some name) = refl

none_formed : (pool : List Entry) (attributes : List Attribute) → AreRead Never passing_reader.may_stand [] (forms_of passing_reader.form pool attributes) []
none_formed pool [] = tt
none_formed pool (a ∷ others) = rw (no_form (text_of pool a.index)) (none_formed pool others)

record Passed (pool : List Entry) (bytes : List ℕ) (at next : ℕ) : Type 0 where
  attributes : List Attribute
  are : AreAttributes pool attributes
  stands : Stands bytes at (counted attribute_bytes attributes) next

passed_stand : (pool : List Entry) (place : ℕ) (bytes : List ℕ) (at : ℕ) (x : Option ℕ × ℕ) → IsBytes bytes → one_at passing_reader (cut_in place) pool bytes at ≡ Ok x → Passed pool bytes at x.1
unfolding one_at
passed_stand pool place bytes at x b e =
    let s1 = bind_ok (number_at (cut_in place) 2 bytes at) _ x e in
    let s2 = bind_ok (attributes_at passing_reader pool s1.0.0 bytes s1.0.1) _ x s1.2 in
    let a = attributes_stand (cut_in place) passing_reader Never passing_laws pool bytes at s1.0 s2.0 b s1.1 s2.1 in
    subst (λ (y : Option ℕ × ℕ). Passed pool bytes at y.1) (ok_is _ _ s2.2) (record { attributes = a.attributes; are = a.are; stands = a.stands })

passed_again : (pool : List Entry) (place : ℕ) (bytes : List ℕ) (at next : ℕ) (attributes : List Attribute) → AreAttributes pool attributes → Stands bytes at (counted attribute_bytes attributes) next
    → one_at passing_reader (cut_in place) pool bytes at ≡ Ok (None, next)
unfolding one_at
passed_again pool place bytes at next attributes are s =
    let t = attributes_again (cut_in place) passing_reader Never passing_laws pool bytes at next attributes [] are (none_formed pool attributes) s in
    bind_to _ t.0 (bind_to _ t.1 refl)

record ComponentStands (pool : List Entry) (bytes : List ℕ) (at next : ℕ) : Type 0 where
  row : Component
  is : IsComponent pool row
  stands : Stands bytes at (component_bytes row) next

component_stands : (pool : List Entry) (place : ℕ) (bytes : List ℕ) (at : ℕ) (x : ⊤ × ℕ) → IsBytes bytes → component_at pool place bytes at ≡ Ok x → ComponentStands pool bytes at x.1
unfolding component_at
component_stands pool place bytes at x b e =
    let s1 = bind_ok (named_in place (text_that names_a_field pool) bytes at) _ x e in
    let s2 = bind_ok (named_in place (text_that describes_a_field pool) bytes s1.0.1) _ x s1.2 in
    let s3 = bind_ok (one_at passing_reader (cut_in place) pool bytes s2.0.1) _ x s2.2 in
    let n = in_stands place (text_that names_a_field pool) bytes at s1.0 b s1.1 in
    let d = in_stands place (text_that describes_a_field pool) bytes s1.0.1 s2.0 b s2.1 in
    let a = passed_stand pool place bytes s2.0.1 s3.0 b s3.1 in
    subst (λ (y : ⊤ × ℕ). ComponentStands pool bytes at y.1) (ok_is _ _ s3.2) (record {
      row = record { name = n.index; desc = d.index; attributes = a.attributes };
      is = record { named = (s1.0.0, n.is); described = (s2.0.0, d.is); attributes = a.are };
      stands = join n.stands (join d.stands a.stands);
    })

component_reads : (pool : List Entry) (place : ℕ) (bytes : List ℕ) (at next : ℕ) (c : Component) → IsComponent pool c → Stands bytes at (component_bytes c) next → component_at pool place bytes at ≡ Ok (tt, next)
unfolding component_at
component_reads pool place bytes at next c is s =
    let attributes = counted attribute_bytes c.attributes in
    let s1 = first (two c.name) (two c.desc ++ attributes) s in
    let r1 = second (two c.name) (two c.desc ++ attributes) s in
    let s2 = first (two c.desc) attributes r1 in
    let s3 = second (two c.desc) attributes r1 in
    bind_to _ (in_reads place (text_that names_a_field pool) bytes at c.name (at + 2) is.named.0 is.named.1 s1)
    (bind_to _ (in_reads place (text_that describes_a_field pool) bytes (at + 2) c.desc (at + 2 + 2) is.described.0 is.described.1 s2)
    (bind_to _ (passed_again pool place bytes (at + 2 + 2) next c.attributes is.attributes s3) refl))

record Components (pool : List Entry) (bytes : List ℕ) (n at next : ℕ) : Type 0 where
  rows : List Component
  count : length rows ≡ n
  each : AllByRecursion (IsComponent pool) rows
  stands : Stands bytes at (flat_map component_bytes rows) next

run_stands : (pool : List Entry) (place : ℕ) (bytes : List ℕ) (n at : ℕ) (done : ⊤) (x : ⊤ × ℕ) → IsBytes bytes → at ≤ length bytes → steps_at (λ u. component_at pool place bytes) n done at ≡ Ok x → Components pool bytes n at x.1
unfolding steps_at
run_stands pool place bytes zero at done x b le e =
    subst (λ (y : ⊤ × ℕ). Components pool bytes 0 at y.1) (ok_is _ _ e) (record { rows = []; count = refl; each = tt; stands = Stands-nothing bytes at le })
run_stands pool place bytes (suc n) at done x b le e =
    let s = bind_ok (component_at pool place bytes at) _ x e in
    let c = component_stands pool place bytes at s.0 b s.1 in
    let others = run_stands pool place bytes n s.0.1 s.0.0 x b c.stands.within s.2 in
    record { rows = c.row ∷ others.rows; count = ap suc others.count; each = (c.is, others.each); stands = join c.stands others.stands }

run_again : (pool : List Entry) (place : ℕ) (bytes : List ℕ) (rows : List Component) (at next : ℕ) → AllByRecursion (IsComponent pool) rows → Stands bytes at (flat_map component_bytes rows) next
    → steps_at (λ u. component_at pool place bytes) (length rows) tt at ≡ Ok (tt, next)
unfolding steps_at
run_again pool place bytes [] at next each s =
    let end : at ≡ next = omega (arith, s.ends) in
    rw end refl
run_again pool place bytes (c ∷ rows) at next each s =
    let s1 = first (component_bytes c) (flat_map component_bytes rows) s in
    let s2 = second (component_bytes c) (flat_map component_bytes rows) s in
    bind_to _ (component_reads pool place bytes at (at + length (component_bytes c)) c each.0 s1) (run_again pool place bytes rows (at + length (component_bytes c)) next each.1 s2)

pub record_stands : (pool : List Entry) (place : ℕ) (bytes : List ℕ) (at : ℕ) (v : ⊤) → IsBytes bytes → record_at pool place bytes at ≡ Ok v → (content : List ℕ) × IsRecord pool content v × Stands bytes at content (length bytes)
unfolding record_at components_at each_component_at
record_stands pool place bytes at v b e =
    let s = bind_ok (components_at pool place bytes at) (whole place bytes) v e in
    let c = bind_ok (number_at (cut_in place) 2 bytes at) _ s.0 s.1 in
    let n = number_in (cut_in place) 2 bytes at c.0 b c.1 in
    let run = run_stands pool place bytes c.0.0 c.0.1 tt s.0 b n.stands.within c.2 in
    let w = whole_ok place bytes s.0 v s.2 in (
      counted component_bytes run.rows,
      record { components = run.rows; is = refl; few = subst (λ k. k < 65536) (sym run.count) n.small; each = run.each },
      ends_at (length bytes) w.ends (join (known (length run.rows) (sym run.count) n) run.stands),
    )

only_unit : (v : ⊤) → tt ≡ v
only_unit v = refl

pub record_reads : (pool : List Entry) (place : ℕ) (bytes : List ℕ) (at : ℕ) (v : ⊤) (content : List ℕ) → IsRecord pool content v → Stands bytes at content (length bytes) → record_at pool place bytes at ≡ Ok v
unfolding record_at components_at each_component_at
record_reads pool place bytes at v content r s =
    let all : Stands bytes at (counted component_bytes r.components) (length bytes) = subst (λ t. Stands bytes at t (length bytes)) r.is s in
    let s1 = first (two (length r.components)) (flat_map component_bytes r.components) all in
    let s2 = second (two (length r.components)) (flat_map component_bytes r.components) all in
    bind_to _ (bind_to _ (number_read (cut_in place) 2 bytes at (length r.components) (at + 2) r.few s1) (run_again pool place bytes r.components (at + 2) (length bytes) r.each s2)) (whole_is place bytes tt ∙ ap (λ u. Ok u) (only_unit v))
