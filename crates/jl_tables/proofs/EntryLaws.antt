-- The content of a Module attribute: what is read stands there, and what stands there is read.
use Rattle.std.proofs.Common.{◌≡◌, ℕ, ◌+◌, ◌<◌, List, [], ◌++◌, length, map, eqb, Option, None, Some, Ok, refl, sym, ap, ◌∙◌, subst}
use Rattle.std.specs.Prelude.{Contains, codes}
use Rattle.std.specs.List.{flat_map}
use Rattle.std.proofs.lemmas.Bool.{eq-eqb, ne_eqb}
use Rattle.std.proofs.lemmas.List.{map-id, nil_from_length}
use Rattle.jl_logic.specs.Lists.{AreDistinct}
use Rattle.jl_reading.specs.Reading.{Stands, IsBytes, number_at, two, counted}
use Rattle.jl_reading.proofs.Steps.{bind_ok, guard_ok, ok_is, bind_to}
use Rattle.jl_prim.specs.declared.declaration.Requires.{Requires}
use Rattle.jl_prim.specs.declared.declaration.Grant.{Grant}
use Rattle.jl_prim.specs.declared.declaration.Provides.{Provides}
use Rattle.jl_pool.specs.declared.entry.Entry.{Entry}
use Rattle.jl_tables.specs.declared.fault.InfoFault.TheVariants as faults
use Rattle.jl_tables.specs.Faults.{short, named_or}
use Rattle.jl_tables.specs.Meaning.{module_named, version_named, is_set, is_among, targets_of}
use Rattle.jl_pool.specs.Pool.{class_named}
use Rattle.jl_classfile.specs.Spelling.{IsTable}
use Rattle.jl_tables.specs.Spelling.{RequiresRow, GrantRow, ProvidesRow, Names, NameAll, IsRequires, IsProvides, requires_bytes, grant_bytes, provides_bytes}
use Rattle.jl_tables.specs.Reading.{name_at, new_name_at, names_at, version_at, requires_at, requires_table_at, grant_at, grants_at, implementations_at, provides_at, provides_table_at}
use Rattle.jl_tables.proofs.NameLaws.{not_among, among_not}
use Rattle.jl_reading.proofs.Standing.{Number, number_in, number_read, join, first, second}
use Rattle.jl_reading.proofs.Tables.{Row, EntryStands, EntryReads, Table, table_stands}
use Rattle.jl_tables.proofs.TableLaws.{Fresh, is_table, is_read}

abbrev pub Naming : Type 0
Naming = List Entry → ℕ → Option (List ℕ)

-- ---- indices

pub named_ok : {A : Type 0} (at : ℕ) (o : Option A) (x : A) → named_or at o ≡ Ok x → o ≡ Some x
named_ok at None x e = absurd cc
named_ok at (Some y) x e = ap (λ z. Some z) (ok_is y x e)

pub record Named (named : Naming) (pool : List Entry) (bytes : List ℕ) (at : ℕ) (x : List ℕ × ℕ) : Type 0 where
  pub index : ℕ
  pub is : Names named pool index x.0
  pub stands : Stands bytes at (two index) x.1

pub name_stands : (named : Naming) (pool : List Entry) (bytes : List ℕ) (at : ℕ) (x : List ℕ × ℕ) → IsBytes bytes → name_at named pool bytes at ≡ Ok x → Named named pool bytes at x
unfolding name_at
name_stands named pool bytes at x b e =
    let s1 = bind_ok (number_at short 2 bytes at) _ x e in
    let s2 = bind_ok (named_or at (named pool s1.0.0)) _ x s1.2 in
    let n = number_in short 2 bytes at s1.0 b s1.1 in
    let is : (s2.0, s1.0.1) ≡ x = ok_is _ _ s2.2 in
    subst (Named named pool bytes at) is (record {
      index = s1.0.0;
      is = (n.small, named_ok at (named pool s1.0.0) s2.0 s2.1);
      stands = n.stands;
    })

pub name_reads : (named : Naming) (pool : List Entry) (bytes : List ℕ) (at index next : ℕ) (name : List ℕ) → Names named pool index name → Stands bytes at (two index) next
    → name_at named pool bytes at ≡ Ok (name, next)
unfolding name_at
name_reads named pool bytes at index next name n s = bind_to _ (number_read short 2 bytes at index next n.0 s) (rw n.1 refl)

pub record Versioned (pool : List Entry) (bytes : List ℕ) (at : ℕ) (x : Option (List ℕ) × ℕ) : Type 0 where
  pub index : ℕ
  pub number : Number 2 bytes at index x.1
  pub named : version_named pool index ≡ Some x.0

pub version_stands : (pool : List Entry) (bytes : List ℕ) (at : ℕ) (x : Option (List ℕ) × ℕ) → IsBytes bytes → version_at pool bytes at ≡ Ok x → Versioned pool bytes at x
unfolding version_at
version_stands pool bytes at x b e =
    let s1 = bind_ok (number_at short 2 bytes at) _ x e in
    let s2 = bind_ok (named_or at (version_named pool s1.0.0)) _ x s1.2 in
    let is : (s2.0, s1.0.1) ≡ x = ok_is _ _ s2.2 in
    subst (Versioned pool bytes at) is (record {
      index = s1.0.0;
      number = number_in short 2 bytes at s1.0 b s1.1;
      named = named_ok at (version_named pool s1.0.0) s2.0 s2.1;
    })

pub version_reads : (pool : List Entry) (bytes : List ℕ) (at index next : ℕ) (version : Option (List ℕ)) → index < 65536 → Stands bytes at (two index) next → version_named pool index ≡ Some version
    → version_at pool bytes at ≡ Ok (version, next)
unfolding version_at
version_reads pool bytes at index next version small s named = bind_to _ (number_read short 2 bytes at index next small s) (rw named refl)

-- ---- names that a table has once

record NewName (named : Naming) (pool : List Entry) (bytes : List ℕ) (done : List (List ℕ)) (at : ℕ) (x : List ℕ × ℕ) : Type 0 where
  name : Named named pool bytes at x
  fresh : Contains done x.0 → ⊥

new_name_stands : (table : List ℕ) (named : Naming) (pool : List Entry) (bytes : List ℕ) (done : List (List ℕ)) (at : ℕ) (x : List ℕ × ℕ) → IsBytes bytes
    → new_name_at table named pool bytes done at ≡ Ok x → NewName named pool bytes done at x
unfolding new_name_at
new_name_stands table named pool bytes done at x b e =
    let s = bind_ok (name_at named pool bytes at) _ x e in
    let g = guard_ok (is_among s.0.0 done) (faults.Repeated table s.0.0) (Ok s.0) x s.2 in
    subst (NewName named pool bytes done at) (ok_is _ _ g.1) (record {
      name = name_stands named pool bytes at s.0 b s.1;
      fresh = not_among s.0.0 done g.0;
    })

new_name_reads : (table : List ℕ) (named : Naming) (pool : List Entry) (bytes : List ℕ) (done : List (List ℕ)) (at index next : ℕ) (name : List ℕ) → Names named pool index name
    → Stands bytes at (two index) next → (Contains done name → ⊥) → new_name_at table named pool bytes done at ≡ Ok (name, next)
unfolding new_name_at
new_name_reads table named pool bytes done at index next name n s fresh = bind_to _ (name_reads named pool bytes at index next name n s) (rw (among_not name done fresh) refl)

abbrev itself : List ℕ → List ℕ
itself name = name

each_name_stands : (table : List ℕ) (named : Naming) (pool : List Entry) (bytes : List ℕ) → IsBytes bytes → EntryStands bytes two (Names named pool) (Fresh itself) (new_name_at table named pool bytes)
each_name_stands table named pool bytes b done at x e =
    let n = new_name_stands table named pool bytes done at x b e in
    record {
      row = n.name.index;
      is = n.name.is;
      stands = n.name.stands;
      fresh = subst (λ all. Contains all x.0 → ⊥) (sym (map-id done)) n.fresh;
    }

each_name_reads : (table : List ℕ) (named : Naming) (pool : List Entry) (bytes : List ℕ) → EntryReads bytes two (Names named pool) (Fresh itself) (new_name_at table named pool bytes)
each_name_reads table named pool bytes done at next index name n s fresh = new_name_reads table named pool bytes done at index next name n s (subst (λ all. Contains all name → ⊥) (map-id done) fresh)

pub record NameTable (named : Naming) (pool : List Entry) (bytes : List ℕ) (at : ℕ) (x : List (List ℕ) × ℕ) : Type 0 where
  pub indices : List ℕ
  pub all : NameAll named pool indices x.0
  pub stands : Stands bytes at (counted two indices) x.1

pub names_stand : (table : List ℕ) (named : Naming) (pool : List Entry) (bytes : List ℕ) (at : ℕ) (x : List (List ℕ) × ℕ) → IsBytes bytes → names_at table named pool bytes at ≡ Ok x
    → NameTable named pool bytes at x
unfolding names_at
names_stand table named pool bytes at x b e =
    let t = table_stands short bytes two (Names named pool) (Fresh itself) (new_name_at table named pool bytes) (each_name_stands table named pool bytes b) at x b e in
    record { indices = t.rows; all = record { few = t.few; each = t.each; distinct = subst AreDistinct (map-id x.0) (is_table itself t).distinct }; stands = t.stands }

pub names_read : (table : List ℕ) (named : Naming) (pool : List Entry) (bytes : List ℕ) (at next : ℕ) (indices : List ℕ) (names : List (List ℕ)) → NameAll named pool indices names
    → Stands bytes at (counted two indices) next → names_at table named pool bytes at ≡ Ok (names, next)
unfolding names_at
names_read table named pool bytes at next indices names n s =
    is_read short bytes two (Names named pool) itself (new_name_at table named pool bytes) (each_name_reads table named pool bytes) at next indices names (record { few = n.few; each = n.each; distinct = subst AreDistinct (sym (map-id names)) n.distinct }) s

-- ---- requires

abbrev pub required_name : Requires → List ℕ
required_name r = r.name

requires_stand : (pool : List Entry) (bytes : List ℕ) → IsBytes bytes → EntryStands bytes requires_bytes (IsRequires pool) (Fresh required_name) (requires_at pool bytes)
unfolding requires_at
requires_stand pool bytes b done at x e =
    let s1 = bind_ok (new_name_at (codes "requires") module_named pool bytes (map required_name done) at) _ x e in
    let s2 = bind_ok (number_at short 2 bytes s1.0.1) _ x s1.2 in
    let s3 = bind_ok (version_at pool bytes s2.0.1) _ x s2.2 in
    let n1 = new_name_stands (codes "requires") module_named pool bytes (map required_name done) at s1.0 b s1.1 in
    let n2 = number_in short 2 bytes s1.0.1 s2.0 b s2.1 in
    let n3 = version_stands pool bytes s2.0.1 s3.0 b s3.1 in
    let entry : Requires = record { name = s1.0.0; transitive = is_set s2.0.0 0x20; is_static = is_set s2.0.0 0x40 } in
    subst (Row bytes requires_bytes (IsRequires pool) (Fresh required_name) done at) {x = (entry, s3.0.1)} {y = x} (ok_is (entry, s3.0.1) x s3.2) (record {
      row = record { index = n1.name.index; flags = s2.0.0; version = n3.index };
      is = record {
        fits = (n2.small, n3.number.small);
        named = n1.name.is;
        version = (s3.0.0, n3.named);
        transitive = refl;
        is_static = refl;
      };
      stands = join n1.name.stands (join n2.stands n3.number.stands);
      fresh = n1.fresh;
    })

requires_read : (pool : List Entry) (bytes : List ℕ) → EntryReads bytes requires_bytes (IsRequires pool) (Fresh required_name) (requires_at pool bytes)
unfolding requires_at
requires_read pool bytes done at next row entry d s fresh =
    let s1 = first (two row.index) (two row.flags ++ two row.version) s in
    let r1 = second (two row.index) (two row.flags ++ two row.version) s in
    let s2 = first (two row.flags) (two row.version) r1 in
    let s3 = second (two row.flags) (two row.version) r1 in
    let n1 = new_name_reads (codes "requires") module_named pool bytes (map required_name done) at row.index (at + 2) entry.name d.named s1 fresh in
    let n2 = number_read short 2 bytes (at + 2) row.flags (at + 2 + 2) d.fits.0 s2 in
    let n3 = version_reads pool bytes (at + 2 + 2) row.version next d.version.0 d.fits.1 s3 d.version.1 in
    bind_to _ n1 (bind_to _ n2 (bind_to _ n3 (rw (sym d.transitive, sym d.is_static) refl)))

pub requires_table_stands : (pool : List Entry) (bytes : List ℕ) (at : ℕ) (x : List Requires × ℕ) → IsBytes bytes → requires_table_at pool bytes at ≡ Ok x
    → Table bytes requires_bytes (IsRequires pool) (Fresh required_name) at x
unfolding requires_table_at
requires_table_stands pool bytes at x b e = table_stands short bytes requires_bytes (IsRequires pool) (Fresh required_name) (requires_at pool bytes) (requires_stand pool bytes b) at x b e

pub requires_table_reads : (pool : List Entry) (bytes : List ℕ) (at next : ℕ) (rows : List RequiresRow) (entries : List Requires) → IsTable (IsRequires pool) required_name rows entries
    → Stands bytes at (counted requires_bytes rows) next → requires_table_at pool bytes at ≡ Ok (entries, next)
unfolding requires_table_at
requires_table_reads pool bytes at next rows entries t s = is_read short bytes requires_bytes (IsRequires pool) required_name (requires_at pool bytes) (requires_read pool bytes) at next rows entries t s

-- ---- exports and opens

-- a grant whose package is named so
pub record GrantBy (named : Naming) (pool : List Entry) (r : GrantRow) (e : Grant) : Type 0 where
  pub fits : r.flags < 65536
  pub is : Names named pool r.index e.«package»
  pub targets : List (List ℕ)
  pub to : e.to ≡ targets_of targets
  pub all : NameAll module_named pool r.targets targets

abbrev pub granted_package : Grant → List ℕ
granted_package g = g.«package»

grant_stands : (table : List ℕ) (named : Naming) (pool : List Entry) (bytes : List ℕ) → IsBytes bytes → EntryStands bytes grant_bytes (GrantBy named pool) (Fresh granted_package) (grant_at table named pool bytes)
unfolding grant_at
grant_stands table named pool bytes b done at x e =
    let s1 = bind_ok (new_name_at table named pool bytes (map granted_package done) at) _ x e in
    let s2 = bind_ok (number_at short 2 bytes s1.0.1) _ x s1.2 in
    let s3 = bind_ok (names_at (codes "targets") module_named pool bytes s2.0.1) _ x s2.2 in
    let n1 = new_name_stands table named pool bytes (map granted_package done) at s1.0 b s1.1 in
    let n2 = number_in short 2 bytes s1.0.1 s2.0 b s2.1 in
    let n3 = names_stand (codes "targets") module_named pool bytes s2.0.1 s3.0 b s3.1 in
    let grant : Grant = record { «package» = s1.0.0; to = targets_of s3.0.0 } in
    subst (Row bytes grant_bytes (GrantBy named pool) (Fresh granted_package) done at) {x = (grant, s3.0.1)} {y = x} (ok_is (grant, s3.0.1) x s3.2) (record {
      row = record { index = n1.name.index; flags = s2.0.0; targets = n3.indices };
      is = record {
        fits = n2.small;
        is = n1.name.is;
        targets = s3.0.0;
        to = refl;
        all = n3.all;
      };
      stands = join n1.name.stands (join n2.stands n3.stands);
      fresh = n1.fresh;
    })

grant_reads : (table : List ℕ) (named : Naming) (pool : List Entry) (bytes : List ℕ) → EntryReads bytes grant_bytes (GrantBy named pool) (Fresh granted_package) (grant_at table named pool bytes)
unfolding grant_at
grant_reads table named pool bytes done at next row entry d s fresh =
    let s1 = first (two row.index) (two row.flags ++ counted two row.targets) s in
    let r1 = second (two row.index) (two row.flags ++ counted two row.targets) s in
    let s2 = first (two row.flags) (counted two row.targets) r1 in
    let s3 = second (two row.flags) (counted two row.targets) r1 in
    let n1 = new_name_reads table named pool bytes (map granted_package done) at row.index (at + 2) entry.«package» d.is s1 fresh in
    let n2 = number_read short 2 bytes (at + 2) row.flags (at + 2 + 2) d.fits s2 in
    let n3 = names_read (codes "targets") module_named pool bytes (at + 2 + 2) next row.targets d.targets d.all s3 in
    bind_to _ n1 (bind_to _ n2 (bind_to _ n3 (rw (sym d.to) refl)))

pub grants_stand : (table : List ℕ) (named : Naming) (pool : List Entry) (bytes : List ℕ) (at : ℕ) (x : List Grant × ℕ) → IsBytes bytes → grants_at table named pool bytes at ≡ Ok x
    → Table bytes grant_bytes (GrantBy named pool) (Fresh granted_package) at x
unfolding grants_at
grants_stand table named pool bytes at x b e = table_stands short bytes grant_bytes (GrantBy named pool) (Fresh granted_package) (grant_at table named pool bytes) (grant_stands table named pool bytes b) at x b e

pub grants_read : (table : List ℕ) (named : Naming) (pool : List Entry) (bytes : List ℕ) (at next : ℕ) (rows : List GrantRow) (entries : List Grant) → IsTable (GrantBy named pool) granted_package rows entries
    → Stands bytes at (counted grant_bytes rows) next → grants_at table named pool bytes at ≡ Ok (entries, next)
unfolding grants_at
grants_read table named pool bytes at next rows entries t s =
    is_read short bytes grant_bytes (GrantBy named pool) granted_package (grant_at table named pool bytes) (grant_reads table named pool bytes) at next rows entries t s

-- ---- provides

pub record SomeNames (pool : List Entry) (bytes : List ℕ) (at : ℕ) (x : List (List ℕ) × ℕ) : Type 0 where
  pub indices : List ℕ
  pub all : NameAll class_named pool indices x.0
  pub stands : Stands bytes at (counted two indices) x.1
  pub some : indices ≡ [] → ⊥

implementations_stand : (pool : List Entry) (bytes : List ℕ) (at : ℕ) (x : List (List ℕ) × ℕ) → IsBytes bytes → implementations_at pool bytes at ≡ Ok x → SomeNames pool bytes at x
unfolding implementations_at names_at
implementations_stand pool bytes at x b e =
    let s = bind_ok (number_at short 2 bytes at) _ x e in
    let g = guard_ok (eqb s.0.0 0) (faults.BadIndex at) _ x s.2 in
    let t = names_stand (codes "implementations") class_named pool bytes at x b (bind_to _ s.1 g.1) in
    let n = number_read short 2 bytes at (length t.indices) (at + 2) t.all.few (first (two (length t.indices)) (flat_map two t.indices) t.stands) in
    let count : length t.indices ≡ s.0.0 = ap (λ (y : ℕ × ℕ). y.0) (ok_is _ _ (sym n ∙ s.1)) in
    record {
      indices = t.indices;
      all = t.all;
      stands = t.stands;
      some = λ none. absurd (cc (eq-eqb s.0.0 0 (sym count ∙ ap length none), g.0));
    }

implementations_read : (pool : List Entry) (bytes : List ℕ) (at next : ℕ) (indices : List ℕ) (names : List (List ℕ)) → NameAll class_named pool indices names → (indices ≡ [] → ⊥)
    → Stands bytes at (counted two indices) next → implementations_at pool bytes at ≡ Ok (names, next)
unfolding implementations_at names_at
implementations_read pool bytes at next indices names n some s =
    let count = number_read short 2 bytes at (length indices) (at + 2) n.few (first (two (length indices)) (flat_map two indices) s) in
    let all = names_read (codes "implementations") class_named pool bytes at next indices names n s in
    bind_to _ count (rw (ne_eqb (length indices) 0 (λ e. some (nil_from_length indices e))) (rw count at all))

abbrev pub provided_service : Provides → List ℕ
provided_service p = p.service

provides_stand : (pool : List Entry) (bytes : List ℕ) → IsBytes bytes → EntryStands bytes provides_bytes (IsProvides pool) (Fresh provided_service) (provides_at pool bytes)
unfolding provides_at
provides_stand pool bytes b done at x e =
    let s1 = bind_ok (new_name_at (codes "provides") class_named pool bytes (map provided_service done) at) _ x e in
    let s2 = bind_ok (implementations_at pool bytes s1.0.1) _ x s1.2 in
    let n1 = new_name_stands (codes "provides") class_named pool bytes (map provided_service done) at s1.0 b s1.1 in
    let n2 = implementations_stand pool bytes s1.0.1 s2.0 b s2.1 in
    let provided : Provides = record { service = s1.0.0; implementations = s2.0.0 } in
    subst (Row bytes provides_bytes (IsProvides pool) (Fresh provided_service) done at) {x = (provided, s2.0.1)} {y = x} (ok_is (provided, s2.0.1) x s2.2) (record {
      row = record { index = n1.name.index; classes = n2.indices };
      is = record { named = n1.name.is; all = n2.all; some = n2.some };
      stands = join n1.name.stands n2.stands;
      fresh = n1.fresh;
    })

provides_read : (pool : List Entry) (bytes : List ℕ) → EntryReads bytes provides_bytes (IsProvides pool) (Fresh provided_service) (provides_at pool bytes)
unfolding provides_at
provides_read pool bytes done at next row entry d s fresh =
    let s1 = first (two row.index) (counted two row.classes) s in
    let s2 = second (two row.index) (counted two row.classes) s in
    let n1 = new_name_reads (codes "provides") class_named pool bytes (map provided_service done) at row.index (at + 2) entry.service d.named s1 fresh in
    let n2 = implementations_read pool bytes (at + 2) next row.classes entry.implementations d.all d.some s2 in
    bind_to _ n1 (bind_to _ n2 refl)

pub provides_table_stands : (pool : List Entry) (bytes : List ℕ) (at : ℕ) (x : List Provides × ℕ) → IsBytes bytes → provides_table_at pool bytes at ≡ Ok x
    → Table bytes provides_bytes (IsProvides pool) (Fresh provided_service) at x
unfolding provides_table_at
provides_table_stands pool bytes at x b e = table_stands short bytes provides_bytes (IsProvides pool) (Fresh provided_service) (provides_at pool bytes) (provides_stand pool bytes b) at x b e

pub provides_table_reads : (pool : List Entry) (bytes : List ℕ) (at next : ℕ) (rows : List ProvidesRow) (entries : List Provides) → IsTable (IsProvides pool) provided_service rows entries
    → Stands bytes at (counted provides_bytes rows) next → provides_table_at pool bytes at ≡ Ok (entries, next)
unfolding provides_table_at
provides_table_reads pool bytes at next rows entries t s = is_read short bytes provides_bytes (IsProvides pool) provided_service (provides_at pool bytes) (provides_read pool bytes) at next rows entries t s
