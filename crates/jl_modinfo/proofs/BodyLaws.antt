-- The contents of attributes: what is read stands there, and what stands there is read.
use Rattle.std.proofs.Common.{◌≡◌, ℕ, ◌+◌, ◌<◌, List, [], ◌∷◌, ◌++◌, length, Bool, true, false, eqb, Some, Ok, refl, sym, ◌∙◌, subst}
use Rattle.std.specs.Prelude.{codes}
use Rattle.std.proofs.lemmas.Bool.{eqb-true, eq-eqb}
use Rattle.jl_reading.specs.Reading.{Stands, IsBytes, number_at, two, counted}
use Rattle.jl_reading.proofs.Steps.{bind_ok, ok_is, bind_to, else_ok}
use Rattle.jl_prim.specs.declared.declaration.Grant.{Grant}
use Rattle.jl_pool.specs.declared.entry.Entry.{Entry}
use Rattle.jl_modinfo.specs.declared.module.Module.{Module}
use Rattle.jl_tables.specs.declared.fault.InfoFault.TheVariants as faults
use Rattle.jl_tables.specs.Faults.{short}
use Rattle.jl_tables.specs.Meaning.{module_named, package_named, version_named, is_set}
use Rattle.jl_pool.specs.Pool.{class_named}
use Rattle.jl_classfile.specs.Spelling.{IsTable}
use Rattle.jl_modinfo.specs.Info.{Body, body_bytes}
use Rattle.jl_tables.specs.Spelling.{GrantRow, Names, NameAll, IsRequires, IsGrant, IsProvides, requires_bytes, grant_bytes, provides_bytes}
use Rattle.jl_logic.specs.Lists.{Match}
use Rattle.jl_tables.specs.Reading.{name_at, names_at, version_at, requires_table_at, grants_at, provides_table_at}
use Rattle.jl_tables.specs.Meaning.{opened_named}
use Rattle.jl_modinfo.specs.Reading.{ended, module_at, packages_at, main_at}
use Rattle.jl_reading.proofs.Standing.{number_in, number_read, join, first, second, ends_at}
use Rattle.jl_tables.proofs.TableLaws.{table_as, is_table}
use Rattle.jl_tables.proofs.EntryLaws.{name_stands, name_reads, version_stands, version_reads, names_stand, names_read, requires_table_stands, requires_table_reads, GrantBy, granted_package, grants_stand, grants_read, provides_table_stands, provides_table_reads, required_name, provided_service}

-- ---- all of the bytes

record Ended {A : Type 0} (bytes : List ℕ) (x : A × ℕ) (y : A) : Type 0 where
  is : x.0 ≡ y
  end : x.1 ≡ length bytes

ended_ok : {A : Type 0} (bytes : List ℕ) (x : A × ℕ) (y : A) → ended bytes x ≡ Ok y → Ended bytes x y
ended_ok bytes x y e =
    let g = else_ok (eqb x.1 (length bytes)) faults.Trailing (Ok x.0) y e in
    record { is = ok_is _ _ g.1; end = eqb-true x.1 (length bytes) g.0 }

ended_so : {A : Type 0} (bytes : List ℕ) (y : A) → ended bytes (y, length bytes) ≡ Ok y
ended_so bytes y = rw (eq-eqb (length bytes) (length bytes) refl) refl

-- ---- grants by their naming

exported : (pool : List Entry) (r : GrantRow) (e : Grant) → GrantBy package_named pool r e → IsGrant pool r e
exported pool r e g = record { fits = g.fits; named = g.is; targets = g.targets; to = g.to; all = g.all }

exporting : (pool : List Entry) (r : GrantRow) (e : Grant) → IsGrant pool r e → GrantBy package_named pool r e
exporting pool r e g = record { fits = g.fits; is = g.named; targets = g.targets; to = g.to; all = g.all }

opened_closed : (pool : List Entry) (i : ℕ) (name : List ℕ) (open_module : Bool) → opened_named open_module pool i ≡ Some name → (open_module ≡ false) × (package_named pool i ≡ Some name)
opened_closed pool i name true e = absurd cc
opened_closed pool i name false e = (refl, e)

opened : (open_module : Bool) (pool : List Entry) (r : GrantRow) (e : Grant) → GrantBy (opened_named open_module) pool r e → IsGrant pool r e
opened open_module pool r e g = record { fits = g.fits; named = (g.is.0, (opened_closed pool r.index e.«package» open_module g.is.1).1); targets = g.targets; to = g.to; all = g.all }

none_opened : (pool : List Entry) (rows : List GrantRow) (entries : List Grant) (open_module : Bool) → Match (GrantBy (opened_named open_module) pool) rows entries → open_module ≡ true → entries ≡ []
none_opened pool [] [] open_module m e = refl
none_opened pool (r ∷ rs) (x ∷ xs) open_module m e =
    let shut : open_module ≡ false = (opened_closed pool r.index x.«package» open_module m.0.is.1).0 in
    absurd cc
none_opened pool [] (x ∷ xs) open_module m e = absurd m
none_opened pool (r ∷ rs) [] open_module m e = absurd m

opening_shut : (pool : List Entry) (r : GrantRow) (e : Grant) → IsGrant pool r e → GrantBy (opened_named false) pool r e
opening_shut pool r e g = record { fits = g.fits; is = g.named; targets = g.targets; to = g.to; all = g.all }

opening : (pool : List Entry) (rows : List GrantRow) (entries : List Grant) (open_module : Bool) → IsTable (IsGrant pool) granted_package rows entries → (open_module ≡ true → entries ≡ [])
    → IsTable (GrantBy (opened_named open_module) pool) granted_package rows entries
opening pool rows entries false t none = table_as (opening_shut pool) rows entries t
opening pool [] entries true t none = record { few = t.few; each = by_none entries (none refl); distinct = t.distinct }
  where
    by_none : (entries : List Grant) → entries ≡ [] → Match (GrantBy (opened_named true) pool) [] entries
    by_none [] e = tt
    by_none (x ∷ xs) e = absurd cc
opening pool (r ∷ rs) [] true t none = absurd t.each
opening pool (r ∷ rs) (x ∷ xs) true t none = let no_entry : x ∷ xs ≡ [] = none refl in absurd cc

-- ---- a Module attribute

-- a body declares a module
pub record Declares (pool : List Entry) (b : Body) (m : Module) : Type 0 where
  pub fits : (b.flags < 65536) × (b.version < 65536)
  pub name : Names module_named pool b.index m.name
  pub is_open : m.is_open ≡ is_set b.flags 0x20
  pub version : version_named pool b.version ≡ Some m.version
  pub required : IsTable (IsRequires pool) required_name b.required m.required
  pub exports : IsTable (IsGrant pool) granted_package b.exports m.exports
  pub opens : IsTable (IsGrant pool) granted_package b.opens m.opens
  pub closed : m.is_open ≡ true → m.opens ≡ []
  pub uses : NameAll class_named pool b.uses m.uses
  pub provides : IsTable (IsProvides pool) provided_service b.provides m.provides

pub record Content (pool : List Entry) (bytes : List ℕ) (at : ℕ) (m : Module) : Type 0 where
  pub body : Body
  pub declares : Declares pool body m
  pub stands : Stands bytes at (body_bytes body) (length bytes)

pub module_stands : (pool : List Entry) (bytes : List ℕ) (at : ℕ) (m : Module) → IsBytes bytes → module_at pool bytes at ≡ Ok m → Content pool bytes at m
unfolding module_at
module_stands pool bytes at m b e =
    let s1 = bind_ok (name_at module_named pool bytes at) _ m e in
    let s2 = bind_ok (number_at short 2 bytes s1.0.1) _ m s1.2 in
    let s3 = bind_ok (version_at pool bytes s2.0.1) _ m s2.2 in
    let s4 = bind_ok (requires_table_at pool bytes s3.0.1) _ m s3.2 in
    let s5 = bind_ok (grants_at (codes "exports") package_named pool bytes s4.0.1) _ m s4.2 in
    let s6 = bind_ok (grants_at (codes "opens") (opened_named (is_set s2.0.0 0x20)) pool bytes s5.0.1) _ m s5.2 in
    let s7 = bind_ok (names_at (codes "uses") class_named pool bytes s6.0.1) _ m s6.2 in
    let s8 = bind_ok (provides_table_at pool bytes s7.0.1) _ m s7.2 in
    let found : Module = record {
      name = s1.0.0;
      is_open = is_set s2.0.0 0x20;
      version = s3.0.0;
      required = s4.0.0;
      exports = s5.0.0;
      opens = s6.0.0;
      uses = s7.0.0;
      provides = s8.0.0;
    } in
    let end = ended_ok bytes (found, s8.0.1) m s8.2 in
    let n1 = name_stands module_named pool bytes at s1.0 b s1.1 in
    let n2 = number_in short 2 bytes s1.0.1 s2.0 b s2.1 in
    let n3 = version_stands pool bytes s2.0.1 s3.0 b s3.1 in
    let t4 = requires_table_stands pool bytes s3.0.1 s4.0 b s4.1 in
    let t5 = grants_stand (codes "exports") package_named pool bytes s4.0.1 s5.0 b s5.1 in
    let t6 = grants_stand (codes "opens") (opened_named (is_set s2.0.0 0x20)) pool bytes s5.0.1 s6.0 b s6.1 in
    let t7 = names_stand (codes "uses") class_named pool bytes s6.0.1 s7.0 b s7.1 in
    let t8 = provides_table_stands pool bytes s7.0.1 s8.0 b s8.1 in
    let tail = join t4.stands (join t5.stands (join t6.stands (join t7.stands (ends_at (length bytes) end.end t8.stands)))) in
    subst (Content pool bytes at) {x = found} {y = m} end.is (record {
      body = record { index = n1.index; flags = s2.0.0; version = n3.index; required = t4.rows; exports = t5.rows; opens = t6.rows; uses = t7.indices; provides = t8.rows };
      declares = record {
        fits = (n2.small, n3.number.small);
        name = n1.is;
        is_open = refl;
        version = n3.named;
        required = is_table required_name t4;
        exports = table_as (exported pool) t5.rows s5.0.0 (is_table granted_package t5);
        opens = table_as (opened (is_set s2.0.0 0x20) pool) t6.rows s6.0.0 (is_table granted_package t6);
        closed = none_opened pool t6.rows s6.0.0 (is_set s2.0.0 0x20) t6.each;
        uses = t7.all;
        provides = is_table provided_service t8;
      };
      stands = join n1.stands (join n2.stands (join n3.number.stands tail));
    })

pub module_reads : (pool : List Entry) (bytes : List ℕ) (at : ℕ) (m : Module) (b : Body) → Declares pool b m → Stands bytes at (body_bytes b) (length bytes) → module_at pool bytes at ≡ Ok m
unfolding module_at
module_reads pool bytes at m b d s =
    let c4 = counted requires_bytes b.required in
    let c5 = counted grant_bytes b.exports in
    let c6 = counted grant_bytes b.opens in
    let c7 = counted two b.uses in
    let c8 = counted provides_bytes b.provides in
    let s1 = first (two b.index) (two b.flags ++ (two b.version ++ (c4 ++ (c5 ++ (c6 ++ (c7 ++ c8)))))) s in
    let r1 = second (two b.index) (two b.flags ++ (two b.version ++ (c4 ++ (c5 ++ (c6 ++ (c7 ++ c8)))))) s in
    let s2 = first (two b.flags) (two b.version ++ (c4 ++ (c5 ++ (c6 ++ (c7 ++ c8))))) r1 in
    let r2 = second (two b.flags) (two b.version ++ (c4 ++ (c5 ++ (c6 ++ (c7 ++ c8))))) r1 in
    let s3 = first (two b.version) (c4 ++ (c5 ++ (c6 ++ (c7 ++ c8)))) r2 in
    let r3 = second (two b.version) (c4 ++ (c5 ++ (c6 ++ (c7 ++ c8)))) r2 in
    let s4 = first c4 (c5 ++ (c6 ++ (c7 ++ c8))) r3 in
    let r4 = second c4 (c5 ++ (c6 ++ (c7 ++ c8))) r3 in
    let s5 = first c5 (c6 ++ (c7 ++ c8)) r4 in
    let r5 = second c5 (c6 ++ (c7 ++ c8)) r4 in
    let s6 = first c6 (c7 ++ c8) r5 in
    let r6 = second c6 (c7 ++ c8) r5 in
    let s7 = first c7 c8 r6 in
    let s8 = second c7 c8 r6 in
    let p4 = at + 2 + 2 + 2 in
    let p5 = p4 + length c4 in
    let p6 = p5 + length c5 in
    let p7 = p6 + length c6 in
    let opens : IsTable (GrantBy (opened_named (is_set b.flags 0x20)) pool) granted_package b.opens m.opens =
    opening pool b.opens m.opens (is_set b.flags 0x20) d.opens (λ e. d.closed (d.is_open ∙ e)) in
    let n1 = name_reads module_named pool bytes at b.index (at + 2) m.name d.name s1 in
    let n2 = number_read short 2 bytes (at + 2) b.flags (at + 2 + 2) d.fits.0 s2 in
    let n3 = version_reads pool bytes (at + 2 + 2) b.version p4 m.version d.fits.1 s3 d.version in
    let t4 = requires_table_reads pool bytes p4 p5 b.required m.required d.required s4 in
    let t5 = grants_read (codes "exports") package_named pool bytes p5 p6 b.exports m.exports (table_as (exporting pool) b.exports m.exports d.exports) s5 in
    let t6 = grants_read (codes "opens") (opened_named (is_set b.flags 0x20)) pool bytes p6 p7 b.opens m.opens opens s6 in
    let t7 = names_read (codes "uses") class_named pool bytes p7 (p7 + length c7) b.uses m.uses d.uses s7 in
    let t8 = provides_table_reads pool bytes (p7 + length c7) (length bytes) b.provides m.provides d.provides s8 in
    bind_to _ n1 (bind_to _ n2 (bind_to _ n3 (bind_to _ t4 (bind_to _ t5 (bind_to _ t6 (bind_to _ t7 (bind_to _ t8 (rw (eq-eqb (length bytes) (length bytes) refl, sym d.is_open) refl))))))))

-- ---- the other two

pub record PackagesContent (pool : List Entry) (bytes : List ℕ) (at : ℕ) (packages : List (List ℕ)) : Type 0 where
  pub indices : List ℕ
  pub all : NameAll package_named pool indices packages
  pub stands : Stands bytes at (counted two indices) (length bytes)

pub packages_stand : (pool : List Entry) (bytes : List ℕ) (at : ℕ) (packages : List (List ℕ)) → IsBytes bytes → packages_at pool bytes at ≡ Ok packages → PackagesContent pool bytes at packages
unfolding packages_at
packages_stand pool bytes at packages b e =
    let s = bind_ok (names_at (codes "packages") package_named pool bytes at) _ packages e in
    let end = ended_ok bytes s.0 packages s.2 in
    let t = names_stand (codes "packages") package_named pool bytes at s.0 b s.1 in
    record {
      indices = t.indices;
      all = subst (NameAll package_named pool t.indices) end.is t.all;
      stands = ends_at (length bytes) end.end t.stands;
    }

pub packages_read : (pool : List Entry) (bytes : List ℕ) (at : ℕ) (packages : List (List ℕ)) (indices : List ℕ) → NameAll package_named pool indices packages
    → Stands bytes at (counted two indices) (length bytes) → packages_at pool bytes at ≡ Ok packages
unfolding packages_at
packages_read pool bytes at packages indices n s =
    bind_to _ (names_read (codes "packages") package_named pool bytes at (length bytes) indices packages n s) (ended_so bytes packages)

pub record MainContent (pool : List Entry) (bytes : List ℕ) (at : ℕ) (class : List ℕ) : Type 0 where
  pub index : ℕ
  pub is : Names class_named pool index class
  pub stands : Stands bytes at (two index) (length bytes)

pub main_stands : (pool : List Entry) (bytes : List ℕ) (at : ℕ) (class : List ℕ) → IsBytes bytes → main_at pool bytes at ≡ Ok class → MainContent pool bytes at class
unfolding main_at
main_stands pool bytes at class b e =
    let s = bind_ok (name_at class_named pool bytes at) _ class e in
    let end = ended_ok bytes s.0 class s.2 in
    let n = name_stands class_named pool bytes at s.0 b s.1 in
    record {
      index = n.index;
      is = subst (Names class_named pool n.index) end.is n.is;
      stands = ends_at (length bytes) end.end n.stands;
    }

pub main_reads : (pool : List Entry) (bytes : List ℕ) (at : ℕ) (class : List ℕ) (index : ℕ) → Names class_named pool index class → Stands bytes at (two index) (length bytes) → main_at pool bytes at ≡ Ok class
unfolding main_at
main_reads pool bytes at class index n s = bind_to _ (name_reads class_named pool bytes at index (length bytes) class n s) (ended_so bytes class)
