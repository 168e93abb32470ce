-- The file up to its attributes: what is read stands there, and what stands there is read.
use Rattle.std.proofs.Common.{◌≡◌, ℕ, ◌+◌, ◌<◌, List, ◌++◌, true, eqb, Option, None, Some, Ok, refl, ap, arith}
use Rattle.std.specs.Prelude.{codes}
use Rattle.std.proofs.lemmas.Bool.{eqb-true}
use Rattle.std.specs.Cmp.Lexicographic.{bytes_decides}
use Rattle.jl_reading.specs.Reading.{Stands, IsBytes, number_at, two}
use Rattle.jl_reading.proofs.Steps.{bind_ok, ok_is, bind_to, not_ok, else_ok}
use Rattle.jl_pool.specs.declared.entry.Entry.{Entry}
use Rattle.jl_classfile.specs.Front.{is_version, front_bytes}
use Rattle.jl_classfile.specs.Front as framing
use Rattle.jl_classfile.proofs.FrontLaws as laws
use Rattle.jl_tables.specs.declared.fault.InfoFault.TheVariants as faults
use Rattle.jl_tables.specs.Faults.{short}
use Rattle.jl_modinfo.specs.Meaning.{class_text, is_module_info}
use Rattle.jl_modinfo.specs.Reading.{front_at, zero_at, this_at, empty_class_at}
use Rattle.jl_reading.proofs.Standing.{number_in, number_read, join, first, second, known, ends_at}

-- ---- magic and version

pub record Front (bytes : List ℕ) (at : ℕ) : Type 0 where
  pub minor : ℕ
  pub major : ℕ
  pub small : minor < 65536
  pub stands : Stands bytes 0 (front_bytes major minor) at
  pub version : is_version major minor ≡ true

pub front_stands : (bytes : List ℕ) (at : ℕ) → IsBytes bytes → front_at bytes ≡ Ok at → Front bytes at
unfolding front_at
front_stands bytes at b e =
    let s = bind_ok (framing.front_at short faults.BadMagic (λ major minor. faults.BadVersion) bytes 0) (λ version. Ok version.1) at e in
    let f = laws.front_stands short faults.BadMagic (λ major minor. faults.BadVersion) bytes 0 s.0 b s.1 in
    record {
      minor = s.0.0.1;
      major = s.0.0.0;
      small = f.minor;
      stands = ends_at at (ok_is s.0.1 at s.2) f.stands;
      version = f.version;
    }

pub front_reads : (bytes : List ℕ) (at : ℕ) → Front bytes at → front_at bytes ≡ Ok at
unfolding front_at
front_reads bytes at f =
    bind_to (λ version. Ok version.1) (laws.front_reads short faults.BadMagic (λ major minor. faults.BadVersion) bytes 0 f.major f.minor at (record { minor = f.small; version = f.version; stands = f.stands })) refl

-- ---- the class with no members

pub record EmptyClass (pool : List Entry) (bytes : List ℕ) (at next : ℕ) : Type 0 where
  pub this : ℕ
  pub small : this < 65536
  pub stands : Stands bytes at (two 0x8000 ++ (two this ++ (two 0 ++ (two 0 ++ (two 0 ++ two 0))))) next
  pub named : class_text pool this ≡ Some (codes "module-info")

names_it : (name : Option (List ℕ)) → is_module_info name ≡ true → name ≡ Some (codes "module-info")
names_it None e = absurd cc
names_it (Some name) e = ap (λ (n : List ℕ). Some n) ((bytes_decides name (codes "module-info")).0 e)

zero_stands : (field bytes : List ℕ) (at next : ℕ) → IsBytes bytes → zero_at field bytes at ≡ Ok next → Stands bytes at (two 0) next
unfolding zero_at
zero_stands field bytes at next b e =
    let s = bind_ok (number_at short 2 bytes at) _ next e in
    let g = else_ok (eqb s.0.0 0) (faults.NotModule field) (Ok s.0.1) next s.2 in
    ends_at next (ok_is _ _ g.1) (known 0 (eqb-true s.0.0 0 g.0) (number_in short 2 bytes at s.0 b s.1))

zero_reads : (field bytes : List ℕ) (at next : ℕ) → Stands bytes at (two 0) next → zero_at field bytes at ≡ Ok next
unfolding zero_at
zero_reads field bytes at next s = bind_to _ (number_read short 2 bytes at 0 next (omega arith) s) refl

record This (pool : List Entry) (bytes : List ℕ) (at next : ℕ) : Type 0 where
  this : ℕ
  small : this < 65536
  stands : Stands bytes at (two 0x8000 ++ two this) next
  named : class_text pool this ≡ Some (codes "module-info")

this_stands : (pool : List Entry) (bytes : List ℕ) (at next : ℕ) → IsBytes bytes → this_at pool bytes at ≡ Ok next → This pool bytes at next
unfolding this_at
this_stands pool bytes at next b e =
    let s1 = bind_ok (number_at short 2 bytes at) _ next e in
    let g1 = not_ok (eqb s1.0.0 0x8000) (faults.NotModule (codes "flags")) _ next s1.2 in
    let s2 = bind_ok (number_at short 2 bytes s1.0.1) _ next g1.1 in
    let g2 = else_ok (is_module_info (class_text pool s2.0.0)) (faults.NotModule (codes "this")) (Ok s2.0.1) next s2.2 in
    let n1 = number_in short 2 bytes at s1.0 b s1.1 in
    let n2 = number_in short 2 bytes s1.0.1 s2.0 b s2.1 in
    record {
      this = s2.0.0;
      small = n2.small;
      stands = ends_at next (ok_is _ _ g2.1) (join (known 0x8000 (eqb-true s1.0.0 0x8000 g1.0) n1) n2.stands);
      named = names_it (class_text pool s2.0.0) g2.0;
    }

this_reads : (pool : List Entry) (bytes : List ℕ) (at next this : ℕ) → this < 65536 → class_text pool this ≡ Some (codes "module-info")
    → Stands bytes at (two 0x8000 ++ two this) next → this_at pool bytes at ≡ Ok next
unfolding this_at
this_reads pool bytes at next this small named s =
    let s1 = first (two 0x8000) (two this) s in
    let s2 = second (two 0x8000) (two this) s in
    let n1 = number_read short 2 bytes at 0x8000 (at + 2) (omega arith) s1 in
    let n2 = number_read short 2 bytes (at + 2) this next small s2 in
    bind_to _ n1 (bind_to _ n2 (rw named refl))

pub empty_class_stands : (pool : List Entry) (bytes : List ℕ) (at next : ℕ) → IsBytes bytes → empty_class_at pool bytes at ≡ Ok next → EmptyClass pool bytes at next
unfolding empty_class_at
empty_class_stands pool bytes at next b e =
    let s1 = bind_ok (this_at pool bytes at) _ next e in
    let s2 = bind_ok (zero_at (codes "super") bytes s1.0) _ next s1.2 in
    let s3 = bind_ok (zero_at (codes "interfaces") bytes s2.0) _ next s2.2 in
    let s4 = bind_ok (zero_at (codes "fields") bytes s3.0) _ next s3.2 in
    let t = this_stands pool bytes at s1.0 b s1.1 in
    let z2 = zero_stands (codes "super") bytes s1.0 s2.0 b s2.1 in
    let z3 = zero_stands (codes "interfaces") bytes s2.0 s3.0 b s3.1 in
    let z4 = zero_stands (codes "fields") bytes s3.0 s4.0 b s4.1 in
    let z5 = zero_stands (codes "methods") bytes s4.0 next b s4.2 in
    record {
      this = t.this;
      small = t.small;
      stands = join t.stands (join z2 (join z3 (join z4 z5)));
      named = t.named;
    }

pub empty_class_reads : (pool : List Entry) (bytes : List ℕ) (at next : ℕ) → EmptyClass pool bytes at next → empty_class_at pool bytes at ≡ Ok next
unfolding empty_class_at
empty_class_reads pool bytes at next c =
    let front = two 0x8000 ++ two c.this in
    let s1 = first front (two 0 ++ (two 0 ++ (two 0 ++ two 0))) c.stands in
    let r1 = second front (two 0 ++ (two 0 ++ (two 0 ++ two 0))) c.stands in
    let s2 = first (two 0) (two 0 ++ (two 0 ++ two 0)) r1 in
    let r2 = second (two 0) (two 0 ++ (two 0 ++ two 0)) r1 in
    let s3 = first (two 0) (two 0 ++ two 0) r2 in
    let r3 = second (two 0) (two 0 ++ two 0) r2 in
    let s4 = first (two 0) (two 0) r3 in
    let s5 = second (two 0) (two 0) r3 in
    let t = this_reads pool bytes at (at + 4) c.this c.small c.named s1 in
    let z2 = zero_reads (codes "super") bytes (at + 4) (at + 4 + 2) s2 in
    let z3 = zero_reads (codes "interfaces") bytes (at + 4 + 2) (at + 4 + 2 + 2) s3 in
    let z4 = zero_reads (codes "fields") bytes (at + 4 + 2 + 2) (at + 4 + 2 + 2 + 2) s4 in
    bind_to _ t (bind_to _ z2 (bind_to _ z3 (bind_to _ z4 (zero_reads (codes "methods") bytes (at + 4 + 2 + 2 + 2) next s5))))
