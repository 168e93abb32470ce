-- Magic and version: what is read stands there, and what stands there is read (JVMS 4.1).
use Rattle.std.proofs.Common.{◌≡◌, ℕ, ◌+◌, ◌<◌, ◌≤◌, List, ◌++◌, true, eqb, leb, ltb, Ok, refl, subst, arith}
use Rattle.std.specs.Prelude.{◌&&◌, ◌||◌}
use Rattle.std.proofs.lemmas.Bool.{eqb-true, and_parts, leb-true}
use Rattle.jl_reading.specs.Reading.{Stands, IsBytes, number_at, two, four}
use Rattle.jl_reading.proofs.Steps.{bind_ok, bind_to, not_ok, else_ok, ok_is}
use Rattle.jl_reading.proofs.Standing.{number_in, number_read, join, first, second, known}
use Rattle.jl_classfile.specs.Front.{is_version, front_at, front_bytes}

pub record Front (bytes : List ℕ) (at : ℕ) (x : (ℕ × ℕ) × ℕ) : Type 0 where
  pub minor : x.0.1 < 65536
  pub version : is_version x.0.0 x.0.1 ≡ true
  pub stands : Stands bytes at (front_bytes x.0.0 x.0.1) x.1

pub front_stands : {F : Type 0} (short : ℕ → F) (magic : F) (version : ℕ → ℕ → F) (bytes : List ℕ) (at : ℕ) (x : (ℕ × ℕ) × ℕ) → IsBytes bytes → front_at short magic version bytes at ≡ Ok x → Front bytes at x
unfolding front_at
front_stands short magic version bytes at x b e =
    let s1 = bind_ok (number_at short 4 bytes at) _ x e in
    let g1 = not_ok (eqb s1.0.0 0xCAFEBABE) magic _ x s1.2 in
    let s2 = bind_ok (number_at short 2 bytes s1.0.1) _ x g1.1 in
    let s3 = bind_ok (number_at short 2 bytes s2.0.1) _ x s2.2 in
    let g3 = else_ok (is_version s3.0.0 s2.0.0) (version s3.0.0 s2.0.0) (Ok ((s3.0.0, s2.0.0), s3.0.1)) x s3.2 in
    let n1 = number_in short 4 bytes at s1.0 b s1.1 in
    let n2 = number_in short 2 bytes s1.0.1 s2.0 b s2.1 in
    let n3 = number_in short 2 bytes s2.0.1 s3.0 b s3.1 in
    subst (Front bytes at) (ok_is _ _ g3.1) (record {
      minor = n2.small;
      version = g3.0;
      stands = join (known 0xCAFEBABE (eqb-true s1.0.0 0xCAFEBABE g1.0) n1) (join n2.stands n3.stands);
    })

pub version_small : (major minor : ℕ) → is_version major minor ≡ true → major < 65536
version_small major minor v =
    let low = and_parts (leb 53 major) (leb major 61 && (ltb major 56 || eqb minor 0)) v in
    let high = and_parts (leb major 61) (ltb major 56 || eqb minor 0) low.1 in
    let le : major ≤ 61 = leb-true major 61 high.0 in
    omega (arith, le)

pub front_reads : {F : Type 0} (short : ℕ → F) (magic : F) (version : ℕ → ℕ → F) (bytes : List ℕ) (at major minor next : ℕ) → Front bytes at ((major, minor), next) → front_at short magic version bytes at ≡ Ok ((major, minor), next)
unfolding front_at
front_reads short magic version bytes at major minor next f =
    let s1 = first (four 0xCAFEBABE) (two minor ++ two major) f.stands in
    let r1 = second (four 0xCAFEBABE) (two minor ++ two major) f.stands in
    let s2 = first (two minor) (two major) r1 in
    let s3 = second (two minor) (two major) r1 in
    let n1 = number_read short 4 bytes at 0xCAFEBABE (at + 4) (omega arith) s1 in
    let n2 = number_read short 2 bytes (at + 4) minor (at + 4 + 2) f.minor s2 in
    let n3 = number_read short 2 bytes (at + 4 + 2) major next (version_small major minor f.version) s3 in
    bind_to _ n1 (bind_to _ n2 (bind_to _ n3 (rw f.version refl)))
