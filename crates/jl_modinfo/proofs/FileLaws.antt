-- A declaration file: what is read stands there, and what stands there is read.
use Rattle.std.proofs.Common.{◌≡◌, ℕ, ◌+◌, List, [], ◌∷◌, ◌++◌, length, eqb, Option, None, Some, Result, Ok, Err, refl, sym, ap, ◌∙◌, subst, inl, inr}
use Rattle.std.specs.Prelude.{IsTrue, codes}
use Rattle.std.proofs.lemmas.Bool.{eqb-true, eq-eqb}
use Rattle.jl_reading.specs.Reading.{IsBytes, two, counted}
use Rattle.jl_reading.proofs.Steps.{bind_ok, ok_is, bind_to, else_ok}
use Rattle.jl_prim.specs.declared.declaration.Declaration.{Declaration}
use Rattle.jl_pool.specs.declared.entry.Entry.{Entry}
use Rattle.jl_pool.specs.declared.fault.PoolFault.{PoolFault}
use Rattle.jl_pool.specs.Reading.{pool_at}
use Rattle.jl_pool.specs.Spelling.{StandsPool}
use Rattle.jl_pool.proofs.Whole.{pool_stands, pool_again}
use Rattle.jl_modinfo.specs.declared.module.Module.{Module}
use Rattle.jl_modinfo.specs.declared.attribute.FileParts.{FileParts}
use Rattle.jl_tables.specs.declared.fault.InfoFault.TheVariants as faults
use Rattle.jl_tables.specs.Faults.{pool_or}
use Rattle.jl_modinfo.specs.Rules.{keeps_base_rule, missing_package}
use Rattle.jl_classfile.specs.Spelling.{Attribute, attribute_bytes, AtMostOne}
use Rattle.jl_modinfo.specs.Info.{IsInfo, ArePackages, IsMain, body_bytes, contents}
use Rattle.jl_modinfo.specs.Reading.{attributes_at, whole, ruled, all_there, or_found, declaration_of, front_at, empty_class_at, info_of}
use Rattle.jl_modinfo.proofs.FrontLaws.{Front, front_stands, front_reads, EmptyClass, empty_class_stands, empty_class_reads}
use Rattle.jl_modinfo.proofs.AttributeLaws.{IsPackagesContent, IsMainContent, Declared, AllStand, attributes_stand, attributes_again}
use Rattle.jl_reading.proofs.Standing.{join, first, second, ends_at}

-- ---- the rules

all_there_ok : (d : Declaration) (o : Option (List ℕ)) (e : Declaration) → all_there d o ≡ Ok e → (o ≡ None) × (d ≡ e)
all_there_ok d None e is = (refl, ok_is _ _ is)
all_there_ok d (Some name) e is = absurd cc

record Whole (found : List (List ℕ)) (bytes : List ℕ) (read : FileParts) (at : ℕ) (d : Declaration) : Type 0 where
  m : Module
  there : read.«module» ≡ Some m
  end : at ≡ length bytes
  is : declaration_of m (or_found found read.packages) read.main ≡ d
  base : IsTrue (keeps_base_rule d.name d.required)
  none_missing : missing_package d ≡ None

whole_ok : (found : List (List ℕ)) (bytes : List ℕ) (m : Option Module) (packages : Option (List (List ℕ))) (main : Option (List ℕ)) (at : ℕ) (d : Declaration)
    → whole found bytes (record { «module» = m; packages = packages; main = main }) at ≡ Ok d → Whole found bytes (record { «module» = m; packages = packages; main = main }) at d
whole_ok found bytes None packages main at d e = absurd cc
whole_ok found bytes (Some m) packages main at d e =
    let x = declaration_of m (or_found found packages) main in
    let g1 = else_ok (eqb at (length bytes)) faults.Trailing (ruled x) d e in
    let g2 = else_ok (keeps_base_rule x.name x.required) faults.BaseRule (all_there x (missing_package x)) d g1.1 in
    let g3 = all_there_ok x (missing_package x) d g2.1 in
    record {
      m = m;
      there = refl;
      end = eqb-true at (length bytes) g1.0;
      is = g3.1;
      base = subst (λ (y : Declaration). IsTrue (keeps_base_rule y.name y.required)) g3.1 g2.0;
      none_missing = subst (λ (y : Declaration). missing_package y ≡ None) g3.1 g3.0;
    }

whole_so : (found : List (List ℕ)) (bytes : List ℕ) (m : Module) (packages : Option (List (List ℕ))) (main : Option (List ℕ)) (d : Declaration) → declaration_of m (or_found found packages) main ≡ d
    → IsTrue (keeps_base_rule d.name d.required) → missing_package d ≡ None → whole found bytes (record { «module» = Some m; packages = packages; main = main }) (length bytes) ≡ Ok d
whole_so found bytes m packages main d is base none =
    let so : ruled d ≡ Ok d = rw (base, none) refl in
    rw (eq-eqb (length bytes) (length bytes) refl) (ap ruled is ∙ so)

pool_ok : {A : Type 0} (r : Result A PoolFault) (x : A) → pool_or r ≡ Ok x → r ≡ Ok x
pool_ok (Ok y) x e = ap (λ z. Ok z) (ok_is y x e)
pool_ok (Err f) x e = absurd cc

-- ---- what is read is spelled so

packages_are : (pool : List Entry) (attributes : List Attribute) (found : List (List ℕ)) (packages : Option (List (List ℕ)))
    → AtMostOne (IsPackagesContent pool) (contents pool (codes "ModulePackages") attributes) packages → ArePackages pool attributes found (or_found found packages)
packages_are pool attributes found None one = inl (one, refl)
packages_are pool attributes found (Some packages) one = inr (one.2.0, one.1 ∙ ap (λ c. c ∷ []) one.2.1, one.2.2)

main_is : (pool : List Entry) (attributes : List Attribute) (main : Option (List ℕ)) → AtMostOne (IsMainContent pool) (contents pool (codes "ModuleMainClass") attributes) main → IsMain pool attributes main
main_is pool attributes None one = one
main_is pool attributes (Some class) one = (one.2.0, one.1 ∙ ap (λ c. c ∷ []) one.2.1, one.2.2)

spelled : (bytes : List ℕ) (found : List (List ℕ)) (pool : List Entry) (at next end : ℕ) (attributes : List Attribute) (m : Module) (packages : Option (List (List ℕ))) (main : Option (List ℕ))
    → Front bytes 8 → StandsPool bytes 8 pool at → EmptyClass pool bytes at next
    → (a : AllStand pool bytes next (record { «module» = Some m; packages = packages; main = main }, end)) → end ≡ length bytes
    → IsTrue (keeps_base_rule m.name m.required) → missing_package (declaration_of m (or_found found packages) main) ≡ None → IsInfo bytes found (declaration_of m (or_found found packages) main)
spelled bytes found pool at next end attributes m packages main f p c a e base none =
    let module_one = a.declared.modules in
    let d = module_one.2.2 in
    record {
      minor = f.minor;
      major = f.major;
      pool = pool;
      pool_end = at;
      this = c.this;
      attributes = a.attributes;
      body = module_one.2.0;
      numbers = (f.small, c.small);
      front = f.stands;
      version = f.version;
      pool_stands = p;
      back = ends_at (length bytes) e (join c.stands a.stands);
      this_named = c.named;
      are = a.are;
      module_there = module_one.1 ∙ ap (λ k. k ∷ []) module_one.2.1;
      declares = record {
        fits = d.fits;
        name = d.name;
        is_open = d.is_open;
        version = d.version;
        required = d.required;
        exports = d.exports;
        opens = d.opens;
        closed = d.closed;
        uses = d.uses;
        provides = d.provides;
      };
      packages = packages_are pool a.attributes found packages a.declared.packages;
      main = main_is pool a.attributes main a.declared.main;
      base = base;
      none_missing = none;
    }

pub info_stands : (bytes : List ℕ) (found : List (List ℕ)) (d : Declaration) → IsBytes bytes → info_of bytes found ≡ Ok d → IsInfo bytes found d
unfolding info_of
info_stands bytes found d b e =
    let s1 = bind_ok (front_at bytes) _ d e in
    let s2 = bind_ok (pool_or (pool_at bytes s1.0)) _ d s1.2 in
    let s3 = bind_ok (empty_class_at s2.0.0 bytes s2.0.1) _ d s2.2 in
    let s4 = bind_ok (attributes_at s2.0.0 bytes s3.0) _ d s3.2 in
    let f = front_stands bytes s1.0 b s1.1 in
    let p = pool_stands bytes s1.0 s2.0.0 s2.0.1 b (pool_ok (pool_at bytes s1.0) s2.0 s2.1) in
    let c = empty_class_stands s2.0.0 bytes s2.0.1 s3.0 b s3.1 in
    let w = whole_ok found bytes s4.0.0.«module» s4.0.0.packages s4.0.0.main s4.0.1 d s4.2 in
    let a = attributes_stand s2.0.0 bytes s3.0 s4.0 b s4.1 in
    let at : s1.0 ≡ 8 = f.stands.ends in
    let with_module : AllStand s2.0.0 bytes s3.0 (record { «module» = Some w.m; packages = s4.0.0.packages; main = s4.0.0.main }, s4.0.1) =
    subst (λ (m : Option Module). AllStand s2.0.0 bytes s3.0 (record { «module» = m; packages = s4.0.0.packages; main = s4.0.0.main }, s4.0.1)) w.there a in
    let base = subst (λ (y : Declaration). IsTrue (keeps_base_rule y.name y.required)) (sym w.is) w.base in
    let none = subst (λ (y : Declaration). missing_package y ≡ None) (sym w.is) w.none_missing in
    let all = spelled bytes found s2.0.0 s2.0.1 s3.0 s4.0.1 a.attributes w.m s4.0.0.packages s4.0.0.main (subst (Front bytes) at f) (subst (λ k. StandsPool bytes k s2.0.0 s2.0.1) at p) c with_module w.end base none in
    subst (IsInfo bytes found) w.is all

-- ---- what is spelled so is read

abbrev module_in : Declaration → Module
module_in d = record { name = d.name; is_open = d.is_open; version = d.version; required = d.required; exports = d.exports; opens = d.opens; uses = d.uses; provides = d.provides }

-- the packages that the attributes list
record Listed (pool : List Entry) (attributes : List Attribute) (found packages : List (List ℕ)) : Type 0 where
  listed : Option (List (List ℕ))
  one : AtMostOne (IsPackagesContent pool) (contents pool (codes "ModulePackages") attributes) listed
  same : or_found found listed ≡ packages

listed_in : (pool : List Entry) (attributes : List Attribute) (found packages : List (List ℕ)) → ArePackages pool attributes found packages → Listed pool attributes found packages
listed_in pool attributes found packages are = elim are [
  | inl none ↦ record { listed = None; one = none.0; same = sym none.1 }
  | inr some ↦ record { listed = Some packages; one = (counted two some.0, some.1, (some.0, refl, some.2)); same = refl }
]

main_in : (pool : List Entry) (attributes : List Attribute) (main : Option (List ℕ)) → IsMain pool attributes main → AtMostOne (IsMainContent pool) (contents pool (codes "ModuleMainClass") attributes) main
main_in pool attributes None is = is
main_in pool attributes (Some class) is = (two is.0, is.1, (is.0, refl, is.2))

same_declaration : (d : Declaration) (packages : List (List ℕ)) → packages ≡ d.packages → declaration_of (module_in d) packages d.main ≡ d
same_declaration d packages e = λ i. record {
  name = d.name;
  is_open = d.is_open;
  version = d.version;
  required = d.required;
  exports = d.exports;
  opens = d.opens;
  uses = d.uses;
  provides = d.provides;
  packages = e i;
  main = d.main;
}

declared_in : (bytes : List ℕ) (found : List (List ℕ)) (d : Declaration) (i : IsInfo bytes found d) (l : Listed i.pool i.attributes found d.packages)
    → Declared i.pool i.attributes (record { «module» = Some (module_in d); packages = l.listed; main = d.main })
declared_in bytes found d i l = record {
  modules = (
    body_bytes i.body,
    i.module_there,
    (
      i.body,
      refl,
      record {
        fits = i.declares.fits;
        name = i.declares.name;
        is_open = i.declares.is_open;
        version = i.declares.version;
        required = i.declares.required;
        exports = i.declares.exports;
        opens = i.declares.opens;
        closed = i.declares.closed;
        uses = i.declares.uses;
        provides = i.declares.provides;
      },
    ),
  );
  packages = l.one;
  main = main_in i.pool i.attributes d.main i.main;
}

pub info_reads : (bytes : List ℕ) (found : List (List ℕ)) (d : Declaration) → IsInfo bytes found d → info_of bytes found ≡ Ok d
unfolding info_of
info_reads bytes found d i =
    let empty = two 0x8000 ++ (two i.this ++ (two 0 ++ (two 0 ++ (two 0 ++ two 0)))) in
    let s1 = first empty (counted attribute_bytes i.attributes) i.back in
    let s2 = second empty (counted attribute_bytes i.attributes) i.back in
    let next = i.pool_end + 12 in
    let l = listed_in i.pool i.attributes found d.packages i.packages in
    let f = front_reads bytes 8 (record { minor = i.minor; major = i.major; small = i.numbers.0; stands = i.front; version = i.version }) in
    let p : pool_or (pool_at bytes 8) ≡ Ok (i.pool, i.pool_end) = rw (pool_again bytes 8 i.pool i.pool_end i.pool_stands) refl in
    let c = empty_class_reads i.pool bytes i.pool_end next (record { this = i.this; small = i.numbers.1; stands = s1; named = i.this_named }) in
    let a = attributes_again i.pool bytes next (length bytes) i.attributes (record { «module» = Some (module_in d); packages = l.listed; main = d.main }) (declared_in bytes found d i l) i.are s2 in
    bind_to _ f (bind_to _ p (bind_to _ c (bind_to _ a
    (whole_so found bytes (module_in d) l.listed d.main d (same_declaration d (or_found found l.listed) l.same) i.base i.none_missing))))
