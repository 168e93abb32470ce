-- How long the tables of a class are that some bytes spell, and its one nest.
use Rattle.std.proofs.Common.{◌≡◌, ◌≢◌, ◌<◌, ◌&&◌, ℕ, zero, suc, List, [], ◌∷◌, ◌++◌, Option, None, Some, Result, Ok, false, length, eqb, refl, ap, subst, arith}
use Rattle.std.specs.Prelude.{is_some}
use Rattle.jl_logic.specs.Lists.{Match}
use Rattle.jl_reading.specs.Reading.{IsBytes, number_at, steps_at}
use Rattle.jl_reading.proofs.Steps.{bind_ok, else_ok, ok_is}
use Rattle.jl_optable.specs.declared.attributes.AttrForm.{AttrForm}
use Rattle.jl_optable.specs.declared.attributes.Site.TheVariants as sites
use Rattle.jl_optable.specs.Attributes.{attribute_form}
use Rattle.jl_pool.specs.declared.entry.Entry.{Entry}
use Rattle.jl_pool.specs.Pool.{class_named, text_of}
use Rattle.jl_pool.specs.Spelling.{StandsPool}
use Rattle.jl_classfile.specs.Attributes.{attribute_at, attributes_at, by_form, first_that, passed_at, read_at, some_or}
use Rattle.jl_classfile.specs.Front.{front_at}
use Rattle.jl_classfile.specs.Places.{content_at}
use Rattle.jl_class.specs.declared.fault.ClassFault.{ClassFault}
use Rattle.jl_class.specs.declared.fault.ClassFault.TheVariants as faults
use Rattle.jl_class.specs.declared.nests.ClassAttribute.{ClassAttribute}
use Rattle.jl_class.specs.declared.nests.Nests.{Nests}
use Rattle.jl_class.specs.Classes.{Class}
use Rattle.jl_class.specs.Faults.{short}
use Rattle.jl_class.specs.Meaning.{are_class_flags, is_interface, may_follow}
use Rattle.jl_class.specs.Reading.{class_pool_at, flags_at, named_at, super_at, interfaces_at, fields_at, methods_at, nests_at, class_of, class_reader, host_in, members_in, meaning_at, nests_of}
use Rattle.jl_class.specs.Spelling.{IsClass, or_nothing}
use Rattle.jl_class.specs.Tables.{AreTables, HasOneNest}
use Rattle.jl_class.proofs.FileLaws.{class_stands, class_with}
use Rattle.jl_class.proofs.NestLaws.{Apart, apart_step, meaning_of}

-- ---- tables

match_long : {A B : Type 0} (R : A → B → Type 0) (xs : List A) (ys : List B) → Match R xs ys → length ys ≡ length xs
match_long R [] [] m = refl
match_long R (x ∷ xs) (y ∷ ys) m = ap suc (match_long R xs ys m.1)
match_long R [] (y ∷ ys) m = absurd m
match_long R (x ∷ xs) [] m = absurd m

few : {A B : Type 0} (R : A → B → Type 0) (xs : List A) (ys : List B) → Match R xs ys → length xs < 65536 → length ys < 65536
few R xs ys m lt = omega (arith, match_long R xs ys m, lt)

pool_few : (bytes : List ℕ) (at : ℕ) (pool : List Entry) (next : ℕ) → StandsPool bytes at pool next → length pool < 65536
pool_few bytes at pool next h = omega (arith, ap length h.first_unused, h.right.few)

-- what lists members has no host
one_nest : (members : Option (List (List ℕ))) (host : Option (List ℕ)) (listed : List (List ℕ)) → listed ≡ or_nothing members → (is_some host && is_some members) ≡ false → listed ≢ [] → host ≡ None
one_nest members None listed e apart some = refl
one_nest None (Some h) listed e apart some = absurd (some e)
one_nest (Some ms) (Some h) listed e apart some = absurd cc

pub tables_stand_lem : (bytes : List ℕ) (c : Class) → IsClass bytes c → AreTables c
tables_stand_lem bytes c is = record {
  fields = few _ is.parts.fields c.fields is.declares.fields.each is.declares.fields.few;
  methods = few _ is.parts.methods c.methods is.declares.methods.each is.declares.methods.few;
  pool = pool_few bytes 8 c.pool is.pool_end is.pool;
  nest = one_nest is.declares.nests.members c.nest_host c.nest_members is.declares.nests.members_are is.declares.nests.apart;
}

pub tables_read_lem : (bytes : List ℕ) (c : Class) → IsBytes bytes → class_of bytes ≡ Ok c → AreTables c
tables_read_lem bytes c b e = tables_stand_lem bytes c (class_stands bytes c b e)

-- ---- a nest, whatever the numbers are

module _ (major flags : ℕ) (pool : List Entry) (bytes : List ℕ) where
  abbrev one : List ClassAttribute → ℕ → Result (List ClassAttribute × ℕ) ClassFault
  one = attribute_at (class_reader major flags pool) pool bytes

  apart_by_form : (place : ℕ) (done : List ClassAttribute) (at : ℕ) (o : Option AttrForm) (x : List ClassAttribute × ℕ) → by_form (class_reader major flags pool) place bytes done at o ≡ Ok x → Apart done → Apart x.0
  unfolding passed_at read_at
  apart_by_form place done at None x e a =
      let s = bind_ok (content_at ((class_reader major flags pool).cut place) bytes at) _ x e in
      subst (λ (y : List ClassAttribute × ℕ). Apart y.0) (ok_is (done, s.0.1) x s.2) a
  apart_by_form place done at (Some k) x e a =
      let g = else_ok (may_follow flags done k) _ _ x e in
      let s = bind_ok (content_at ((class_reader major flags pool).cut place) bytes at) _ x g.1 in
      let t = bind_ok (meaning_at pool k place s.0.0.0 s.0.0.1) _ x s.2 in
      subst (λ (y : List ClassAttribute × ℕ). Apart y.0) (ok_is (done ++ t.0 ∷ [], s.0.1) x t.2) (apart_step flags done k t.0 g.0 (meaning_of pool k place s.0.0.0 s.0.0.1 t.0 t.1) a)

  apart_one : (done : List ClassAttribute) (at : ℕ) (x : List ClassAttribute × ℕ) → one done at ≡ Ok x → Apart done → Apart x.0
  unfolding attribute_at
  apart_one done at x e a =
      let s = bind_ok (number_at ((class_reader major flags pool).cut at) 2 bytes at) _ x e in
      let t = bind_ok (some_or ((class_reader major flags pool).unnamed at) (text_of pool s.0.0)) _ x s.2 in
      apart_by_form at done s.0.1 (attribute_form sites.Class major t.0) x t.2 a

  apart_all : (n : ℕ) (done : List ClassAttribute) (at : ℕ) (x : List ClassAttribute × ℕ) → steps_at one n done at ≡ Ok x → Apart done → Apart x.0
  unfolding steps_at
  apart_all zero done at x e a = subst (λ (y : List ClassAttribute × ℕ). Apart y.0) (ok_is (done, at) x e) a
  apart_all (suc n) done at x e a =
      let s = bind_ok (one done at) _ x e in
      apart_all n s.0.0 s.0.1 x s.2 (apart_one done at s.0 s.1 a)

  nests_apart : (at : ℕ) (x : Nests × ℕ) → nests_at major flags pool bytes at ≡ Ok x → x.0.members ≢ [] → x.0.host ≡ None
  unfolding nests_at
  nests_apart at x e =
      let s = bind_ok (number_at short 2 bytes at) _ x e in
      let t = bind_ok (attributes_at (class_reader major flags pool) pool s.0.0 bytes s.0.1) _ x s.2 in
      let a : Apart t.0.0 = apart_all s.0.0 [] s.0.1 t.0 t.1 refl in
      subst (λ (y : Nests × ℕ). y.0.members ≢ [] → y.0.host ≡ None) (ok_is (nests_of t.0.0, t.0.1) x t.2)
      (one_nest (first_that members_in t.0.0) (first_that host_in t.0.0) (or_nothing (first_that members_in t.0.0)) refl a)

pub nest_read_lem : (bytes : List ℕ) (c : Class) → class_of bytes ≡ Ok c → HasOneNest c
unfolding class_of
nest_read_lem bytes c e =
    let s1 = bind_ok (front_at short faults.Magic faults.Version bytes 0) _ c e in
    let s2 = bind_ok (class_pool_at bytes s1.0.1) _ c s1.2 in
    let s3 = bind_ok (flags_at are_class_flags bytes s2.0.1) _ c s2.2 in
    let s4 = bind_ok (named_at (class_named s2.0.0) bytes s3.0.1) _ c s3.2 in
    let s5 = bind_ok (super_at s3.0.0 s4.0.0 s2.0.0 bytes s4.0.1) _ c s4.2 in
    let s6 = bind_ok (interfaces_at s2.0.0 bytes s5.0.1) _ c s5.2 in
    let s7 = bind_ok (fields_at (is_interface s3.0.0) s2.0.0 bytes s6.0.1) _ c s6.2 in
    let s8 = bind_ok (methods_at s2.0.0 bytes s7.0.1) _ c s7.2 in
    let s9 = bind_ok (nests_at s1.0.0.0 s3.0.0 s2.0.0 bytes s8.0.1) _ c s8.2 in
    let made = class_with s1.0.0 s3.0.0 s4.0.0 s5.0.0 s6.0.0 s7.0.0 s8.0.0 s9.0.0 s2.0.0 in
    let g = else_ok (eqb s9.0.1 (length bytes)) faults.Trailing (Ok made) c s9.2 in
    subst HasOneNest (ok_is made c g.1) (nests_apart s1.0.0.0 s3.0.0 s2.0.0 bytes s8.0.1 s9.0 s9.1)
