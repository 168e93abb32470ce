-- Reading a class file where more bytes follow.
use Rattle.std.proofs.Common.{◌≡◌, ℕ, ◌+◌, ◌<◌, ◌≤◌, Bool, true, false, cond, ltb, eqb, not, List, [], ◌∷◌, ◌++◌, length, take, Option, None, Some, Result, Ok, Err, refl, sym, ap, subst, ◌∙◌, arith, inl, inr}
use Rattle.std.specs.Prelude.{◌&&◌, map, position, is_some}
use Rattle.std.proofs.lemmas.Bool.{eqb-true, eq-eqb, ne_eqb, cases_lt}
use Rattle.std.proofs.lemmas.List.{length-append}
use Rattle.jl_reading.specs.Reading.{◌>>=◌, number_at, each_at}
use Rattle.jl_reading.specs.Appended.{Appends, IsPast, NoPart}
use Rattle.jl_reading.proofs.Appended.{number_appends, bind_appends, given_appends, fault_appends, cond_appends, each_appends, steps_appends, part_appends, appends_as, mapped_appends, ReadsPart, bind_err, bind_as, bind_fails, past_fault, not_both, err_is, failed}
use Rattle.jl_reading.proofs.Steps.{bind_ok, else_ok, ok_is}
use Rattle.jl_names.specs.Names.{names_a_field}
use Rattle.jl_optable.specs.declared.attributes.AttrForm.{AttrForm}
use Rattle.jl_optable.specs.declared.attributes.AttrForm.TheVariants as forms
use Rattle.jl_optable.specs.declared.attributes.Site.TheVariants as sites
use Rattle.jl_optable.specs.Attributes.{attribute_form}
use Rattle.jl_pool.specs.declared.entry.Entry.{Entry}
use Rattle.jl_pool.specs.declared.fault.PoolFault.{PoolFault}
use Rattle.jl_pool.specs.declared.fault.PoolFault.TheVariants as pools
use Rattle.jl_pool.specs.Pool.{text_of, text_that, class_named}
use Rattle.jl_pool.specs.Reading.{pool_at}
use Rattle.jl_pool.specs.Laws as pool_laws
use Rattle.jl_pool.proofs.Longer.{pool_longer}
use Rattle.jl_classfile.specs.Front.{front_at, is_version}
use Rattle.jl_classfile.specs.Places.{content_at}
use Rattle.jl_classfile.specs.Attributes.{Reader, some_or, passed_at, read_at, by_form, attribute_at, attributes_at, alone, first_of, may_begin}
use Rattle.jl_class.specs.declared.fault.ClassFault.{ClassFault}
use Rattle.jl_class.specs.declared.fault.ClassFault.TheVariants as faults
use Rattle.jl_class.specs.declared.member.FieldDecl.{FieldDecl}
use Rattle.jl_class.specs.declared.member.MethodDecl.{MethodDecl}
use Rattle.jl_class.specs.Classes.{Class}
use Rattle.jl_class.specs.Faults.{short, of_pool, pool_or, name_or}
use Rattle.jl_class.specs.Meaning.{is_interface, are_class_flags, are_field_flags, are_method_flags, has_code, super_named, may_extend, is_of_modules, names_method_with, describes_a_field, describes_method_with, field_key, method_key, is_member_among, names_constant_value, names_code, may_follow}
use Rattle.jl_class.specs.Reading.{outside_or, class_pool_at, flags_at, named_at, super_at, interfaces_at, reader, in_file, one_at, constant_at, constants_at, code_at, codes_at, meaning_at, class_reader, nests_of, nests_at, field_at, fields_at, method_at, methods_at, class_of}
use Rattle.jl_class.specs.Longer.{cut_at, IsReadPast, Lasts, ReadsLonger}
use Rattle.jl_class.proofs.WithinContents.{Uncut}
use Rattle.jl_class.proofs.WithinContents as within

abbrev Longer : {A : Type 0} → ℕ → (List ℕ → Result (A × ℕ) ClassFault) → Type 0
Longer {A} at reading = Appends cut_at (λ (x : A × ℕ). x.1) NoPart at reading

number : (k at : ℕ) → Longer at (λ bytes. number_at short k bytes at)
number k at = number_appends cut_at NoPart short (λ p. refl) k at

then : {A B : Type 0} (at : ℕ) (f : List ℕ → Result (A × ℕ) ClassFault) (g : A × ℕ → List ℕ → Result (B × ℕ) ClassFault) → Longer at f → ((x : A × ℕ) → Longer x.1 (g x)) → Longer at (λ bytes. f bytes >>= λ x. g x bytes)
then {A} {B} at f g a b = bind_appends cut_at NoPart (λ (x : A × ℕ). x.1) (λ (x : B × ℕ). x.1) at f g a b

value : {A : Type 0} (x : A) (at : ℕ) → Longer at (λ (bytes : List ℕ). Ok (x, at))
value {A} x at = given_appends cut_at NoPart (λ (y : A × ℕ). y.1) at (x, at) refl

wrong : {A : Type 0} (at : ℕ) (f : ClassFault) → cut_at f ≡ None → Longer {A = A} at (λ bytes. failed f)
wrong {A} at f e = fault_appends cut_at NoPart (λ (x : A × ℕ). x.1) at f e

either : {A : Type 0} (at : ℕ) (b : Bool) (f g : List ℕ → Result (A × ℕ) ClassFault) → Longer at f → Longer at g → Longer at (λ bytes. cond b (f bytes) (g bytes))
either {A} at b f g a c = cond_appends cut_at NoPart (λ (x : A × ℕ). x.1) at b f g a c

-- ---- contents, each one unit of the file

-- What is done with a content that is whole ends behind it, and cuts nothing of it.
record OfContent {A : Type 0} (k : (List ℕ × ℕ) × ℕ → Result (A × ℕ) ClassFault) : Type 0 where
  ends : (c : (List ℕ × ℕ) × ℕ) (x : A × ℕ) → k c ≡ Ok x → x.1 ≡ c.1
  whole : (c : (List ℕ × ℕ) × ℕ) → Uncut (k c)

no_place : {C : Type 0} (o : Option ℕ) (p : ℕ) → o ≡ None → o ≡ Some p → C
no_place o p none some = absurd cc

past : {A : Type 0} (start next : ℕ) (r : Result (A × ℕ) ClassFault) → start < next → ((x : A × ℕ) → r ≡ Ok x → x.1 ≡ next) → Uncut r → IsPast cut_at (λ (x : A × ℕ). x.1) start r
past start next (Ok x) lt ends u = let e = ends x refl in omega (arith, lt, e)
past start next (Err f) lt ends u = past_fault cut_at NoPart {p = start} f (cut_at f) refl (λ q some. no_place (cut_at f) q (u.fault f refl) some)

part : {A : Type 0} (k : (List ℕ × ℕ) × ℕ → Result (A × ℕ) ClassFault) → OfContent k → (start n : ℕ) → ReadsPart cut_at NoPart (λ (x : A × ℕ). x.1) short start n 0 (λ window. k ((window, start), start + n))
part k o start n = record {
  read = λ bytes x le e. o.ends ((take (start + n) bytes, start), start + n) x e;
  cut = λ bytes f p le e some. no_place (cut_at f) p ((o.whole ((take (start + n) bytes, start), start + n)).fault f e) some;
  few = λ bytes le few. absurd (omega (arith, few));
  less = λ bytes le few. absurd (omega (arith, few));
  enough = λ bytes le pos fits. past start (start + n) (k ((take (start + n) bytes, start), start + n)) (omega (arith, pos)) (λ x e. o.ends ((take (start + n) bytes, start), start + n) x e) (o.whole ((take (start + n) bytes, start), start + n));
}

-- a length, and what is done with the content behind it
content_then : {A : Type 0} (bytes : List ℕ) (k : (List ℕ × ℕ) × ℕ → Result A ClassFault) (r : Result (ℕ × ℕ) ClassFault)
    → ((r >>= λ len. cond (ltb (length bytes) (len.1 + len.0)) (Err (short len.1)) (Ok ((take (len.1 + len.0) bytes, len.1), len.1 + len.0))) >>= k)
    ≡ (r >>= λ len. cond (ltb (length bytes) (len.1 + len.0)) (Err (short len.1)) (k ((take (len.1 + len.0) bytes, len.1), len.1 + len.0)))
content_then bytes k (Err d) = refl
content_then bytes k (Ok len) = by (ltb (length bytes) (len.1 + len.0))
  where
    by : (b : Bool) → (cond b (Err (short len.1)) (Ok ((take (len.1 + len.0) bytes, len.1), len.1 + len.0)) >>= k) ≡ cond b (Err (short len.1)) (k ((take (len.1 + len.0) bytes, len.1), len.1 + len.0))
    by true = refl
    by false = refl

content : {A : Type 0} (at : ℕ) (k : (List ℕ × ℕ) × ℕ → Result (A × ℕ) ClassFault) → OfContent k → Longer at (λ bytes. content_at short bytes at >>= k)
unfolding content_at
content {A} at k o =
    appends_as cut_at NoPart (λ (x : A × ℕ). x.1) at
    (λ bytes. number_at short 4 bytes at >>= λ len. cond (ltb (length bytes) (len.1 + len.0)) (Err (short len.1)) (k ((take (len.1 + len.0) bytes, len.1), len.1 + len.0)))
    (λ bytes. content_at short bytes at >>= k) (λ bytes. sym (content_then bytes k (number_at short 4 bytes at)))
    (then at (λ bytes. number_at short 4 bytes at) (λ len bytes. cond (ltb (length bytes) (len.1 + len.0)) (Err (short len.1)) (k ((take (len.1 + len.0) bytes, len.1), len.1 + len.0))) (number 4 at)
    (λ len. part_appends cut_at NoPart (λ (x : A × ℕ). x.1) short (λ p. refl) len.1 len.0 0 (λ window. k ((window, len.1), len.1 + len.0)) (part k o len.1 len.0)))

-- ---- attributes (JVMS 4.7)

module _ {V : Type 0} (form : List ℕ → Option AttrForm) (may : List V → AttrForm → Bool) (meaning : AttrForm → ℕ → List ℕ → ℕ → Result V ClassFault)
    (law : (k : AttrForm) (place : ℕ) (bytes : List ℕ) (at : ℕ) → Uncut (meaning k place bytes at)) where
  abbrev r : Reader AttrForm V ClassFault
  r = reader form in_file may meaning

  passed : (done : List V) → OfContent (λ c. Ok (done, c.1))
  passed done = record {
    ends = λ c x e. sym (ap (λ (y : List V × ℕ). y.1) (ok_is (done, c.1) x e));
    whole = λ c. within.read (done, c.1);
  }

  added : (k : AttrForm) (place : ℕ) (done : List V) → OfContent (λ c. meaning k place c.0.0 c.0.1 >>= λ v. Ok (done ++ v ∷ [], c.1))
  added k place done = record {
    ends = λ c x e.
        let o = bind_ok (meaning k place c.0.0 c.0.1) (λ v. Ok (done ++ v ∷ [], c.1)) x e in
        sym (ap (λ (y : List V × ℕ). y.1) (ok_is (done ++ o.0 ∷ [], c.1) x o.2));
    whole = λ c. within.then (meaning k place c.0.0 c.0.1) _ (law k place c.0.0 c.0.1) (λ v. within.read (done ++ v ∷ [], c.1));
  }

  formed : (place : ℕ) (done : List V) (at : ℕ) (o : Option AttrForm) → Longer at (λ bytes. by_form r place bytes done at o)
  unfolding passed_at read_at
  formed place done at None = content at (λ c. Ok (done, c.1)) (passed done)
  formed place done at (Some k) =
      either at (may done k) (λ bytes. content_at short bytes at >>= λ c. meaning k place c.0.0 c.0.1 >>= λ v. Ok (done ++ v ∷ [], c.1)) (λ bytes. failed (faults.Attribute place))
      (content at (λ c. meaning k place c.0.0 c.0.1 >>= λ v. Ok (done ++ v ∷ [], c.1)) (added k place done)) (wrong at (faults.Attribute place) refl)

  texted : (place : ℕ) (done : List V) (at : ℕ) (o : Option (List ℕ)) → Longer at (λ bytes. some_or (faults.Attribute place) o >>= λ name. by_form r place bytes done at (form name))
  texted place done at None = wrong at (faults.Attribute place) refl
  texted place done at (Some name) = formed place done at (form name)

  attribute : (pool : List Entry) (done : List V) (at : ℕ) → Longer at (λ bytes. attribute_at r pool bytes done at)
  unfolding attribute_at
  attribute pool done at =
      then at (λ bytes. number_at short 2 bytes at) (λ index bytes. some_or (faults.Attribute at) (text_of pool index.0) >>= λ name. by_form r at bytes done index.1 (form name)) (number 2 at)
      (λ index. texted at done index.1 (text_of pool index.0))

  all_attributes : (pool : List Entry) (count at : ℕ) → Longer at (λ bytes. attributes_at r pool count bytes at)
  all_attributes pool count at = steps_appends cut_at NoPart (λ bytes. attribute_at r pool bytes) (λ done p. attribute pool done p) count [] at

  the_one : (pool : List Entry) (at : ℕ) → Longer at (λ bytes. one_at r short pool bytes at)
  unfolding one_at
  the_one pool at =
      then at (λ bytes. number_at short 2 bytes at) (λ count bytes. attributes_at r pool count.0 bytes count.1 >>= λ read. Ok (first_of read.0, read.1)) (number 2 at)
      (λ count. then count.1 (λ bytes. attributes_at r pool count.0 bytes count.1) (λ read bytes. Ok (first_of read.0, read.1)) (all_attributes pool count.0 count.1) (λ read. value (first_of read.0) read.1))

constants : (flags : ℕ) (desc : List ℕ) (pool : List Entry) (at : ℕ) → Longer at (λ bytes. constants_at flags desc pool bytes at)
unfolding constants_at
constants flags desc pool at = the_one (alone names_constant_value forms.ConstantIndex) (may_begin true) (λ form. constant_at flags desc pool) (λ form place bytes p. within.constant flags desc pool place bytes p) pool at

codes : (flags : ℕ) (pool : List Entry) (at : ℕ) → Longer at (λ bytes. codes_at flags pool bytes at)
unfolding codes_at
codes flags pool at = the_one (alone names_code forms.CodeBody) (may_begin (has_code flags)) (λ form. code_at pool) (λ form place bytes p. within.code pool place bytes p) pool at

nests : (major flags : ℕ) (pool : List Entry) (at : ℕ) → Longer at (λ bytes. nests_at major flags pool bytes at)
unfolding nests_at
nests major flags pool at =
    then at (λ bytes. number_at short 2 bytes at) (λ count bytes. attributes_at (class_reader major flags pool) pool count.0 bytes count.1 >>= λ read. Ok (nests_of read.0, read.1)) (number 2 at)
    (λ count. then count.1 (λ bytes. attributes_at (class_reader major flags pool) pool count.0 bytes count.1) (λ read bytes. Ok (nests_of read.0, read.1))
    (all_attributes (attribute_form sites.Class major) (may_follow flags) (meaning_at pool) (within.meaning pool) pool count.0 count.1) (λ read. value (nests_of read.0) read.1))

-- ---- up to the fields

version : (at : ℕ) → Longer at (λ bytes. front_at short faults.Magic faults.Version bytes at)
unfolding front_at
version at =
    then at (λ bytes. number_at short 4 bytes at) _ (number 4 at)
    (λ head. either head.1 (not (eqb head.0 0xCAFEBABE)) (λ bytes. failed faults.Magic) _ (wrong head.1 faults.Magic refl)
    (then head.1 (λ bytes. number_at short 2 bytes head.1) _ (number 2 head.1)
    (λ minor. then minor.1 (λ bytes. number_at short 2 bytes minor.1) _ (number 2 minor.1)
    (λ major. either major.1 (is_version major.0 minor.0) (λ bytes. Ok ((major.0, minor.0), major.1)) (λ bytes. failed (faults.Version major.0 minor.0)) (value (major.0, minor.0) major.1) (wrong major.1 (faults.Version major.0 minor.0) refl)))))

pool_cut : (d : PoolFault) → cut_at (of_pool d) ≡ pool_laws.cut_at d
pool_cut (pools.Short at) = refl
pool_cut (pools.Entry i) = refl
pool_cut pools.NoMemory = refl

any_pool : (at : ℕ) → Longer at (λ bytes. pool_or (pool_at bytes at))
any_pool at = mapped_appends pool_laws.cut_at cut_at NoPart (λ (x : List Entry × ℕ). x.1) at (λ bytes. pool_at bytes at) pool_or of_pool (λ x. refl) (λ d. refl) pool_cut (pool_longer at)

outside : (o : Option ℕ) (read : List Entry × ℕ) → Longer read.1 (λ (bytes : List ℕ). outside_or o read)
outside None read = value read.0 read.1
outside (Some index) read = wrong read.1 (faults.Pool index) refl

class_pool : (at : ℕ) → Longer at (λ bytes. class_pool_at bytes at)
unfolding class_pool_at
class_pool at = then at (λ bytes. pool_or (pool_at bytes at)) (λ read bytes. outside_or (position is_of_modules read.0) read) (any_pool at) (λ read. outside (position is_of_modules read.0) read)

flags : (are_right : ℕ → Bool) (at : ℕ) → Longer at (λ bytes. flags_at are_right bytes at)
unfolding flags_at
flags are_right at =
    then at (λ bytes. number_at short 2 bytes at) (λ n bytes. cond (are_right n.0) (Ok n) (Err (faults.Flags at))) (number 2 at)
    (λ n. either n.1 (are_right n.0) (λ bytes. Ok n) (λ bytes. failed (faults.Flags at)) (value n.0 n.1) (wrong n.1 (faults.Flags at) refl))

by_name : {A : Type 0} (place at : ℕ) (o : Option A) → Longer at (λ (bytes : List ℕ). name_or place o >>= λ name. Ok (name, at))
by_name place at None = wrong at (faults.Name place) refl
by_name place at (Some name) = value name at

named : {A : Type 0} (names : ℕ → Option A) (at : ℕ) → Longer at (λ bytes. named_at names bytes at)
unfolding named_at
named names at = then at (λ bytes. number_at short 2 bytes at) (λ i bytes. name_or at (names i.0) >>= λ name. Ok (name, i.1)) (number 2 at) (λ i. by_name at i.1 (names i.0))

super : (class_flags : ℕ) (name : List ℕ) (pool : List Entry) (at : ℕ) → Longer at (λ bytes. super_at class_flags name pool bytes at)
unfolding super_at
super class_flags name pool at =
    then at (λ bytes. named_at (super_named pool) bytes at) (λ s bytes. cond (may_extend class_flags name s.0) (Ok s) (Err (faults.Name at))) (named (super_named pool) at)
    (λ s. either s.1 (may_extend class_flags name s.0) (λ bytes. Ok s) (λ bytes. failed (faults.Name at)) (value s.0 s.1) (wrong s.1 (faults.Name at) refl))

interfaces : (pool : List Entry) (at : ℕ) → Longer at (λ bytes. interfaces_at pool bytes at)
unfolding interfaces_at
interfaces pool at =
    then at (λ bytes. number_at short 2 bytes at) (λ count bytes. each_at (λ done. named_at (class_named pool) bytes) [] count.0 count.1) (number 2 at)
    (λ count. each_appends cut_at NoPart (λ bytes done. named_at (class_named pool) bytes) (λ done p. named (class_named pool) p) count.0 [] count.1)

-- ---- members (JVMS 4.5, 4.6)

field : (in_interface : Bool) (pool : List Entry) (done : List FieldDecl) (at : ℕ) → Longer at (λ bytes. field_at in_interface pool bytes done at)
unfolding field_at
field in_interface pool done at =
    then at (λ bytes. flags_at (are_field_flags in_interface) bytes at) _ (flags (are_field_flags in_interface) at)
    (λ fs. then fs.1 (λ bytes. named_at (text_that names_a_field pool) bytes fs.1) _ (named (text_that names_a_field pool) fs.1)
    (λ name. then name.1 (λ bytes. named_at (text_that describes_a_field pool) bytes name.1) _ (named (text_that describes_a_field pool) name.1)
    (λ desc. either desc.1 (is_member_among (record { name = name.0; desc = desc.0 }) (map field_key done)) (λ bytes. failed (faults.RepeatedMember name.0)) _ (wrong desc.1 (faults.RepeatedMember name.0) refl)
    (then desc.1 (λ bytes. constants_at fs.0 desc.0 pool bytes desc.1) _ (constants fs.0 desc.0 pool desc.1)
    (λ constant. value (record { flags = fs.0; name = name.0; desc = desc.0; constant = constant.0 }) constant.1)))))

fields : (in_interface : Bool) (pool : List Entry) (at : ℕ) → Longer at (λ bytes. fields_at in_interface pool bytes at)
unfolding fields_at
fields in_interface pool at =
    then at (λ bytes. number_at short 2 bytes at) (λ count bytes. each_at (field_at in_interface pool bytes) [] count.0 count.1) (number 2 at)
    (λ count. each_appends cut_at NoPart (λ bytes. field_at in_interface pool bytes) (λ done p. field in_interface pool done p) count.0 [] count.1)

method : (pool : List Entry) (done : List MethodDecl) (at : ℕ) → Longer at (λ bytes. method_at pool bytes done at)
unfolding method_at
method pool done at =
    then at (λ bytes. flags_at are_method_flags bytes at) _ (flags are_method_flags at)
    (λ fs. then fs.1 (λ bytes. named_at (text_that (names_method_with fs.0) pool) bytes fs.1) _ (named (text_that (names_method_with fs.0) pool) fs.1)
    (λ name. then name.1 (λ bytes. named_at (text_that (describes_method_with name.0) pool) bytes name.1) _ (named (text_that (describes_method_with name.0) pool) name.1)
    (λ desc. either desc.1 (is_member_among (record { name = name.0; desc = desc.0 }) (map method_key done)) (λ bytes. failed (faults.RepeatedMember name.0)) _ (wrong desc.1 (faults.RepeatedMember name.0) refl)
    (then desc.1 (λ bytes. codes_at fs.0 pool bytes desc.1) _ (codes fs.0 pool desc.1)
    (λ code. either code.1 (has_code fs.0 && not (is_some code.0)) (λ bytes. failed (faults.Attribute code.1)) _ (wrong code.1 (faults.Attribute code.1) refl)
    (value (record { flags = fs.0; name = name.0; desc = desc.0; code = code.0 }) code.1))))))

methods : (pool : List Entry) (at : ℕ) → Longer at (λ bytes. methods_at pool bytes at)
unfolding methods_at
methods pool at =
    then at (λ bytes. number_at short 2 bytes at) (λ count bytes. each_at (method_at pool bytes) [] count.0 count.1) (number 2 at)
    (λ count. each_appends cut_at NoPart (λ bytes. method_at pool bytes) (λ done p. method pool done p) count.0 [] count.1)

-- ---- the whole file

rest_past : {C : Type 0} (start p : ℕ) (g : List ℕ → Result C ClassFault) → Lasts start g → p < start → (bytes : List ℕ) (r : Result C ClassFault) → start ≤ length bytes → g bytes ≡ r → IsReadPast p r
rest_past start p g l lt bytes (Ok c) le e = tt
rest_past start p g l lt bytes (Err f) le e = past_fault cut_at NoPart {p = p} f (cut_at f) refl (λ q some. let c = (l.cut bytes f q le e some).0 in omega (arith, c, lt))

then_past : {A C : Type 0} (start p : ℕ) (f : List ℕ → Result (A × ℕ) ClassFault) (g : A × ℕ → List ℕ → Result C ClassFault) → Longer start f → ((x : A × ℕ) → Lasts x.1 (g x))
    → (bytes : List ℕ) (r : Result (A × ℕ) ClassFault) → start ≤ length bytes → f bytes ≡ r → IsPast cut_at (λ (x : A × ℕ). x.1) p r → IsReadPast p (r >>= λ x. g x bytes)
then_past start p f g a b bytes (Ok x) le e past = rest_past x.1 p (g x) (b x) past bytes (g x bytes) (a.read bytes x le e).1 refl
then_past start p f g a b bytes (Err d) le e past = past

no_part : {C : Type 0} (bytes : List ℕ) (p : ℕ) → NoPart bytes p → C
no_part bytes p w = absurd w

lasts_then : {A C : Type 0} (start : ℕ) (f : List ℕ → Result (A × ℕ) ClassFault) (g : A × ℕ → List ℕ → Result C ClassFault) → Longer start f → ((x : A × ℕ) → Lasts x.1 (g x)) → Lasts start (λ bytes. f bytes >>= λ x. g x bytes)
lasts_then start f g a b = record {
  read = λ bytes c n more le e.
      let o = bind_ok (f bytes) (λ x. g x bytes) c e in
      let first = a.read bytes o.0 le o.1 in
      bind_as (λ x. g x (bytes ++ n ∷ more)) (first.2 (n ∷ more) ∙ o.1) ((b o.0).read bytes c n more first.1 o.2);
  fault = λ bytes d le e none.
      elim (bind_err (f bytes) (λ x. g x bytes) d e) [
        | inl h ↦ λ more. bind_fails (λ x. g x (bytes ++ more)) (a.fault bytes d le h none more ∙ h) ∙ sym e
        | inr o ↦
            let first = a.read bytes o.0 le o.1 in
            λ more. bind_as (λ x. g x (bytes ++ more)) (first.2 more ∙ o.1) ((b o.0).fault bytes d first.1 o.2 none more ∙ o.2) ∙ sym e
      ];
  cut = λ bytes d p le e some.
      elim (bind_err (f bytes) (λ x. g x bytes) d e) [
        | inl h ↦
            let c = a.cut bytes d p le h some in (
              c.0,
              c.1,
              elim c.2 [
                | inl goes ↦ (goes.0, goes.1, then_past start p f g a b (bytes ++ goes.0) (f (bytes ++ goes.0)) (omega (arith, le, length-append bytes goes.0)) refl goes.2)
                | inr w ↦ no_part bytes p w.0
              ],
            )
        | inr o ↦
            let first = a.read bytes o.0 le o.1 in
            let c = (b o.0).cut bytes d p first.1 o.2 some in
            let low = c.0 in
            let goes = c.2 in (
              omega (arith, first.0, low),
              c.1,
              (goes.0, goes.1, subst (λ (r : Result _ ClassFault). IsReadPast p (r >>= λ x. g x (bytes ++ goes.0))) (sym (first.2 goes.0 ∙ o.1)) goes.2),
            )
      ];
}

-- the class, where the file ends at a place
abbrev ended : Class → ℕ → List ℕ → Result Class ClassFault
ended class at bytes = cond (eqb at (length bytes)) (Ok class) (Err faults.Trailing)

left_over : (class : Class) (at : ℕ) (bytes : List ℕ) → at < length bytes → ended class at bytes ≡ Err faults.Trailing
left_over class at bytes lt = rw (ne_eqb at (length bytes) (λ e. omega (arith, e, lt))) refl

-- a fault at the end is of bytes that are left over
record LeftOver (at : ℕ) (bytes : List ℕ) (f : ClassFault) : Type 0 where
  less : at < length bytes
  is : faults.Trailing ≡ f

at_end : (class : Class) (at : ℕ) (bytes : List ℕ) → at ≡ length bytes → ended class at bytes ≡ Ok class
at_end class at bytes same = rw (eq-eqb at (length bytes) same) refl

end_fault : (class : Class) (at : ℕ) (bytes : List ℕ) (f : ClassFault) → at ≤ length bytes → ended class at bytes ≡ Err f → LeftOver at bytes f
end_fault class at bytes f le e = elim (cases_lt at (length bytes)) [
  | inl lt ↦ record { less = lt; is = err_is faults.Trailing f (sym (left_over class at bytes lt) ∙ e) }
  | inr ge ↦ not_both class f (sym (at_end class at bytes (omega (arith, le, ge))) ∙ e)
]

end_lasts : (class : Class) (at : ℕ) → Lasts at (ended class at)
end_lasts class at = record {
  read = λ bytes c b more le e.
      let g = else_ok (eqb at (length bytes)) faults.Trailing (Ok class) c e in
      let same = eqb-true at (length bytes) g.0 in
      left_over class at (bytes ++ b ∷ more) (omega (arith, same, length-append bytes (b ∷ more)));
  fault = λ bytes f le e none more.
      let over = end_fault class at bytes f le e in
      let lt = over.less in
      left_over class at (bytes ++ more) (omega (arith, lt, length-append bytes more)) ∙ sym (left_over class at bytes lt);
  cut = λ bytes f p le e some. no_place (cut_at f) p (ap cut_at (sym (end_fault class at bytes f le e).is)) some;
}

pub reads_longer : ReadsLonger
unfolding class_of
reads_longer =
    lasts_then 0 (λ bytes. front_at short faults.Magic faults.Version bytes 0) _ (version 0)
    (λ v. lasts_then v.1 (λ bytes. class_pool_at bytes v.1) _ (class_pool v.1)
    (λ pool. lasts_then pool.1 (λ bytes. flags_at are_class_flags bytes pool.1) _ (flags are_class_flags pool.1)
    (λ fs. lasts_then fs.1 (λ bytes. named_at (class_named pool.0) bytes fs.1) _ (named (class_named pool.0) fs.1)
    (λ name. lasts_then name.1 (λ bytes. super_at fs.0 name.0 pool.0 bytes name.1) _ (super fs.0 name.0 pool.0 name.1)
    (λ s. lasts_then s.1 (λ bytes. interfaces_at pool.0 bytes s.1) _ (interfaces pool.0 s.1)
    (λ is. lasts_then is.1 (λ bytes. fields_at (is_interface fs.0) pool.0 bytes is.1) _ (fields (is_interface fs.0) pool.0 is.1)
    (λ ds. lasts_then ds.1 (λ bytes. methods_at pool.0 bytes ds.1) _ (methods pool.0 ds.1)
    (λ ms. lasts_then ms.1 (λ bytes. nests_at v.0.0 fs.0 pool.0 bytes ms.1) _ (nests v.0.0 fs.0 pool.0 ms.1)
    (λ n. end_lasts (record {
      major = v.0.0;
      minor = v.0.1;
      flags = fs.0;
      name = name.0;
      super_name = s.0;
      interfaces = is.0;
      fields = ds.0;
      methods = ms.0;
      nest_host = n.0.host;
      nest_members = n.0.members;
      permits = n.0.permits;
      pool = pool.0;
    }) n.1)))))))))
