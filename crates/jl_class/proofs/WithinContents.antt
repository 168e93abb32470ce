-- Within the content of an attribute nothing is cut: what does not fit makes the attribute wrong (JVMS 4.7).
use Rattle.std.proofs.Common.{◌≡◌, ℕ, zero, suc, ◌+◌, Bool, true, false, cond, ltb, eqb, List, [], ◌∷◌, ◌++◌, length, take, drop, Option, None, Some, Result, Ok, Err, sym, ap, inl, inr}
use Rattle.std.specs.Prelude.{◌&&◌}
use Rattle.byteorder.specs.Endian.{big_number}
use Rattle.jl_reading.specs.Reading.{◌>>=◌, number_at, each_at, steps_at}
use Rattle.jl_reading.proofs.Appended.{bind_err, not_both, err_is, failed}
use Rattle.jl_names.specs.Names.{names_a_field}
use Rattle.jl_optable.specs.declared.attributes.AttrForm.{AttrForm}
use Rattle.jl_optable.specs.declared.attributes.AttrForm.TheVariants as forms
use Rattle.jl_pool.specs.declared.entry.Entry.{Entry}
use Rattle.jl_pool.specs.Pool.{text_of, text_that, class_named}
use Rattle.jl_classfile.specs.Places.{content_at}
use Rattle.jl_classfile.specs.Attributes.{Reader, some_or, passed_at, read_at, by_form, attribute_at, attributes_at, first_of}
use Rattle.jl_class.specs.declared.fault.ClassFault.{ClassFault}
use Rattle.jl_class.specs.declared.fault.ClassFault.TheVariants as faults
use Rattle.jl_class.specs.declared.nests.ClassAttribute.TheVariants as attributes
use Rattle.jl_class.specs.Faults.{cut_in}
use Rattle.jl_class.specs.Meaning.{describes_a_field, sets_field}
use Rattle.jl_class.specs.Longer.{cut_at}
use Rattle.jl_class.specs.Reading.{reader, one_at, constant_at, handler_at, handlers_at, long_text_at, frames_at, frames_reader, code_at, whole, named_in, host_at, listed_at, classes_at, passing_reader, component_at, each_component_at, components_at, record_at, meaning_at}

-- the fault of what was read is of nothing that is cut
pub record Uncut {A : Type 0} (r : Result A ClassFault) : Type 0 where
  pub fault : (f : ClassFault) → r ≡ Err f → cut_at f ≡ None

pub read : {A : Type 0} (x : A) → Uncut (Ok x)
read x = record { fault = λ f e. not_both x f e }

wrong : {A : Type 0} (place : ℕ) → Uncut {A = A} (failed (faults.Attribute place))
wrong place = record { fault = λ f e. ap cut_at (sym (err_is (faults.Attribute place) f e)) }

pub then : {A B : Type 0} (r : Result A ClassFault) (g : A → Result B ClassFault) → Uncut r → ((x : A) → Uncut (g x)) → Uncut (r >>= g)
then r g a b = record {
  fault = λ f e.
      elim (bind_err r g f e) [
        | inl h ↦ a.fault f h
        | inr o ↦ (b o.0).fault f o.2
      ];
}

either : {A : Type 0} (b : Bool) (r s : Result A ClassFault) → Uncut r → Uncut s → Uncut (cond b r s)
either true r s a c = a
either false r s a c = c

there : {A : Type 0} (place : ℕ) (o : Option A) → Uncut (some_or (faults.Attribute place) o)
there place None = wrong place
there place (Some x) = read x

number : (place k : ℕ) (bytes : List ℕ) (at : ℕ) → Uncut (number_at (cut_in place) k bytes at)
number place k bytes at = either (ltb (length bytes) (at + k)) (failed (faults.Attribute place)) (Ok (big_number k (drop at bytes), at + k)) (wrong place) (read (big_number k (drop at bytes), at + k))

content : (place : ℕ) (bytes : List ℕ) (at : ℕ) → Uncut (content_at (cut_in place) bytes at)
unfolding content_at
content place bytes at =
    then (number_at (cut_in place) 4 bytes at) _ (number place 4 bytes at)
    (λ len. either (ltb (length bytes) (len.1 + len.0)) (failed (faults.Attribute place)) (Ok ((take (len.1 + len.0) bytes, len.1), len.1 + len.0)) (wrong place) (read ((take (len.1 + len.0) bytes, len.1), len.1 + len.0)))

each : {X : Type 0} (one : List X → ℕ → Result (X × ℕ) ClassFault) → ((done : List X) (at : ℕ) → Uncut (one done at)) → (n : ℕ) (done : List X) (at : ℕ) → Uncut (each_at one done n at)
unfolding each_at
each one law zero done at = read (done, at)
each one law (suc n) done at = then (one done at) _ (law done at) (λ x. each one law n (done ++ x.0 ∷ []) x.1)

steps : {S : Type 0} (one : S → ℕ → Result (S × ℕ) ClassFault) → ((done : S) (at : ℕ) → Uncut (one done at)) → (n : ℕ) (done : S) (at : ℕ) → Uncut (steps_at one n done at)
unfolding steps_at
steps one law zero done at = read (done, at)
steps one law (suc n) done at = then (one done at) _ (law done at) (λ x. steps one law n x.0 x.1)

-- all of a content was read
ended : {A : Type 0} (place : ℕ) (bytes : List ℕ) (x : A × ℕ) → Uncut (whole place bytes x)
ended place bytes x = either (eqb x.1 (length bytes)) (Ok x.0) (failed (faults.Attribute place)) (read x.0) (wrong place)

-- ---- attributes inside a content

module _ {V : Type 0} (form : List ℕ → Option AttrForm) (may : List V → AttrForm → Bool) (meaning : AttrForm → ℕ → List ℕ → ℕ → Result V ClassFault)
    (law : (k : AttrForm) (place : ℕ) (bytes : List ℕ) (at : ℕ) → Uncut (meaning k place bytes at)) where
  abbrev inner : Reader AttrForm V ClassFault
  inner = reader form cut_in may meaning

  formed : (place : ℕ) (bytes : List ℕ) (done : List V) (at : ℕ) (o : Option AttrForm) → Uncut (by_form inner place bytes done at o)
  unfolding passed_at read_at
  formed place bytes done at None = then (content_at (cut_in place) bytes at) _ (content place bytes at) (λ c. read (done, c.1))
  formed place bytes done at (Some k) =
      either (may done k) (content_at (cut_in place) bytes at >>= λ c. meaning k place c.0.0 c.0.1 >>= λ v. Ok (done ++ v ∷ [], c.1)) (failed (faults.Attribute place))
      (then (content_at (cut_in place) bytes at) _ (content place bytes at) (λ c. then (meaning k place c.0.0 c.0.1) _ (law k place c.0.0 c.0.1) (λ v. read (done ++ v ∷ [], c.1))))
      (wrong place)

  attribute : (pool : List Entry) (bytes : List ℕ) (done : List V) (at : ℕ) → Uncut (attribute_at inner pool bytes done at)
  unfolding attribute_at
  attribute pool bytes done at =
      then (number_at (cut_in at) 2 bytes at) _ (number at 2 bytes at)
      (λ index. then (some_or (faults.Attribute at) (text_of pool index.0)) _ (there at (text_of pool index.0)) (λ name. formed at bytes done index.1 (form name)))

  inside : (pool : List Entry) (place : ℕ) (bytes : List ℕ) (at : ℕ) → Uncut (one_at inner (cut_in place) pool bytes at)
  unfolding one_at
  inside pool place bytes at =
      then (number_at (cut_in place) 2 bytes at) _ (number place 2 bytes at)
      (λ count. then (attributes_at inner pool count.0 bytes count.1) _ (steps (attribute_at inner pool bytes) (attribute pool bytes) count.0 [] count.1) (λ all. read (first_of all.0, all.1)))

-- ---- contents of a field's and a method's attributes (JVMS 4.7.2, 4.7.3)

pub constant : (flags : ℕ) (desc : List ℕ) (pool : List Entry) (place : ℕ) (bytes : List ℕ) (at : ℕ) → Uncut (constant_at flags desc pool place bytes at)
unfolding constant_at
constant flags desc pool place bytes at =
    then (number_at (cut_in place) 2 bytes at) _ (number place 2 bytes at)
    (λ i. either (eqb i.1 (length bytes) && sets_field flags desc pool i.0) (Ok i.0) (failed (faults.Attribute place)) (read i.0) (wrong place))

handler : (place : ℕ) (bytes : List ℕ) (at : ℕ) → Uncut (handler_at place bytes at)
unfolding handler_at
handler place bytes at =
    then (number_at (cut_in place) 2 bytes at) _ (number place 2 bytes at)
    (λ start. then (number_at (cut_in place) 2 bytes start.1) _ (number place 2 bytes start.1)
    (λ end. then (number_at (cut_in place) 2 bytes end.1) _ (number place 2 bytes end.1)
    (λ target. then (number_at (cut_in place) 2 bytes target.1) _ (number place 2 bytes target.1)
    (λ kind. read (record { start = start.0; end = end.0; target = target.0; catch_type = kind.0 }, kind.1)))))

handlers : (place : ℕ) (bytes : List ℕ) (at : ℕ) → Uncut (handlers_at place bytes at)
unfolding handlers_at
handlers place bytes at = then (number_at (cut_in place) 2 bytes at) _ (number place 2 bytes at) (λ count. each (λ done. handler_at place bytes) (λ done p. handler place bytes p) count.0 [] count.1)

long_text : (place : ℕ) (bytes : List ℕ) (at : ℕ) → Uncut (long_text_at place bytes at)
unfolding long_text_at
long_text place bytes at = then (content_at (cut_in place) bytes at) _ (content place bytes at) (λ c. read (drop c.0.1 c.0.0, c.1))

frames : (pool : List Entry) (place : ℕ) (bytes : List ℕ) (at : ℕ) → Uncut (one_at frames_reader (cut_in place) pool bytes at)
frames pool place bytes at = inside frames_reader.form frames_reader.may_stand (λ form. frames_at) (λ form p window q. read (drop q window)) pool place bytes at

pub code : (pool : List Entry) (place : ℕ) (bytes : List ℕ) (at : ℕ) → Uncut (code_at pool place bytes at)
unfolding code_at
code pool place bytes at =
    then (number_at (cut_in place) 2 bytes at) _ (number place 2 bytes at)
    (λ stack. then (number_at (cut_in place) 2 bytes stack.1) _ (number place 2 bytes stack.1)
    (λ locals. then (long_text_at place bytes locals.1) _ (long_text place bytes locals.1)
    (λ text. then (handlers_at place bytes text.1) _ (handlers place bytes text.1)
    (λ hs. then (one_at frames_reader (cut_in place) pool bytes hs.1) _ (frames pool place bytes hs.1)
    (λ kept. ended place bytes (record { max_stack = stack.0; max_locals = locals.0; code = text.0; handlers = hs.0; frames = kept.0 }, kept.1))))))

-- ---- contents of a class's attributes (JVMS 4.7.28 to 4.7.31)

named : {A : Type 0} (place : ℕ) (names : ℕ → Option A) (bytes : List ℕ) (at : ℕ) → Uncut (named_in place names bytes at)
unfolding named_in
named place names bytes at = then (number_at (cut_in place) 2 bytes at) _ (number place 2 bytes at) (λ i. then (some_or (faults.Attribute place) (names i.0)) _ (there place (names i.0)) (λ name. read (name, i.1)))

host : (pool : List Entry) (place : ℕ) (bytes : List ℕ) (at : ℕ) → Uncut (host_at pool place bytes at)
unfolding host_at
host pool place bytes at = then (named_in place (class_named pool) bytes at) (whole place bytes) (named place (class_named pool) bytes at) (ended place bytes)

listed : (pool : List Entry) (place : ℕ) (bytes : List ℕ) (at : ℕ) → Uncut (listed_at pool place bytes at)
unfolding listed_at
listed pool place bytes at =
    then (number_at (cut_in place) 2 bytes at) _ (number place 2 bytes at) (λ count. each (λ done. named_in place (class_named pool) bytes) (λ done p. named place (class_named pool) bytes p) count.0 [] count.1)

classes : (pool : List Entry) (place : ℕ) (bytes : List ℕ) (at : ℕ) → Uncut (classes_at pool place bytes at)
unfolding classes_at
classes pool place bytes at = then (listed_at pool place bytes at) (whole place bytes) (listed pool place bytes at) (ended place bytes)

others : (pool : List Entry) (place : ℕ) (bytes : List ℕ) (at : ℕ) → Uncut (one_at passing_reader (cut_in place) pool bytes at)
others pool place bytes at = inside passing_reader.form passing_reader.may_stand passing_reader.meaning (λ form p window q. wrong p) pool place bytes at

component : (pool : List Entry) (place : ℕ) (bytes : List ℕ) (at : ℕ) → Uncut (component_at pool place bytes at)
unfolding component_at
component pool place bytes at =
    then (named_in place (text_that names_a_field pool) bytes at) _ (named place (text_that names_a_field pool) bytes at)
    (λ name. then (named_in place (text_that describes_a_field pool) bytes name.1) _ (named place (text_that describes_a_field pool) bytes name.1)
    (λ desc. then (one_at passing_reader (cut_in place) pool bytes desc.1) _ (others pool place bytes desc.1) (λ rest. read (tt, rest.1))))

each_component : (pool : List Entry) (place : ℕ) (bytes : List ℕ) (count at : ℕ) → Uncut (each_component_at pool place bytes count at)
unfolding each_component_at
each_component pool place bytes count at = steps (λ done. component_at pool place bytes) (λ done p. component pool place bytes p) count tt at

components : (pool : List Entry) (place : ℕ) (bytes : List ℕ) (at : ℕ) → Uncut (components_at pool place bytes at)
unfolding components_at
components pool place bytes at = then (number_at (cut_in place) 2 bytes at) _ (number place 2 bytes at) (λ count. each_component pool place bytes count.0 count.1)

of_record : (pool : List Entry) (place : ℕ) (bytes : List ℕ) (at : ℕ) → Uncut (record_at pool place bytes at)
unfolding record_at
of_record pool place bytes at = then (components_at pool place bytes at) (whole place bytes) (components pool place bytes at) (ended place bytes)

pub meaning : (pool : List Entry) (form : AttrForm) (place : ℕ) (bytes : List ℕ) (at : ℕ) → Uncut (meaning_at pool form place bytes at)
unfolding meaning_at
meaning pool forms.Host place bytes at = then (host_at pool place bytes at) _ (host pool place bytes at) (λ name. read (attributes.Host name))
meaning pool forms.Members place bytes at = then (classes_at pool place bytes at) _ (classes pool place bytes at) (λ names. read (attributes.Members names))
meaning pool forms.Components place bytes at = then (record_at pool place bytes at) _ (of_record pool place bytes at) (λ kept. read attributes.Record)
meaning pool forms.Permits place bytes at = then (classes_at pool place bytes at) _ (classes pool place bytes at) (λ names. read (attributes.Permits names))
meaning pool forms.ConstantIndex place bytes at = wrong place
meaning pool forms.CodeBody place bytes at = wrong place
meaning pool forms.Frames place bytes at = wrong place
