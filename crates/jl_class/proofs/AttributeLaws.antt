-- The attributes of a site where one name is read: what is read stands there, and what stands there is read.
use Rattle.std.proofs.Common.{◌≡◌, ℕ, ◌≤◌, List, length, Bool, Option, Result, Ok, ap, subst}
use Rattle.jl_reading.specs.Reading.{Stands, IsBytes, number_at, counted}
use Rattle.jl_reading.proofs.Steps.{bind_ok, ok_is, bind_to}
use Rattle.jl_optable.specs.declared.attributes.AttrForm.{AttrForm}
use Rattle.jl_pool.specs.declared.entry.Entry.{Entry}
use Rattle.jl_classfile.specs.Attributes.{Reader, alone, attributes_at, may_begin}
use Rattle.jl_classfile.specs.Spelling.{Attribute, AreAttributes, attribute_bytes}
use Rattle.jl_classfile.proofs.AttributeLaws.{Laws, attributes_stand, attributes_again}
use Rattle.jl_classfile.proofs.Single.{Declared, Means, single_found, single_read, list_of, first_of_list}
use Rattle.jl_class.specs.declared.fault.ClassFault.{ClassFault}
use Rattle.jl_class.specs.Reading.{one_at, reader}

-- what a reader of contents reads is what the content means
pub record ContentLaws {V : Type 0} (one : ℕ → List ℕ → ℕ → Result V ClassFault) (M : List ℕ → V → Type 0) : Type 0 where
  pub stand : (place : ℕ) (bytes : List ℕ) (at : ℕ) (v : V) → IsBytes bytes → at ≤ length bytes → one place bytes at ≡ Ok v → (content : List ℕ) × M content v × Stands bytes at content (length bytes)
  pub read : (place : ℕ) (bytes : List ℕ) (at : ℕ) (v : V) (content : List ℕ) → M content v → Stands bytes at content (length bytes) → one place bytes at ≡ Ok v

abbrev pub one_reader : {V : Type 0} → (List ℕ → Bool) → AttrForm → (ℕ → ℕ → ClassFault) → Bool → (ℕ → List ℕ → ℕ → Result V ClassFault) → Reader AttrForm V ClassFault
one_reader is_read form cut may one = reader (alone is_read form) cut (may_begin may) (λ k. one)

pub reader_laws : {V : Type 0} (is_read : List ℕ → Bool) (form : AttrForm) (cut : ℕ → ℕ → ClassFault) (may : Bool) (one : ℕ → List ℕ → ℕ → Result V ClassFault) (M : List ℕ → V → Type 0) → ContentLaws one M
    → Laws (one_reader is_read form cut may one) (Means M)
reader_laws is_read form cut may one M laws = record { stand = λ k. laws.stand; read = λ k. laws.read }

pub record AllStand {V : Type 0} (M : List ℕ → V → Type 0) (is_read : List ℕ → Bool) (may : Bool) (pool : List Entry) (bytes : List ℕ) (at : ℕ) (x : Option V × ℕ) : Type 0 where
  pub attributes : List Attribute
  pub are : AreAttributes pool attributes
  pub stands : Stands bytes at (counted attribute_bytes attributes) x.1
  pub declared : Declared M is_read may pool attributes x.0

-- all attributes behind their count
pub one_stands : {V : Type 0} (count_cut : ℕ → ClassFault) (is_read : List ℕ → Bool) (form : AttrForm) (cut : ℕ → ℕ → ClassFault) (may : Bool) (one : ℕ → List ℕ → ℕ → Result V ClassFault) (M : List ℕ → V → Type 0) → ContentLaws one M
    → (pool : List Entry) (bytes : List ℕ) (at : ℕ) (x : Option V × ℕ) → IsBytes bytes → one_at (one_reader is_read form cut may one) count_cut pool bytes at ≡ Ok x → AllStand M is_read may pool bytes at x
unfolding one_at
one_stands count_cut is_read form cut may one M laws pool bytes at x b e =
    let r = one_reader is_read form cut may one in
    let s1 = bind_ok (number_at count_cut 2 bytes at) _ x e in
    let s2 = bind_ok (attributes_at r pool s1.0.0 bytes s1.0.1) _ x s1.2 in
    let a = attributes_stand count_cut r (Means M) (reader_laws is_read form cut may one M laws) pool bytes at s1.0 s2.0 b s1.1 s2.1 in
    subst (AllStand M is_read may pool bytes at) (ok_is _ _ s2.2) (record { attributes = a.attributes; are = a.are; stands = a.stands; declared = single_found M is_read form may pool a.attributes s2.0.0 a.read })

-- all attributes that stand there are read
pub one_again : {V : Type 0} (count_cut : ℕ → ClassFault) (is_read : List ℕ → Bool) (form : AttrForm) (cut : ℕ → ℕ → ClassFault) (may : Bool) (one : ℕ → List ℕ → ℕ → Result V ClassFault) (M : List ℕ → V → Type 0) → ContentLaws one M
    → (pool : List Entry) (bytes : List ℕ) (at next : ℕ) (attributes : List Attribute) (all : Option V) → Declared M is_read may pool attributes all → AreAttributes pool attributes
    → Stands bytes at (counted attribute_bytes attributes) next → one_at (one_reader is_read form cut may one) count_cut pool bytes at ≡ Ok (all, next)
unfolding one_at
one_again count_cut is_read form cut may one M laws pool bytes at next attributes all d are s =
    let r = one_reader is_read form cut may one in
    let t = attributes_again count_cut r (Means M) (reader_laws is_read form cut may one M laws) pool bytes at next attributes (list_of all) are (single_read M is_read form may pool attributes all d) s in
    bind_to _ t.0 (bind_to _ t.1 (ap (λ o. Ok (o, next)) (first_of_list all)))
