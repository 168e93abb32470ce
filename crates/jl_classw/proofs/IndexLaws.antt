-- The index that is written for a name has that name.
use Rattle.std.proofs.Common.{◌≡◌, ℕ, zero, suc, ◌<◌, Bool, true, false, List, ◌∷◌, length, slice_get, Option, None, Some, refl, sym, ap, subst, ◌∙◌, arith, inl, inr}
use Rattle.std.specs.Prelude.{◌⊎◌, ◌==◌, option_map}
use Rattle.std.specs.Option.{option_and_then}
use Rattle.std.specs.Cmp.Lexicographic.{bytes_decides}
use Rattle.std.proofs.lemmas.Bool.{cases_Bool, cases_lt, ne_eqb}
use Rattle.std.proofs.lemmas.Option.{slice_get_cases}
use Rattle.jl_logic.specs.Order.{is_text}
use Rattle.jl_names.specs.Text.{plain}
use Rattle.jl_names.specs.Names.{names_a_class}
use Rattle.jl_pool.specs.declared.entry.Entry.{Entry}
use Rattle.jl_pool.specs.declared.entry.Entry.TheVariants as entries
use Rattle.jl_pool.specs.Pool.{utf8_units, class_name, text_of, paired, paired_text, that, text_that, class_named}
use Rattle.jl_class.specs.Meaning.{super_named}
use Rattle.jl_classfile.specs.Spelling.{HasName}
use Rattle.jl_classw.specs.Writing.{is_named, or_here, first_of, or_zero, index_by, text_index, class_index, super_index, attribute_index}

-- ---- the least index

pub text_is : (a b : List ℕ) → is_text a b ≡ true → a ≡ b
text_is a b e = (bytes_decides a b).0 e

pub text_self : (a : List ℕ) → is_text a a ≡ true
text_self a = (bytes_decides a a).1 refl

named_is : (o : Option (List ℕ)) (name : List ℕ) → is_named o name ≡ true → o ≡ Some name
named_is None name e = absurd cc
named_is (Some text) name e = ap (λ (t : List ℕ). Some t) (sym (text_is name text e))

is_named_self : (o : Option (List ℕ)) (name : List ℕ) → o ≡ Some name → is_named o name ≡ true
is_named_self o name e = rw e (text_self name)

some_is : {A : Type 0} (x y : A) → Some x ≡ Some y → x ≡ y
some_is x y e = cc

pub some_or_none : {A : Type 0} (o : Option A) → ((x : A) × (o ≡ Some x)) ⊎ (o ≡ None)
some_or_none None = inr refl
some_or_none (Some x) = inl (x, refl)

or_here_is : (o : Option ℕ) (b : Bool) (n j : ℕ) → or_here o b n ≡ Some j → (o ≡ Some j) ⊎ ((b ≡ true) × (n ≡ j))
or_here_is (Some i) b n j e = inl e
or_here_is None true n j e = inr (refl, some_is n j e)
or_here_is None false n j e = absurd cc

sound : (named : ℕ → Option (List ℕ)) (name : List ℕ) (n j : ℕ) → first_of named name n ≡ Some j → (named j ≡ Some name) × (j < n)
unfolding first_of
sound named name zero j e = absurd cc
sound named name (suc n) j e = elim (or_here_is (first_of named name n) (is_named (named n) name) n j e) [
  | inl h ↦ let s = sound named name n j h in (s.0, omega (arith, s.1))
  | inr h ↦ (ap named (sym h.1) ∙ named_is (named n) name h.0, omega (arith, h.1))
]

or_here_some : (o : Option ℕ) (b : Bool) (n : ℕ) → ((j : ℕ) × (o ≡ Some j)) ⊎ (b ≡ true) → (j : ℕ) × (or_here o b n ≡ Some j)
or_here_some (Some i) b n h = (i, refl)
or_here_some None b n (inl h) = absurd (let e = h.1 in cc)
or_here_some None b n (inr t) = (n, rw t refl)

is_below : (i n : ℕ) → i < suc n → (i < n) ⊎ (i ≡ n)
is_below i n lt = elim (cases_lt i n) [
  | inl h ↦ inl h
  | inr h ↦ inr (omega arith)
]

found : (named : ℕ → Option (List ℕ)) (name : List ℕ) (n i : ℕ) → named i ≡ Some name → i < n → (j : ℕ) × (first_of named name n ≡ Some j)
unfolding first_of
found named name zero i e lt = absurd (omega arith)
found named name (suc n) i e lt = elim (is_below i n lt) [
  | inl h ↦ or_here_some (first_of named name n) (is_named (named n) name) n (inl (found named name n i e h))
  | inr same ↦ or_here_some (first_of named name n) (is_named (named n) name) n (inr (is_named_self (named n) name (ap named (sym same) ∙ e)))
]

-- ---- what an index names stands within the pool

pub within : {A : Type 0} (f : Option Entry → Option A) (pool : List Entry) (i : ℕ) (x : A) → f None ≡ None → f (slice_get pool i) ≡ Some x → i < length pool
within f pool i x none e = elim (slice_get_cases pool i).1 [
  | inl h ↦ h.1
  | inr h ↦ absurd (let g = sym e ∙ (ap f h.1 ∙ none) in cc)
]

pub text_within : (pool : List Entry) (i : ℕ) (x : List ℕ) → paired_text pool i ≡ Some x → i < length pool
text_within pool i x e = within (λ o. option_and_then paired (utf8_units o)) pool i x refl e

pub class_within : (pool : List Entry) (i : ℕ) (x : List ℕ) → class_named pool i ≡ Some x → i < length pool
class_within pool i x e = within (λ o. option_and_then (text_that names_a_class pool) (class_name o)) pool i x refl e

pub plain_within : (pool : List Entry) (i : ℕ) (x : List ℕ) → text_of pool i ≡ Some x → i < length pool
plain_within pool i x e = within (λ o. option_map plain (utf8_units o)) pool i x refl e

-- ---- the index that is written

pub right_index : (named : List Entry → ℕ → Option (List ℕ)) (pool : List Entry) (name : List ℕ) (i : ℕ) → named pool i ≡ Some name → i < length pool
    → (named pool (index_by named pool name) ≡ Some name) × (index_by named pool name < length pool)
right_index named pool name i e lt =
    let f = found (named pool) name (length pool) i e lt in
    let s = sound (named pool) name (length pool) f.0 f.1 in
    let same : index_by named pool name ≡ f.0 = ap or_zero f.1 in
    (ap (named pool) same ∙ s.0, omega (arith, s.1, same))

-- a text that has a property
pub that_is : (test : List ℕ → Bool) (o : Option (List ℕ)) (name : List ℕ) → option_and_then (that test) o ≡ Some name → (o ≡ Some name) × (test name ≡ true)
that_is test None name e = absurd cc
that_is test (Some text) name e = elim (cases_Bool (test text)) [
  | inl t ↦ let same : text ≡ name = some_is text name (rw t at e) in (ap (λ (x : List ℕ). Some x) same, subst (λ (x : List ℕ). test x ≡ true) same t)
  | inr f ↦ absurd (let g : None ≡ Some name = (rw f at e) in cc)
]

pub is_that : (test : List ℕ → Bool) (o : Option (List ℕ)) (name : List ℕ) → o ≡ Some name → test name ≡ true → option_and_then (that test) o ≡ Some name
is_that test o name e t = rw e (rw t refl)

module _ (pool : List Entry) (few : length pool < 65536) where
  pub text_place : (test : List ℕ → Bool) (name : List ℕ) (i : ℕ) → text_that test pool i ≡ Some name → (text_that test pool (text_index pool name) ≡ Some name) × (text_index pool name < 65536)
  text_place test name i e =
      let t = that_is test (paired_text pool i) name e in
      let r = right_index paired_text pool name i t.0 (text_within pool i name t.0) in
      (is_that test (paired_text pool (text_index pool name)) name r.0 t.1, omega (arith, r.1, few))

  pub class_place : (name : List ℕ) (i : ℕ) → HasName (class_named pool) i name → HasName (class_named pool) (class_index pool name) name
  class_place name i h =
      let r = right_index class_named pool name i h.1 (class_within pool i name h.1) in
      (omega (arith, r.1, few), r.0)

  pub attribute_place : (name : List ℕ) (i : ℕ) → text_of pool i ≡ Some name → (text_of pool (attribute_index pool name) ≡ Some name) × (attribute_index pool name < 65536)
  attribute_place name i e =
      let r = right_index text_of pool name i e (plain_within pool i name e) in
      (r.0, omega (arith, r.1, few))

-- ---- superclasses

super_is : (pool : List Entry) (i : ℕ) (name : List ℕ) → super_named pool i ≡ Some (Some name) → class_named pool i ≡ Some name
super_is pool i name e = elim (cases_Bool (i == 0)) [
  | inl t ↦ absurd (let g : Some None ≡ Some (Some name) = (rw t at e) in cc)
  | inr f ↦ named_class (class_named pool i) (rw f at e)
]
  where
    named_class : (o : Option (List ℕ)) → option_and_then (λ name. Some (Some name)) o ≡ Some (Some name) → o ≡ Some name
    named_class None e = absurd cc
    named_class (Some text) e = cc

pub is_super : (pool : List Entry) (i : ℕ) (name : List ℕ) → i == 0 ≡ false → class_named pool i ≡ Some name → super_named pool i ≡ Some (Some name)
is_super pool i name f e = rw f (rw e refl)

pub not_first : (es : List Entry) (i : ℕ) (name : List ℕ) → class_named (entries.Unused ∷ es) i ≡ Some name → i == 0 ≡ false
not_first es zero name e = absurd cc
not_first es (suc i) name e = ne_eqb (suc i) 0 (λ same. omega arith)

pub super_place : (es : List Entry) → length (entries.Unused ∷ es) < 65536 → (name : Option (List ℕ)) (i : ℕ) → HasName (super_named (entries.Unused ∷ es)) i name
    → HasName (super_named (entries.Unused ∷ es)) (super_index (entries.Unused ∷ es) name) name
super_place es few None i h = (omega arith, refl)
super_place es few (Some name) i h =
    let pool = entries.Unused ∷ es in
    let p = class_place pool few name i (h.0, super_is pool i name h.1) in
    (p.0, is_super pool (class_index pool name) name (not_first es (class_index pool name) name p.1) p.1)
