-- Sites where attributes of one name alone are read: what was read is at most one, and at most one is read.
use Rattle.std.proofs.Common.{◌≡◌, ℕ, List, [], ◌∷◌, Bool, true, false, cond, Option, None, Some, refl, ap, ◌∙◌, map, subst}
use Rattle.std.specs.Prelude.{is_some}
use Rattle.std.specs.Option.{option_and_then}
use Rattle.jl_pool.specs.declared.entry.Entry.{Entry}
use Rattle.jl_pool.specs.Pool.{text_of}
use Rattle.jl_classfile.specs.Attributes.{alone, may_begin, first_of}
use Rattle.jl_classfile.specs.Spelling.{Attribute, AtMostOne, contents, is_some_that}
use Rattle.jl_classfile.proofs.AttributeLaws.{AreRead, forms_of, with_form}
use Rattle.jl_classfile.proofs.Slots.{filtered}

abbrev second : {K : Type 0} → K × List ℕ → List ℕ
second p = p.1

by_flag : {K : Type 0} (form : K) (b : Bool) (content : List ℕ) (cs : List (List ℕ)) (ps : List (K × List ℕ)) → cs ≡ map second ps → cond b (content ∷ cs) cs ≡ map second (with_form content ps (cond b (Some form) None))
by_flag form true content cs ps h = ap (λ ds. content ∷ ds) h
by_flag form false content cs ps h = h

by_name : {K : Type 0} (is_read : List ℕ → Bool) (form : K) (o : Option (List ℕ)) (content : List ℕ) (cs : List (List ℕ)) (ps : List (K × List ℕ)) → cs ≡ map second ps
    → cond (is_some_that is_read o) (content ∷ cs) cs ≡ map second (with_form content ps (option_and_then (alone is_read form) o))
by_name is_read form None content cs ps h = h
by_name is_read form (Some name) content cs ps h = by_flag form (is_read name) content cs ps h

contents_alone : {K : Type 0} (is_read : List ℕ → Bool) (form : K) (pool : List Entry) (attributes : List Attribute) → contents pool is_read attributes ≡ map second (forms_of (alone is_read form) pool attributes)
contents_alone is_read form pool [] = refl
contents_alone is_read form pool (a ∷ others) =
    filtered pool is_read a others (is_some_that is_read (text_of pool a.index)) refl
    ∙ by_name is_read form (text_of pool a.index) a.content (contents pool is_read others) (forms_of (alone is_read form) pool others) (contents_alone is_read form pool others)

-- a meaning without the form
abbrev pub Means : {K V : Type 0} → (List ℕ → V → Type 0) → K → List ℕ → V → Type 0
Means M form content v = M content v

-- what the attributes declare, which is something only where it may be
pub record Declared {V : Type 0} (M : List ℕ → V → Type 0) (is_read : List ℕ → Bool) (may : Bool) (pool : List Entry) (attributes : List Attribute) (all : Option V) : Type 0 where
  pub one : AtMostOne M (contents pool is_read attributes) all
  pub allowed : is_some all ≡ true → may ≡ true

one_of : {K V : Type 0} (M : List ℕ → V → Type 0) (may : Bool) (ps : List (K × List ℕ)) (vs : List V) → AreRead (Means M) (may_begin may) [] ps vs → AtMostOne M (map second ps) (first_of vs) × (is_some (first_of vs) ≡ true → may ≡ true)
one_of M may [] [] read = (refl, λ e. absurd cc)
one_of M may [] (v ∷ vs) read = absurd read
one_of M may (p ∷ ps) [] read = absurd read
one_of M may (p ∷ []) (v ∷ []) read = ((p.1, refl, read.1), λ e. read.0)
one_of M may (p ∷ []) (v ∷ w ∷ vs) read = absurd read.2
one_of M may (p ∷ q ∷ ps) (v ∷ []) read = absurd read.2
one_of M may (p ∷ q ∷ ps) (v ∷ w ∷ vs) read = absurd (let no : false ≡ true = read.2.0 in cc)

pub single_found : {K V : Type 0} (M : List ℕ → V → Type 0) (is_read : List ℕ → Bool) (form : K) (may : Bool) (pool : List Entry) (attributes : List Attribute) (vs : List V)
    → AreRead (Means M) (may_begin may) [] (forms_of (alone is_read form) pool attributes) vs → Declared M is_read may pool attributes (first_of vs)
single_found M is_read form may pool attributes vs read =
    let o = one_of M may (forms_of (alone is_read form) pool attributes) vs read in
    record { one = rw (contents_alone is_read form pool attributes) o.0; allowed = o.1 }

abbrev pub list_of : {V : Type 0} → Option V → List V
list_of None = []
list_of (Some v) = v ∷ []

pub first_of_list : {V : Type 0} (o : Option V) → first_of (list_of o) ≡ o
first_of_list None = refl
first_of_list (Some v) = refl

read_one : {K V : Type 0} (M : List ℕ → V → Type 0) (may : Bool) (ps : List (K × List ℕ)) (o : Option V) → AtMostOne M (map second ps) o → (is_some o ≡ true → may ≡ true) → AreRead (Means M) (may_begin may) [] ps (list_of o)
read_one M may [] None one allowed = tt
read_one M may (p ∷ ps) None one allowed = absurd cc
read_one M may [] (Some v) one allowed = absurd cc
read_one M may (p ∷ []) (Some v) one allowed = (allowed refl, (let same : one.0 ≡ p.1 = cc in subst (λ c. M c v) same one.2), tt)
read_one M may (p ∷ q ∷ ps) (Some v) one allowed = absurd cc

pub single_read : {K V : Type 0} (M : List ℕ → V → Type 0) (is_read : List ℕ → Bool) (form : K) (may : Bool) (pool : List Entry) (attributes : List Attribute) (o : Option V)
    → Declared M is_read may pool attributes o → AreRead (Means M) (may_begin may) [] (forms_of (alone is_read form) pool attributes) (list_of o)
single_read M is_read form may pool attributes o d =
    read_one M may (forms_of (alone is_read form) pool attributes) o (subst (λ cs. AtMostOne M cs o) (contents_alone is_read form pool attributes) d.one) d.allowed
