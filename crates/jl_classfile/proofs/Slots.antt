-- Attributes by their forms: what was read is at most one of each form, and at most one of each form is read.
use Rattle.std.proofs.Common.{◌≡◌, ℕ, List, [], ◌∷◌, ◌++◌, Bool, true, false, cond, Option, None, Some, refl, sym, ap, ◌∙◌, subst, length, arith}
use Rattle.std.specs.List.{AllByRecursion}
use Rattle.std.specs.Option.{option_and_then}
use Rattle.std.proofs.lemmas.List.{append-nil}
use Rattle.jl_reading.specs.Reading.{Stands}
use Rattle.jl_reading.proofs.Stands.{Stands-from_parts}
use Rattle.jl_reading.proofs.Steps.{ok_is}
use Rattle.jl_pool.specs.declared.entry.Entry.{Entry}
use Rattle.jl_pool.specs.Pool.{text_of}
use Rattle.jl_classfile.specs.Attributes.{Reader, first_that, or_else}
use Rattle.jl_classfile.specs.Spelling.{Attribute, AtMostOne, contents, is_some_that}
use Rattle.jl_classfile.proofs.AttributeLaws.{AreRead, Laws, forms_of, with_form}

-- ---- the contents of a form

abbrev pub contents_of : {K : Type 0} → (K → Bool) → List (K × List ℕ) → List (List ℕ)
contents_of is [] = []
contents_of is (p ∷ ps) = cond (is p.0) (p.1 ∷ contents_of is ps) (contents_of is ps)

-- the names of the attributes of a form
abbrev pub names_form : {K : Type 0} → (List ℕ → Option K) → (K → Bool) → List ℕ → Bool
names_form form is name = is_some_that is (form name)

by_test : {K : Type 0} (is : K → Bool) (k : K) (b : Bool) (content : List ℕ) (cs ds : List (List ℕ)) → is k ≡ b → cs ≡ ds → cond b (content ∷ cs) cs ≡ cond (is k) (content ∷ ds) ds
by_test is k true content cs ds e h = rw (e, h) refl
by_test is k false content cs ds e h = rw (e, h) refl

pub filtered : (pool : List Entry) (is_read : List ℕ → Bool) (a : Attribute) (others : List Attribute) (b : Bool) → is_some_that is_read (text_of pool a.index) ≡ b
    → contents pool is_read (a ∷ others) ≡ cond b (a.content ∷ contents pool is_read others) (contents pool is_read others)
filtered pool is_read a others true e = rw e refl
filtered pool is_read a others false e = rw e refl

by_form : {K : Type 0} (form : List ℕ → Option K) (is : K → Bool) (o : Option K) (content : List ℕ) (cs : List (List ℕ)) (ps : List (K × List ℕ)) → cs ≡ contents_of is ps
    → cond (is_some_that is o) (content ∷ cs) cs ≡ contents_of is (with_form content ps o)
by_form form is None content cs ps h = h
by_form form is (Some k) content cs ps h = by_test is k (is k) content cs (contents_of is ps) refl h

by_name : {K : Type 0} (form : List ℕ → Option K) (is : K → Bool) (o : Option (List ℕ)) (content : List ℕ) (cs : List (List ℕ)) (ps : List (K × List ℕ)) → cs ≡ contents_of is ps
    → cond (is_some_that (names_form form is) o) (content ∷ cs) cs ≡ contents_of is (with_form content ps (option_and_then form o))
by_name form is None content cs ps h = h
by_name form is (Some name) content cs ps h = by_form form is (form name) content cs ps h

pub contents_by : {K : Type 0} (form : List ℕ → Option K) (is : K → Bool) (pool : List Entry) (attributes : List Attribute) → contents pool (names_form form is) attributes ≡ contents_of is (forms_of form pool attributes)
contents_by form is pool [] = refl
contents_by form is pool (a ∷ others) =
    filtered pool (names_form form is) a others (is_some_that (names_form form is) (text_of pool a.index)) refl
    ∙ by_name form is (text_of pool a.index) a.content (contents pool (names_form form is) others) (forms_of form pool others) (contents_by form is pool others)

-- ---- what was read is at most one of a form

-- The attributes of one form hold W, as N says, and others do not. Where one stands, no other may stand behind it.
pub record Slot {K V W : Type 0} (M : K → List ℕ → V → Type 0) (may : List V → K → Bool) (is : K → Bool) (pick : V → Option W) (N : List ℕ → W → Type 0) : Type 0 where
  pub here : (k : K) (c : List ℕ) (v : V) → is k ≡ true → M k c v → (w : W) × (pick v ≡ Some w) × N c w
  pub other : (k : K) (c : List ℕ) (v : V) → is k ≡ false → M k c v → pick v ≡ None
  pub apart : (done : List V) (k : K) → is k ≡ true → may done k ≡ true → first_that pick done ≡ None

or_none : {W : Type 0} (o other : Option W) → or_else o other ≡ None → (o ≡ None) × (other ≡ None)
or_none None other e = (refl, e)
or_none (Some w) other e = absurd cc

picked_behind : {V W : Type 0} (pick : V → Option W) (done : List V) (v : V) → first_that pick done ≡ None → first_that pick (done ++ v ∷ []) ≡ or_else (pick v) None
picked_behind pick [] v none = refl
picked_behind pick (x ∷ xs) v none = let n = or_none (pick x) (first_that pick xs) none in rw n.0 (picked_behind pick xs v n.1)

or_some : {W : Type 0} (o one other : Option W) (w : W) → (one ≡ Some w → other ≡ Some w) → or_else o one ≡ Some w → or_else o other ≡ Some w
or_some None one other w more e = more e
or_some (Some x) one other w more e = e

picked_before : {V W : Type 0} (pick : V → Option W) (done more : List V) (w : W) → first_that pick done ≡ Some w → first_that pick (done ++ more) ≡ Some w
picked_before pick [] more w some = absurd cc
picked_before pick (x ∷ xs) more w some = or_some (pick x) (first_that pick xs) (first_that pick (xs ++ more)) w (picked_before pick xs more w) some

record Found {K V W : Type 0} (is : K → Bool) (pick : V → Option W) (N : List ℕ → W → Type 0) (done : List V) (ps : List (K × List ℕ)) (vs : List V) : Type 0 where
  free : first_that pick done ≡ None → AtMostOne N (contents_of is ps) (first_that pick vs)
  full : (w : W) → first_that pick done ≡ Some w → (contents_of is ps ≡ []) × (first_that pick vs ≡ None)

not_both : {W : Type 0} {C : Type 0} (o : Option W) (w : W) → o ≡ None → o ≡ Some w → C
not_both None w n e = absurd cc
not_both (Some x) w n e = absurd cc

found_by : {K V W : Type 0} (M : K → List ℕ → V → Type 0) (may : List V → K → Bool) (is : K → Bool) (pick : V → Option W) (N : List ℕ → W → Type 0) → Slot M may is pick N
    → (done : List V) (p : K × List ℕ) (ps : List (K × List ℕ)) (v : V) (vs : List V) (b : Bool) → is p.0 ≡ b → may done p.0 ≡ true → M p.0 p.1 v → Found is pick N (done ++ v ∷ []) ps vs → Found is pick N done (p ∷ ps) (v ∷ vs)
found_by M may is pick N slot done p ps v vs true e allowed m rest =
    let h = slot.here p.0 p.1 v e m in
    let none = slot.apart done p.0 e allowed in
    let picked : or_else (pick v) None ≡ Some h.0 = rw h.1 refl in
    let last = rest.full h.0 (picked_behind pick done v none ∙ picked) in
    let one : AtMostOne N (p.1 ∷ contents_of is ps) (Some h.0) = (p.1, ap (λ cs. p.1 ∷ cs) last.0, h.2) in
    record {
      free = λ _. rw (e, h.1) one;
      full = λ w some. not_both (first_that pick done) w none some;
    }
found_by M may is pick N slot done p ps v vs false e allowed m rest =
    let h = slot.other p.0 p.1 v e m in
    record {
      free = λ none. rw (e, h) (rest.free (picked_behind pick done v none ∙ ap (λ o. or_else o None) h));
      full = λ w some. rw (e, h) (rest.full w (picked_before pick done (v ∷ []) w some));
    }

found : {K V W : Type 0} (M : K → List ℕ → V → Type 0) (may : List V → K → Bool) (is : K → Bool) (pick : V → Option W) (N : List ℕ → W → Type 0) → Slot M may is pick N
    → (ps : List (K × List ℕ)) (done vs : List V) → AreRead M may done ps vs → Found is pick N done ps vs
found M may is pick N slot [] done [] read = record { free = λ _. refl; full = λ w some. (refl, refl) }
found M may is pick N slot [] done (v ∷ vs) read = absurd read
found M may is pick N slot (p ∷ ps) done [] read = absurd read
found M may is pick N slot (p ∷ ps) done (v ∷ vs) read = found_by M may is pick N slot done p ps v vs (is p.0) refl read.0 read.1 (found M may is pick N slot ps (done ++ v ∷ []) vs read.2)

-- at most one attribute of the form stands there
pub slot_found : {K V W : Type 0} (M : K → List ℕ → V → Type 0) (may : List V → K → Bool) (is : K → Bool) (pick : V → Option W) (N : List ℕ → W → Type 0) → Slot M may is pick N
    → (form : List ℕ → Option K) (pool : List Entry) (attributes : List Attribute) (vs : List V) → AreRead M may [] (forms_of form pool attributes) vs → AtMostOne N (contents pool (names_form form is) attributes) (first_that pick vs)
slot_found M may is pick N slot form pool attributes vs read =
    subst (λ cs. AtMostOne N cs (first_that pick vs)) (sym (contents_by form is pool attributes)) ((found M may is pick N slot (forms_of form pool attributes) [] vs read).free refl)

-- ---- at most one of each form is read

abbrev pub has_kind : {K V : Type 0} → (K → Bool) → (V → K) → List V → Bool
has_kind is kind [] = false
has_kind is kind (v ∷ vs) = cond (is (kind v)) true (has_kind is kind vs)

-- What the attributes of each form mean together. An attribute may stand where none of its form was read before it.
pub record Slots {K V : Type 0} (M : K → List ℕ → V → Type 0) (may : List V → K → Bool) (same : K → K → Bool) (kind : V → K) (slot : K → Option V) : Type 0 where
  pub same_is : (j k : K) → same j k ≡ true → j ≡ k
  pub same_self : (k : K) → same k k ≡ true
  pub kinds : (k : K) (c : List ℕ) (v : V) → M k c v → kind v ≡ k
  pub allowed : (done : List V) (k : K) (v : V) → slot k ≡ Some v → AllByRecursion (λ w. slot (kind w) ≡ Some w) done → has_kind (same k) kind done ≡ false → may done k ≡ true

record First {V : Type 0} (M : List ℕ → V → Type 0) (c : List ℕ) (cs : List (List ℕ)) (o : Option V) : Type 0 where
  v : V
  is : o ≡ Some v
  means : M c v
  last : cs ≡ []

first_is : {V : Type 0} (M : List ℕ → V → Type 0) (c : List ℕ) (cs : List (List ℕ)) (o : Option V) → AtMostOne M (c ∷ cs) o → First M c cs o
first_is M c cs None one = absurd cc
first_is M c [] (Some v) one = let same : one.0 ≡ c = cc in record { v = v; is = refl; means = subst (λ k. M k v) same one.2; last = refl }
first_is M c (d ∷ cs) (Some v) one = absurd cc

all_behind : {V : Type 0} (P : V → Type 0) (done : List V) (v : V) → AllByRecursion P done → P v → AllByRecursion P (done ++ v ∷ [])
all_behind P [] v h p = (p, tt)
all_behind P (x ∷ xs) v h p = (h.0, all_behind P xs v h.1 p)

last_flag : (b : Bool) → cond b true false ≡ b
last_flag true = refl
last_flag false = refl

moved : (b whole rest last : Bool) → whole ≡ cond rest true last → cond b true whole ≡ cond (cond b true rest) true last
moved true whole rest last e = refl
moved false whole rest last e = e

has_behind : {K V : Type 0} (is : K → Bool) (kind : V → K) (done : List V) (v : V) → has_kind is kind (done ++ v ∷ []) ≡ cond (has_kind is kind done) true (is (kind v))
has_behind is kind [] v = last_flag (is (kind v))
has_behind is kind (x ∷ xs) v = moved (is (kind x)) (has_kind is kind (xs ++ v ∷ [])) (has_kind is kind xs) (is (kind v)) (has_behind is kind xs v)

either : (b c : Bool) → cond b true c ≡ false → (b ≡ false) × (c ≡ false)
either true c e = absurd cc
either false c e = (refl, e)

content_other : {K : Type 0} (is : K → Bool) (p : K × List ℕ) (ps : List (K × List ℕ)) → is p.0 ≡ false → contents_of is (p ∷ ps) ≡ contents_of is ps
content_other is p ps e = rw e refl

content_first : {K : Type 0} (is : K → Bool) (p : K × List ℕ) (ps : List (K × List ℕ)) → is p.0 ≡ true → contents_of is (p ∷ ps) ≡ p.1 ∷ contents_of is ps
content_first is p ps e = rw e refl

not_nothing : {C : Type 0} (c : List ℕ) (cs : List (List ℕ)) → c ∷ cs ≡ [] → C
not_nothing c cs e = absurd cc

none_by : {K : Type 0} (is : K → Bool) (p : K × List ℕ) (ps : List (K × List ℕ)) (b : Bool) → is p.0 ≡ b → contents_of is (p ∷ ps) ≡ [] → contents_of is ps ≡ []
none_by is p ps true e none = not_nothing p.1 (contents_of is ps) (sym (content_first is p ps e) ∙ none)
none_by is p ps false e none = sym (content_other is p ps e) ∙ none

none_after : {K : Type 0} (same : K → K → Bool) (j : K) (p : K × List ℕ) (ps : List (K × List ℕ)) (here done : Bool) → (same j p.0 ≡ true → contents_of (same j) ps ≡ []) → same j p.0 ≡ here
    → (done ≡ true → contents_of (same j) (p ∷ ps) ≡ []) → cond done true here ≡ true → contents_of (same j) ps ≡ []
none_after same j p ps here true this e none has = none_by (same j) p ps here e (none refl)
none_after same j p ps here false this e none has = this (e ∙ has)

abbrev Each : {K V : Type 0} → (K → List ℕ → V → Type 0) → (K → K → Bool) → (V → K) → (K → Option V) → List V → List (K × List ℕ) → Type 0
Each {K} M same kind slot done ps = (k : K) → has_kind (same k) kind done ≡ false → AtMostOne (M k) (contents_of (same k) ps) (slot k)

abbrev NoMore : {K V : Type 0} → (K → K → Bool) → (V → K) → List V → List (K × List ℕ) → Type 0
NoMore {K} same kind done ps = (k : K) → has_kind (same k) kind done ≡ true → contents_of (same k) ps ≡ []

each_by : {K V : Type 0} (M : K → List ℕ → V → Type 0) (may : List V → K → Bool) (same : K → K → Bool) (kind : V → K) (slot : K → Option V) → Slots M may same kind slot
    → (p : K × List ℕ) (ps : List (K × List ℕ)) (done : List V) → AllByRecursion (λ w. slot (kind w) ≡ Some w) done → Each M same kind slot done (p ∷ ps) → NoMore same kind done (p ∷ ps)
    → ((more : List V) → AllByRecursion (λ w. slot (kind w) ≡ Some w) more → Each M same kind slot more ps → NoMore same kind more ps → (vs : List V) × AreRead M may more ps vs)
    → (b : Bool) → has_kind (same p.0) kind done ≡ b → (vs : List V) × AreRead M may done (p ∷ ps) vs
each_by M may same kind slot slots p ps done all each none next true e = not_nothing p.1 (contents_of (same p.0) ps) (sym (content_first (same p.0) p ps (slots.same_self p.0)) ∙ none p.0 e)
each_by M may same kind slot slots p ps done all each none next false e =
    let one = first_is (M p.0) p.1 (contents_of (same p.0) ps) (slot p.0) (subst (λ cs. AtMostOne (M p.0) cs (slot p.0)) (content_first (same p.0) p ps (slots.same_self p.0)) (each p.0 e)) in
    let is : kind one.v ≡ p.0 = slots.kinds p.0 p.1 one.v one.means in
    let kept : slot (kind one.v) ≡ Some one.v = ap slot is ∙ one.is in
    let rest = next (done ++ one.v ∷ []) (all_behind (λ w. slot (kind w) ≡ Some w) done one.v all kept)
    (λ j has. let n = either (has_kind (same j) kind done) (same j (kind one.v)) (sym (has_behind (same j) kind done one.v) ∙ has) in
    subst (λ cs. AtMostOne (M j) cs (slot j)) (content_other (same j) p ps (subst (λ k. same j k ≡ false) is n.1)) (each j n.0))
    (λ j has. none_after same j p ps (same j p.0) (has_kind (same j) kind done) (λ here. subst (λ k. contents_of (same k) ps ≡ []) (sym (slots.same_is j p.0 here)) one.last) refl (none j)
    (subst (λ k. cond (has_kind (same j) kind done) true (same j k) ≡ true) is (sym (has_behind (same j) kind done one.v) ∙ has))) in
    (one.v ∷ rest.0, (slots.allowed done p.0 one.v one.is all e, one.means, rest.1))

each_read : {K V : Type 0} (M : K → List ℕ → V → Type 0) (may : List V → K → Bool) (same : K → K → Bool) (kind : V → K) (slot : K → Option V) → Slots M may same kind slot
    → (ps : List (K × List ℕ)) (done : List V) → AllByRecursion (λ w. slot (kind w) ≡ Some w) done → Each M same kind slot done ps → NoMore same kind done ps → (vs : List V) × AreRead M may done ps vs
each_read M may same kind slot slots [] done all each none = ([], tt)
each_read M may same kind slot slots (p ∷ ps) done all each none =
    each_by M may same kind slot slots p ps done all each none (λ more a e n. each_read M may same kind slot slots ps more a e n) (has_kind (same p.0) kind done) refl

-- attributes with at most one of each form are read
pub slots_read : {K V : Type 0} (M : K → List ℕ → V → Type 0) (may : List V → K → Bool) (same : K → K → Bool) (kind : V → K) (slot : K → Option V) → Slots M may same kind slot
    → (form : List ℕ → Option K) (pool : List Entry) (attributes : List Attribute) → ((k : K) → AtMostOne (M k) (contents pool (names_form form (same k)) attributes) (slot k))
    → (vs : List V) × AreRead M may [] (forms_of form pool attributes) vs
slots_read M may same kind slot slots form pool attributes one =
    each_read M may same kind slot slots (forms_of form pool attributes) [] tt
    (λ k has. subst (λ cs. AtMostOne (M k) cs (slot k)) (contents_by form (same k) pool attributes) (one k))
    (λ k has. absurd cc)

-- ---- one meaning

-- a content means one thing
pub meant_once : {K V F : Type 0} (r : Reader K V F) (M : K → List ℕ → V → Type 0) → Laws r M → (k : K) (c : List ℕ) (v w : V) → M k c v → M k c w → v ≡ w
meant_once r M laws k c v w m n =
    let whole : Stands c 0 c (length c) = Stands-from_parts c 0 c [] (length c) (sym (append-nil c)) (omega arith) (omega arith) in
    ok_is v w (sym (laws.read k 0 c 0 v c m whole) ∙ laws.read k 0 c 0 w c n whole)

-- of contents of which there is one at most
pub at_most_once : {W : Type 0} (N : List ℕ → W → Type 0) → ((c : List ℕ) (v w : W) → N c v → N c w → v ≡ w) → (cs : List (List ℕ)) (o p : Option W) → AtMostOne N cs o → AtMostOne N cs p → o ≡ p
at_most_once N once cs None None a b = refl
at_most_once N once [] None (Some w) a b = absurd cc
at_most_once N once (c ∷ cs) None (Some w) a b = absurd cc
at_most_once N once [] (Some v) None a b = absurd cc
at_most_once N once (c ∷ cs) (Some v) None a b = absurd cc
at_most_once N once cs (Some v) (Some w) a b =
    let same : a.0 ≡ b.0 = cc in
    ap (λ x. Some x) (once b.0 v w (subst (λ c. N c v) same a.2) b.2)

-- one more value
pub first_that_push : {V W : Type 0} (pick : V → Option W) (vs : List V) (v : V) → first_that pick (vs ++ v ∷ []) ≡ or_else (first_that pick vs) (pick v)
first_that_push pick [] v = or_nothing (pick v)
  where
    or_nothing : {W : Type 0} (o : Option W) → or_else o None ≡ o
    or_nothing None = refl
    or_nothing (Some w) = refl
first_that_push pick (x ∷ xs) v = or_other (pick x) (first_that pick (xs ++ v ∷ [])) (first_that pick xs) (pick v) (first_that_push pick xs v)
  where
    or_other : {W : Type 0} (o all one last : Option W) → all ≡ or_else one last → or_else o all ≡ or_else (or_else o one) last
    or_other None all one last e = e
    or_other (Some w) all one last e = refl
