-- Attributes: what is read stands there, and what stands there is read (JVMS 4.7).
use Rattle.std.proofs.Common.{◌≡◌, ℕ, zero, suc, ◌+◌, ◌<◌, ◌≤◌, List, [], ◌∷◌, ◌++◌, length, take, drop, Bool, true, ltb, Option, None, Some, Result, Ok, refl, sym, ap, ◌∙◌, subst, arith, append_assoc}
use Rattle.std.specs.Prelude.{⊤}
use Rattle.std.specs.List.{flat_map, AllByRecursion}
use Rattle.std.specs.Option.{option_and_then}
use Rattle.std.proofs.lemmas.Bool.{ltb-false, le-ltb}
use Rattle.std.proofs.lemmas.List.{append-nil, length-take-le, drop-take}
use Rattle.jl_reading.specs.Reading.{Stands, IsBytes, number_at, two, four, counted, steps_at}
use Rattle.jl_reading.proofs.Stands.{Stands-taken, Stands-nothing, IsBytes-take}
use Rattle.jl_reading.proofs.Steps.{bind_ok, guard_ok, else_ok, ok_is, bind_to}
use Rattle.jl_reading.proofs.Standing.{Number, number_in, number_read, join, first, second, known, ends_at, cut_off, uncut}
use Rattle.jl_pool.specs.declared.entry.Entry.{Entry}
use Rattle.jl_pool.specs.Pool.{text_of}
use Rattle.jl_classfile.specs.Places.{content_at}
use Rattle.jl_classfile.specs.Attributes.{Reader, some_or, passed_at, read_at, by_form, attribute_at, attributes_at}
use Rattle.jl_classfile.specs.Spelling.{Attribute, AttributeFits, AreAttributes, attribute_bytes, measured}

pub some_ok : {A F : Type 0} (fault : F) (o : Option A) (x : A) → some_or fault o ≡ Ok x → o ≡ Some x
some_ok fault None x e = absurd cc
some_ok fault (Some y) x e = ap (λ z. Some z) (ok_is y x e)

-- ---- contents

-- any content behind its length
pub record Held (bytes : List ℕ) (at next : ℕ) (content : List ℕ) : Type 0 where
  pub small : length content < 4294967296
  pub stands : Stands bytes at (measured content) next

-- the window of a content that was read
pub record Window (bytes : List ℕ) (at : ℕ) (x : (List ℕ × ℕ) × ℕ) : Type 0 where
  pub len : ℕ
  pub number : Number 4 bytes at len x.0.1
  pub inside : x.0.0 ≡ take x.1 bytes
  pub end : x.1 ≡ x.0.1 + len
  pub within : x.1 ≤ length bytes

pub content_window : {F : Type 0} (cut : ℕ → F) (bytes : List ℕ) (at : ℕ) (x : (List ℕ × ℕ) × ℕ) → IsBytes bytes → content_at cut bytes at ≡ Ok x → Window bytes at x
unfolding content_at
content_window cut bytes at x b e =
    let s = bind_ok (number_at cut 4 bytes at) _ x e in
    let g = guard_ok (ltb (length bytes) (s.0.1 + s.0.0)) (cut s.0.1) _ x s.2 in
    subst (Window bytes at) (ok_is _ _ g.1) (record {
      len = s.0.0;
      number = number_in cut 4 bytes at s.0 b s.1;
      inside = refl;
      end = refl;
      within = ltb-false (length bytes) (s.0.1 + s.0.0) g.0;
    })

pub held_reads : {F : Type 0} (cut : ℕ → F) (bytes : List ℕ) (at next : ℕ) (content : List ℕ) → Held bytes at next content → content_at cut bytes at ≡ Ok ((take next bytes, at + 4), next)
unfolding content_at
held_reads cut bytes at next content h =
    let s1 = first (four (length content)) content h.stands in
    let s2 = second (four (length content)) content h.stands in
    let end : at + 4 + length content ≡ next = sym s2.ends in
    let fits = le-ltb (length bytes) (at + 4 + length content) (omega (arith, end, s2.within)) in
    bind_to _ (number_read cut 4 bytes at (length content) (at + 4) h.small s1) (rw fits (ap (λ k. Ok ((take k bytes, at + 4), k)) end))

-- whatever stands up to the end of the window
pub held_of : (bytes : List ℕ) (at : ℕ) (x : (List ℕ × ℕ) × ℕ) (content : List ℕ) → Window bytes at x → Stands bytes x.0.1 content x.1 → Held bytes at x.1 content
held_of bytes at x content w s =
    let same : w.len ≡ length content = omega (arith, s.ends, w.end) in
    record {
      small = omega (arith, w.number.small, same);
      stands = join (known (length content) same w.number) s;
    }

-- the bytes of a content, whatever they are
pub held_any : (bytes : List ℕ) (at : ℕ) (x : (List ℕ × ℕ) × ℕ) → Window bytes at x → (content : List ℕ) × Held bytes at x.1 content
held_any bytes at x w =
    let s = Stands-taken bytes x.0.1 w.len (omega (arith, w.end, w.within)) in
    (take w.len (drop x.0.1 bytes), held_of bytes at x (take w.len (drop x.0.1 bytes)) w (ends_at x.1 (sym w.end) s))

-- the bytes of a window
pub held_window : (bytes : List ℕ) (at : ℕ) (x : (List ℕ × ℕ) × ℕ) → Window bytes at x → Held bytes at x.1 (drop x.0.1 x.0.0)
held_window bytes at x w =
    let s = Stands-taken bytes x.0.1 w.len (omega (arith, w.end, w.within)) in
    let held = held_of bytes at x (take w.len (drop x.0.1 bytes)) w (ends_at x.1 (sym w.end) s) in
    let text : take w.len (drop x.0.1 bytes) ≡ drop x.0.1 x.0.0 = sym (ap (λ (t : List ℕ). drop x.0.1 t) (w.inside ∙ ap (λ (n : ℕ). take n bytes) w.end) ∙ drop-take x.0.1 w.len bytes) in
    subst (λ (t : List ℕ). Held bytes at x.1 t) text held

-- ---- the forms of attributes

abbrev pub with_form : {K : Type 0} → List ℕ → List (K × List ℕ) → Option K → List (K × List ℕ)
with_form content others None = others
with_form content others (Some k) = (k, content) ∷ others

-- the forms and the contents of the attributes that are read
abbrev pub forms_of : {K : Type 0} → (List ℕ → Option K) → List Entry → List Attribute → List (K × List ℕ)
forms_of form pool [] = []
forms_of form pool (a ∷ others) = with_form a.content (forms_of form pool others) (option_and_then form (text_of pool a.index))

-- what they mean, in order, each where it may stand behind those before it
abbrev pub AreRead : {K V : Type 0} → (K → List ℕ → V → Type 0) → (List V → K → Bool) → List V → List (K × List ℕ) → List V → Type 0
AreRead M may done [] [] = ⊤
AreRead M may done [] (v ∷ vs) = ⊥
AreRead M may done (p ∷ ps) [] = ⊥
AreRead M may done (p ∷ ps) (v ∷ vs) = (may done p.0 ≡ true) × M p.0 p.1 v × AreRead M may (done ++ v ∷ []) ps vs

-- what a reader of contents reads is what the content means
pub record Laws {K V F : Type 0} (r : Reader K V F) (M : K → List ℕ → V → Type 0) : Type 0 where
  pub stand : (k : K) (place : ℕ) (bytes : List ℕ) (at : ℕ) (v : V) → IsBytes bytes → at ≤ length bytes → r.meaning k place bytes at ≡ Ok v → (content : List ℕ) × M k content v × Stands bytes at content (length bytes)
  pub read : (k : K) (place : ℕ) (bytes : List ℕ) (at : ℕ) (v : V) (content : List ℕ) → M k content v → Stands bytes at content (length bytes) → r.meaning k place bytes at ≡ Ok v

-- ---- one attribute that was read

-- with the attributes behind it
record Added {K V : Type 0} (form : List ℕ → Option K) (M : K → List ℕ → V → Type 0) (may : List V → K → Bool) (pool : List Entry) (done now : List V) (a : Attribute) (others : List Attribute) (vs : List V) : Type 0 where
  all : List V
  is : done ++ all ≡ now ++ vs
  read : AreRead M may done (forms_of form pool (a ∷ others)) all

record Step {K V F : Type 0} (r : Reader K V F) (M : K → List ℕ → V → Type 0) (pool : List Entry) (bytes : List ℕ) (done : List V) (at : ℕ) (x : List V × ℕ) : Type 0 where
  a : Attribute
  fits : AttributeFits pool a
  stands : Stands bytes at (attribute_bytes a) x.1
  more : (others : List Attribute) (vs : List V) → AreRead M r.may_stand x.0 (forms_of r.form pool others) vs → Added r.form M r.may_stand pool done x.0 a others vs

-- the index of its name
record Head (pool : List Entry) (bytes : List ℕ) (at index mid : ℕ) (name : List ℕ) : Type 0 where
  number : Number 2 bytes at index mid
  named : text_of pool index ≡ Some name

form_is : {K : Type 0} (form : List ℕ → Option K) (o : Option (List ℕ)) (name : List ℕ) (k : Option K) → o ≡ Some name → form name ≡ k → option_and_then form o ≡ k
form_is form o name k named is = rw named is

passed_step : {K V F : Type 0} (r : Reader K V F) (M : K → List ℕ → V → Type 0) (pool : List Entry) (bytes : List ℕ) (done : List V) (at index mid : ℕ) (name : List ℕ) (x : List V × ℕ) → IsBytes bytes
    → Head pool bytes at index mid name → r.form name ≡ None → passed_at r at bytes done mid ≡ Ok x → Step r M pool bytes done at x
unfolding passed_at
passed_step r M pool bytes done at index mid name x b h none e =
    let s = bind_ok (content_at (r.cut at) bytes mid) _ x e in
    let held = held_any bytes mid s.0 (content_window (r.cut at) bytes mid s.0 b s.1) in
    let a : Attribute = record { index = index; content = held.0 } in
    let other = form_is r.form (text_of pool index) name None h.named none in
    subst (Step r M pool bytes done at) (ok_is _ _ s.2) (record {
      a = a;
      fits = (h.number.small, held.1.small, (name, h.named));
      stands = join h.number.stands held.1.stands;
      more = λ others vs read. record {
        all = vs;
        is = refl;
        read = subst (λ o. AreRead M r.may_stand done (with_form a.content (forms_of r.form pool others) o) vs) (sym other) read;
      };
    })

read_step : {K V F : Type 0} (r : Reader K V F) (M : K → List ℕ → V → Type 0) → Laws r M → (pool : List Entry) (bytes : List ℕ) (done : List V) (at index mid : ℕ) (name : List ℕ) (k : K) (x : List V × ℕ) → IsBytes bytes
    → Head pool bytes at index mid name → r.form name ≡ Some k → read_at r k at bytes done mid ≡ Ok x → Step r M pool bytes done at x
unfolding read_at
read_step r M laws pool bytes done at index mid name k x b h is e =
    let g = else_ok (r.may_stand done k) (r.refused at k) _ x e in
    let s1 = bind_ok (content_at (r.cut at) bytes mid) _ x g.1 in
    let s2 = bind_ok (r.meaning k at s1.0.0.0 s1.0.0.1) _ x s1.2 in
    let w = content_window (r.cut at) bytes mid s1.0 b s1.1 in
    let len = length-take-le s1.0.1 bytes w.within in
    let meant : r.meaning k at (take s1.0.1 bytes) s1.0.0.1 ≡ Ok s2.0 = subst (λ (t : List ℕ). r.meaning k at t s1.0.0.1 ≡ Ok s2.0) w.inside s2.1 in
    let inside = laws.stand k at (take s1.0.1 bytes) s1.0.0.1 s2.0 (IsBytes-take s1.0.1 bytes b) (omega (arith, len, w.end)) meant in
    let whole = ends_at s1.0.1 len (uncut s1.0.1 w.within inside.2) in
    let held = held_of bytes mid s1.0 inside.0 w whole in
    let a : Attribute = record { index = index; content = inside.0 } in
    let there = form_is r.form (text_of pool index) name (Some k) h.named is in
    subst (Step r M pool bytes done at) (ok_is _ _ s2.2) (record {
      a = a;
      fits = (h.number.small, held.small, (name, h.named));
      stands = join h.number.stands held.stands;
      more = λ others vs read. record {
        all = s2.0 ∷ vs;
        is = sym (append_assoc done (s2.0 ∷ []) vs);
        read = subst (λ o. AreRead M r.may_stand done (with_form a.content (forms_of r.form pool others) o) (s2.0 ∷ vs)) (sym there) (g.0, inside.1, read);
      };
    })

step_by : {K V F : Type 0} (r : Reader K V F) (M : K → List ℕ → V → Type 0) → Laws r M → (pool : List Entry) (bytes : List ℕ) (done : List V) (at index mid : ℕ) (name : List ℕ) (o : Option K) (x : List V × ℕ) → IsBytes bytes
    → Head pool bytes at index mid name → r.form name ≡ o → by_form r at bytes done mid o ≡ Ok x → Step r M pool bytes done at x
step_by r M laws pool bytes done at index mid name None x b h is e = passed_step r M pool bytes done at index mid name x b h is e
step_by r M laws pool bytes done at index mid name (Some k) x b h is e = read_step r M laws pool bytes done at index mid name k x b h is e

attribute_stands : {K V F : Type 0} (r : Reader K V F) (M : K → List ℕ → V → Type 0) → Laws r M → (pool : List Entry) (bytes : List ℕ) (done : List V) (at : ℕ) (x : List V × ℕ) → IsBytes bytes
    → attribute_at r pool bytes done at ≡ Ok x → Step r M pool bytes done at x
unfolding attribute_at
attribute_stands r M laws pool bytes done at x b e =
    let s1 = bind_ok (number_at (r.cut at) 2 bytes at) _ x e in
    let s2 = bind_ok (some_or (r.unnamed at) (text_of pool s1.0.0)) _ x s1.2 in
    let h : Head pool bytes at s1.0.0 s1.0.1 s2.0 = record { number = number_in (r.cut at) 2 bytes at s1.0 b s1.1; named = some_ok (r.unnamed at) (text_of pool s1.0.0) s2.0 s2.1 } in
    step_by r M laws pool bytes done at s1.0.0 s1.0.1 s2.0 (r.form s2.0) x b h refl s2.2

-- ---- all attributes that were read

record Run {K V F : Type 0} (r : Reader K V F) (M : K → List ℕ → V → Type 0) (pool : List Entry) (bytes : List ℕ) (done : List V) (n at : ℕ) (x : List V × ℕ) : Type 0 where
  attributes : List Attribute
  values : List V
  count : length attributes ≡ n
  fit : AllByRecursion (AttributeFits pool) attributes
  stands : Stands bytes at (flat_map attribute_bytes attributes) x.1
  is : x.0 ≡ done ++ values
  read : AreRead M r.may_stand done (forms_of r.form pool attributes) values

run_stands : {K V F : Type 0} (r : Reader K V F) (M : K → List ℕ → V → Type 0) → Laws r M → (pool : List Entry) (bytes : List ℕ) (n : ℕ) (done : List V) (at : ℕ) (x : List V × ℕ) → IsBytes bytes → at ≤ length bytes
    → steps_at (attribute_at r pool bytes) n done at ≡ Ok x → Run r M pool bytes done n at x
unfolding steps_at
run_stands r M laws pool bytes zero done at x b le e =
    subst (Run r M pool bytes done 0 at) (ok_is _ _ e) (record {
      attributes = [];
      values = [];
      count = refl;
      fit = tt;
      stands = Stands-nothing bytes at le;
      is = sym (append-nil done);
      read = tt;
    })
run_stands r M laws pool bytes (suc n) done at x b le e =
    let s = bind_ok (attribute_at r pool bytes done at) _ x e in
    let step = attribute_stands r M laws pool bytes done at s.0 b s.1 in
    let others = run_stands r M laws pool bytes n s.0.0 s.0.1 x b step.stands.within s.2 in
    let added = step.more others.attributes others.values others.read in
    record {
      attributes = step.a ∷ others.attributes;
      values = added.all;
      count = ap suc others.count;
      fit = (step.fits, others.fit);
      stands = join step.stands others.stands;
      is = others.is ∙ sym added.is;
      read = added.read;
    }

pub record AllStand {K V F : Type 0} (r : Reader K V F) (M : K → List ℕ → V → Type 0) (pool : List Entry) (bytes : List ℕ) (at : ℕ) (x : List V × ℕ) : Type 0 where
  pub attributes : List Attribute
  pub are : AreAttributes pool attributes
  pub stands : Stands bytes at (counted attribute_bytes attributes) x.1
  pub read : AreRead M r.may_stand [] (forms_of r.form pool attributes) x.0

-- all attributes behind their count, which is cut in its own way
pub attributes_stand : {K V F : Type 0} (count_cut : ℕ → F) (r : Reader K V F) (M : K → List ℕ → V → Type 0) → Laws r M → (pool : List Entry) (bytes : List ℕ) (at : ℕ) (count : ℕ × ℕ) (x : List V × ℕ) → IsBytes bytes
    → number_at count_cut 2 bytes at ≡ Ok count → attributes_at r pool count.0 bytes count.1 ≡ Ok x → AllStand r M pool bytes at x
attributes_stand count_cut r M laws pool bytes at count x b counts e =
    let n = number_in count_cut 2 bytes at count b counts in
    let run = run_stands r M laws pool bytes count.0 [] count.1 x b n.stands.within e in
    record {
      attributes = run.attributes;
      are = record { few = subst (λ k. k < 65536) (sym run.count) n.small; fit = run.fit };
      stands = join (known (length run.attributes) (sym run.count) n) run.stands;
      read = subst (λ vs. AreRead M r.may_stand [] (forms_of r.form pool run.attributes) vs) (sym run.is) run.read;
    }

-- ---- what stands there is read

record Next {K V F : Type 0} (r : Reader K V F) (M : K → List ℕ → V → Type 0) (pool : List Entry) (bytes : List ℕ) (done vs : List V) (others : List Attribute) (at next : ℕ) : Type 0 where
  now : List V
  later : List V
  one : attribute_at r pool bytes done at ≡ Ok (now, next)
  read : AreRead M r.may_stand now (forms_of r.form pool others) later
  same : now ++ later ≡ done ++ vs

head_reads : {K V F : Type 0} (r : Reader K V F) (pool : List Entry) (bytes : List ℕ) (done : List V) (at index mid : ℕ) (name : List ℕ) (x : Result (List V × ℕ) F) → index < 65536 → text_of pool index ≡ Some name → Stands bytes at (two index) mid
    → by_form r at bytes done mid (r.form name) ≡ x → attribute_at r pool bytes done at ≡ x
unfolding attribute_at
head_reads r pool bytes done at index mid name x small named s e = rw (number_read (r.cut at) 2 bytes at index mid small s, named) e

next_by : {K V F : Type 0} (r : Reader K V F) (M : K → List ℕ → V → Type 0) → Laws r M → (pool : List Entry) (bytes : List ℕ) (done vs : List V) (a : Attribute) (others : List Attribute) (at mid next : ℕ) (name : List ℕ) (o : Option K)
    → a.index < 65536 → text_of pool a.index ≡ Some name → r.form name ≡ o → Stands bytes at (two a.index) mid → Held bytes mid next a.content
    → AreRead M r.may_stand done (with_form a.content (forms_of r.form pool others) o) vs → Next r M pool bytes done vs others at next
unfolding passed_at read_at
next_by r M laws pool bytes done vs a others at mid next name None small named is s h read = record {
  now = done;
  later = vs;
  one = head_reads r pool bytes done at a.index mid name (Ok (done, next)) small named s (rw (is, held_reads (r.cut at) bytes mid next a.content h) refl);
  read = read;
  same = refl;
}
next_by r M laws pool bytes done [] a others at mid next name (Some k) small named is s h read = absurd read
next_by r M laws pool bytes done (v ∷ vs) a others at mid next name (Some k) small named is s h read =
    let s2 = second (four (length a.content)) a.content h.stands in
    let inside = ends_at (length (take next bytes)) (sym (length-take-le next bytes s2.within)) (cut_off next s2.within (omega arith) s2) in
    let meant = laws.read k at (take next bytes) (mid + 4) v a.content read.1 inside in
    record {
      now = done ++ v ∷ [];
      later = vs;
      one = head_reads r pool bytes done at a.index mid name (Ok (done ++ v ∷ [], next)) small named s (rw (is, read.0, held_reads (r.cut at) bytes mid next a.content h, meant) refl);
      read = read.2;
      same = append_assoc done (v ∷ []) vs;
    }

run_again : {K V F : Type 0} (r : Reader K V F) (M : K → List ℕ → V → Type 0) → Laws r M → (pool : List Entry) (bytes : List ℕ) (others : List Attribute) (done vs : List V) (at next : ℕ)
    → AllByRecursion (AttributeFits pool) others → AreRead M r.may_stand done (forms_of r.form pool others) vs → Stands bytes at (flat_map attribute_bytes others) next
    → steps_at (attribute_at r pool bytes) (length others) done at ≡ Ok (done ++ vs, next)
unfolding steps_at
run_again r M laws pool bytes [] done [] at next f read t =
    let end : at ≡ next = omega (arith, t.ends) in
    rw (append-nil done, end) refl
run_again r M laws pool bytes [] done (v ∷ vs) at next f read t = absurd read
run_again r M laws pool bytes (a ∷ others) done vs at next f read t =
    let s1 = first (attribute_bytes a) (flat_map attribute_bytes others) t in
    let s2 = second (attribute_bytes a) (flat_map attribute_bytes others) t in
    let i = first (two a.index) (measured a.content) s1 in
    let h : Held bytes (at + 2) (at + length (attribute_bytes a)) a.content = record { small = f.0.1; stands = second (two a.index) (measured a.content) s1 } in
    let form = form_is r.form (text_of pool a.index) f.0.2.0 (r.form f.0.2.0) f.0.2.1 refl in
    let n = next_by r M laws pool bytes done vs a others at (at + 2) (at + length (attribute_bytes a)) f.0.2.0 (r.form f.0.2.0) f.0.0 f.0.2.1 refl i h
    (subst (λ o. AreRead M r.may_stand done (with_form a.content (forms_of r.form pool others) o) vs) form read) in
    let rest = run_again r M laws pool bytes others n.now n.later (at + length (attribute_bytes a)) next f.1 n.read s2 in
    bind_to _ n.one (rest ∙ ap (λ all. Ok (all, next)) n.same)

-- all attributes that stand there are read
pub attributes_again : {K V F : Type 0} (count_cut : ℕ → F) (r : Reader K V F) (M : K → List ℕ → V → Type 0) → Laws r M → (pool : List Entry) (bytes : List ℕ) (at next : ℕ) (attributes : List Attribute) (vs : List V)
    → AreAttributes pool attributes → AreRead M r.may_stand [] (forms_of r.form pool attributes) vs → Stands bytes at (counted attribute_bytes attributes) next
    → (number_at count_cut 2 bytes at ≡ Ok (length attributes, at + 2)) × (attributes_at r pool (length attributes) bytes (at + 2) ≡ Ok (vs, next))
attributes_again count_cut r M laws pool bytes at next attributes vs are read t =
    let s1 = first (two (length attributes)) (flat_map attribute_bytes attributes) t in
    let s2 = second (two (length attributes)) (flat_map attribute_bytes attributes) t in
    (number_read count_cut 2 bytes at (length attributes) (at + 2) are.few s1, run_again r M laws pool bytes attributes [] vs (at + 2) next are.fit read s2)
