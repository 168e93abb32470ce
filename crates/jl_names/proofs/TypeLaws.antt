-- Types in descriptors: what is read is spelled so, and what is spelled so is read.
use Rattle.std.proofs.Common.{◌≡◌, ℕ, zero, suc, ◌+◌, ◌-◌, ◌<◌, ◌≤◌, Bool, true, false, not, cond, ◌&&◌, ◌||◌, ltb, eqb, List, [], ◌∷◌, ◌++◌, length, take, drop, replicate, get_or, slice_index, Result, Ok, Err, refl, sym, ap, subst, ◌∙◌, append_assoc, arith, inl, inr}
use Rattle.std.proofs.lemmas.Bool.{cond_both, ltb-false, lt-ltb, le-ltb, eq-eqb, ne_eqb, or_parts, cases_eq, cases_lt, cases_Bool, true≢false, false≢true, or_cases, and_right}
use Rattle.std.proofs.lemmas.List.{drop_more, get_or-drop, take_at, length-append, length-take, length-drop, take-append-drop}
use Rattle.std.proofs.Math.ListN.{length-replicate}
use Rattle.jl_reading.specs.Reading.{◌>>=◌, Stands}
use Rattle.jl_reading.proofs.Steps.{bind_ok, guard_ok, ok_is}
use Rattle.jl_reading.proofs.Stands.{Stands-parts, Stands-from_parts, Stands-taken, Stands-then, Stands-splits}
use Rattle.jl_names.specs.declared.fault.TextFault.{TextFault}
use Rattle.jl_names.specs.declared.fault.TextFault.TheVariants.{BadText}
use Rattle.jl_names.specs.declared.types.BaseType.{BaseType}
use Rattle.jl_names.specs.declared.types.BaseType.TheVariants.{Prim, Class}
use Rattle.jl_names.specs.declared.types.FieldType.{FieldType}
use Rattle.jl_names.specs.Names.{stops, is_slash, is_reserved, names_a_class}
use Rattle.jl_names.specs.Descriptors.{is_primitive, between, base_bytes, IsBase, StandsType, brackets, name_end, base_at, type_at}
use Rattle.jl_names.proofs.NameLaws.{goes_on, class_step, class_end, class_first}
use Rattle.jl_names.proofs.TextLaws.{byte_stands, begins}

abbrev ok_of : {A : Type 0} → A → Result A TextFault
ok_of x = Ok x

abbrev fault_of : ℕ → Result ℕ TextFault
fault_of at = Err (BadText at)

abbrev base_fault : ℕ → Result (BaseType × ℕ) TextFault
base_fault at = Err (BadText at)

-- ---- brackets

pub brackets_fit : (l : List ℕ) → brackets l ≤ length l
unfolding brackets
brackets_fit [] = omega arith
brackets_fit (b ∷ bs) = let rest = brackets_fit bs in cond_both (eqb b 91) (suc (brackets bs)) 0 (λ n. n ≤ length (b ∷ bs)) (λ e. omega arith) (λ e. omega arith)

brackets_none : (rest : List ℕ) → (get_or rest 0 0 ≡ 91 → ⊥) → brackets rest ≡ 0
unfolding brackets
brackets_none [] other = refl
brackets_none (b ∷ bs) other = rw (ne_eqb b 91 other) refl

pub brackets_again : (n : ℕ) (rest : List ℕ) → (get_or rest 0 0 ≡ 91 → ⊥) → brackets (replicate n 91 ++ rest) ≡ n
unfolding brackets
brackets_again zero rest other = brackets_none rest other
brackets_again (suc n) rest other = ap suc (brackets_again n rest other)

-- the same [ before other bytes
pub brackets_same : (q u v : List ℕ) → brackets (q ++ u) < length q → brackets (q ++ v) ≡ brackets (q ++ u)
unfolding brackets
brackets_same [] u v lt = absurd (omega arith)
brackets_same (b ∷ q) u v lt =
    elim (cases_eq b 91) [
      | inl is ↦
          let less : suc (brackets (q ++ u)) < length (b ∷ q) = rw (eq-eqb b 91 is) at lt in
          rw (eq-eqb b 91 is) (ap suc (brackets_same q u v (omega arith)))
      | inr other ↦ rw (ne_eqb b 91 other) refl
    ]

pub brackets_kept : (q u v : List ℕ) (n : ℕ) → n ≤ length q → n ≤ brackets (q ++ u) → n ≤ brackets (q ++ v)
unfolding brackets
brackets_kept q u v zero le many = omega arith
brackets_kept [] u v (suc n) le many = absurd (omega arith)
brackets_kept (b ∷ q) u v (suc n) le many =
    elim (cases_eq b 91) [
      | inl is ↦
          let more : suc n ≤ suc (brackets (q ++ u)) = rw (eq-eqb b 91 is) at many in
          let rest = brackets_kept q u v n (omega arith) (omega arith) in
          rw (eq-eqb b 91 is) (omega arith)
      | inr other ↦ let none : suc n ≤ 0 = rw (ne_eqb b 91 other) at many in absurd (omega arith)
    ]

pub brackets_less : (n : ℕ) (l : List ℕ) → n ≤ brackets l → take n l ≡ replicate n 91
unfolding brackets
brackets_less zero l many = refl
brackets_less (suc n) [] many = absurd (omega arith)
brackets_less (suc n) (b ∷ bs) many =
    elim (cases_eq b 91) [
      | inl is ↦
          let more : suc n ≤ suc (brackets bs) = rw (eq-eqb b 91 is) at many in
          rw is (ap (λ (l : List ℕ). 91 ∷ l) (brackets_less n bs (omega arith)))
      | inr other ↦ let none : suc n ≤ 0 = rw (ne_eqb b 91 other) at many in absurd (omega arith)
    ]

-- ---- class names

not_reserved : (b : ℕ) (x : Bool) → (is_reserved b || x) ≡ false → (eqb b 59 ≡ false) × (((eqb b 46) || (eqb b 91)) ≡ false)
not_reserved b x h =
    let p = or_parts (eqb b 46) ((eqb b 59) || (eqb b 91)) (or_parts (is_reserved b) x h).0 in
    let q = or_parts (eqb b 59) (eqb b 91) p.1 in
    let r : ((eqb b 46) || (eqb b 91)) ≡ false = rw (p.0, q.1) refl in
    (q.0, r)

-- a name goes on with the byte
pub name_more : (fresh : Bool) (b : ℕ) (bs : List ℕ) (at : ℕ) → stops b (not fresh) ≡ false → name_end fresh (b ∷ bs) at ≡ name_end (is_slash b) bs (at + 1)
unfolding name_end
name_more fresh b bs at fine =
    let p = not_reserved b (is_slash b && not (not fresh)) fine in
    rw p.0 (by_fresh fresh (or_parts (is_reserved b) (is_slash b && not (not fresh)) fine).1 p.1)
  where
    by_fresh : (fresh : Bool) → (is_slash b && not (not fresh)) ≡ false → ((eqb b 46) || (eqb b 91)) ≡ false
        → cond (is_slash b) (cond fresh (Err (BadText at)) (name_end true bs (at + 1))) (cond ((eqb b 46) || (eqb b 91)) (Err (BadText at)) (name_end false bs (at + 1))) ≡ name_end (is_slash b) bs (at + 1)
    by_fresh true e plain =
        elim (cases_Bool (is_slash b)) [
          | inl slash ↦ let bad : true ≡ false = rw slash at e in absurd (true≢false bad)
          | inr other ↦ rw (other, plain) refl
        ]
    by_fresh false e plain =
        elim (cases_Bool (is_slash b)) [
          | inl slash ↦ rw slash refl
          | inr other ↦ rw (other, plain) refl
        ]

slash_fresh : (fresh : Bool) → stops 47 (not fresh) ≡ true → fresh ≡ true
slash_fresh true h = refl
slash_fresh false h = h

reserved_left : (b : ℕ) (x : Bool) → eqb b 59 ≡ false → is_slash b ≡ false → (is_reserved b || (is_slash b && x)) ≡ true → ((eqb b 46) || (eqb b 91)) ≡ true
reserved_left b x no_end plain h =
    elim (or_cases (is_reserved b) (is_slash b && x) h) [
      | inl reserved ↦ rw no_end at reserved
      | inr slash ↦ let bad : false ≡ true = rw plain at slash in absurd (false≢true bad)
    ]

-- the name ends at the byte, or is wrong
pub name_stops : (fresh : Bool) (b : ℕ) (bs : List ℕ) (at : ℕ) → stops b (not fresh) ≡ true → name_end fresh (b ∷ bs) at ≡ cond (eqb b 59 && not fresh) (Ok at) (Err (BadText at))
unfolding name_end
name_stops fresh b bs at wrong =
    elim (cases_eq b 59) [
      | inl is ↦ rw is (by_fresh fresh)
      | inr other ↦ rw (ne_eqb b 59 other) (by_slash fresh (ne_eqb b 59 other) wrong)
    ]
  where
    by_fresh : (fresh : Bool) → cond fresh (Err (BadText at)) (Ok at) ≡ cond (not fresh) (Ok at) (Err (BadText at))
    by_fresh true = refl
    by_fresh false = refl

    by_slash : (fresh : Bool) → eqb b 59 ≡ false → stops b (not fresh) ≡ true
        → cond (is_slash b) (cond fresh (Err (BadText at)) (name_end true bs (at + 1))) (cond ((eqb b 46) || (eqb b 91)) (Err (BadText at)) (name_end false bs (at + 1))) ≡ Err (BadText at)
    by_slash fresh no_end h =
        elim (cases_eq b 47) [
          | inl is ↦ let f : fresh ≡ true = slash_fresh fresh (subst (λ (c : ℕ). stops c (not fresh) ≡ true) is h) in rw (is, f) refl
          | inr other ↦ let plain : is_slash b ≡ false = ne_eqb b 47 other in rw (plain, reserved_left b (not (not fresh)) no_end plain h) refl
        ]

-- the name before the ;
pub record NameFound (fresh : Bool) (bs : List ℕ) (at end : ℕ) : Type 0 where
  pub name : List ℕ
  pub rest : List ℕ
  pub parts : bs ≡ name ++ 59 ∷ rest
  pub ends : end ≡ at + length name
  pub right : goes_on (not fresh) name ≡ true

pub name_found : (fresh : Bool) (bs : List ℕ) (at end : ℕ) → name_end fresh bs at ≡ Ok end → NameFound fresh bs at end
unfolding name_end
name_found fresh [] at end e = absurd cc
name_found fresh (b ∷ bs) at end e =
    elim (cases_Bool (stops b (not fresh))) [
      | inl wrong ↦ ended fresh (sym (name_stops fresh b bs at wrong) ∙ e)
      | inr fine ↦
          let f = name_found (is_slash b) bs (at + 1) end (sym (name_more fresh b bs at fine) ∙ e) in
          record {
            name = b ∷ f.name;
            rest = f.rest;
            parts = ap (λ (l : List ℕ). b ∷ l) f.parts;
            ends = omega (arith, f.ends);
            right = class_step (not fresh) b f.name ∙ rw fine f.right;
          }
    ]
  where
    ended : (fresh : Bool) → cond (eqb b 59 && not fresh) (Ok at) (Err (BadText at)) ≡ Ok end → NameFound fresh (b ∷ bs) at end
    ended true h = let bad : fault_of at ≡ Ok end = rw (and_right (eqb b 59) false refl) at h in absurd cc
    ended false h =
        elim (cases_eq b 59) [
          | inl is ↦
              let same : ok_of at ≡ Ok end = rw (eq-eqb b 59 is) at h in
              let place : at ≡ end = ok_is at end same in
              record { name = []; rest = bs; parts = ap (λ (c : ℕ). c ∷ bs) is; ends = omega arith; right = class_end true }
          | inr other ↦ let bad : fault_of at ≡ Ok end = rw (ne_eqb b 59 other) at h in absurd cc
        ]

pub name_again : (fresh : Bool) (name rest : List ℕ) (at : ℕ) → goes_on (not fresh) name ≡ true → name_end fresh (name ++ 59 ∷ rest) at ≡ Ok (at + length name)
unfolding name_end
name_again true [] rest at right = let bad : false ≡ true = sym (class_end false) ∙ right in absurd cc
name_again false [] rest at right = let place : at ≡ at + 0 = omega arith in ap (λ (n : ℕ). ok_of n) place
name_again fresh (b ∷ name) rest at right =
    elim (cases_Bool (stops b (not fresh))) [
      | inl wrong ↦ let bad : false ≡ true = (sym (rw wrong at (class_step (not fresh) b name)) ∙ right) in absurd cc
      | inr fine ↦
          let so_far : goes_on (not (is_slash b)) name ≡ true = sym (rw fine at (class_step (not fresh) b name)) ∙ right in
          let place : (at + 1) + length name ≡ at + length (b ∷ name) = omega arith in
          name_more fresh b (name ++ 59 ∷ rest) at fine ∙ name_again (is_slash b) name rest (at + 1) so_far ∙ ap (λ (n : ℕ). ok_of n) place
    ]

-- ---- types that are no arrays

-- the type that has its name from a place on
abbrev pub class_of : ℕ → Result ℕ TextFault → Result (BaseType × ℕ) TextFault
class_of from read = read >>= λ end. Ok (Class from end, end + 1)

-- how a type that is no array is read
pub data BaseRead (text : List ℕ) (at : ℕ) : Type 0 where
  past : length text ≤ at → base_at text at ≡ Err (BadText at) → BaseRead text at
  prim : at < length text → is_primitive (slice_index text at) ≡ true → base_at text at ≡ Ok (Prim (slice_index text at), at + 1) → BaseRead text at
  class : at < length text → slice_index text at ≡ 76 → base_at text at ≡ class_of (at + 1) (name_end true (drop (at + 1) text) (at + 1)) → BaseRead text at
  other : at < length text → is_primitive (slice_index text at) ≡ false → (slice_index text at ≡ 76 → ⊥) → base_at text at ≡ Err (BadText at) → BaseRead text at

pub base_read : (text : List ℕ) (at : ℕ) → BaseRead text at
unfolding base_at
base_read text at =
    elim (cases_lt at (length text)) [
      | inr out ↦ past out (rw (le-ltb at (length text) out) refl)
      | inl inside ↦ elim (cases_Bool (is_primitive (slice_index text at))) [
        | inl p ↦ prim inside p (rw (lt-ltb at (length text) inside, p) refl)
        | inr p ↦ elim (cases_eq (slice_index text at) 76) [
          | inl is ↦ class inside is (rw (lt-ltb at (length text) inside, is) refl)
          | inr not_76 ↦ other inside p not_76 (rw (lt-ltb at (length text) inside, p, ne_eqb (slice_index text at) 76 not_76) refl)
        ]
      ]
    ]

pub base_named : (text : List ℕ) (at : ℕ) → at < length text → slice_index text at ≡ 76 → base_at text at ≡ class_of (at + 1) (name_end true (drop (at + 1) text) (at + 1))
unfolding base_at
base_named text at inside here = rw (lt-ltb at (length text) inside, here) refl

pub base_other : (text : List ℕ) (at b : ℕ) → at < length text → slice_index text at ≡ b → is_primitive b ≡ false → (b ≡ 76 → ⊥) → base_at text at ≡ Err (BadText at)
unfolding base_at
base_other text at b inside here p not_76 = rw (lt-ltb at (length text) inside, here, p, ne_eqb b 76 not_76) refl

abbrev BaseStands : List ℕ → ℕ → BaseType × ℕ → Type 0
BaseStands text at b = IsBase text at b.0 × Stands text at (base_bytes text b.0) b.1

-- the bytes of a name that stands behind a place
between_is : (text : List ℕ) (from : ℕ) (name rest : List ℕ) → drop from text ≡ name ++ rest → between text from (from + length name) ≡ name
between_is text from name rest parts =
    let size : (from + length name) - from ≡ length name = omega arith in
    rw (size, parts) (take_at name rest (length name) refl)

class_stands : (text : List ℕ) (at end : ℕ) → at < length text → slice_index text at ≡ 76 → NameFound true (drop (at + 1) text) (at + 1) end → BaseStands text at (Class (at + 1) end, end + 1)
class_stands text at end inside here f =
    let size : length (drop (at + 1) text) ≡ length f.name + suc (length f.rest) = ap length f.parts ∙ length-append f.name (59 ∷ f.rest) in
    let ends : end ≡ at + 1 + length f.name = f.ends in
    let spelled : between text (at + 1) end ≡ f.name = rw ends (between_is text (at + 1) f.name (59 ∷ f.rest) f.parts) in
    let right : names_a_class f.name ≡ true = sym (class_first f.name) ∙ f.right in
    let parts : drop at text ≡ (76 ∷ f.name ++ 59 ∷ []) ++ f.rest =
    drop_more text at 0 inside ∙ rw (here, f.parts) (sym (append_assoc (76 ∷ f.name) (59 ∷ []) f.rest)) in
    let long : length (76 ∷ f.name ++ 59 ∷ []) ≡ suc (length f.name + 1) = ap suc (length-append f.name (59 ∷ [])) in
    let stands : Stands text at (76 ∷ f.name ++ 59 ∷ []) (end + 1) = Stands-from_parts text at (76 ∷ f.name ++ 59 ∷ []) f.rest (end + 1) parts (omega arith) (omega (arith, length-drop (at + 1) text)) in
    ((refl, omega arith, omega (arith, length-drop (at + 1) text), rw spelled right), rw spelled stands)

pub base_stands : (text : List ℕ) (at : ℕ) (b : BaseType) (next : ℕ) → base_at text at ≡ Ok (b, next) → IsBase text at b × Stands text at (base_bytes text b) next
base_stands text at b next e =
    elim (base_read text at) [
      | past out is ↦ let bad : base_fault at ≡ Ok (b, next) = sym is ∙ e in absurd cc
      | prim inside p is ↦
          subst (BaseStands text at) (ok_is (Prim (slice_index text at), at + 1) (b, next) (sym is ∙ e)) (p, byte_stands text at inside)
      | class inside here is ↦
          let read = bind_ok (name_end true (drop (at + 1) text) (at + 1)) (λ end. Ok (Class (at + 1) end, end + 1)) (b, next) (sym is ∙ e) in
          subst (BaseStands text at) (ok_is (Class (at + 1) read.0, read.0 + 1) (b, next) read.2) (class_stands text at read.0 inside here (name_found true (drop (at + 1) text) (at + 1) read.0 read.1))
      | other inside p not_76 is ↦ let bad : base_fault at ≡ Ok (b, next) = sym is ∙ e in absurd cc
    ]

pub base_prim : (text : List ℕ) (at b next : ℕ) → at < length text → slice_index text at ≡ b → at + 1 ≡ next → is_primitive b ≡ true → base_at text at ≡ Ok (Prim b, next)
unfolding base_at
base_prim text at b next inside here ends p = rw (lt-ltb at (length text) inside, here, p, ends) refl

pub base_class : (text : List ℕ) (at from to next : ℕ) → at < length text → slice_index text at ≡ 76 → from ≡ at + 1 → to + 1 ≡ next → name_end true (drop (at + 1) text) (at + 1) ≡ Ok to → base_at text at ≡ Ok (Class from to, next)
unfolding base_at
base_class text at from to next inside here start ends read = rw (lt-ltb at (length text) inside, here, read, ends, start) refl

pub base_again : (text : List ℕ) (at : ℕ) (b : BaseType) (next : ℕ) → IsBase text at b → Stands text at (base_bytes text b) next → base_at text at ≡ Ok (b, next)
base_again text at (Prim b) next is s =
    let p = begins text at b [] next s in
    let ends : at + 1 ≡ next = omega (arith, s.ends) in
    base_prim text at b next p.within p.here ends is
base_again text at (Class from to) next is s =
    let name = between text from to in
    let p = begins text at 76 (name ++ 59 ∷ []) next s in
    let start : from ≡ at + 1 = is.0 in
    let size : length name ≡ to - from = omega (arith, length-take (to - from) (drop from text), length-drop from text, is.1, is.2) in
    let parts : drop (at + 1) text ≡ name ++ 59 ∷ drop next text = Stands-parts text (at + 1) (name ++ 59 ∷ []) next p.rest ∙ append_assoc name (59 ∷ []) (drop next text) in
    let read : name_end true (drop (at + 1) text) (at + 1) ≡ Ok (at + 1 + length name) =
    rw parts (name_again true name (drop next text) (at + 1) (class_first name ∙ is.3)) in
    let end : at + 1 + length name ≡ to = omega (arith, is.1) in
    let ends : to + 1 ≡ next = omega (arith, p.rest.ends, length-append name (59 ∷ [])) in
    base_class text at from to next p.within p.here start ends (read ∙ ap (λ (n : ℕ). ok_of n) end)

-- ---- types

abbrev pub typed : ℕ → BaseType → FieldType
typed d b = record { dims = d; base = b }

-- a type that is no array does not begin with [
begins_base : (text : List ℕ) (at : ℕ) (b : BaseType) (next : ℕ) → IsBase text at b → Stands text at (base_bytes text b) next → slice_index text at ≡ 91 → ⊥
begins_base text at (Prim b) next is s e =
    let here : slice_index text at ≡ b = (begins text at b [] next s).here in
    let bad : false ≡ true = subst (λ (c : ℕ). is_primitive c ≡ true) (sym here ∙ e) is in
    absurd (false≢true bad)
begins_base text at (Class from to) next is s e =
    let here : slice_index text at ≡ 76 = (begins text at 76 (between text from to ++ 59 ∷ []) next s).here in
    absurd (omega arith)

pub type_from : (text : List ℕ) (at d : ℕ) (b : BaseType) (next : ℕ) → d < 256 → take d (drop at text) ≡ replicate d 91 → base_at text (at + d) ≡ Ok (b, next) → type_at text at ≡ Ok (typed d b, next)
unfolding type_at
type_from text at d b next few all read =
    let s = base_stands text (at + d) b next read in
    let other : get_or (drop d (drop at text)) 0 0 ≡ 91 → ⊥ = λ (e : get_or (drop d (drop at text)) 0 0 ≡ 91).
    let place : at + (d + 0) ≡ at + d = omega arith in
    begins_base text (at + d) b next s.0 s.1 (sym (ap (λ (n : ℕ). get_or text n 0) place) ∙ sym (get_or-drop at text (d + 0) 0) ∙ sym (get_or-drop d (drop at text) 0 0) ∙ e) in
    let count : brackets (drop at text) ≡ d =
    ap brackets (sym (take-append-drop d (drop at text)) ∙ ap (λ (l : List ℕ). l ++ drop d (drop at text)) all) ∙ brackets_again d (drop d (drop at text)) other in
    rw (count, le-ltb 255 d (omega arith), read) refl

abbrev pub typed_of : ℕ → Result (BaseType × ℕ) TextFault → Result (FieldType × ℕ) TextFault
typed_of dims read = read >>= λ b. Ok (typed dims b.0, b.1)

pub type_few : (text : List ℕ) (at dims : ℕ) → brackets (drop at text) ≡ dims → dims < 256 → type_at text at ≡ typed_of dims (base_at text (at + dims))
unfolding type_at
type_few text at dims count few = rw (count, le-ltb 255 dims (omega arith)) refl

pub type_many : (text : List ℕ) (at : ℕ) → 255 < brackets (drop at text) → type_at text at ≡ Err (BadText (at + 255))
unfolding type_at
type_many text at many = rw (lt-ltb 255 (brackets (drop at text)) many) refl

pub type_stands : (text : List ℕ) (at : ℕ) (t : FieldType) (next : ℕ) → at ≤ length text → type_at text at ≡ Ok (t, next) → StandsType text at t next
unfolding type_at
type_stands text at t next le e =
    let dims = brackets (drop at text) in
    let g = guard_ok (ltb 255 dims) (BadText (at + 255)) (base_at text (at + dims) >>= λ b. Ok (typed dims b.0, b.1)) (t, next) e in
    let few : dims < 256 = let h = ltb-false 255 dims g.0 in omega arith in
    let read = bind_ok (base_at text (at + dims)) (λ b. Ok (typed dims b.0, b.1)) (t, next) g.1 in
    let s = base_stands text (at + dims) read.0.0 read.0.1 read.1 in
    let fit = brackets_fit (drop at text) in
    let front : Stands text at (replicate dims 91) (at + dims) =
    subst (λ (l : List ℕ). Stands text at l (at + dims)) (brackets_less dims (drop at text) (omega arith)) (Stands-taken text at dims (omega (arith, length-drop at text))) in
    subst (λ (x : FieldType × ℕ). StandsType text at x.0 x.1) (ok_is (typed dims read.0.0, read.0.1) (t, next) read.2)
    (record { few = few; base = s.0; stands = Stands-then text at (replicate dims 91) (at + dims) (base_bytes text read.0.0) read.0.1 front s.1 })

pub type_again : (text : List ℕ) (at : ℕ) (t : FieldType) (next : ℕ) → StandsType text at t next → type_at text at ≡ Ok (t, next)
type_again text at t next s =
    let p = Stands-splits text at (replicate t.dims 91) (base_bytes text t.base) next s.stands in
    let size : length (replicate t.dims 91) ≡ t.dims = length-replicate t.dims 91 in
    let all : take t.dims (drop at text) ≡ replicate t.dims 91 = subst (λ (n : ℕ). take n (drop at text) ≡ replicate t.dims 91) size p.first.there in
    type_from text at t.dims t.base next s.few all (base_again text (at + t.dims) t.base next s.base (subst (λ (n : ℕ). Stands text (at + n) (base_bytes text t.base) next) size p.second))
