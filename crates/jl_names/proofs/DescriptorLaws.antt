-- Descriptors: what is read is spelled so, and what is spelled so is read.
use Rattle.std.proofs.Common.{◌≡◌, ℕ, zero, suc, ◌+◌, ◌<◌, ◌≤◌, Bool, true, false, not, cond, ◌||◌, ltb, eqb, List, [], ◌∷◌, ◌++◌, length, replicate, slice_index, Option, None, Some, Result, Ok, Err, refl, sym, ap, subst, ◌∙◌, arith, inl, inr}
use Rattle.std.specs.Prelude.{IfOk}
use Rattle.std.proofs.lemmas.Bool.{cond_both, ltb-true, ltb-false, lt-ltb, le-ltb, eqb-true, eq-eqb, ne_eqb, and_parts, and_from, and_right, or_left, or_right, cases_Bool, true≢false}
use Rattle.std.proofs.lemmas.List.{length-append}
use Rattle.jl_logic.specs.Answers.{Gives}
use Rattle.jl_reading.specs.Reading.{◌>>=◌, Stands}
use Rattle.jl_reading.proofs.Steps.{bind_ok, guard_ok, ok_is}
use Rattle.jl_names.specs.declared.fault.TextFault.{TextFault}
use Rattle.jl_names.specs.declared.fault.TextFault.TheVariants.{BadText}
use Rattle.jl_names.specs.declared.types.BaseType.{BaseType}
use Rattle.jl_names.specs.declared.types.BaseType.TheVariants.{Prim, Class}
use Rattle.jl_names.specs.declared.types.FieldType.{FieldType}
use Rattle.jl_names.specs.declared.types.Descriptor.{Descriptor}
use Rattle.jl_names.specs.declared.types.Descriptor.TheVariants.{Field, Method}
use Rattle.jl_names.specs.Text.{told}
use Rattle.jl_names.specs.Descriptors.{is_primitive, is_wide, slots_of, slots, between, base_bytes, IsBase, StandsType, StandTypes, StandsResult, IsMethod, IsDescriptor, has_at, type_at, param_at, params_at, result_at, method_at, field_at, front_of, whole_or, descriptor_read}
use Rattle.jl_names.proofs.TextLaws.{byte_stands, begins}
use Rattle.jl_names.proofs.TypeLaws.{type_stands, type_again}

abbrev params_of : List FieldType → ℕ → Result (List FieldType × ℕ) TextFault
params_of ts at = Ok (ts, at)

abbrev result_of : Option FieldType → ℕ → Result (Option FieldType × ℕ) TextFault
result_of r at = Ok (r, at)

abbrev fault_of : ℕ → Result Descriptor TextFault
fault_of at = Err (BadText at)

-- ---- first bytes

pub has_from : (text : List ℕ) (at b : ℕ) → at < length text → slice_index text at ≡ b → has_at text at b ≡ true
has_from text at b inside here = and_from (ltb at (length text)) (eqb (slice_index text at) b) (lt-ltb at (length text) inside) (eq-eqb (slice_index text at) b here)

pub has_parts : (text : List ℕ) (at b : ℕ) → has_at text at b ≡ true → (at < length text) × (slice_index text at ≡ b)
has_parts text at b h =
    let p = and_parts (ltb at (length text)) (eqb (slice_index text at) b) h in
    (ltb-true at (length text) p.0, eqb-true (slice_index text at) b p.1)

has_not : (text : List ℕ) (at b : ℕ) → (slice_index text at ≡ b → ⊥) → has_at text at b ≡ false
has_not text at b other = and_right (ltb at (length text)) (eqb (slice_index text at) b) (ne_eqb (slice_index text at) b other)

-- a type begins with the byte
abbrev begins_type : ℕ → Bool
begins_type b = eqb b 91 || (is_primitive b || eqb b 76)

type_first_by : (text : List ℕ) (at d : ℕ) (b : BaseType) (next : ℕ) → IsBase text (at + d) b → Stands text at (replicate d 91 ++ base_bytes text b) next → begins_type (slice_index text at) ≡ true
type_first_by text at zero (Prim b) next is s =
    rw (begins text at b [] next s).here (or_right (eqb b 91) (is_primitive b || eqb b 76) (or_left (is_primitive b) (eqb b 76) is))
type_first_by text at zero (Class from to) next is s = rw (begins text at 76 (between text from to ++ 59 ∷ []) next s).here refl
type_first_by text at (suc d) b next is s = rw (begins text at 91 (replicate d 91 ++ base_bytes text b) next s).here refl

pub type_not : (text : List ℕ) (at c : ℕ) (t : FieldType) (next : ℕ) → begins_type c ≡ false → StandsType text at t next → has_at text at c ≡ false
type_not text at c t next none s = has_not text at c (λ (e : slice_index text at ≡ c).
    let bad : true ≡ false = sym (type_first_by text at t.dims t.base next s.base s.stands) ∙ ap begins_type e ∙ none in
    absurd (true≢false bad))

base_long : (text : List ℕ) (b : BaseType) → 0 < length (base_bytes text b)
base_long text (Prim b) = omega arith
base_long text (Class from to) = omega arith

pub type_past : (text : List ℕ) (at : ℕ) (t : FieldType) (next : ℕ) → StandsType text at t next → at < next
type_past text at t next s = omega (arith, s.stands.ends, length-append (replicate t.dims 91) (base_bytes text t.base), base_long text t.base)

pub slots_some : (t : FieldType) → 0 < slots_of t
slots_some t = cond_both (is_wide t) 2 1 (λ n. 0 < n) (λ e. omega arith) (λ e. omega arith)

-- ---- parameters

pub record ParamStands (taken : ℕ) (text : List ℕ) (at : ℕ) (t : FieldType) (next : ℕ) : Type 0 where
  pub stands : StandsType text at t next
  pub few : taken + slots_of t < 256

pub param_stands : (taken : ℕ) (text : List ℕ) (at : ℕ) (t : FieldType) (next : ℕ) → at ≤ length text → param_at taken text at ≡ Ok (t, next) → ParamStands taken text at t next
unfolding param_at
param_stands taken text at t next le e =
    let g = guard_ok (not (ltb taken 255)) (BadText at) (type_at text at >>= λ t. cond (ltb 255 (taken + slots_of t.0)) (Err (BadText at)) (Ok t)) (t, next) e in
    let read = bind_ok (type_at text at) (λ t. cond (ltb 255 (taken + slots_of t.0)) (Err (BadText at)) (Ok t)) (t, next) g.1 in
    let h = guard_ok (ltb 255 (taken + slots_of read.0.0)) (BadText at) (Ok read.0) (t, next) read.2 in
    let few = ltb-false 255 (taken + slots_of read.0.0) h.0 in
    subst (λ (x : FieldType × ℕ). ParamStands taken text at x.0 x.1) (ok_is read.0 (t, next) h.1)
    (record { stands = type_stands text at read.0.0 read.0.1 le read.1; few = omega arith })

pub param_again : (taken : ℕ) (text : List ℕ) (at : ℕ) (t : FieldType) (next : ℕ) → taken + slots_of t < 256 → StandsType text at t next → param_at taken text at ≡ Ok (t, next)
unfolding param_at
param_again taken text at t next few s =
    let some = slots_some t in
    rw (lt-ltb taken 255 (omega arith), type_again text at t next s, le-ltb 255 (taken + slots_of t) (omega arith)) refl

-- parameters, and the ) behind them
pub record ParamsStand (taken : ℕ) (text : List ℕ) (at : ℕ) (ts : List FieldType) (close : ℕ) : Type 0 where
  pub types : StandTypes text at ts close
  pub few : taken + slots ts < 256
  pub closes : has_at text close 41 ≡ true
  pub from : at ≤ close

none_stand : (taken : ℕ) (text : List ℕ) (at : ℕ) (ts : List FieldType) (close : ℕ) → taken < 256 → has_at text at 41 ≡ true → params_of [] at ≡ Ok (ts, close) → ParamsStand taken text at ts close
none_stand taken text at ts close few closes e =
    subst (λ (x : List FieldType × ℕ). ParamsStand taken text at x.0 x.1) (ok_is ([], at) (ts, close) e)
    (record { types = refl; few = omega arith; closes = closes; from = omega arith })

pub params_stand : (m taken : ℕ) (text : List ℕ) (at : ℕ) (ts : List FieldType) (close : ℕ) → at ≤ length text → length text < at + m → taken < 256 → params_at m taken text at ≡ Ok (ts, close) → ParamsStand taken text at ts close
unfolding params_at
params_stand zero taken text at ts close le enough few e = absurd (omega arith)
params_stand (suc m) taken text at ts close le enough few e =
    elim (cases_Bool (has_at text at 41)) [
      | inl closes ↦ none_stand taken text at ts close few closes (rw closes at e)
      | inr still ↦
          let more : (param_at taken text at >>= λ t. params_at m (taken + slots_of t.0) text t.1 >>= λ ts. Ok (t.0 ∷ ts.0, ts.1)) ≡ Ok (ts, close) = rw still at e in
          let a = bind_ok (param_at taken text at) (λ t. params_at m (taken + slots_of t.0) text t.1 >>= λ ts. Ok (t.0 ∷ ts.0, ts.1)) (ts, close) more in
          let b = bind_ok (params_at m (taken + slots_of a.0.0) text a.0.1) (λ ts. Ok (a.0.0 ∷ ts.0, ts.1)) (ts, close) a.2 in
          let p = param_stands taken text at a.0.0 a.0.1 le a.1 in
          let past = type_past text at a.0.0 a.0.1 p.stands in
          let rest = params_stand m (taken + slots_of a.0.0) text a.0.1 b.0.0 b.0.1 p.stands.stands.within (omega arith) p.few b.1 in
          subst (λ (x : List FieldType × ℕ). ParamsStand taken text at x.0 x.1) (ok_is (a.0.0 ∷ b.0.0, b.0.1) (ts, close) b.2)
          (record { types = (a.0.1, p.stands, rest.types); few = omega (arith, rest.few); closes = rest.closes; from = omega (arith, rest.from) })
    ]

pub closed_here : (m taken : ℕ) (text : List ℕ) (at : ℕ) → has_at text at 41 ≡ true → params_at m taken text at ≡ Ok ([], at)
unfolding params_at
closed_here zero taken text at closes = refl
closed_here (suc m) taken text at closes = rw closes refl

-- one more parameter is read
pub param_first : (m taken : ℕ) (text : List ℕ) (at : ℕ) (t : FieldType) (after : ℕ) (ts : List FieldType) (close : ℕ)
    → has_at text at 41 ≡ false → param_at taken text at ≡ Ok (t, after) → params_at m (taken + slots_of t) text after ≡ Ok (ts, close) → params_at (suc m) taken text at ≡ Ok (t ∷ ts, close)
unfolding params_at
param_first m taken text at t after ts close still first rest = rw (still, first, rest) refl

pub params_again : (ts : List FieldType) (m taken : ℕ) (text : List ℕ) (at close : ℕ) → at ≤ length text → length text < at + m → StandTypes text at ts close → taken + slots ts < 256 → has_at text close 41 ≡ true
    → params_at m taken text at ≡ Ok (ts, close)
params_again [] m taken text at close le enough s few closes = subst (λ (n : ℕ). params_at m taken text at ≡ Ok ([], n)) s (closed_here m taken text at (rw s closes))
params_again (t ∷ ts) zero taken text at close le enough s few closes = absurd (omega arith)
params_again (t ∷ ts) (suc m) taken text at close le enough s few closes =
    let past = type_past text at t s.0 s.1 in
    param_first m taken text at t s.0 ts close (type_not text at 41 t s.0 refl s.1) (param_again taken text at t s.0 (omega arith) s.1)
    (params_again ts m (taken + slots_of t) text s.0 close s.1.stands.within (omega arith) s.2 (omega arith) closes)

-- ---- results

pub result_stands : (text : List ℕ) (at : ℕ) (r : Option FieldType) (next : ℕ) → at ≤ length text → result_at text at ≡ Ok (r, next) → StandsResult text at r next
unfolding result_at
result_stands text at r next le e =
    elim (cases_Bool (has_at text at 86)) [
      | inl void ↦
          let p = has_parts text at 86 void in
          let same : result_of None (at + 1) ≡ Ok (r, next) = rw void at e in
          subst (λ (x : Option FieldType × ℕ). StandsResult text at x.0 x.1) (ok_is (None, at + 1) (r, next) same)
          (subst (λ (c : ℕ). Stands text at (c ∷ []) (at + 1)) p.1 (byte_stands text at p.0))
      | inr other ↦
          let more : (type_at text at >>= λ t. Ok (Some t.0, t.1)) ≡ Ok (r, next) = rw other at e in
          let a = bind_ok (type_at text at) (λ t. Ok (Some t.0, t.1)) (r, next) more in
          subst (λ (x : Option FieldType × ℕ). StandsResult text at x.0 x.1) (ok_is (Some a.0.0, a.0.1) (r, next) a.2) (type_stands text at a.0.0 a.0.1 le a.1)
    ]

pub result_again : (text : List ℕ) (at : ℕ) (r : Option FieldType) (next : ℕ) → StandsResult text at r next → result_at text at ≡ Ok (r, next)
unfolding result_at
result_again text at None next s =
    let p = begins text at 86 [] next s in
    let ends : at + 1 ≡ next = omega (arith, s.ends) in
    rw (has_from text at 86 p.within p.here, ends) refl
result_again text at (Some t) next s = rw (type_not text at 86 t next refl s, type_again text at t next s) refl

-- ---- whole texts

method_stands : (text : List ℕ) (d : Descriptor) → has_at text 0 40 ≡ true → method_at text ≡ Ok (d, length text) → IsDescriptor text d
unfolding method_at
method_stands text d opens e =
    let first = has_parts text 0 40 opens in
    let a = bind_ok (params_at (length text) 0 text 1) (λ params. result_at text (params.1 + 1) >>= λ result. Ok (Method params.0 result.0, result.1)) (d, length text) e in
    let close = a.0.1 in
    let b = bind_ok (result_at text (close + 1)) (λ result. Ok (Method a.0.0 result.0, result.1)) (d, length text) a.2 in
    let same = ok_is (Method a.0.0 b.0.0, b.0.1) (d, length text) b.2 in
    let ends : b.0.1 ≡ length text = ap (λ (x : Descriptor × ℕ). x.1) same in
    let p = params_stand (length text) 0 text 1 a.0.0 close (omega (arith, first.0)) (omega arith) (omega arith) a.1 in
    let last = has_parts text close 41 p.closes in
    let returns = result_stands text (close + 1) b.0.0 b.0.1 (omega (arith, last.0)) b.1 in
    let method : IsMethod text a.0.0 b.0.0 = record {
      close = close;
      opens = subst (λ (c : ℕ). Stands text 0 (c ∷ []) 1) first.1 (byte_stands text 0 first.0);
      types = p.types;
      few = omega (arith, p.few);
      closes = subst (λ (c : ℕ). Stands text close (c ∷ []) (close + 1)) last.1 (byte_stands text close last.0);
      returns = subst (λ (n : ℕ). StandsResult text (close + 1) b.0.0 n) ends returns;
    } in
    subst (IsDescriptor text) (ap (λ (x : Descriptor × ℕ). x.0) same) method

field_stands : (text : List ℕ) (d : Descriptor) → field_at text ≡ Ok (d, length text) → IsDescriptor text d
unfolding field_at
field_stands text d e =
    let a = bind_ok (type_at text 0) (λ t. Ok (Field t.0, t.1)) (d, length text) e in
    let same = ok_is (Field a.0.0, a.0.1) (d, length text) a.2 in
    let ends : a.0.1 ≡ length text = ap (λ (x : Descriptor × ℕ). x.1) same in
    let field : IsDescriptor text (Field a.0.0) = subst (λ (n : ℕ). StandsType text 0 a.0.0 n) ends (type_stands text 0 a.0.0 a.0.1 (omega arith) a.1) in
    subst (IsDescriptor text) (ap (λ (x : Descriptor × ℕ). x.0) same) field

pub front_stands : (text : List ℕ) (d : Descriptor) → front_of text ≡ Ok (d, length text) → IsDescriptor text d
front_stands text d e =
    elim (cases_Bool (has_at text 0 40)) [
      | inl opens ↦ method_stands text d opens (rw opens at e)
      | inr other ↦ field_stands text d (rw other at e)
    ]

method_again : (text : List ℕ) (ts : List FieldType) (close : ℕ) (r : Option FieldType) (next : ℕ) → params_at (length text) 0 text 1 ≡ Ok (ts, close) → result_at text (close + 1) ≡ Ok (r, next) → method_at text ≡ Ok (Method ts r, next)
unfolding method_at
method_again text ts close r next params result = rw (params, result) refl

field_again : (text : List ℕ) (t : FieldType) (next : ℕ) → type_at text 0 ≡ Ok (t, next) → field_at text ≡ Ok (Field t, next)
unfolding field_at
field_again text t next read = rw read refl

pub front_method : (text : List ℕ) (ts : List FieldType) (close : ℕ) (r : Option FieldType) (next : ℕ) → has_at text 0 40 ≡ true → params_at (length text) 0 text 1 ≡ Ok (ts, close) → result_at text (close + 1) ≡ Ok (r, next)
    → front_of text ≡ Ok (Method ts r, next)
front_method text ts close r next opens params result = rw opens (method_again text ts close r next params result)

pub front_field : (text : List ℕ) (t : FieldType) (next : ℕ) → type_at text 0 ≡ Ok (t, next) → front_of text ≡ Ok (Field t, next)
front_field text t next read =
    let other : has_at text 0 40 ≡ false = type_not text 0 40 t next refl (type_stands text 0 t next (omega arith) read) in
    rw other (field_again text t next read)

front_again : (text : List ℕ) (d : Descriptor) → IsDescriptor text d → front_of text ≡ Ok (d, length text)
front_again text (Field t) s = front_field text t (length text) (type_again text 0 t (length text) s)
front_again text (Method ts r) s =
    let first = begins text 0 40 [] 1 s.opens in
    let last = begins text s.close 41 [] (s.close + 1) s.closes in
    front_method text ts s.close r (length text) (has_from text 0 40 first.within first.here)
    (params_again ts (length text) 0 text 1 s.close (omega (arith, first.within)) (omega arith) s.types (omega (arith, s.few)) (has_from text s.close 41 last.within last.here))
    (result_again text (s.close + 1) r (length text) s.returns)

abbrev read_of : Descriptor → Result Descriptor TextFault
read_of d = Ok d

pub descriptor_found : (text : List ℕ) (d : Descriptor) → descriptor_read text ≡ Ok d → IsDescriptor text d
unfolding descriptor_read
descriptor_found text d e =
    let a = bind_ok (front_of text) (whole_or text) d e in
    elim (cases_Bool (eqb a.0.1 (length text))) [
      | inl whole ↦
          let ends : a.0.1 ≡ length text = eqb-true a.0.1 (length text) whole in
          let same : read_of a.0.0 ≡ Ok d = rw whole at a.2 in
          subst (IsDescriptor text) (ok_is a.0.0 d same) (front_stands text a.0.0 (subst (λ (n : ℕ). front_of text ≡ Ok (a.0.0, n)) ends a.1))
      | inr left ↦ let bad : fault_of a.0.1 ≡ Ok d = rw left at a.2 in absurd cc
    ]

pub descriptor_ends : (text : List ℕ) (d : Descriptor) → front_of text ≡ Ok (d, length text) → descriptor_read text ≡ Ok d
unfolding descriptor_read
descriptor_ends text d e = rw (e, eq-eqb (length text) (length text) refl) refl

pub descriptor_again : (text : List ℕ) (d : Descriptor) → IsDescriptor text d → descriptor_read text ≡ Ok d
descriptor_again text d is = descriptor_ends text d (front_again text d is)

-- ---- the clauses

pub is_found : (text : List ℕ) (r : Result Descriptor TextFault) → Gives told (λ d. d) r (descriptor_read text) → IfOk r (λ d. IsDescriptor text d)
is_found text (Ok d) given = descriptor_found text d given
is_found text (Err e) given = tt

pub is_only : (text : List ℕ) (r : Result Descriptor TextFault) → Gives told (λ d. d) r (descriptor_read text) → (d : Descriptor) → IsDescriptor text d → Gives told (λ d. d) r (Ok d)
is_only text r given d is = subst (λ (read : Result Descriptor TextFault). Gives told (λ d. d) r read) (descriptor_again text d is) given
