-- The names of classes in a descriptor stand between characters of it.
use Rattle.std.proofs.Common.{◌≡◌, ℕ, ◌+◌, ◌-◌, ◌≤◌, List, [], ◌∷◌, length, drop, get_or, replicate, Option, Some, None, refl, arith, add-zero, length-drop, length-take, get_or-drop}
use Rattle.std.specs.Str.{IsUtf8}
use Rattle.std.proofs.lemmas.Str.{IsCharBoundary-before_ascii, IsCharBoundary-after_ascii}
use Rattle.std.proofs.lemmas.List.{length-replicate}
use Rattle.jl_reading.specs.Reading.{Stands}
use Rattle.jl_reading.proofs.Stands.{Stands-parts}
use Rattle.jl_reading.proofs.Standing.{first, second}
use Rattle.jl_names.specs.declared.types.BaseType.{BaseType}
use Rattle.jl_names.specs.declared.types.BaseType.TheVariants.{Prim, Class}
use Rattle.jl_names.specs.declared.types.FieldType.{FieldType}
use Rattle.jl_names.specs.Descriptors.{between, base_bytes, IsBase, StandsType, StandTypes, StandsResult, IsMethod}
use Rattle.jl_link.specs.Imposing.{IsBaseCut, IsCut, AreCut, IsResultCut}

-- a byte that stands at a place is there
byte_there : (bytes : List ℕ) (at b : ℕ) (rest : List ℕ) (next : ℕ) → Stands bytes at (b ∷ rest) next → get_or bytes at 0 ≡ b
byte_there bytes at b rest next s =
    let parts = Stands-parts bytes at (b ∷ rest) next s in
    let zero_at : get_or (drop at bytes) 0 0 ≡ b = rw parts refl in
    simp (get_or-drop, add-zero) at zero_at

between_long : (text : List ℕ) (from to : ℕ) → from ≤ to → to ≤ length text → length (between text from to) ≡ to - from
between_long text from to h g = omega (arith, length-take (to - from) (drop from text), length-drop from text)

base_cut : (text : List ℕ) (at : ℕ) (base : BaseType) (next : ℕ) → IsUtf8 text → IsBase text at base → Stands text at (base_bytes text base) next → IsBaseCut text base
base_cut text at (Prim b) next u h s = tt
base_cut text at (Class from to) next u h s =
    let front = first (76 ∷ between text from to) (59 ∷ []) s in
    let back = second (76 ∷ between text from to) (59 ∷ []) s in
    let long : length (between text from to) ≡ to - from = between_long text from to h.1 h.2 in
    let opens : get_or text at 0 ≡ 76 = byte_there text at 76 (between text from to) _ front in
    let end : at + length (76 ∷ between text from to) ≡ to = omega (arith, h.0, h.1) in
    let closes : get_or text to 0 ≡ 59 = byte_there text to 59 [] next (rw end at back) in
    let within = back.within in
    let ends = back.ends in
    record {
      rises = h.1;
      starts = rw h.0 (IsCharBoundary-after_ascii text at u (omega arith) (omega arith));
      ends = IsCharBoundary-before_ascii text to (omega arith) (omega arith);
    }

type_cut : (text : List ℕ) (at : ℕ) (t : FieldType) (next : ℕ) → IsUtf8 text → StandsType text at t next → IsCut text t
type_cut text at t next u s =
    let back = second (replicate t.dims 91) (base_bytes text t.base) s.stands in
    base_cut text (at + t.dims) t.base next u s.base (rw length-replicate at back)

types_cut : (text : List ℕ) (at : ℕ) (ts : List FieldType) (next : ℕ) → IsUtf8 text → StandTypes text at ts next → AreCut text ts
types_cut text at [] next u s = tt
types_cut text at (t ∷ ts) next u s = (type_cut text at t s.0 u s.1, types_cut text s.0 ts next u s.2)

result_cut : (text : List ℕ) (at : ℕ) (r : Option FieldType) (next : ℕ) → IsUtf8 text → StandsResult text at r next → IsResultCut text r
result_cut text at None next u s = tt
result_cut text at (Some t) next u s = type_cut text at t next u s

-- the types of a method's descriptor
pub params_cut : (text : List ℕ) (params : List FieldType) (result : Option FieldType) → IsUtf8 text → IsMethod text params result → AreCut text params
params_cut text params result u m = types_cut text 1 params m.close u m.types

pub returned_cut : (text : List ℕ) (params : List FieldType) (result : Option FieldType) → IsUtf8 text → IsMethod text params result → IsResultCut text result
returned_cut text params result u m = result_cut text (m.close + 1) result (length text) u m.returns

-- the type of a field's descriptor
pub field_cut : (text : List ℕ) (t : FieldType) → IsUtf8 text → StandsType text 0 t (length text) → IsCut text t
field_cut text t u s = type_cut text 0 t (length text) u s
