-- Descriptors (JVMS 4.3): how types spell, and how a descriptor is read from left to right.
use Rattle.std.specs.Prelude.{◌≡◌, ℕ, zero, suc, ◌+◌, ◌-◌, ◌<◌, ◌≤◌, nat_lt, nat_le, List, [], ◌∷◌, ◌++◌, length, take, drop, replicate, slice_index, Option, None, Some, Result, Ok, Err, Bool, true, false, not, ◌&&◌, ◌||◌, ◌==◌, IsTrue, if◌then◌else◌}
use Rattle.jl_reading.specs.Reading.{◌>>=◌, Stands}
use Rattle.jl_names.specs.declared.fault.TextFault.{TextFault}
use Rattle.jl_names.specs.declared.fault.TextFault.TheVariants.{BadText}
use Rattle.jl_names.specs.declared.types.BaseType.{BaseType}
use Rattle.jl_names.specs.declared.types.BaseType.TheVariants.{Prim, Class}
use Rattle.jl_names.specs.declared.types.FieldType.{FieldType}
use Rattle.jl_names.specs.declared.types.Descriptor.{Descriptor}
use Rattle.jl_names.specs.declared.types.Descriptor.TheVariants.{Field, Method}
use Rattle.jl_names.specs.Names.{names_a_class, is_slash}

-- one of B C D F I J S Z
abbrev pub is_primitive : ℕ → Bool
is_primitive b = (b == 66) || ((b == 67) || ((b == 68) || ((b == 70) || ((b == 73) || ((b == 74) || ((b == 83) || (b == 90)))))))

-- a long or a double, which takes two slots where it is no array's element
abbrev pub is_wide : FieldType → Bool
is_wide t = (t.dims == 0) && is_wide_base t.base where
  is_wide_base : BaseType → Bool
  is_wide_base (Prim b) = (b == 74) || (b == 68)
  is_wide_base (Class from to) = false

-- how many slots a value of the type takes
abbrev pub slots_of : FieldType → ℕ
slots_of t = if is_wide t then 2 else 1

-- how many slots parameters take, without a receiver
abbrev pub slots : List FieldType → ℕ
slots [] = 0
slots (t ∷ ts) = slots_of t + slots ts

-- ---- the spelling

-- the bytes from a place up to another
abbrev pub between : List ℕ → ℕ → ℕ → List ℕ
between text from to = take (to - from) (drop from text)

-- a letter, or the name of a class behind L and before ;
abbrev pub base_bytes : List ℕ → BaseType → List ℕ
base_bytes text (Prim b) = b ∷ []
base_bytes text (Class from to) = 76 ∷ between text from to ++ 59 ∷ []

-- a [ for each dimension
abbrev pub type_bytes : List ℕ → FieldType → List ℕ
type_bytes text t = replicate t.dims 91 ++ base_bytes text t.base

-- what stands between two places of a text, where both are places of it
abbrev pub piece : List ℕ → ℕ → ℕ → Option (List ℕ)
piece text from to = if nat_le from to && nat_le to (length text) then Some (between text from to) else None

-- the name that a base names, where it is a class
abbrev pub base_class : List ℕ → BaseType → Option (List ℕ)
base_class text (Prim b) = None
base_class text (Class from to) = piece text from to

-- the name of the class that a type in a text names, which of an array is that of its elements
abbrev pub class_in : List ℕ → FieldType → Option (List ℕ)
class_in text t = base_class text t.base

-- The base is right, where it stands at a place.
abbrev pub IsBase : List ℕ → ℕ → BaseType → Type 0
IsBase text at (Prim b) = IsTrue (is_primitive b)
IsBase text at (Class from to) = (from ≡ at + 1) × (from ≤ to) × (to ≤ length text) × IsTrue (names_a_class (between text from to))

-- a type stands in a text, of at most 255 dimensions
pub record StandsType (text : List ℕ) (at : ℕ) (t : FieldType) (next : ℕ) : Type 0 where
  pub few : t.dims < 256
  pub base : IsBase text (at + t.dims) t.base
  pub stands : Stands text at (type_bytes text t) next

-- types stand in a text one behind the other
abbrev pub StandTypes : List ℕ → ℕ → List FieldType → ℕ → Type 0
StandTypes text at [] next = at ≡ next
StandTypes text at (t ∷ ts) next = (after : ℕ) × StandsType text at t after × StandTypes text after ts next

-- a result, where V is none
abbrev pub StandsResult : List ℕ → ℕ → Option FieldType → ℕ → Type 0
StandsResult text at None next = Stands text at (86 ∷ []) next
StandsResult text at (Some t) next = StandsType text at t next

-- the types of the parameters in ( ), which take at most 255 slots, and the result
pub record IsMethod (text : List ℕ) (params : List FieldType) (result : Option FieldType) : Type 0 where
  pub close : ℕ
  pub opens : Stands text 0 (40 ∷ []) 1
  pub types : StandTypes text 1 params close
  pub few : slots params < 256
  pub closes : Stands text close (41 ∷ []) (close + 1)
  pub returns : StandsResult text (close + 1) result (length text)

-- the text is this descriptor
abbrev pub IsDescriptor : List ℕ → Descriptor → Type 0
IsDescriptor text (Field t) = StandsType text 0 t (length text)
IsDescriptor text (Method params result) = IsMethod text params result

-- the text is some descriptor
abbrev pub IsSomeDescriptor : List ℕ → Type 0
IsSomeDescriptor text = (d : Descriptor) × IsDescriptor text d

-- ---- reading

-- this byte stands at the place
abbrev pub has_at : List ℕ → ℕ → ℕ → Bool
has_at text at b = nat_lt at (length text) && (slice_index text at == b)

-- the number of [ with which a list begins
unfoldable pub brackets : List ℕ → ℕ
brackets [] = 0
brackets (b ∷ bs) = if b == 91 then suc (brackets bs) else 0

-- The place of the ; that ends a class name. A part that has begun and has no byte yet is fresh.
unfoldable pub name_end : Bool → List ℕ → ℕ → Result ℕ TextFault
name_end fresh [] at = Err (BadText at)
name_end fresh (b ∷ bs) at =
    if b == 59 then (if fresh then Err (BadText at) else Ok at)
    else if is_slash b then (if fresh then Err (BadText at) else name_end true bs (at + 1))
    else if (b == 46) || (b == 91) then Err (BadText at)
    else name_end false bs (at + 1)

-- a letter, or a class name behind L
unfoldable pub base_at : List ℕ → ℕ → Result (BaseType × ℕ) TextFault
base_at text at =
    if not (nat_lt at (length text)) then Err (BadText at)
    else if is_primitive (slice_index text at) then Ok (Prim (slice_index text at), at + 1)
    else if slice_index text at == 76 then (do
      end ← name_end true (drop (at + 1) text) (at + 1)
      Ok (Class (at + 1) end, end + 1))
    else Err (BadText at)

-- a type, whose 256th dimension is no dimension
unfoldable pub type_at : List ℕ → ℕ → Result (FieldType × ℕ) TextFault
type_at text at =
    let dims = brackets (drop at text) in
    if nat_lt 255 dims then Err (BadText (at + 255)) else (do
      base ← base_at text (at + dims)
      Ok (record { dims = dims; base = base.0 }, base.1))

-- A parameter behind those that take so many slots. Where it would pass 255 it is none.
unfoldable pub param_at : ℕ → List ℕ → ℕ → Result (FieldType × ℕ) TextFault
param_at taken text at = if not (nat_lt taken 255) then Err (BadText at) else (do
  t ← type_at text at
  if nat_lt 255 (taken + slots_of t.0) then Err (BadText at) else Ok t)

-- the parameters up to the ), at most n of them
unfoldable pub params_at : ℕ → ℕ → List ℕ → ℕ → Result (List FieldType × ℕ) TextFault
params_at zero taken text at = Ok ([], at)
params_at (suc n) taken text at = if has_at text at 41 then Ok ([], at) else (do
  t ← param_at taken text at
  ts ← params_at n (taken + slots_of t.0) text t.1
  Ok (t.0 ∷ ts.0, ts.1))

-- the result behind the parameters, where V is none
unfoldable pub result_at : List ℕ → ℕ → Result (Option FieldType × ℕ) TextFault
result_at text at = if has_at text at 86 then Ok (None, at + 1) else (do
  t ← type_at text at
  Ok (Some t.0, t.1))

-- the parameters and the result of a method
unfoldable pub method_at : List ℕ → Result (Descriptor × ℕ) TextFault
method_at text = do
  params ← params_at (length text) 0 text 1
  result ← result_at text (params.1 + 1)
  Ok (Method params.0 result.0, result.1)

-- the type of a field
unfoldable pub field_at : List ℕ → Result (Descriptor × ℕ) TextFault
field_at text = do
  t ← type_at text 0
  Ok (Field t.0, t.1)

-- the descriptor with which a text begins
abbrev pub front_of : List ℕ → Result (Descriptor × ℕ) TextFault
front_of text = if has_at text 0 40 then method_at text else field_at text

-- a descriptor that ends where the text does
abbrev pub whole_or : List ℕ → Descriptor × ℕ → Result Descriptor TextFault
whole_or text d = if d.1 == length text then Ok d.0 else Err (BadText d.1)

-- the descriptor that a text is, or its first bad place
unfoldable pub descriptor_read : List ℕ → Result Descriptor TextFault
descriptor_read text = front_of text >>= whole_or text
