-- The spelling of attributes and of counted tables (JVMS 4.1, 4.7).
use Rattle.std.specs.Prelude.{◌≡◌, ℕ, ◌<◌, List, [], ◌∷◌, ◌++◌, length, map, filter, Option, None, Some, Bool, false}
use Rattle.std.specs.List.{AllByRecursion}
use Rattle.jl_logic.specs.Lists.{AreDistinct, Match}
use Rattle.jl_reading.specs.Reading.{two, four}
use Rattle.jl_pool.specs.declared.entry.Entry.{Entry}
use Rattle.jl_pool.specs.Pool.{text_of}

-- any attribute: the index of its name, and its content
pub record Attribute : Type 0 where
  pub index : ℕ
  pub content : List ℕ

-- a length, and so many bytes
abbrev pub measured : List ℕ → List ℕ
measured text = four (length text) ++ text

abbrev pub attribute_bytes : Attribute → List ℕ
attribute_bytes a = two a.index ++ measured a.content

-- an attribute has a name, and its numbers fit their bytes
abbrev pub AttributeFits : List Entry → Attribute → Type 0
AttributeFits pool a = (a.index < 65536) × (length a.content < 4294967296) × ((name : List ℕ) × (text_of pool a.index ≡ Some name))

pub record AreAttributes (pool : List Entry) (attributes : List Attribute) : Type 0 where
  pub few : length attributes < 65536
  pub fit : AllByRecursion (AttributeFits pool) attributes

-- something is there, and has the property
abbrev pub is_some_that : {A : Type 0} → (A → Bool) → Option A → Bool
is_some_that is_right None = false
is_some_that is_right (Some x) = is_right x

-- the contents of the attributes whose names have a property
abbrev pub contents : List Entry → (List ℕ → Bool) → List Attribute → List (List ℕ)
contents pool is_read attributes = map (λ (a : Attribute). a.content) (filter (λ (a : Attribute). is_some_that is_read (text_of pool a.index)) attributes)

-- at most one of the contents, and what it means
abbrev pub AtMostOne : {V : Type 0} → (List ℕ → V → Type 0) → List (List ℕ) → Option V → Type 0
AtMostOne M cs None = cs ≡ []
AtMostOne {V} M cs (Some v) = (c : List ℕ) × (cs ≡ c ∷ []) × M c v

-- an index of two bytes has this name
abbrev pub HasName : {A : Type 0} → (ℕ → Option A) → ℕ → A → Type 0
HasName named i name = (i < 65536) × (named i ≡ Some name)

-- A table declares these entries, no two of which have one key.
pub record IsTable {A B K : Type 0} (R : A → B → Type 0) (key : B → K) (rows : List A) (entries : List B) : Type 0 where
  pub few : length rows < 65536
  pub each : Match R rows entries
  pub distinct : AreDistinct (map key entries)
