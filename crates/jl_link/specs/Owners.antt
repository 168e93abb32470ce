-- The class of a member by its number, and its place there.
use Rattle.std.specs.Prelude.{ℕ, ◌+◌, ◌-◌, List, [], ◌∷◌, length, nat_lt, Option, None, Some, if◌then◌else◌}
use Rattle.jl_prim.specs.declared.numbers.ClassId.{ClassId}
use Rattle.jl_prim.specs.declared.numbers.FieldId.{FieldId}
use Rattle.jl_prim.specs.declared.numbers.MethodId.{MethodId}
use Rattle.jl_loads.specs.Worlds.{State, Loaded}

-- Members are numbered class by class: one belongs to the first class whose count it does not reach.
unfoldable pub owner_in : (Loaded → ℕ) → ClassId → List Loaded → ℕ → Option (ClassId × ℕ)
owner_in count c [] n = None
owner_in count c (x ∷ xs) n = if nat_lt n (count x) then Some (c, n) else owner_in count (record { 0 = c.0 + 1 }) xs (n - count x)

-- the class of the field with a number, and its place there
abbrev pub field_owner : State → FieldId → Option (ClassId × ℕ)
field_owner s f = owner_in (λ (x : Loaded). length x.declared.fields) (record { 0 = 1 }) s.classes f.0

-- and so for a method
abbrev pub method_owner : State → MethodId → Option (ClassId × ℕ)
method_owner s m = owner_in (λ (x : Loaded). length x.declared.methods) (record { 0 = 1 }) s.classes m.0
