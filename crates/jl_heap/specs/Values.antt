-- Values, their kinds, and what a slot begins with (JVMS 2.2 to 2.4).
use Rattle.std.specs.Prelude.{pos, None}
use Rattle.jl_heap.specs.declared.value.Kind.{Kind}
use Rattle.jl_heap.specs.declared.value.Kind.TheVariants as kinds
use Rattle.jl_heap.specs.declared.value.Value.{Value}
use Rattle.jl_heap.specs.declared.value.Value.TheVariants as values

-- the kind of a value
abbrev pub kind_of : Value → Kind
kind_of (values.Int n) = kinds.Int
kind_of (values.Long n) = kinds.Long
kind_of (values.Ref o) = kinds.Ref
kind_of values.Top = kinds.Top

-- the value with which a slot of a kind begins: zero, null, or nothing
abbrev pub first_value : Kind → Value
first_value kinds.Int = values.Int (pos 0)
first_value kinds.Long = values.Long (pos 0)
first_value kinds.Ref = values.Ref None
first_value kinds.Top = values.Top
