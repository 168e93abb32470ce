-- The statics of classes, and which classes may be used by whom (JVMS 5.5, 2.5.4).
use Rattle.std.specs.Prelude.{ℕ, List, [], ◌∷◌, ◌++◌, map, Option, None, Some, Bool, true, false, ◌==◌, if◌then◌else◌, slice_get, slice_set}
use Rattle.std.specs.Option.{option_and_then}
use Rattle.jl_prim.specs.declared.numbers.ClassId.{ClassId}
use Rattle.jl_heap.specs.declared.value.Kind.{Kind}
use Rattle.jl_heap.specs.declared.value.Value.{Value}
use Rattle.jl_heap.specs.declared.statics.StaticEntry.{StaticEntry}
use Rattle.jl_heap.specs.declared.statics.Usable.{Usable}
use Rattle.jl_heap.specs.declared.statics.Usable.TheVariants as usables
use Rattle.jl_heap.specs.Values.{first_value}

-- what is entered of a class, among the classes in the order in which they were entered
abbrev pub entry_of : List (ClassId × StaticEntry) → ClassId → Option StaticEntry
entry_of [] c = None
entry_of (p ∷ ps) c = if p.0.0 == c.0 then Some p.1 else entry_of ps c

-- a class that was just entered: usable by none, with zero or null in each static field
abbrev pub new_entry : List Kind → StaticEntry
new_entry kinds = record { usable = usables.No; values = map first_value kinds }

-- a class is entered behind the others
abbrev pub with_class : ClassId → List Kind → List (ClassId × StaticEntry) → List (ClassId × StaticEntry)
with_class c kinds s = s ++ (c, new_entry kinds) ∷ []

-- the entry of a class is changed
abbrev pub with_changed_class : ClassId → (StaticEntry → StaticEntry) → List (ClassId × StaticEntry) → List (ClassId × StaticEntry)
with_changed_class c change [] = []
with_changed_class c change (p ∷ ps) = if p.0.0 == c.0 then (p.0, change p.1) ∷ ps else p ∷ with_changed_class c change ps

-- others may use the class
abbrev pub with_usable : Usable → StaticEntry → StaticEntry
with_usable to e = record e { usable = to }

-- a static field has another value
abbrev pub with_static : ℕ → Value → StaticEntry → StaticEntry
with_static at v e = record e { values = slice_set e.values at v }

-- a task may use a class: all may, or this one alone
abbrev pub allows : Usable → ℕ → Bool
allows usables.No task = false
allows (usables.By t) task = t == task
allows usables.All task = true

-- a task may use a class, which has to be entered
abbrev pub is_usable : Option StaticEntry → ℕ → Bool
is_usable None task = false
is_usable (Some e) task = allows e.usable task

-- the static of a class at a place
abbrev pub static_at : List (ClassId × StaticEntry) → ClassId → ℕ → Option Value
static_at s c at = option_and_then (λ (e : StaticEntry). slice_get e.values at) (entry_of s c)
