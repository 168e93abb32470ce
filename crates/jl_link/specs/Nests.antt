-- The host of a class's nest (JVMS 4.7.28, 4.7.29, 5.4.4).
use Rattle.std.specs.Prelude.{ℕ, List, Option, None, Some, Ok, Err, Bool, false, ◌&&◌, ⊤, if◌then◌else◌}
use Rattle.std.specs.List.{list_any}
use Rattle.jl_logic.specs.Order.{is_text}
use Rattle.jl_names.specs.Names.{package_of}
use Rattle.jl_prim.specs.declared.numbers.ClassId.{ClassId}
use Rattle.jl_tree.specs.Files.{File}
use Rattle.jl_class.specs.Classes.{Class}
use Rattle.jl_loads.specs.declared.end.LinkEnd.{LinkEnd}
use Rattle.jl_loads.specs.declared.end.LinkEnd.TheVariants as ends
use Rattle.jl_loads.specs.Worlds.{State, Loaded, class_at}
use Rattle.jl_loads.specs.Outcomes.{Outcome}
use Rattle.jl_loads.specs.Loading.{load}

-- the class is one of the members that the host lists
abbrev pub is_listed : Class → Class → Bool
is_listed host c = list_any (is_text c.name) host.nest_members

-- the host is of the package of the class, and lists it as a member
abbrev pub lists_it : Class → Class → Bool
lists_it host c = is_text (package_of host.name) (package_of c.name) && is_listed host c

abbrev pub lists : Option Loaded → Class → Bool
lists None c = false
lists (Some host) c = lists_it host.declared c

-- the class that was loaded as host, if it is one, or the class itself
abbrev pub listed_or_itself : Option Loaded → ClassId → ClassId → Class → ClassId
listed_or_itself host h c x = if lists host x then h else c

-- a class whose host does not load is its own
abbrev pub host_or_itself : ClassId → Loaded → Outcome ClassId → State × ClassId
host_or_itself c x (s, Ok h) = (s, listed_or_itself (class_at s h) h c x.declared)
host_or_itself c x (s, Err e) = (s, c)

-- The host of a class: that which it names, by its own loader, or the class itself. The host is loaded each time that it is asked for.
abbrev pub host_named : List File → ℕ → State → ClassId → Loaded → Option (List ℕ) → State × ClassId
host_named files at s c x None = (s, c)
host_named files at s c x (Some name) = host_or_itself c x (load files at s x.loader name)

-- the host of the class with a number
abbrev pub host_in : List File → ℕ → State → ClassId → Option Loaded → State × ClassId
host_in files at s c None = (s, c)
host_in files at s c (Some x) = host_named files at s c x x.declared.nest_host

abbrev pub host_of : List File → ℕ → State → ClassId → State × ClassId
host_of files at s c = host_in files at s c (class_at s c)

-- an end that throws nothing
abbrev pub IsSilent : LinkEnd → Type 0
IsSilent (ends.Throws kind message) = ⊥
IsSilent ends.ReadFault = ⊤
IsSilent ends.NoMemory = ⊤
