-- How long the tables of a class are, and its nest (JVMS 4.1, 4.7.28).
use Rattle.std.specs.Prelude.{◌≡◌, ◌≢◌, ◌<◌, [], length, None}
use Rattle.jl_class.specs.Classes.{Class}

-- a class that lists members of a nest names no host of one
abbrev pub HasOneNest : Class → Type 0
HasOneNest c = c.nest_members ≢ [] → c.nest_host ≡ None

-- Each table has fewer entries than two bytes count, and there is one nest.
pub record AreTables (c : Class) : Type 0 where
  pub fields : length c.fields < 65536
  pub methods : length c.methods < 65536
  pub pool : length c.pool < 65536
  pub nest : HasOneNest c
