-- What is kept of a path, as definitions see it. No public clause cites this.
use Rattle.jl_loads.specs.declared.kept.Given.{Given}
use Rattle.jl_loads.specs.declared.kept.Given.TheVariants as givens
use Rattle.jl_loads.specs.Worlds.{Content, Absent, TooLong, Declares, Broken, Lost}

-- what a path gave
abbrev pub content : Given → Content
content givens.Absent = Absent
content givens.TooLong = TooLong
content (givens.Declares c) = Declares c.value
content (givens.Broken f) = Broken f
content givens.Lost = Lost
