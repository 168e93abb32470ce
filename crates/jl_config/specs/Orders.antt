-- The orders of modules and of reads (`Configuration.resolve`).
use Rattle.std.specs.Ordering.{ordering_then}
use Rattle.std.specs.declared.cmp.Ordering.{Ordering}
use Rattle.jl_prim.specs.declared.declaration.Observed.{Observed}
use Rattle.jl_logic.specs.Order.{name_cmp}
use Rattle.jl_config.specs.declared.configuration.Read.{Read}
use Rattle.jl_config.specs.declared.candidate.Candidate.{Candidate}
use Rattle.jl_config.specs.Located.{name_of, candidate_name}

-- modules by their names
abbrev pub module_cmp : Observed → Observed → Ordering
module_cmp a b = name_cmp (name_of a) (name_of b)

-- modules in sight by their names
abbrev pub candidate_cmp : Candidate → Candidate → Ordering
candidate_cmp a b = name_cmp (candidate_name a) (candidate_name b)

-- reads by the reader, and then by what is read
abbrev pub read_cmp : Read → Read → Ordering
read_cmp r s = ordering_then (name_cmp r.reader s.reader) (name_cmp r.name s.name)
