use Rattle.std.proofs.Common.{◌≡◌}
use Rattle.jl_pool.specs.Pool.{text_of}
use Rattle.jl_classw.specs.Writing.{first_of}
use Rattle.jl_classw.proofs.places.attribute_place.Given as goal

abbrev pub invariant-loop-index : goal.invariant-loop-index
invariant-loop-index l = l.found ≡ first_of (text_of l.pool) l.name l.index
