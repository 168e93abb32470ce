use Rattle.std.proofs.Common.{◌≡◌, ℕ, List}
use Rattle.indexmap.specs.IndexMap.{get}
use Rattle.jl_logic.specs.Order.{is_text}
use Rattle.jl_pool.specs.Pool.{class_named}
use Rattle.jl_classw.specs.Writing.{first_of}
use Rattle.jl_classw.proofs.places.class_places.Given as goal

abbrev pub invariant-loop-index : goal.invariant-loop-index
invariant-loop-index l = (name : List ℕ) → get is_text l.places name ≡ first_of (class_named l.pool) name l.index
