use Rattle.std.proofs.Common.{◌≡◌, ℕ, List}
use Rattle.indexmap.specs.IndexMap.{get}
use Rattle.jl_logic.specs.Order.{is_text}
use Rattle.jl_pool.specs.Pool.{paired_text}
use Rattle.jl_classw.specs.Writing.{first_of}
use Rattle.jl_classw.proofs.places.text_places.Given as goal

abbrev pub invariant-loop-index : goal.invariant-loop-index
invariant-loop-index l = (name : List ℕ) → get is_text l.places name ≡ first_of (paired_text l.pool) name l.index
