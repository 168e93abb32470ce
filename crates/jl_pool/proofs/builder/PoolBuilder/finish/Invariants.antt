use Rattle.std.proofs.Common.{◌≡◌, ◌∷◌, map, take}
use Rattle.jl_pool.specs.declared.entry.Entry.TheVariants.{Unused}
use Rattle.jl_pool.specs.Builder.{entry_of}
use Rattle.jl_pool.proofs.builder.PoolBuilder.finish.Given as goal

abbrev pub invariant-loop-constant : goal.invariant-loop-constant
invariant-loop-constant l = l.entries.items ≡ Unused ∷ map (entry_of l.self) (take l.constant-index l.constant-items)
