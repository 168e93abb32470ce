use Rattle.std.proofs.Common.{◌≡◌, ◌<◌, ℕ, Some, None, true, slice_get}
use Rattle.jl_loaders.specs.Loaders.{lead}
use Rattle.jl_loaders.specs.Joins.{loader_at}
use Rattle.jl_loaders.proofs.loaders.Loaders.marked_lead.Given as goal

abbrev pub invariant-loop-at : goal.invariant-loop-at
invariant-loop-at l = (p : ℕ) → p < l.at → slice_get l.marks p ≡ Some true → lead l.self (loader_at p) l.name ≡ None
