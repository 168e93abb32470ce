use Rattle.std.proofs.Common.{◌≡◌, ◌-◌, ◌+◌, ◌∷◌, [], length}
use Rattle.jl_vtypes.specs.declared.item.Item.{Item}
use Rattle.jl_verify.specs.Rows.{stored}
use Rattle.jl_verify.proofs.moving.fill.Given as goal

abbrev pub invariant-loop-locals : goal.invariant-loop-locals
invariant-loop-locals l = (item : Item) → stored l.locals.items l.at (item ∷ []) ≡ stored l.initial.locals.items l.at (item ∷ [])

abbrev pub decreases-loop-locals : goal.decreases-loop-locals
decreases-loop-locals l = l.at + 1 - length l.locals.items
