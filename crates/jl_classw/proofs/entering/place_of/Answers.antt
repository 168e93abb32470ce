use Rattle.std.proofs.Common.{ℕ, ◌+◌, ◌∙◌, Some, ap}
use Rattle.jl_classw.specs.Building.{is_same}
use Rattle.jl_classw.proofs.PositionLaws.{position_left, position_right, position_none}
use Rattle.jl_classw.proofs.entering.place_of.Goals as goal

pub returns-in-Some : goal.returns-in-Some
returns-in-Some c = position_left (is_same c.args.entry.now) c.args.pool.now c.args.added.now c.in-Some.index c.in-Some.ensures

pub returns-in-Some-first_same : goal.returns-in-Some-first_same
returns-in-Some-first_same c = ap (λ (n : ℕ). Some (n + c.in-Some-first_same.index)) c.len.ensures.len ∙ position_right (is_same c.args.entry.now) c.args.pool.now c.args.added.now c.in-Some-first_same.index c.in-None.ensures c.in-Some-first_same.ensures.place

pub returns-in-None-first_same : goal.returns-in-None-first_same
returns-in-None-first_same c = position_none (is_same c.args.entry.now) c.args.pool.now c.args.added.now c.in-None.ensures c.in-None-first_same.ensures.place
