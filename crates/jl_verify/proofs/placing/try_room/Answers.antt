use Rattle.std.proofs.Common.{◌∙◌, not, ◌&&◌, sym, ap}
use Rattle.std.proofs.lemmas.Result.{err_from_is_err_and}
use Rattle.jl_vtypes.specs.Asking.{Done}
use Rattle.jl_verify.specs.declared.rule.CheckRule.TheVariants as rules
use Rattle.jl_verify.specs.Declaring.{is_init}
use Rattle.jl_verify.specs.Families.{is_return}
use Rattle.jl_verify.specs.Rules.{ways, room, rule, has_room, names_within}
use Rattle.jl_verify.specs.Rows.{after}
use Rattle.jl_verify.specs.Tried.{failed_of}
use Rattle.jl_verify.proofs.Placings.{said}
use Rattle.jl_verify.proofs.Comings.{no_memory}
use Rattle.jl_verify.proofs.placing.try_room.Goals as goal

pub returns-in_err-next-clause-tried : goal.returns-in_err-next-clause-tried
returns-in_err-next-clause-tried g c =
    let p = err_from_is_err_and c.from_residual.result c.from_residual.ensures.1 in
    rw (p.1, p.2) (no_memory g.H.Hierarchy.step (room c.args.c.now c.args.had_room c.args.f c.args.i.now c.args.is_last) c.args.h.now)

pub returns-clause-tried : goal.returns-clause-tried
returns-clause-tried g c =
    said g.H.Hierarchy.step rules.Init (not (is_return c.args.i.now.op && (is_init c.args.c.now.method && c.args.f.marked)))
    (rule rules.Overflow (Done ((c.args.had_room && has_room c.args.c.now c.args.f) && (has_room c.args.c.now (after c.args.c.now c.args.f c.args.i.now) && names_within c.args.c.now c.args.i.now))) (ways c.args.c.now (after c.args.c.now c.args.f c.args.i.now) c.args.i.now c.args.is_last))
    c.args.h.now (failed_of c.try_after.result) c.try_after.new.h (ap not (sym c.returns_early.ensures ∙ c.if-returns_early.false))
    (rw (c.has_more_room-had_room.ensures, c.in_ok-next.ensures) at c.try_after.ensures.tried)
