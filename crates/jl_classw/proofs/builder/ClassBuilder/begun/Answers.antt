use Rattle.std.proofs.Common.{refl, ◌∙◌, arith}
use Rattle.std.proofs.lemmas.Result.{err_from_is_err_and}
use Rattle.jl_classw.proofs.BuiltLaws.{class_kept}
use Rattle.jl_classw.proofs.builder.ClassBuilder.begun.Goals as goal

pub invariant_of-result : goal.invariant_of-result
invariant_of-result c =
    let first = c.in_ok-first.first in
    class_kept first first first c.new.result.items c.in_ok-added.added.items c.in_ok-added-2.added.items c.in_ok-appended.field-0
    c.args.major c.args.flags c.in_ok-copy.field-0 c.args.this.now c.in_ok-copied.field-0 _ c.new-2.result.items c.new-3.result c.new-4.result c.from_vec.result c.in_ok-added.field-0-1 _
    c.requires.version (omega (arith, c.ranges.flags.fits)) c.requires.flags c.requires.name c.in_ok-added.ensures.utf8 c.requires.short c.requires.superclass c.in_ok-added-2.ensures.utf8 c.requires.extends
    c.in_ok-first.ensures.first refl refl c.new.ensures.items c.in_ok-added.ensures.exact c.in_ok-added-2.ensures.exact
    c.in_ok-copy.ensures c.in_ok-copied.ensures.same c.new-2.ensures.items c.new-3.ensures c.new-4.ensures (c.from_vec.ensures ∙ c.new-5.ensures.items) c.in_ok-appended.ensures.items

pub returns-in_err-appended : goal.returns-in_err-appended
returns-in_err-appended c =
    let p = err_from_is_err_and c.from_residual-in_err-appended.result c.from_residual-in_err-appended.ensures.1 in
    rw (p.1, p.2, c.in_err-appended.ensures.memory) tt
