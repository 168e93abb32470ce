use Rattle.std.proofs.Common.{rules, ◌∙◌, sym, length}
use Rattle.std.proofs.lemmas.Slice.Zip.{zip_end}
use Rattle.jl_natives.proofs.Searching.{no_difference}
use Rattle.jl_natives.proofs.Wrapping.{difference_is}
use Rattle.jl_natives.proofs.units.difference.Goals as goal

pub returns : goal.returns
returns c =
    let e = zip_end c.args.text.now c.args.other.now c.loop-x.yielded c.into_iter-x-iterator.result c.loop-x.x-iterator c.next.new.self _ (search rules) (search rules) c.loop-x.yielded_by c.in-None.is c.next.ensures.steps in
    rw (c.as_int.ensures, c.as_int-2.ensures) (difference_is (length c.args.text.now) (length c.args.other.now)
    ∙ (sym (no_difference c.args.text.now c.args.other.now _ (length c.loop-x.yielded) e) ∙ c.loop-x.invariant))
