use Rattle.std.proofs.Common.{◌∙◌, sym, ap, nat_eq}
use Rattle.std.specs.List.{starts_with}
use Rattle.std.proofs.lemmas.List.{take_rest}
use Rattle.jl_natives.proofs.Searching.{stands_later}
use Rattle.jl_natives.proofs.units.place_of.Goals as goal

pub loop-place-preserved : goal.loop-place-preserved
loop-place-preserved c =
    let not_there = ap (λ rest. starts_with nat_eq rest c.args.part.now) (sym (take_rest c.args.text.now c.loop-place.place)) ∙ (sym c.starts_with.ensures.value ∙ c.if-starts_with.false) in
    stands_later c.args.text.now c.args.part.now c.loop-place.place c.loop-place-test.true not_there ∙ c.loop-place.invariant
