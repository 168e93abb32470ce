use Rattle.std.proofs.Common.{◌≡◌, ◌∙◌, ap, subst, sym, ◌+◌, take, length, ◌++◌, ◌∷◌, [], arith}
use Rattle.std.proofs.lemmas.List.{take_more, length-take-le}
use Rattle.jl_pool.specs.declared.entry.Entry.{Entry}
use Rattle.jl_classw.specs.Building.{is_same}
use Rattle.jl_classw.specs.Keys.{AreNoted, place_in}
use Rattle.jl_classw.specs.Writing.{or_here}
use Rattle.jl_classw.proofs.KeyLaws.{front_then, noted_push}
use Rattle.jl_classw.proofs.entries.note_each.Goals as goal

pub loop-index-preserved : goal.loop-index-preserved
loop-index-preserved c =
    let pool = c.args.pool.now in
    let i = c.loop-index.index in
    let x = c.index-pool-index.result in
    let old = c.loop-index.firsts in
    let new = c.note.new.self in
    let len : length (take i pool) ≡ i = length-take-le i pool (omega (arith, c.loop-index-test.true)) in
    let more : take i pool ++ x ∷ [] ≡ take (i + 1) pool = ap (λ (y : Entry). take i pool ++ y ∷ []) c.index-pool-index.is ∙ sym (take_more pool i x c.loop-index-test.true) in
    let step : (e : Entry) → place_in new.texts new.others e ≡ or_here (place_in old.texts old.others e) (is_same e x) (length (take i pool)) =
    λ e. c.in_ok-note.ensures.ok e ∙ ap (or_here (place_in old.texts old.others e) (is_same e x)) (sym len) in
    record {
      noted = subst (AreNoted new.texts new.others) more (noted_push old.texts new.texts old.others new.others (take i pool) x c.loop-index.invariant.noted step);
      texts = front_then c.args.firsts.now.texts.entries old.texts.entries new.texts.entries c.loop-index.invariant.texts c.note.ensures.texts;
      others = front_then c.args.firsts.now.others.entries old.others.entries new.others.entries c.loop-index.invariant.others c.note.ensures.others;
    }
