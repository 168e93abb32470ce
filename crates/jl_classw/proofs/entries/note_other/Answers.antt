use Rattle.std.proofs.Common.{◌∙◌, sym, ap, Option, [], ◌∷◌}
use Rattle.indexmap.specs.IndexMap.{get}
use Rattle.jl_classw.specs.declared.entries.Key.{Key}
use Rattle.jl_classw.specs.Keys.{is_key, is_keyed}
use Rattle.jl_classw.specs.Writing.{or_here}
use Rattle.jl_classw.proofs.KeyLaws.{key_added, key_placed, fresh_key, inserted_key}
use Rattle.jl_classw.proofs.entries.note_other.Goals as goal

pub returns-clause-ok : goal.returns-clause-ok
returns-clause-ok c =
    let key = c.in-Some.key in
    let old = c.args.others.now in
    let fresh = fresh_key old key c.contains_key.result c.contains_key.ensures c.if-contains_key.false in
    let added = key_added old c.insert.new.self key c.args.index fresh (inserted_key old c.insert.new.self key c.args.index c.in_ok-insert.ensures.entries) in
    λ (k : Key). key_placed old c.insert.new.self key c.args.index added k ∙ ap (λ (o : Option Key). or_here (get is_key old k) (is_keyed k o) c.args.index) (sym c.in-Some.is)

pub returns-clause-front : goal.returns-clause-front
returns-clause-front c =
    let key = c.in-Some.key in
    let old = c.args.others.now in
    let fresh = fresh_key old key c.contains_key.result c.contains_key.ensures c.if-contains_key.false in
    ((key, c.args.index) ∷ [], key_added old c.insert.new.self key c.args.index fresh (inserted_key old c.insert.new.self key c.args.index c.in_ok-insert.ensures.entries))
