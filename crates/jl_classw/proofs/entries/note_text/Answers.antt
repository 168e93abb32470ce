use Rattle.std.proofs.Common.{◌∙◌, sym, ap, List, ℕ, ◌++◌, [], ◌∷◌}
use Rattle.jl_classw.proofs.KeyLaws.{text_added, text_placed}
use Rattle.jl_classw.proofs.entries.note_text.Goals as goal

pub returns-clause-ok : goal.returns-clause-ok
returns-clause-ok c =
    let text = c.as_slice-units.ensures ∙ c.units.ensures in
    let copy = c.in_ok-extend_from_slice.ensures.items ∙ ap (λ (l : List ℕ). l ++ c.as_slice-units.result.now) c.new-copy.ensures.items in
    let added = text_added c.args.texts.now c.insert.new.self c.extend_from_slice.new.self c.as_slice-units.result.now c.args.index copy (sym c.contains_key.ensures ∙ c.if-contains_key.false) c.in_ok-insert.ensures.entries in
    text_placed c.args.texts.now c.insert.new.self c.extend_from_slice.new.self c.args.text.now c.args.index (copy ∙ text) added

pub returns-clause-front : goal.returns-clause-front
returns-clause-front c =
    let copy = c.in_ok-extend_from_slice.ensures.items ∙ ap (λ (l : List ℕ). l ++ c.as_slice-units.result.now) c.new-copy.ensures.items in
    let added = text_added c.args.texts.now c.insert.new.self c.extend_from_slice.new.self c.as_slice-units.result.now c.args.index copy (sym c.contains_key.ensures ∙ c.if-contains_key.false) c.in_ok-insert.ensures.entries in
    ((c.extend_from_slice.new.self, c.args.index) ∷ [], added)
