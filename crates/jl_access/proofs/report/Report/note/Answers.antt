use Rattle.std.proofs.Common.{◌≡◌, ◌∙◌, ap, sym, map}
use Rattle.indexmap.specs.IndexMap.{insert_entry}
use Rattle.jl_access.specs.contracts.report.KeyPartialEq.TheImpl as keys
use Rattle.jl_access.specs.Counting.{after_note}
use Rattle.jl_access.specs.Reports.{noted}
use Rattle.jl_access.proofs.Noting.{noted_entries, lines_with, line_in}
use Rattle.jl_access.proofs.report.Report.note.Goals as goal

one_more_note : (c : goal.In_ok-insert) → map line_in c.insert.new.self.entries ≡ noted c.args.key c.args.step c.args.self.now
one_more_note c =
    let entries = c.self.inside.lines.entries in
    ap (map line_in) c.in_ok-insert.ensures.entries
    ∙ ap (λ v. map line_in (insert_entry keys.eq-value.it entries c.args.key v)) (c.after_note-line.ensures ∙ ap (after_note c.args.step) c.get.ensures.value)
    ∙ noted_entries c.args.key c.args.step entries
    ∙ ap (noted c.args.key c.args.step) c.self.view_is

pub returns-clause-noted : goal.returns-clause-noted
returns-clause-noted c = one_more_note c

pub returns-clause-grouped : goal.returns-clause-grouped
returns-clause-grouped c notes e =
    one_more_note c
    ∙ ap (noted c.args.key c.args.step) e
    ∙ sym (lines_with notes (record { key = c.args.key; step = c.args.step }))
