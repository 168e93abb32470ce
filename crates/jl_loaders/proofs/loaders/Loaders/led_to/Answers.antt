use Rattle.std.proofs.Common.{◌-◌, length, refl, subst, List, Bool}
use Rattle.jl_loaders.specs.Laws.{AreOfLoaders}
use Rattle.jl_loaders.specs.Joins.{IsMarkedLead}
use Rattle.jl_loaders.proofs.Groups.{rows_within, group_lead}
use Rattle.jl_loaders.proofs.loaders.Loaders.led_to.Goals as goal

pub closure-requires-clause-graph : goal.closure-requires-clause-graph
closure-requires-clause-graph c =
    let s = c.args.self.now in
    rows_within (length s.loaders) s.constraints c.args.name.now c.args.rows.now (subst AreOfLoaders c.self.view_is c.self.invariant.0.named) c.requires.rows

pub returns : goal.returns
returns c =
    let s = c.args.self.now in
    group_lead s c.args.name.now c.args.rows.now c.in_ok-marks.marks.items c.args.l (c.args.l.0 - 1) c.marked_lead.result
    (subst AreOfLoaders c.self.view_is c.self.invariant.0.named) c.requires.rows c.requires.loader.0 refl
    c.in_ok-marks.ensures.only c.in_ok-marks.ensures.all
    (subst (λ (marks : List Bool). IsMarkedLead s marks c.args.name.now c.marked_lead.result) c.as_slice.ensures.value c.marked_lead.ensures)
