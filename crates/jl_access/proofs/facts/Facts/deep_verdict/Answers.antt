use Rattle.std.proofs.Common.{◌∙◌, Bool, true, false, if◌then◌else◌, sym, ap₂}
use Rattle.jl_access.specs.declared.verdict.Rule.TheVariants as rules
use Rattle.jl_access.specs.declared.verdict.Verdict.{Verdict}
use Rattle.jl_access.specs.declared.verdict.Verdict.TheVariants.{Granted, Denied}
use Rattle.jl_access.specs.Facts.{opened}
use Rattle.jl_access.proofs.Conditions.{asked}
use Rattle.jl_access.proofs.facts.Facts.deep_verdict.Goals as goal

abbrev deeper : Bool → Bool → Verdict
deeper may opened = if may then Granted else if opened then Denied rules.NotOpenTo else Denied rules.NotOpen

pub returns-then-open_somewhere : goal.returns-then-open_somewhere
returns-then-open_somewhere c =
    let f = c.args.self.now in
    let to = c.args.to.now in
    sym (ap₂ deeper (sym c.may_go_deep.ensures ∙ c.if-may_go_deep.false)
    (asked (opened f to.module) c.as_bytes.result.now to.package c.open_somewhere.result true c.open_somewhere.ensures c.as_bytes.ensures c.if-open_somewhere.true))

pub returns : goal.returns
returns c =
    let f = c.args.self.now in
    let to = c.args.to.now in
    sym (ap₂ deeper (sym c.may_go_deep.ensures ∙ c.if-may_go_deep.false)
    (asked (opened f to.module) c.as_bytes.result.now to.package c.open_somewhere.result false c.open_somewhere.ensures c.as_bytes.ensures c.if-open_somewhere.false))
