use Rattle.std.proofs.Common.{◌≡◌}
use Rattle.jl_loaders.specs.Loaders.{ParentExists, lead}
use Rattle.jl_loaders.proofs.Leads.{fuel_of, lead_of}
use Rattle.jl_loaders.proofs.loaders.Loaders.lead.Given as goal

abbrev pub invariant-loop-parent : goal.invariant-loop-parent
invariant-loop-parent l = record {
  there : ParentExists l.self l.parent;
  same : lead_of l.self l.parent l.package ≡ lead l.self l.fn.l l.class_name;
}

abbrev pub decreases-loop-parent : goal.decreases-loop-parent
decreases-loop-parent l = fuel_of l.parent
