use Rattle.std.proofs.Common.{sym, ◌∙◌}
use Rattle.jl_names.proofs.NameLaws.{class_more, class_stops, class_done, class_first}
use Rattle.jl_names.proofs.name.is_class_name.Goals as goal

pub loop-rest-init : goal.loop-rest-init
loop-rest-init c = class_first c.args.text.now

pub loop-rest-preserved : goal.loop-rest-preserved
loop-rest-preserved c = class_more c.loop-rest.is_begun c.loop-rest.rest.now _ c.in-len1-up.len_at_least (sym c.stops_a_class.ensures ∙ c.if-stops_a_class.false) c.loop-rest.invariant

pub returns-then-stops_a_class : goal.returns-then-stops_a_class
returns-then-stops_a_class c = sym (class_stops c.loop-rest.is_begun c.loop-rest.rest.now c.in-len1-up.len_at_least (sym c.stops_a_class.ensures ∙ c.if-stops_a_class.true)) ∙ c.loop-rest.invariant

pub returns : goal.returns
returns c = sym (class_done c.loop-rest.is_begun c.loop-rest.rest.now c.in_default.len_below) ∙ c.loop-rest.invariant
