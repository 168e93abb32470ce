use Rattle.std.proofs.Common.{◌∙◌, sym, ap}
use Rattle.jl_modinfo.proofs.PartLaws.{all_before, before_nothing, last_before}
use Rattle.jl_modinfo.proofs.attribute.together.Goals as goal

pub loop-part-init : goal.loop-part-init
loop-part-init c = before_nothing c.args.read.items

pub loop-part-preserved : goal.loop-part-preserved
loop-part-preserved c =
    ap (all_before c.pop.new.self.items) c.before-behind.ensures
    ∙ (sym (last_before c.pop.new.self.items c.in-Some.part c.loop-part.behind)
    ∙ (sym (ap (λ parts. all_before parts c.loop-part.behind) c.in-Some.ensures.items) ∙ c.loop-part.invariant))
