use Rattle.std.proofs.Common.{◌∙◌, ap, sym}
use Rattle.jl_loads.specs.Ranks.{with_above, with_more}
use Rattle.jl_loads.specs.Worlds.{each_once}
use Rattle.jl_loads.proofs.Once.{above_super}
use Rattle.jl_loads.proofs.loads.Loads.above_new.Goals as goal

pub returns-in_ok-add_all-in-Some : goal.returns-in_ok-add_all-in-Some
returns-in_ok-add_all-in-Some c =
    c.from_vec-in-Some.ensures
    ∙ above_super c.args.self.now c.args.class.now.interfaces c.in_ok-above.above.items c.add_all.new.list.items c.args.class.now.super c.in-Some.superclass
    (c.in_ok-above.ensures ∙ ap (λ is. each_once (with_above c.args.self.now is)) c.interfaces.ensures)
    (sym c.superclass.ensures ∙ c.in-Some.is)
    (c.in_ok-add_all-in-Some.ensures ∙ ap (with_more c.in_ok-above.above.items) c.above.ensures)
