use Rattle.std.proofs.Common.{◌-◌, ◌∙◌, arith, refl, rules}
use Rattle.jl_loads.proofs.Superclasses.{class_by}
use Rattle.jl_loads.proofs.loads.Loads.find.Goals as goal

pub returns : goal.returns
returns c = c.nth.ensures ∙ class_by c.args.self.now _ (c.args.c.0 - 1) c.args.c (search rules) (omega (arith, c.if-c-eq0.false)) refl
