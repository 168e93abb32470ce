use Rattle.std.proofs.Common.{◌∙◌, subst, sym}
use Rattle.std.specs.Prelude.{IfSome}
use Rattle.jl_loads.specs.Worlds.{IsClass}
use Rattle.jl_loads.proofs.Defined.{defined_there}
use Rattle.jl_loads.proofs.Modules.{whole_at}
use Rattle.jl_loads.proofs.loads.Loads.find_defined.Goals as goal

pub returns-clause-there : goal.returns-clause-there
returns-clause-there c =
    let whole = whole_at _ _ _ _ c.self.view_is c.self.invariant in
    subst (λ o. IfSome o (IsClass c.args.self.now)) (sym (c.copied.ensures ∙ c.get.ensures.value ∙ whole.names c.args.key.now)) (defined_there c.args.self.now c.args.key.now.loader c.args.key.now.name)
