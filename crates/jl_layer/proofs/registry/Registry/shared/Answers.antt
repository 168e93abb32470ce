use Rattle.std.proofs.Common.{sym, subst}
use Rattle.jl_prim.specs.declared.declaration.ParentLoader.{ParentLoader}
use Rattle.jl_layer.specs.declared.layer.Mode.{Mode}
use Rattle.jl_layer.specs.Deciding.{Settles, StartsAt}
use Rattle.jl_layer.specs.Refusals.{Applies}
use Rattle.std.specs.Prelude.{IfOk}
use Rattle.jl_layer.proofs.registry.Registry.shared.Goals as goal

pub returns-in-One : goal.returns-in-One
returns-in-One c =
    subst (λ (mode : Mode). (parent : ParentLoader) → StartsAt (Applies c.args.self.now (record { config = c.args.cf; parents = c.args.parents.now; mode = mode; parent_loader = parent })) 3
    → IfOk c.shared_by_one.result (Settles (Applies c.args.self.now (record { config = c.args.cf; parents = c.args.parents.now; mode = mode; parent_loader = parent })) 5))
    (sym c.in-One.is) c.shared_by_one.ensures
