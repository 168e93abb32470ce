use Rattle.jl_link.proofs.Owned.{method_owned_by}
use Rattle.jl_link.proofs.world.World.method_owner.Goals as goal

pub returns-clause-found : goal.returns-clause-found
returns-clause-found c = rw (← c.self.view_is) (method_owned_by c.self.inside.loads _ c.method_owner.result c.method_owner.ensures)
