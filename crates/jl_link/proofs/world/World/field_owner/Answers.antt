use Rattle.jl_link.proofs.Owned.{field_owned_by}
use Rattle.jl_link.proofs.world.World.field_owner.Goals as goal

pub returns-clause-found : goal.returns-clause-found
returns-clause-found c = rw (← c.self.view_is) (field_owned_by c.self.inside.loads _ c.field_owner.result c.field_owner.ensures)
