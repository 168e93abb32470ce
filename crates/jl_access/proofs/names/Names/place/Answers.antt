use Rattle.std.proofs.Common.{subst, map}
use Rattle.jl_logic.specs.Lists.{IsFront}
use Rattle.jl_access.proofs.Numbers.{taken_in, taken_behind}
use Rattle.jl_access.proofs.names.Names.place.Goals as goal

pub returns-clause-placed : goal.returns-clause-placed
returns-clause-placed c =
    taken_in (λ v. v.items) c.insert_full.new.self.keys c.in-Ok.number c.args.text c.in-Ok.ensures.stored

pub returns-clause-front : goal.returns-clause-front
returns-clause-front c =
    subst (λ n. IsFront n.texts (map (λ v. v.items) c.insert_full.new.self.keys)) c.self.view_is (taken_behind (λ v. v.items) c.self.inside.texts.keys c.insert_full.new.self.keys c.args.text c.in-Ok.ensures.keys)
