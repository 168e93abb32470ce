use Rattle.std.proofs.Common.{rules}
use Rattle.std.proofs.lemmas.Fn.{dedup_same}
use Rattle.jl_loaders.specs.Maps.{is_package}
use Rattle.jl_loaders.proofs.map.first_of_each.Goals as goal

pub returns : goal.returns
returns c = dedup_same _ is_package _ (λ x y b f' x' y' k. search rules) _ _ c.dedup_by.ensures.filtered
