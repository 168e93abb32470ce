use Rattle.jl_loads.proofs.Packages.{package_is_text}
use Rattle.jl_loads.proofs.package.package_name.Goals as goal

pub unreachable-requires : goal.unreachable-requires
unreachable-requires c = c.in-Err.ensures.cases.0 (rw c.package_of.ensures (package_is_text c.as_bytes.result.now c.as_bytes.ensures.utf8))
