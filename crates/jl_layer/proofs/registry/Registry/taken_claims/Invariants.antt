use Rattle.std.proofs.Common.{◌≡◌, take, flat_map}
use Rattle.jl_prim.specs.declared.declaration.ParentLoader.{ParentLoader}
use Rattle.jl_config.specs.Located.{configuration_of}
use Rattle.jl_layer.specs.declared.layer.Mode.{Mode}
use Rattle.jl_layer.specs.Claims.{taken_of}
use Rattle.jl_layer.proofs.registry.Registry.taken_claims.Given as goal

abbrev pub invariant-loop-read : goal.invariant-loop-read
invariant-loop-read l = (mode : Mode) (parent : ParentLoader) → l.claims.items ≡ flat_map (taken_of l.self (record { config = l.cf; parents = l.parents; mode = mode; parent_loader = parent })) (take l.read-index (configuration_of l.self.configurations l.cf).reads)
