use Rattle.std.proofs.Common.{◌≡◌, ◌+◌, ◌*◌, ◌≤◌}
use Rattle.std.specs.Prelude.{Contains}
use Rattle.jl_prim.specs.declared.numbers.ClassId.{ClassId}
use Rattle.jl_loads.specs.Ends.{Asks}
use Rattle.jl_loads.specs.Steps.{StayFree, loads_above}
use Rattle.jl_loads.specs.Worlds.{IsClass}
use Rattle.jl_loads.proofs.Interfaces.{IsSoFar}
use Rattle.jl_loads.proofs.loads.Loads.+load.Given as goal

abbrev pub decreases-load_by : goal.decreases-load_by
decreases-load_by g l = 6 * l.more + 1

abbrev pub decreases-load_in : goal.decreases-load_in
decreases-load_in g l = 6 * l.more

abbrev pub decreases-make : goal.decreases-make
decreases-make g l = 6 * l.fewer + 5

abbrev pub decreases-link : goal.decreases-link
decreases-link g l = 6 * l.fewer + 4

abbrev pub decreases-load_superclass : goal.decreases-load_superclass
decreases-load_superclass g l = 6 * l.fewer + 3

abbrev pub decreases-load_interfaces : goal.decreases-load_interfaces
decreases-load_interfaces g l = 6 * l.fewer + 3

abbrev pub decreases-load_supertype : goal.decreases-load_supertype
decreases-load_supertype g l = 6 * l.fewer + 2

abbrev pub invariant-load_interfaces-loop-name : goal.invariant-load_interfaces-loop-name
invariant-load_interfaces-loop-name g l =
    IsSoFar (g.T.Tree.files l.fn.tree) (λ files. loads_above l.fewer files l.at l.fn.waiting.items l.key) l.at l.new l.fn.self l.names l.name-index l.self l.found.items
    × (l.waiting.items ≡ l.fn.waiting.items) × (g.T.Tree.files l.tree ≡ g.T.Tree.files l.fn.tree) × (g.T.Tree.faults l.fn.tree ≤ g.T.Tree.faults l.tree)
    × Asks l.fn.self l.self (g.T.Tree.asked l.fn.tree) (g.T.Tree.asked l.tree) × ((d : ClassId) → Contains l.found.items d → IsClass l.self d) × StayFree l.fn.waiting.items l.fn.self l.self
