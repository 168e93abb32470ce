-- That what a resolution gives may be kept (`Configuration.resolve`, `ModuleLayer`).
use Rattle.std.specs.Prelude.{◌≤◌, [], length, Ok, All}
use Rattle.jl_logic.specs.Order.{RisesBy}
use Rattle.jl_prim.specs.declared.numbers.ConfigId.{ConfigId}
use Rattle.jl_prim.specs.declared.declaration.Observed.{Observed}
use Rattle.jl_config.specs.Configurations.{Configuration}
use Rattle.jl_config.specs.Located.{Asked}
use Rattle.jl_config.specs.Orders.{module_cmp}
use Rattle.jl_config.specs.Resolves.{Resolves}
use Rattle.jl_layer.specs.Keeping.{AreAmong, IsKeepable, AreKept}

-- the module exports and opens packages that it has
abbrev pub HasItsGrants : Observed → Type 0
HasItsGrants o = AreAmong o.declaration.packages o.declaration.exports × AreAmong o.declaration.packages o.declaration.opens

-- A question over configurations that are kept: those that are known may be kept one behind the other, with their modules in the order of their names, the parents are known, and what the finders observe exports and opens packages that it has.
pub record AsksOfKept (q : Asked) : Type 0 where
  pub known : AreKept [] q.known
  pub rise : All (λ (g : Configuration). RisesBy module_cmp g.modules) q.known
  pub parents : All (λ (p : ConfigId). p.0 ≤ length q.known) q.parents
  pub before : All HasItsGrants q.before
  pub after : All HasItsGrants q.after

-- What a resolution over kept configurations gives may be kept behind them.
abbrev pub ResolvedIsKeepable : Type 0
ResolvedIsKeepable = (q : Asked) (g : Configuration) → AsksOfKept q → Resolves q (Ok g) → IsKeepable q.known g
