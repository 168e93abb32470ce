-- What a configuration is (`Configuration.resolve`).
use Rattle.std.specs.Prelude.{List}
use Rattle.jl_prim.specs.declared.numbers.ConfigId.{ConfigId}
use Rattle.jl_prim.specs.declared.declaration.Observed.{Observed}
use Rattle.jl_config.specs.declared.configuration.Read.{Read}

-- its number, the numbers of its parents, its modules in name order, and which of them reads which
pub record Configuration : Type 0 where
  pub id : ConfigId
  pub parents : List ConfigId
  pub modules : List Observed
  pub reads : List Read
