-- What names an index of a kind has.
use Rattle.std.specs.Prelude.{ℕ, List, Option}
use Rattle.jl_pool.specs.declared.entry.Entry.{Entry}
use Rattle.jl_tables.specs.declared.kind.Kind.{Kind}
use Rattle.jl_tables.specs.declared.kind.Kind.TheVariants as kinds
use Rattle.jl_tables.specs.Meaning.{module_named, package_named, opened_named}
use Rattle.jl_pool.specs.Pool.{class_named}

abbrev pub naming : Kind → List Entry → ℕ → Option (List ℕ)
naming kinds.Module = module_named
naming kinds.Package = package_named
naming kinds.Class = class_named
naming (kinds.Opened is_open) = opened_named is_open
