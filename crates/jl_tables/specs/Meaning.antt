-- What indices and flags mean by the pool (JVMS 4.7.25).
use Rattle.std.specs.Prelude.{ℕ, List, [], ◌∷◌, Option, None, Some, Bool, ◌==◌, bit_and, if◌then◌else◌}
use Rattle.std.specs.List.{list_any}
use Rattle.std.specs.Option.{option_and_then}
use Rattle.jl_logic.specs.Order.{is_text}
use Rattle.jl_prim.specs.Names.{names_a_module}
use Rattle.jl_names.specs.Names.{names_a_class}
use Rattle.jl_pool.specs.declared.entry.Entry.{Entry}
use Rattle.jl_pool.specs.Pool.{text_that, text_of, module_of, package_of}

-- the name that a Module index has
abbrev pub module_named : List Entry → ℕ → Option (List ℕ)
module_named pool i = option_and_then (text_that names_a_module pool) (module_of pool i)

-- the name that a Package index has, which is of the form of a class name
abbrev pub package_named : List Entry → ℕ → Option (List ℕ)
package_named pool i = option_and_then (text_that names_a_class pool) (package_of pool i)

-- The version that an index has: none for 0, else the text.
abbrev pub version_named : List Entry → ℕ → Option (Option (List ℕ))
version_named pool i = if i == 0 then Some None else option_and_then (λ text. Some (Some text)) (text_of pool i)

-- no package may be opened by a module that is open
abbrev pub opened_named : Bool → List Entry → ℕ → Option (List ℕ)
opened_named is_open pool i = if is_open then None else package_named pool i

-- all bits of the flag are set
abbrev pub is_set : ℕ → ℕ → Bool
is_set flags flag = bit_and flags flag == flag

-- the name is one of these
abbrev pub is_among : List ℕ → List (List ℕ) → Bool
is_among name names = list_any (λ n. is_text n name) names

-- no list of targets is to all
abbrev pub targets_of : List (List ℕ) → Option (List (List ℕ))
targets_of [] = None
targets_of (t ∷ ts) = Some (t ∷ ts)
