-- The class of a declaration file, and the module that all others require (JVMS 4.1; JLS 7.7.1).
use Rattle.std.specs.Prelude.{ℕ, List, Option, None, Some, Bool, false, codes}
use Rattle.std.specs.Option.{option_and_then}
use Rattle.jl_logic.specs.Order.{is_text}
use Rattle.jl_pool.specs.declared.entry.Entry.{Entry}
use Rattle.jl_pool.specs.Pool.{text_of, class_of}

abbrev pub java_base : List ℕ
java_base = codes "java.base"

-- the text of the name of a Class index, whatever it is
abbrev pub class_text : List Entry → ℕ → Option (List ℕ)
class_text pool i = option_and_then (text_of pool) (class_of pool i)

-- the name of the class of a module declaration
abbrev pub is_module_info : Option (List ℕ) → Bool
is_module_info None = false
is_module_info (Some name) = is_text name (codes "module-info")
