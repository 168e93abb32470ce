-- Which texts name a module.
use Rattle.std.specs.Prelude.{ℕ, List, [], ◌∷◌, Bool, not, ◌&&◌, length, ◌==◌, nat_lt}
use Rattle.std.specs.List.{list_all, list_any}

-- one of \ : @ / = , ;
abbrev pub is_reserved_in_names : ℕ → Bool
is_reserved_in_names b = list_any (λ c. c == b) (92 ∷ 58 ∷ 64 ∷ 47 ∷ 61 ∷ 44 ∷ 59 ∷ [])

-- past the blank, and not reserved
abbrev pub is_in_module_names : ℕ → Bool
is_in_module_names b = nat_lt 32 b && not (is_reserved_in_names b)

abbrev pub names_a_module : List ℕ → Bool
names_a_module text = not (length text == 0) && list_all is_in_module_names text
