-- The values of options and the operands (as those of the command `java`): what their texts mean.
use Rattle.std.specs.Prelude.{◌≡◌, ℕ, ◌+◌, ◌-◌, ◌*◌, ◌<◌, ◌^◌, nat_le, nat_lt, List, [], ◌∷◌, ◌++◌, length, filter, Option, None, Some, Bool, not, ◌&&◌, ◌==◌, IsTrue, if◌then◌else◌}
use Rattle.std.specs.List.{list_all, list_any}
use Rattle.jl_prim.specs.Names.{names_a_module}
use Rattle.jl_names.specs.Names.{is_slash, is_empty, with_first, names_a_class}
use Rattle.jl_names.specs.Dots.{slashed}
use Rattle.jl_words.specs.declared.command.Added.{Added}
use Rattle.jl_words.specs.declared.command.Added.TheVariants.{Reads, Exports, Opens}
use Rattle.jl_words.specs.declared.setting.Setting.{Setting}
use Rattle.jl_words.specs.declared.setting.Setting.TheVariants as settings

-- what stands between the separators of a text, one more than there are separators
unfoldable pub split : ℕ → List ℕ → List (List ℕ)
split separator [] = [] ∷ []
split separator (b ∷ bs) = if b == separator then [] ∷ split separator bs else with_first b (split separator bs)

-- the elements of a module path, between colons; empty ones count for nothing
abbrev pub path_parts : List ℕ → List (List ℕ)
path_parts value = filter (λ p. not (is_empty p)) (split 58 value)

-- names between commas
abbrev pub listed : List ℕ → List (List ℕ)
listed value = split 44 value

-- ---- names with dots

-- a package as it is typed
abbrev pub is_typed_package : List ℕ → Bool
is_typed_package text = not (list_any is_slash text) && names_a_class (slashed text)

-- a class as it is typed, in a package
abbrev pub is_typed_class : List ℕ → Bool
is_typed_class text = is_typed_package text && list_any (λ b. b == 46) text

-- ---- numbers

abbrev pub is_digit : ℕ → Bool
is_digit b = nat_le 48 b && nat_le b 57

-- the number that digits spell, behind what was read
abbrev pub spelled : ℕ → List ℕ → ℕ
spelled n [] = n
spelled n (b ∷ bs) = spelled (n * 10 + (b - 48)) bs

-- one to twenty digits
abbrev pub are_digits : List ℕ → Bool
are_digits text = not (is_empty text) && (nat_le (length text) 20 && list_all is_digit text)

-- a text that is a number of at most 64 bits
pub record IsNumber (text : List ℕ) (n : ℕ) : Type 0 where
  pub digits : IsTrue (are_digits text)
  pub value : n ≡ spelled 0 text
  pub fits : n < 2 ^ 64

abbrev pub number_of : List ℕ → Option ℕ
number_of text = if are_digits text && nat_lt (spelled 0 text) (2 ^ 64) then Some (spelled 0 text) else None

-- ---- added facts

-- module=module
pub record IsReads (value m n : List ℕ) : Type 0 where
  pub text : value ≡ m ++ 61 ∷ n
  pub names : IsTrue (names_a_module m && names_a_module n)

-- module/package=module, where the package has dots
pub record IsGranted (value m p n : List ℕ) : Type 0 where
  pub typed : List ℕ
  pub text : value ≡ m ++ 47 ∷ (typed ++ 61 ∷ n)
  pub internal : p ≡ slashed typed
  pub names : IsTrue (names_a_module m && (is_typed_package typed && names_a_module n))

-- what the value of an option adds
abbrev pub IsAdded : Setting → List ℕ → Added → Type 0
IsAdded settings.AddReads value (Reads m n) = IsReads value m n
IsAdded settings.AddExports value (Exports m p n) = IsGranted value m p n
IsAdded settings.AddOpens value (Opens m p n) = IsGranted value m p n
IsAdded _ value added = ⊥

-- ---- the target of a run

-- module, or module/class, where the class has dots
abbrev pub IsTarget : List ℕ → List ℕ → Option (List ℕ) → Type 0
IsTarget word m None = (word ≡ m) × IsTrue (names_a_module m)
IsTarget word m (Some c) = (typed : List ℕ) × (word ≡ m ++ 47 ∷ typed) × (c ≡ slashed typed) × IsTrue (names_a_module m && is_typed_class typed)
