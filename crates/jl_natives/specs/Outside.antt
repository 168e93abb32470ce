-- The natives over the real outside (the API text of java.lang.System).
use Rattle.std.specs.Prelude.{ℕ, List, [], ◌∷◌, Bool, ◌||◌, ◌==◌, Option, None, Some, if◌then◌else◌}
use Rattle.jl_logic.specs.Order.{is_text}
use Rattle.jl_natives.specs.declared.plain.Plain.{Plain}
use Rattle.jl_natives.specs.declared.plain.Plain.TheVariants.{Text, Null}

-- currentTimeMillis or nanoTime
abbrev pub is_clock : ℕ → Bool
is_clock row = (row == 30) || (row == 31)

-- the text of the first property with a name
abbrev pub text_named : List ℕ → List (List ℕ × List ℕ) → Option (List ℕ)
text_named name [] = None
text_named name (p ∷ ps) = if is_text p.0 name then Some p.1 else text_named name ps

abbrev pub text_or_null : Option (List ℕ) → Plain
text_or_null None = Null
text_or_null (Some text) = Text text

-- its text, and null where no property has the name
abbrev pub property : List ℕ → List (List ℕ × List ℕ) → Plain
property name properties = text_or_null (text_named name properties)
