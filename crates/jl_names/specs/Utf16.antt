-- The UTF-16 units of a text (JLS 3.1).
use Rattle.std.specs.Prelude.{ℕ, List, chars}
use Rattle.std.specs.List.{flat_map}
use Rattle.std.specs.Char.Escape.{encode_utf16}

-- each character as its unit, or past U+FFFF as its pair of surrogates
abbrev pub utf16 : List ℕ → List ℕ
utf16 text = flat_map encode_utf16 (chars text)
