-- Units as characters of ASCII, whose digits are those of a number (the API text of java.lang.Integer).
use Rattle.std.specs.Prelude.{ℕ, nat_lt, if◌then◌else◌}

-- a question mark in place of what is no ASCII
abbrev pub in_ascii : ℕ → ℕ
in_ascii u = if nat_lt u 128 then u else 63
