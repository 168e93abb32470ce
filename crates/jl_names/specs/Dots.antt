-- Names in internal form, with slashes, and as they are printed and typed, with dots (JVMS 4.2.1).
use Rattle.std.specs.Prelude.{ℕ, List, map, ◌==◌, if◌then◌else◌}

-- b in place of a
abbrev pub swapped : ℕ → ℕ → ℕ → ℕ
swapped a b c = if c == a then b else c

-- with a dot for each slash
abbrev pub dotted : List ℕ → List ℕ
dotted name = map (swapped 47 46) name

-- with a slash for each dot
abbrev pub slashed : List ℕ → List ℕ
slashed text = map (swapped 46 47) text
