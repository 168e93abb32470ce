-- Magic and version (JVMS 4.1).
use Rattle.std.specs.Prelude.{ℕ, List, ◌++◌, Result, Ok, Err, Bool, not, ◌&&◌, ◌||◌, ◌==◌, nat_le, nat_lt, if◌then◌else◌}
use Rattle.jl_reading.specs.Reading.{◌>>=◌, number_at, two, four}

-- The major versions that are read. From 56 on the minor version is 0.
abbrev pub is_version : ℕ → ℕ → Bool
is_version major minor = nat_le 53 major && (nat_le major 61 && (nat_lt major 56 || (minor == 0)))

-- magic and version, as major and minor
unfoldable pub front_at : {F : Type 0} → (ℕ → F) → F → (ℕ → ℕ → F) → List ℕ → ℕ → Result ((ℕ × ℕ) × ℕ) F
front_at short magic version bytes at = do
  head ← number_at short 4 bytes at
  if not (head.0 == 0xCAFEBABE) then Err magic else (do
    minor ← number_at short 2 bytes head.1
    major ← number_at short 2 bytes minor.1
    if is_version major.0 minor.0 then Ok ((major.0, minor.0), major.1) else Err (version major.0 minor.0))

-- their bytes
abbrev pub front_bytes : ℕ → ℕ → List ℕ
front_bytes major minor = four 0xCAFEBABE ++ (two minor ++ two major)
