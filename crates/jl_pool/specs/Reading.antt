-- Reading a pool from left to right, with the first fault that is met (JVMS 4.1, 4.4).
use Rattle.std.specs.Prelude.{ℕ, ◌+◌, ◌-◌, List, [], ◌∷◌, length, take, drop, slice_get, Option, None, Some, Result, Ok, Err, Bool, not, nat_lt, ◌==◌, position, if◌then◌else◌}
use Rattle.jl_reading.specs.Reading.{◌>>=◌, number_at, each_at}
use Rattle.jl_names.specs.declared.fault.TextFault.{TextFault}
use Rattle.jl_names.specs.Text.{units_read}
use Rattle.jl_pool.specs.declared.entry.Entry.{Entry}
use Rattle.jl_pool.specs.declared.entry.Entry.TheVariants as entries
use Rattle.jl_pool.specs.declared.fault.PoolFault.{PoolFault}
use Rattle.jl_pool.specs.declared.fault.PoolFault.TheVariants as faults
use Rattle.jl_pool.specs.Pool.{is_some_wide, refers_rightly}

-- what an error tells: the fault, or nothing for want of memory
abbrev pub told : PoolFault → Option PoolFault
told (faults.Short at) = Some (faults.Short at)
told (faults.Entry i) = Some (faults.Entry i)
told faults.NoMemory = None

-- a text that is no modified UTF-8 is a bad entry
abbrev pub units_or : ℕ → Result (List ℕ) TextFault → Result (List ℕ) PoolFault
units_or index (Ok units) = Ok units
units_or index (Err f) = Err (faults.Entry index)

-- two bytes of length, and that many bytes of modified UTF-8
unfoldable pub text_at : List ℕ → ℕ → ℕ → Result (Entry × ℕ) PoolFault
text_at bytes index at = do
  len ← number_at faults.Short 2 bytes at
  if nat_lt (length bytes) (len.1 + len.0) then Err (faults.Short len.1) else (do
    units ← units_or index (units_read (take len.0 (drop len.1 bytes)))
    Ok (entries.Utf8 units, len.1 + len.0))

-- a number of so many bytes
unfoldable pub bits_at : (ℕ → Entry) → ℕ → List ℕ → ℕ → Result (Entry × ℕ) PoolFault
bits_at made k bytes at = do
  n ← number_at faults.Short k bytes at
  Ok (made n.0, n.1)

-- two numbers of two bytes
unfoldable pub indices_at : List ℕ → ℕ → Result ((ℕ × ℕ) × ℕ) PoolFault
indices_at bytes at = do
  one ← number_at faults.Short 2 bytes at
  other ← number_at faults.Short 2 bytes one.1
  Ok ((one.0, other.0), other.1)

unfoldable pub pair_at : (ℕ → ℕ → Entry) → List ℕ → ℕ → Result (Entry × ℕ) PoolFault
pair_at made bytes at = do
  two ← indices_at bytes at
  Ok (made two.0.0 two.0.1, two.1)

unfoldable pub handle_at : List ℕ → ℕ → Result (Entry × ℕ) PoolFault
handle_at bytes at = do
  kind ← number_at faults.Short 1 bytes at
  member ← number_at faults.Short 2 bytes kind.1
  Ok (entries.MethodHandle kind.0 member.0, member.1)

-- eight bytes, but at the last index there is no room for the second index
unfoldable pub eight_at : ℕ → ℕ → List ℕ → ℕ → Result (ℕ × ℕ) PoolFault
eight_at count index bytes at = if index + 1 == count then Err (faults.Entry index) else number_at faults.Short 8 bytes at

unfoldable pub wide_at : (ℕ → Entry) → ℕ → ℕ → List ℕ → ℕ → Result (Entry × ℕ) PoolFault
wide_at made count index bytes at = do
  n ← eight_at count index bytes at
  Ok (made n.0, n.1)

-- the content behind a tag
unfoldable pub content_at : ℕ → ℕ → ℕ → List ℕ → ℕ → Result (Entry × ℕ) PoolFault
content_at tag count index bytes at =
    if tag == 1 then text_at bytes index at
    else if tag == 3 then bits_at entries.Integer 4 bytes at
    else if tag == 4 then bits_at entries.Float 4 bytes at
    else if tag == 5 then wide_at entries.Long count index bytes at
    else if tag == 6 then wide_at entries.Double count index bytes at
    else if tag == 7 then bits_at entries.Class 2 bytes at
    else if tag == 8 then bits_at entries.String 2 bytes at
    else if tag == 9 then pair_at entries.Field bytes at
    else if tag == 10 then pair_at entries.Method bytes at
    else if tag == 11 then pair_at entries.InterfaceMethod bytes at
    else if tag == 12 then pair_at entries.NameAndType bytes at
    else if tag == 15 then handle_at bytes at
    else if tag == 16 then bits_at entries.MethodType 2 bytes at
    else if tag == 17 then pair_at entries.Dynamic bytes at
    else if tag == 18 then pair_at entries.InvokeDynamic bytes at
    else if tag == 19 then bits_at entries.Module 2 bytes at
    else if tag == 20 then bits_at entries.Package 2 bytes at
    else Err (faults.Entry index)

-- the last of them is a Long or a Double
abbrev pub ends_wide : List Entry → Bool
ends_wide es = is_some_wide (slice_get es (length es - 1))

-- The next entry, which has the index of how many stand before it. The index behind a Long or a Double is unused.
unfoldable pub entry_at : ℕ → List ℕ → List Entry → ℕ → Result (Entry × ℕ) PoolFault
entry_at count bytes done at = if ends_wide done then Ok (entries.Unused, at) else (do
  tag ← number_at faults.Short 1 bytes at
  content_at tag.0 count (length done) bytes tag.1)

-- the least index of an entry that refers wrongly is a fault
abbrev pub refers_or : Option ℕ → List Entry × ℕ → Result (List Entry × ℕ) PoolFault
refers_or None read = Ok read
refers_or (Some index) read = Err (faults.Entry index)

-- A count, the entries with indices 1 to count - 1, and then their references. A count of 0 says what 1 says: no entries.
unfoldable pub pool_at : List ℕ → ℕ → Result (List Entry × ℕ) PoolFault
pool_at bytes at = do
  count ← number_at faults.Short 2 bytes at
  read ← each_at (entry_at count.0 bytes) (entries.Unused ∷ []) (count.0 - 1) count.1
  refers_or (position (λ e. not (refers_rightly read.0 e)) read.0) read
