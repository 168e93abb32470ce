-- Worked rows of the definitions.
use Rattle.std.proofs.Common.{◌≡◌, [], ◌∷◌, Ok, Err, true, false, refl}
use Rattle.jl_reading.specs.Reading.{each_at}
use Rattle.jl_names.specs.Text.{unit_at, units_from, units_read}
use Rattle.jl_pool.specs.declared.entry.Entry.TheVariants as entries
use Rattle.jl_pool.specs.declared.fault.PoolFault.TheVariants as faults
use Rattle.jl_pool.specs.Pool.{refers_rightly}
use Rattle.jl_pool.specs.Reading.{text_at, bits_at, indices_at, pair_at, eight_at, wide_at, content_at, entry_at, pool_at}
use Rattle.jl_pool.specs.Spelling.{entry_bytes}

no_entries : pool_at (0 ∷ 0 ∷ []) 0 ≡ Ok (entries.Unused ∷ [], 2)
unfolding pool_at each_at
no_entries = refl

a_class : pool_at (0 ∷ 3 ∷ 1 ∷ 0 ∷ 1 ∷ 97 ∷ 7 ∷ 0 ∷ 1 ∷ []) 0 ≡ Ok (entries.Unused ∷ entries.Utf8 (97 ∷ []) ∷ entries.Class 1 ∷ [], 9)
unfolding pool_at each_at entry_at content_at text_at bits_at units_read units_from unit_at
a_class = refl

a_long : pool_at (0 ∷ 3 ∷ 5 ∷ 0 ∷ 0 ∷ 0 ∷ 0 ∷ 0 ∷ 0 ∷ 1 ∷ 2 ∷ []) 0 ≡ Ok (entries.Unused ∷ entries.Long 258 ∷ entries.Unused ∷ [], 11)
unfolding pool_at each_at entry_at content_at wide_at eight_at
a_long = refl

a_last_long : pool_at (0 ∷ 2 ∷ 5 ∷ []) 0 ≡ Err (faults.Entry 1)
unfolding pool_at each_at entry_at content_at wide_at eight_at
a_last_long = refl

a_wrong_class : pool_at (0 ∷ 2 ∷ 7 ∷ 0 ∷ 0 ∷ []) 0 ≡ Err (faults.Entry 1)
unfolding pool_at each_at entry_at content_at bits_at
a_wrong_class = refl

a_short_pair : pool_at (0 ∷ 2 ∷ 12 ∷ 0 ∷ 1 ∷ 0 ∷ []) 0 ≡ Err (faults.Short 5)
unfolding pool_at each_at entry_at content_at pair_at indices_at
a_short_pair = refl

a_spelling : entry_bytes (entries.NameAndType 1 258) ≡ 12 ∷ 0 ∷ 1 ∷ 1 ∷ 2 ∷ []
a_spelling = refl

-- ---- what entries refer to

right_class : refers_rightly (entries.Unused ∷ entries.Utf8 (97 ∷ []) ∷ []) (entries.Class 1) ≡ true
right_class = refl

class_of_nothing : refers_rightly (entries.Unused ∷ entries.Utf8 (97 ∷ []) ∷ []) (entries.Class 2) ≡ false
class_of_nothing = refl

field_of_a_text : refers_rightly (entries.Unused ∷ entries.Utf8 (97 ∷ []) ∷ entries.NameAndType 1 1 ∷ []) (entries.Field 1 2) ≡ false
field_of_a_text = refl
