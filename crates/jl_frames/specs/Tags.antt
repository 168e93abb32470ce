-- The tags of frames (JVMS 4.7.4).
use Rattle.std.specs.Prelude.{ℕ, List, [], ◌∷◌, Option, option_map, find, Bool, nat_le, ◌&&◌}
use Rattle.jl_frames.specs.declared.form.Form.{Form}
use Rattle.jl_frames.specs.declared.form.Form.TheVariants as forms
use Rattle.jl_frames.specs.declared.form.TagRow.{TagRow}

-- the tags of a form, from the first to the last
abbrev row : ℕ → ℕ → Form → TagRow
row first last form = record { first = first; last = last; form = form }

-- The tags from 128 to 246 are reserved.
unfoldable pub tag_rows : List TagRow
tag_rows =
    row 0 63 forms.Same
    ∷ row 64 127 forms.One
    ∷ row 247 247 forms.OneExtended
    ∷ row 248 250 forms.Chop
    ∷ row 251 251 forms.SameExtended
    ∷ row 252 254 forms.Append
    ∷ row 255 255 forms.Full
    ∷ []

-- the tag is one of a row's
abbrev pub has_tag : ℕ → TagRow → Bool
has_tag tag r = nat_le r.first tag && nat_le tag r.last

-- the form of the frames with a tag
abbrev pub form_of : ℕ → Option Form
form_of tag = option_map (λ (r : TagRow). r.form) (find (has_tag tag) tag_rows)
