-- Worked rows of the definitions.
use Rattle.std.proofs.Common.{◌≡◌, [], ◌∷◌, None, Some, Ok, Err, refl, arith, inl, inr}
use Rattle.jl_reading.specs.Reading.{each_at}
use Rattle.jl_frames.specs.declared.fault.FrameFault.TheVariants as faults
use Rattle.jl_frames.specs.declared.frame.Change.TheVariants as changes
use Rattle.jl_frames.specs.declared.frame.RawItem.TheVariants as items
use Rattle.jl_frames.specs.declared.form.Form.TheVariants as forms
use Rattle.jl_frames.specs.Tags.{tag_rows, form_of}
use Rattle.jl_frames.specs.Reading.{operand_at, item_of, item_at, delta_at, stated_at, full_at, change_at, frame_from, frame_at, frames_of}
use Rattle.jl_frames.specs.Fitting.{States, OffsetsRise}
use Rattle.jl_frames.specs.Grammar.{item_bytes, Spells, IsFrames}

no_frames : frames_of (0 ∷ 0 ∷ []) ≡ Ok []
unfolding frames_of each_at frame_at frame_from delta_at change_at tag_rows
no_frames = refl

two_same : frames_of (0 ∷ 2 ∷ 3 ∷ 3 ∷ []) ≡ Ok (record { offset = 3; change = changes.Same; items = [] } ∷ record { offset = 7; change = changes.Same; items = [] } ∷ [])
unfolding frames_of each_at frame_at frame_from delta_at change_at tag_rows
two_same = refl

no_tag : frames_of (0 ∷ 1 ∷ []) ≡ Err (faults.Short 2)
unfolding frames_of each_at frame_at frame_from delta_at change_at tag_rows
no_tag = refl

no_count : frames_of (0 ∷ []) ≡ Err (faults.Short 0)
unfolding frames_of each_at frame_at frame_from delta_at change_at tag_rows
no_count = refl

first_reserved : frames_of (0 ∷ 1 ∷ 128 ∷ []) ≡ Err (faults.BadTag 2)
unfolding frames_of each_at frame_at frame_from delta_at change_at tag_rows
first_reserved = refl

last_reserved : frames_of (0 ∷ 1 ∷ 246 ∷ []) ≡ Err (faults.BadTag 2)
unfolding frames_of each_at frame_at frame_from delta_at change_at tag_rows
last_reserved = refl

no_such_item : frames_of (0 ∷ 1 ∷ 64 ∷ 9 ∷ []) ≡ Err (faults.BadItem 3)
unfolding frames_of each_at frame_at frame_from delta_at change_at tag_rows stated_at item_at item_of
no_such_item = refl

left_over : frames_of (0 ∷ 1 ∷ 3 ∷ 0 ∷ []) ≡ Err faults.Trailing
unfolding frames_of each_at frame_at frame_from delta_at change_at tag_rows
left_over = refl

least_same : frames_of (0 ∷ 1 ∷ 0 ∷ []) ≡ Ok (record { offset = 0; change = changes.Same; items = [] } ∷ [])
unfolding frames_of each_at frame_at frame_from delta_at change_at tag_rows
least_same = refl

greatest_same : frames_of (0 ∷ 1 ∷ 63 ∷ []) ≡ Ok (record { offset = 63; change = changes.Same; items = [] } ∷ [])
unfolding frames_of each_at frame_at frame_from delta_at change_at tag_rows
greatest_same = refl

least_one : frames_of (0 ∷ 1 ∷ 64 ∷ 1 ∷ []) ≡ Ok (record { offset = 0; change = changes.One; items = items.Int ∷ [] } ∷ [])
unfolding frames_of each_at frame_at frame_from delta_at change_at tag_rows stated_at item_at item_of
least_one = refl

greatest_one : frames_of (0 ∷ 1 ∷ 127 ∷ 7 ∷ 1 ∷ 2 ∷ []) ≡ Ok (record { offset = 63; change = changes.One; items = (items.Object 258) ∷ [] } ∷ [])
unfolding frames_of each_at frame_at frame_from delta_at change_at tag_rows stated_at item_at item_of operand_at
greatest_one = refl

one_extended : frames_of (0 ∷ 1 ∷ 247 ∷ 1 ∷ 0 ∷ 8 ∷ 0 ∷ 9 ∷ []) ≡ Ok (record { offset = 256; change = changes.One; items = (items.Uninit 9) ∷ [] } ∷ [])
unfolding frames_of each_at frame_at frame_from delta_at change_at tag_rows stated_at item_at item_of operand_at
one_extended = refl

chop_of_three : frames_of (0 ∷ 1 ∷ 248 ∷ 0 ∷ 5 ∷ []) ≡ Ok (record { offset = 5; change = changes.Chop 3; items = [] } ∷ [])
unfolding frames_of each_at frame_at frame_from delta_at change_at tag_rows
chop_of_three = refl

chop_of_one : frames_of (0 ∷ 1 ∷ 250 ∷ 0 ∷ 5 ∷ []) ≡ Ok (record { offset = 5; change = changes.Chop 1; items = [] } ∷ [])
unfolding frames_of each_at frame_at frame_from delta_at change_at tag_rows
chop_of_one = refl

same_extended : frames_of (0 ∷ 2 ∷ 251 ∷ 0 ∷ 1 ∷ 251 ∷ 0 ∷ 0 ∷ []) ≡ Ok (record { offset = 1; change = changes.Same; items = [] } ∷ record { offset = 2; change = changes.Same; items = [] } ∷ [])
unfolding frames_of each_at frame_at frame_from delta_at change_at tag_rows
same_extended = refl

append_one : frames_of (0 ∷ 1 ∷ 252 ∷ 0 ∷ 0 ∷ 0 ∷ []) ≡ Ok (record { offset = 0; change = changes.Append; items = items.Top ∷ [] } ∷ [])
unfolding frames_of each_at frame_at frame_from delta_at change_at tag_rows stated_at item_at item_of
append_one = refl

append_three : frames_of (0 ∷ 1 ∷ 254 ∷ 0 ∷ 0 ∷ 2 ∷ 3 ∷ 4 ∷ []) ≡ Ok (record { offset = 0; change = changes.Append; items = items.Float ∷ items.Double ∷ items.Long ∷ [] } ∷ [])
unfolding frames_of each_at frame_at frame_from delta_at change_at tag_rows stated_at item_at item_of
append_three = refl

full_empty : frames_of (0 ∷ 1 ∷ 255 ∷ 0 ∷ 1 ∷ 0 ∷ 0 ∷ 0 ∷ 0 ∷ []) ≡ Ok (record { offset = 1; change = changes.Full 0; items = [] } ∷ [])
unfolding frames_of each_at frame_at frame_from delta_at change_at tag_rows full_at item_at item_of
full_empty = refl

full_both : frames_of (0 ∷ 1 ∷ 255 ∷ 0 ∷ 1 ∷ 0 ∷ 2 ∷ 6 ∷ 1 ∷ 0 ∷ 1 ∷ 5 ∷ []) ≡ Ok (record { offset = 1; change = changes.Full 2; items = items.UninitThis ∷ items.Int ∷ items.Null ∷ [] } ∷ [])
unfolding frames_of each_at frame_at frame_from delta_at change_at tag_rows full_at item_at item_of
full_both = refl

full_stack : frames_of (0 ∷ 1 ∷ 255 ∷ 0 ∷ 1 ∷ 0 ∷ 0 ∷ 0 ∷ 2 ∷ 1 ∷ 1 ∷ []) ≡ Ok (record { offset = 1; change = changes.Full 0; items = items.Int ∷ items.Int ∷ [] } ∷ [])
unfolding frames_of each_at frame_at frame_from delta_at change_at tag_rows full_at item_at item_of
full_stack = refl

cut_difference : frames_of (0 ∷ 1 ∷ 251 ∷ 0 ∷ []) ≡ Err (faults.Short 3)
unfolding frames_of each_at frame_at frame_from delta_at change_at tag_rows
cut_difference = refl

cut_operand : frames_of (0 ∷ 1 ∷ 64 ∷ 7 ∷ 0 ∷ []) ≡ Err (faults.Short 4)
unfolding frames_of each_at frame_at frame_from delta_at change_at tag_rows stated_at item_at item_of operand_at
cut_operand = refl

cut_stack_count : frames_of (0 ∷ 1 ∷ 255 ∷ 0 ∷ 1 ∷ 0 ∷ 1 ∷ 1 ∷ 0 ∷ []) ≡ Err (faults.Short 8)
unfolding frames_of each_at frame_at frame_from delta_at change_at tag_rows full_at item_at item_of
cut_stack_count = refl

an_object : item_bytes (items.Object 258) ≡ 7 ∷ 1 ∷ 2 ∷ []
an_object = refl

-- ---- the tags

tag_first_same : form_of 0 ≡ Some forms.Same
unfolding tag_rows
tag_first_same = refl

tag_last_same : form_of 63 ≡ Some forms.Same
unfolding tag_rows
tag_last_same = refl

tag_first_one : form_of 64 ≡ Some forms.One
unfolding tag_rows
tag_first_one = refl

tag_last_one : form_of 127 ≡ Some forms.One
unfolding tag_rows
tag_last_one = refl

tag_first_of_none : form_of 128 ≡ None
unfolding tag_rows
tag_first_of_none = refl

tag_last_of_none : form_of 246 ≡ None
unfolding tag_rows
tag_last_of_none = refl

tag_one_more : form_of 247 ≡ Some forms.OneExtended
unfolding tag_rows
tag_one_more = refl

tag_first_chop : form_of 248 ≡ Some forms.Chop
unfolding tag_rows
tag_first_chop = refl

tag_last_chop : form_of 250 ≡ Some forms.Chop
unfolding tag_rows
tag_last_chop = refl

tag_same_more : form_of 251 ≡ Some forms.SameExtended
unfolding tag_rows
tag_same_more = refl

tag_first_append : form_of 252 ≡ Some forms.Append
unfolding tag_rows
tag_first_append = refl

tag_last_append : form_of 254 ≡ Some forms.Append
unfolding tag_rows
tag_last_append = refl

tag_full : form_of 255 ≡ Some forms.Full
unfolding tag_rows
tag_full = refl

-- ---- the grammar

short_difference : Spells 3 changes.Same [] (3 ∷ [])
short_difference = (refl, inl (omega arith, refl))

long_difference : Spells 3 changes.Same [] (251 ∷ 0 ∷ 3 ∷ [])
long_difference = (refl, inr refl)

one_short : Spells 3 changes.One (items.Object 258 ∷ []) (67 ∷ 7 ∷ 1 ∷ 2 ∷ [])
one_short = (refl, inl (omega arith, refl))

one_long : Spells 64 changes.One (items.Int ∷ []) (247 ∷ 0 ∷ 64 ∷ 1 ∷ [])
one_long = (refl, inr refl)

chopped : Spells 3 (changes.Chop 1) [] (250 ∷ 0 ∷ 3 ∷ [])
chopped = (refl, omega arith, omega arith, refl)

appended : Spells 3 changes.Append (items.Top ∷ items.Null ∷ []) (253 ∷ 0 ∷ 3 ∷ 0 ∷ 5 ∷ [])
appended = (omega arith, omega arith, refl)

stated : Spells 3 (changes.Full 1) (items.Top ∷ items.Null ∷ []) (255 ∷ 0 ∷ 3 ∷ 0 ∷ 1 ∷ 0 ∷ 0 ∷ 1 ∷ 5 ∷ [])
stated = record { locals = items.Top ∷ []; stack = items.Null ∷ []; parts = refl; locals_counted = refl; few_locals = omega arith; small_stack = omega arith; spelled = refl }

two_frames : IsFrames (0 ∷ 2 ∷ 3 ∷ 3 ∷ []) (record { offset = 3; change = changes.Same; items = [] } ∷ record { offset = 7; change = changes.Same; items = [] } ∷ [])
two_frames = record {
  few = omega arith;
  text = 3 ∷ 3 ∷ [];
  spelled = (
    3 ∷ [],
    3 ∷ [],
    record { delta = 3; small = omega arith; placed = refl; fit = tt; spelled = short_difference },
    (3 ∷ [], [], record { delta = 3; small = omega arith; placed = refl; fit = tt; spelled = short_difference }, refl, refl),
    refl,
  );
  whole = refl;
}

-- an append states one to three items, a full frame as many as its locals or more
counts : States changes.Same 0 × States changes.One 1 × States changes.Append 3 × States (changes.Full 2) 4
counts = (refl, refl, (omega arith, omega arith), (omega arith, omega arith))

too_many : (States changes.Append 4 → ⊥) × (States (changes.Full 2) 1 → ⊥) × (States (changes.Chop 4) 0 → ⊥)
too_many = (λ h. omega (arith, h.1), λ h. omega (arith, h.0), λ h. omega (arith, h.1))

offsets_that_rise : OffsetsRise (record { offset = 3; change = changes.Same; items = [] } ∷ record { offset = 7; change = changes.Same; items = [] } ∷ [])
offsets_that_rise = ((omega arith, tt), (tt, tt))
