-- Reading the content of a StackMapTable attribute from left to right, with the first fault that is met (JVMS 4.7.4).
use Rattle.std.specs.Prelude.{ℕ, ◌+◌, ◌-◌, List, [], ◌∷◌, length, Option, None, Some, Result, Ok, Err, ◌==◌, if◌then◌else◌}
use Rattle.jl_reading.specs.Reading.{◌>>=◌, number_at, each_at}
use Rattle.jl_frames.specs.declared.fault.FrameFault.{FrameFault}
use Rattle.jl_frames.specs.declared.fault.FrameFault.TheVariants as faults
use Rattle.jl_frames.specs.declared.form.Form.{Form}
use Rattle.jl_frames.specs.declared.form.Form.TheVariants as forms
use Rattle.jl_frames.specs.declared.frame.Frame.{Frame}
use Rattle.jl_frames.specs.declared.frame.Change.{Change}
use Rattle.jl_frames.specs.declared.frame.Change.TheVariants as changes
use Rattle.jl_frames.specs.declared.frame.RawItem.{RawItem}
use Rattle.jl_frames.specs.declared.frame.RawItem.TheVariants as items
use Rattle.jl_frames.specs.Tags.{form_of}

-- what an error tells: the fault, or nothing for want of memory
abbrev pub told : FrameFault → Option FrameFault
told (faults.Short at) = Some (faults.Short at)
told (faults.BadTag at) = Some (faults.BadTag at)
told (faults.BadItem at) = Some (faults.BadItem at)
told faults.Trailing = Some faults.Trailing
told faults.NoMemory = None

-- ---- items

-- an item with a number of two bytes behind its tag
unfoldable pub operand_at : (ℕ → RawItem) → List ℕ → ℕ → Result (RawItem × ℕ) FrameFault
operand_at made bytes at = do
  n ← number_at faults.Short 2 bytes at
  Ok (made n.0, n.1)

-- the item whose tag stands at a place, by the tag and what is behind it
unfoldable pub item_of : ℕ → ℕ → List ℕ → ℕ → Result (RawItem × ℕ) FrameFault
item_of place tag bytes at =
    if tag == 0 then Ok (items.Top, at)
    else if tag == 1 then Ok (items.Int, at)
    else if tag == 2 then Ok (items.Float, at)
    else if tag == 3 then Ok (items.Double, at)
    else if tag == 4 then Ok (items.Long, at)
    else if tag == 5 then Ok (items.Null, at)
    else if tag == 6 then Ok (items.UninitThis, at)
    else if tag == 7 then operand_at items.Object bytes at
    else if tag == 8 then operand_at items.Uninit bytes at
    else Err (faults.BadItem place)

-- the item at a place
unfoldable pub item_at : List ℕ → List RawItem → ℕ → Result (RawItem × ℕ) FrameFault
item_at bytes done at = do
  tag ← number_at faults.Short 1 bytes at
  item_of at tag.0 bytes tag.1

-- so many items, behind those that were read before
abbrev pub items_at : List RawItem → ℕ → List ℕ → ℕ → Result (List RawItem × ℕ) FrameFault
items_at done n bytes at = each_at (item_at bytes) done n at

-- ---- frames

-- a tag without a form is reserved
abbrev pub form_or : ℕ → Option Form → Result Form FrameFault
form_or at None = Err (faults.BadTag at)
form_or at (Some form) = Ok form

-- the difference of the offsets, which is in the tag or behind it
unfoldable pub delta_at : Form → ℕ → List ℕ → ℕ → Result (ℕ × ℕ) FrameFault
delta_at forms.Same tag bytes at = Ok (tag, at)
delta_at forms.One tag bytes at = Ok (tag - 64, at)
delta_at forms.OneExtended tag bytes at = number_at faults.Short 2 bytes at
delta_at forms.Chop tag bytes at = number_at faults.Short 2 bytes at
delta_at forms.SameExtended tag bytes at = number_at faults.Short 2 bytes at
delta_at forms.Append tag bytes at = number_at faults.Short 2 bytes at
delta_at forms.Full tag bytes at = number_at faults.Short 2 bytes at

-- a change with so many items
unfoldable pub stated_at : Change → ℕ → List ℕ → ℕ → Result ((Change × List RawItem) × ℕ) FrameFault
stated_at change n bytes at = do
  stated ← items_at [] n bytes at
  Ok ((change, stated.0), stated.1)

-- the number of the locals, the locals, the number of the stack, and the stack
unfoldable pub full_at : List ℕ → ℕ → Result ((Change × List RawItem) × ℕ) FrameFault
full_at bytes at = do
  n ← number_at faults.Short 2 bytes at
  locals ← items_at [] n.0 bytes n.1
  m ← number_at faults.Short 2 bytes locals.1
  all ← items_at locals.0 m.0 bytes m.1
  Ok ((changes.Full n.0, all.0), all.1)

-- the change and its items, behind the difference
unfoldable pub change_at : Form → ℕ → List ℕ → ℕ → Result ((Change × List RawItem) × ℕ) FrameFault
change_at forms.Same tag bytes at = Ok ((changes.Same, []), at)
change_at forms.One tag bytes at = stated_at changes.One 1 bytes at
change_at forms.OneExtended tag bytes at = stated_at changes.One 1 bytes at
change_at forms.Chop tag bytes at = Ok ((changes.Chop (251 - tag), []), at)
change_at forms.SameExtended tag bytes at = Ok ((changes.Same, []), at)
change_at forms.Append tag bytes at = stated_at changes.Append (tag - 251) bytes at
change_at forms.Full tag bytes at = full_at bytes at

-- the frame at a place, whose difference is counted from a base
unfoldable pub frame_from : ℕ → List ℕ → ℕ → Result (Frame × ℕ) FrameFault
frame_from base bytes at = do
  tag ← number_at faults.Short 1 bytes at
  form ← form_or at (form_of tag.0)
  delta ← delta_at form tag.0 bytes tag.1
  made ← change_at form tag.0 bytes delta.1
  Ok (record { offset = base + delta.0; change = made.0.0; items = made.0.1 }, made.1)

-- What the next difference is counted from: the first from 0, each later one from the place behind the offset before.
abbrev pub base_after : ℕ → List Frame → ℕ
base_after base [] = base
base_after base (f ∷ fs) = base_after (f.offset + 1) fs

-- the frame at a place, behind those before it
unfoldable pub frame_at : List ℕ → List Frame → ℕ → Result (Frame × ℕ) FrameFault
frame_at bytes done at = frame_from (base_after 0 done) bytes at

-- A count, so many frames, and then the end.
unfoldable pub frames_of : List ℕ → Result (List Frame) FrameFault
frames_of bytes = do
  count ← number_at faults.Short 2 bytes 0
  read ← each_at (frame_at bytes) [] count.0 count.1
  if read.1 == length bytes then Ok read.0 else Err faults.Trailing
