-- The spelling of frames, in the content of a StackMapTable attribute (JVMS 4.7.4).
use Rattle.std.specs.Prelude.{◌≡◌, ℕ, ◌+◌, ◌-◌, ◌<◌, ◌≤◌, List, [], ◌∷◌, ◌++◌, length, ⊤, ◌⊎◌}
use Rattle.std.specs.List.{flat_map, AllByRecursion}
use Rattle.jl_reading.specs.Reading.{two}
use Rattle.jl_frames.specs.declared.frame.Frame.{Frame}
use Rattle.jl_frames.specs.declared.frame.Change.{Change}
use Rattle.jl_frames.specs.declared.frame.Change.TheVariants as changes
use Rattle.jl_frames.specs.declared.frame.RawItem.{RawItem}
use Rattle.jl_frames.specs.declared.frame.RawItem.TheVariants as items

-- the bytes of an item: its tag, and the number behind it
abbrev pub item_bytes : RawItem → List ℕ
item_bytes items.Top = 0 ∷ []
item_bytes items.Int = 1 ∷ []
item_bytes items.Float = 2 ∷ []
item_bytes items.Double = 3 ∷ []
item_bytes items.Long = 4 ∷ []
item_bytes items.Null = 5 ∷ []
item_bytes items.UninitThis = 6 ∷ []
item_bytes (items.Object i) = 7 ∷ two i
item_bytes (items.Uninit at) = 8 ∷ two at

-- its number fits two bytes
abbrev pub ItemFits : RawItem → Type 0
ItemFits items.Top = ⊤
ItemFits items.Int = ⊤
ItemFits items.Float = ⊤
ItemFits items.Double = ⊤
ItemFits items.Long = ⊤
ItemFits items.Null = ⊤
ItemFits items.UninitThis = ⊤
ItemFits (items.Object i) = i < 65536
ItemFits (items.Uninit at) = at < 65536

-- the bytes of items, one after the other
abbrev pub items_bytes : List RawItem → List ℕ
items_bytes = flat_map item_bytes

-- the items of a full frame are its locals and its stack, each behind their number
pub record SpellsFull (delta n : ℕ) (stated : List RawItem) (text : List ℕ) : Type 0 where
  pub locals : List RawItem
  pub stack : List RawItem
  pub parts : stated ≡ locals ++ stack
  pub locals_counted : length locals ≡ n
  pub few_locals : n < 65536
  pub small_stack : length stack < 65536
  pub spelled : text ≡ 255 ∷ two delta ++ (two n ++ (items_bytes locals ++ (two (length stack) ++ items_bytes stack)))

-- The text spells a change with its items and the difference of the offsets. A difference below 64 may stand in the tag.
abbrev pub Spells : ℕ → Change → List RawItem → List ℕ → Type 0
Spells delta changes.Same stated text = (stated ≡ []) × (((delta < 64) × (text ≡ delta ∷ [])) ⊎ (text ≡ 251 ∷ two delta))
Spells delta changes.One stated text =
    (length stated ≡ 1) × (((delta < 64) × (text ≡ (64 + delta) ∷ items_bytes stated)) ⊎ (text ≡ 247 ∷ two delta ++ items_bytes stated))
Spells delta (changes.Chop k) stated text = (stated ≡ []) × (1 ≤ k) × (k ≤ 3) × (text ≡ (251 - k) ∷ two delta)
Spells delta changes.Append stated text = (1 ≤ length stated) × (length stated ≤ 3) × (text ≡ (251 + length stated) ∷ two delta ++ items_bytes stated)
Spells delta (changes.Full n) stated text = SpellsFull delta n stated text

-- the text spells the frame, whose difference is counted from a base
pub record IsFrame (base : ℕ) (f : Frame) (text : List ℕ) : Type 0 where
  pub delta : ℕ
  pub small : delta < 65536
  pub placed : f.offset ≡ base + delta
  pub fit : AllByRecursion ItemFits f.items
  pub spelled : Spells delta f.change f.items text

-- The text spells the frames one after the other. After a frame differences are counted from the place behind its offset.
abbrev pub AreFrames : ℕ → List Frame → List ℕ → Type 0
AreFrames base [] text = text ≡ []
AreFrames base (f ∷ fs) text = (first rest : List ℕ) × IsFrame base f first × AreFrames (f.offset + 1) fs rest × (text ≡ first ++ rest)

-- the bytes are the number of the frames and what spells them
pub record IsFrames (bytes : List ℕ) (frames : List Frame) : Type 0 where
  pub few : length frames < 65536
  pub text : List ℕ
  pub spelled : AreFrames 0 frames text
  pub whole : bytes ≡ two (length frames) ++ text
