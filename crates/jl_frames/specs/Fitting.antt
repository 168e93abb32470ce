-- What frames have that were read from a StackMapTable attribute (JVMS 4.7.4).
use Rattle.std.specs.Prelude.{◌≡◌, ℕ, ◌+◌, ◌<◌, ◌≤◌, List, [], ◌∷◌, length, ⊤}
use Rattle.std.specs.List.{AllByRecursion}
use Rattle.jl_frames.specs.declared.frame.Frame.{Frame}
use Rattle.jl_frames.specs.declared.frame.Change.{Change}
use Rattle.jl_frames.specs.declared.frame.Change.TheVariants as changes

-- each offset is lower than all after it
abbrev pub OffsetsRise : List Frame → Type 0
OffsetsRise [] = ⊤
OffsetsRise (f ∷ fs) = AllByRecursion (λ (later : Frame). f.offset < later.offset) fs × OffsetsRise fs

-- A change states so many items. Of a full frame these are its locals and at most 65,535 on the stack.
abbrev pub States : Change → ℕ → Type 0
States changes.Same n = n ≡ 0
States changes.One n = n ≡ 1
States (changes.Chop k) n = (1 ≤ k) × (k ≤ 3) × (n ≡ 0)
States changes.Append n = (1 ≤ n) × (n ≤ 3)
States (changes.Full locals) n = (locals ≤ n) × (n < locals + 65536)

-- offsets rise, and each frame has the items that its change states
pub record AreFitting (frames : List Frame) : Type 0 where
  pub rise : OffsetsRise frames
  pub stated : AllByRecursion (λ (f : Frame). States f.change (length f.items)) frames
